-- Elements that pass a test: one more at the end. Assumes nothing.
use mathlib.Core.Path.{◌≡◌, ◌∙◌}
use mathlib.Core.Bool.{Bool, true, false}
use mathlib.Core.List.{List, [], ◌∷◌, ◌++◌, append-nil}
use Rattle.definition.specs.Base.{keep}
use Rattle.definition.proofs.Reorder.{keep_append}

module _ {A : Type 0} (p : A → Bool) where
  pub keep-more : (l : List A) (x : A) → p x ≡ true → keep p (l ++ (x ∷ [])) ≡ keep p l ++ (x ∷ [])
  keep-more l x h = keep_append p l (x ∷ []) ∙ rw h

  pub keep_same : (l : List A) (x : A) → p x ≡ false → keep p (l ++ (x ∷ [])) ≡ keep p l
  keep_same l x h = keep_append p l (x ∷ []) ∙ rw h (append-nil (keep p l))
