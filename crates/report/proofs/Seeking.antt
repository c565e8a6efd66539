-- A number looked for among blocks. Assumes nothing.
use mathlib.Core.Path.{◌≡◌, refl, sym, ap, ap₂, ◌∙◌}
use mathlib.Core.Bool.{Bool, true, false, ◌||◌}
use mathlib.Core.List.{List, [], ◌++◌, map, map-append}
use Prim.Native.Nat.{ℕ, ◌+◌, ◌≤◌, ◌<◌}
use borrow.Author.Tests.{eq-eqb, ne_eqb}
use lib.Dec.{eqb}
use lib.ListN.{length, take, get_or, take-append-drop}
use lib.Seq.{slice, take-take}
use Rattle.definition.specs.Base.{member}
use Rattle.definition.specs.Words.{at}
use Rattle.distinct.proofs.Laws.{member-append}
use Rattle.subrows.proofs.Tests.{part-turn, part_end}
use Rattle.fates.specs.Blocks.{Block}

module _ (s : ℕ) (bs : List Block) (i to : ℕ) (b : to ≤ length bs) (total : Bool) (e : member s (map (at 0) (slice i to bs)) ≡ total) where
  seek-turn : i < to → (eqb s (at 0 (get_or bs i [])) || member s (map (at 0) (slice (i + 1) to bs))) ≡ total
  seek-turn h = sym (ap (λ (l : List Block). member s (map (at 0) l)) (part-turn bs i to [] h b)) ∙ e

  pub seek_found : i < to → at 0 (get_or bs i []) ≡ s → true ≡ total
  seek_found h q = sym (ap (λ (x : Bool). x || member s (map (at 0) (slice (i + 1) to bs))) (eq-eqb s (at 0 (get_or bs i [])) (sym q))) ∙ seek-turn h

  pub seek-next : i < to → (at 0 (get_or bs i []) ≡ s → ⊥) → member s (map (at 0) (slice (i + 1) to bs)) ≡ total
  seek-next h q = sym (ap (λ (x : Bool). x || member s (map (at 0) (slice (i + 1) to bs))) (ne_eqb s (at 0 (get_or bs i [])) (λ p. q (sym p)))) ∙ seek-turn h

  pub seek-none : i ≡ to → false ≡ total
  seek-none q = sym (ap (λ (l : List Block). member s (map (at 0) l)) (part_end bs i to q)) ∙ e

-- from the hint on, and before it
module _ (s : ℕ) (bs : List Block) (hint n : ℕ) (b : hint ≤ n) where
  two-parts : member s (map (at 0) (take n bs)) ≡ (member s (map (at 0) (slice 0 hint bs)) || member s (map (at 0) (slice hint n bs)))
  two-parts =
      ap (λ (l : List Block). member s (map (at 0) l)) (sym (take-append-drop hint (take n bs)) ∙ ap (λ (l : List Block). l ++ slice hint n bs) (take-take hint n bs b))
      ∙ ap (member s) (map-append (at 0) (take hint bs) (slice hint n bs))
      ∙ member-append s (map (at 0) (take hint bs)) (map (at 0) (slice hint n bs))

  or-true : (x : Bool) → (x || true) ≡ true
  or-true true = refl
  or-true false = refl

  or-false : (x : Bool) → (x || false) ≡ x
  or-false true = refl
  or-false false = refl

  pub find-next : true ≡ member s (map (at 0) (slice hint n bs)) → true ≡ member s (map (at 0) (take n bs))
  find-next e =
      sym (or-true (member s (map (at 0) (slice 0 hint bs))))
      ∙ ap (λ (x : Bool). member s (map (at 0) (slice 0 hint bs)) || x) e
      ∙ sym two-parts

  pub find-before : false ≡ member s (map (at 0) (slice hint n bs)) → (x : Bool) → x ≡ member s (map (at 0) (slice 0 hint bs)) → x ≡ member s (map (at 0) (take n bs))
  find-before e x f = sym (or-false x) ∙ ap₂ ◌||◌ f e ∙ sym two-parts
