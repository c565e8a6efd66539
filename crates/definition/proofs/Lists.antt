-- Laws of the definitions' list functions. Assumes nothing.
use Prim.Native.Nat.{ℕ, zero, suc, ◌≤◌, ◌+◌, ◌-◌, ◌<◌}
use mathlib.Core.Path.{◌≡◌, refl, sym, ◌∙◌, ap, subst}
use mathlib.Core.Bool.{Bool, true, false, true≢false, ◌&&◌, and_assoc}
use mathlib.Core.List.{List, [], ◌∷◌, ◌++◌, map}
use mathlib.Core.Option.{Option, none, some}
use lib.ListN.{length, set, drop, take, get_or}
use native.Mathlib.Omega.{arith}
use lib.Seq.{take-suc, append_snoc, set_at, length-take-le, drop-drop}
use lib.Dec.{eqb, eqb-suc-zero}
use Rattle.definition.specs.Base.{keep, all, find, put, nth, empty, whether◌then◌else◌, tally}
use Rattle.definition.proofs.Tests.{by-test, if-true, if-false, and_left, and_right, and_both, by-if}

module _ {ℓ} {A : Type ℓ} where
  pub none-some : {a : A} → ◌≡◌ {A = Option A} none (some a) → ⊥
  none-some e = let z : ◌≡◌ {A = ℕ} 0 1 = cc in omega arith

  pub some_inj : {a b : A} → ◌≡◌ {A = Option A} (some a) (some b) → a ≡ b
  some_inj e = cc

  -- what stands at a place, put there again
  pub set-nth : (i : ℕ) (l : List A) (a : A) → nth i l ≡ some a → set l i a ≡ l
  set-nth i [] a e = refl
  set-nth zero (b ∷ l) a e = ap (λ (t : A). t ∷ l) (sym (some_inj e))
  set-nth (suc i) (b ∷ l) a e = ap (λ (t : List A). b ∷ t) (set-nth i l a e)

  -- a search finds what passes
  pub find-passes : (p : A → Bool) (l : List A) (a : A) → find p l ≡ some a → p a ≡ true
  find-passes p [] a e = absurd (none-some e)
  find-passes p (b ∷ l) a e = go (p b) refl (λ h. find-passes p l a h)
    where
      go : (x : Bool) → p b ≡ x → (find p l ≡ some a → p a ≡ true) → p a ≡ true
      go true f ih = subst (λ (t : A). p t ≡ true) (some_inj (sym (if-true (some b) (find p l) f) ∙ e)) f
      go false f ih = ih (sym (if-false (some b) (find p l) f) ∙ e)

  pub find-put-same : (p : A → Bool) (l : List A) (a b : A) → find p l ≡ some a → p b ≡ true → find p (put p b l) ≡ some b
  find-put-same p [] a b e h = absurd (none-some e)
  find-put-same p (c ∷ l) a b e h = go (p c) refl (λ q. find-put-same p l a b q h)
    where
      go : (x : Bool) → p c ≡ x → (find p l ≡ some a → find p (put p b l) ≡ some b) → find p (put p b (c ∷ l)) ≡ some b
      go true f ih = rw (f, h)
      go false f ih = rw (f, f) (ih (sym (if-false (some c) (find p l) f) ∙ e))

  -- a place that p finds is not one that q puts, if nothing passes both and what is put fails p
  pub find-put-other : (p q : A → Bool) (l : List A) (b : A) → ((c : A) → p c ≡ true → q c ≡ true → ⊥) → p b ≡ false → find p (put q b l) ≡ find p l
  find-put-other p q [] b h n = refl
  find-put-other p q (c ∷ l) b h n = go (p c) (q c) refl refl (find-put-other p q l b h n)
    where
      go : (x y : Bool) → p c ≡ x → q c ≡ y → find p (put q b l) ≡ find p l → find p (put q b (c ∷ l)) ≡ find p (c ∷ l)
      go true true e f ih = absurd (h c e f)
      go true false e f ih = rw (f, e)
      go false true e f ih = rw (f, n, e)
      go false false e f ih = rw (f, e) ih

  pub put-put : (p q : A → Bool) (l : List A) (a b : A) → ((c : A) → p c ≡ true → q c ≡ true → ⊥) → q a ≡ false → p b ≡ false → put q b (put p a l) ≡ put p a (put q b l)
  put-put p q [] a b h na nb = refl
  put-put p q (c ∷ l) a b h na nb = go (p c) (q c) refl refl (put-put p q l a b h na nb)
    where
      go : (x y : Bool) → p c ≡ x → q c ≡ y → put q b (put p a l) ≡ put p a (put q b l) → put q b (put p a (c ∷ l)) ≡ put p a (put q b (c ∷ l))
      go true true e f ih = absurd (h c e f)
      go true false e f ih = rw (e, f, na, e)
      go false true e f ih = rw (e, f, nb)
      go false false e f ih = rw (e, f, e) (ap (λ (t : List A). c ∷ t) ih)

  pub put-put-same : (p : A → Bool) (l : List A) (a b : A) → p a ≡ true → put p b (put p a l) ≡ put p b l
  put-put-same p [] a b h = refl
  put-put-same p (c ∷ l) a b h = go (p c) refl (put-put-same p l a b h)
    where
      go : (x : Bool) → p c ≡ x → put p b (put p a l) ≡ put p b l → put p b (put p a (c ∷ l)) ≡ put p b (c ∷ l)
      go true e ih = rw (e, h)
      go false e ih = rw (e, e) (ap (λ (t : List A). c ∷ t) ih)

  -- what is found, put there again
  pub put-found : (p : A → Bool) (l : List A) (a : A) → find p l ≡ some a → put p a l ≡ l
  put-found p [] a e = refl
  put-found p (c ∷ l) a e = go (p c) refl (λ h. put-found p l a h)
    where
      go : (x : Bool) → p c ≡ x → (find p l ≡ some a → put p a l ≡ l) → put p a (c ∷ l) ≡ c ∷ l
      go true f ih = rw f (ap (λ (t : A). t ∷ l) (sym (some_inj (sym (if-true (some c) (find p l) f) ∙ e))))
      go false f ih = rw f (ap (λ (t : List A). c ∷ t) (ih (sym (if-false (some c) (find p l) f) ∙ e)))

  pub put-not-empty : (p : A → Bool) (l : List A) (a b : A) → find p l ≡ some a → empty (put p b l) ≡ false
  put-not-empty p [] a b e = absurd (none-some e)
  put-not-empty p (c ∷ l) a b e = go (p c) refl
    where
      go : (x : Bool) → p c ≡ x → empty (put p b (c ∷ l)) ≡ false
      go true f = rw f
      go false f = rw f

-- a property of every element
module _ {A : Type 0} (P : A → Type 0) where
  abbrev pub All : List A → Type 0
  All [] = Unit {0}
  All (a ∷ l) = P a × All l

  pub all-put : (p : A → Bool) (l : List A) (b : A) → All l → P b → All (put p b l)
  all-put p [] b h q = tt
  all-put p (c ∷ l) b h q = go (p c) refl (all-put p l b h.1 q)
    where
      go : (x : Bool) → p c ≡ x → All (put p b l) → All (put p b (c ∷ l))
      go true f ih = rw f (q, h.1)
      go false f ih = rw f (h.0, ih)

  pub all-find : (p : A → Bool) (l : List A) (a : A) → All l → find p l ≡ some a → P a
  all-find p [] a h e = absurd (none-some e)
  all-find p (c ∷ l) a h e = go (p c) refl (λ q. all-find p l a h.1 q)
    where
      go : (x : Bool) → p c ≡ x → (find p l ≡ some a → P a) → P a
      go true f ih = subst P (some_inj (sym (if-true (some c) (find p l) f) ∙ e)) h.0
      go false f ih = ih (sym (if-false (some c) (find p l) f) ∙ e)

  pub all_set : (i : ℕ) (l : List A) (b : A) → All l → P b → All (set l i b)
  all_set i [] b h q = tt
  all_set zero (c ∷ l) b h q = (q, h.1)
  all_set (suc i) (c ∷ l) b h q = (h.0, all_set i l b h.1 q)

  pub all-nth : (i : ℕ) (l : List A) (a : A) → All l → nth i l ≡ some a → P a
  all-nth i [] a h e = absurd (none-some e)
  all-nth zero (c ∷ l) a h e = subst P (some_inj e) h.0
  all-nth (suc i) (c ∷ l) a h e = all-nth i l a h.1 e

  pub all-part : (p : A → Bool) (l : List A) → All l → All (keep p l)
  all-part p [] h = tt
  all-part p (c ∷ l) h = by-if All (p c) (c ∷ keep p l) (keep p l) (λ f. (h.0, all-part p l h.1)) (λ f. all-part p l h.1)

  pub all_join : (l m : List A) → All l → All m → All (l ++ m)
  all_join [] m h g = g
  all_join (c ∷ l) m h g = (h.0, all_join l m h.1 g)

-- ---- lengths

module _ {A : Type 0} where
  pub length-put : (p : A → Bool) (l : List A) (v : A) → length (put p v l) ≡ length l
  length-put p [] v = refl
  length-put p (c ∷ l) v = by-test (p c) (λ e. rw e) (λ e. rw e (ap suc (length-put p l v)))

  pub keep-length : (p : A → Bool) (l : List A) → length (keep p l) ≤ length l
  keep-length p [] = omega arith
  keep-length p (a ∷ l) = by-test (p a) (λ c. rw c (omega (arith, keep-length p l))) (λ c. rw c (omega (arith, keep-length p l)))

  pub keep-count : (p : A → Bool) (l : List A) → length (keep p l) ≡ tally p l
  keep-count p [] = refl
  keep-count p (a ∷ l) = by-test (p a) (λ c. rw c (omega (arith, keep-count p l))) (λ c. rw c (omega (arith, keep-count p l)))

  pub tally-keep : (p q : A → Bool) (l : List A) → tally q (keep p l) ≡ tally (λ a. p a && q a) l
  tally-keep p q [] = refl
  tally-keep p q (a ∷ l) = by-test (p a) (λ c. rw c (ap (λ (n : ℕ). (whether q a then 1 else 0) + n) (tally-keep p q l))) (λ c. rw c (omega (arith, tally-keep p q l)))

  pub empty-nil : (l : List A) → empty l ≡ true → l ≡ []
  empty-nil [] h = refl
  empty-nil (a ∷ l) h = absurd (true≢false (sym h))

  pub empty-length : (l : List A) → empty l ≡ eqb (length l) 0
  empty-length [] = refl
  empty-length (a ∷ l) = sym (eqb-suc-zero (length l))

  pub length-nil : (l : List A) → length l ≡ 0 → l ≡ []
  length-nil [] h = refl
  length-nil (a ∷ l) h = absurd (omega arith)

  -- ---- a test of every element

  pub all_append : (p : A → Bool) (l m : List A) → all p l ≡ true → all p m ≡ true → all p (l ++ m) ≡ true
  all_append p [] m h g = g
  all_append p (e ∷ l) m h g = and_both (p e) _ (and_left (p e) (all p l) h) (all_append p l m (and_right (p e) (all p l) h) g)

  pub all_end : (p : A → Bool) (l : List A) (a : A) → all p l ≡ true → p a ≡ true → all p (l ++ a ∷ []) ≡ true
  all_end p l a h g = all_append p l (a ∷ []) h (rw g)

  pub all_drop : (p : A → Bool) (l : List A) → all p l ≡ true → all p (drop 1 l) ≡ true
  all_drop p [] h = h
  all_drop p (x ∷ l) h = and_right (p x) (all p l) h

  pub all_keep : (q p : A → Bool) (l : List A) → all q l ≡ true → all q (keep p l) ≡ true
  all_keep q p [] h = refl
  all_keep q p (a ∷ l) h = by-test (p a)
      (λ c. rw c (and_both (q a) _ (and_left (q a) (all q l) h) (all_keep q p l (and_right (q a) (all q l) h))))
      (λ c. rw c (all_keep q p l (and_right (q a) (all q l) h)))

  pub all_left : (p : A → Bool) (l m : List A) → all p (l ++ m) ≡ true → all p l ≡ true
  all_left p [] m h = refl
  all_left p (a ∷ l) m h = and_both (p a) (all p l) (and_left (p a) _ h) (all_left p l m (and_right (p a) _ h))

  pub all_right : (p : A → Bool) (l m : List A) → all p (l ++ m) ≡ true → all p m ≡ true
  all_right p [] m h = h
  all_right p (a ∷ l) m h = all_right p l m (and_right (p a) _ h)

  pub all_first : (p : A → Bool) (n : ℕ) (l : List A) → all p l ≡ true → all p (take n l) ≡ true
  all_first p zero l h = refl
  all_first p (suc n) [] h = refl
  all_first p (suc n) (a ∷ l) h = and_both (p a) (all p (take n l)) (and_left (p a) _ h) (all_first p n l (and_right (p a) _ h))

  pub all_rest : (p : A → Bool) (n : ℕ) (l : List A) → all p l ≡ true → all p (drop n l) ≡ true
  all_rest p zero l h = h
  all_rest p (suc n) [] h = refl
  all_rest p (suc n) (a ∷ l) h = all_rest p n l (and_right (p a) _ h)

  pub all-at : (p : A → Bool) (l : List A) (i : ℕ) (z : A) → all p l ≡ true → i < length l → p (get_or l i z) ≡ true
  all-at p [] i z h b = absurd (omega arith)
  all-at p (a ∷ l) zero z h b = and_left (p a) (all p l) h
  all-at p (a ∷ l) (suc i) z h b = all-at p l i z (and_right (p a) (all p l) h) (omega arith)

  -- what holds wherever p does
  pub all_weaker : (p q : A → Bool) → ((a : A) → p a ≡ true → q a ≡ true) → (l : List A) → all p l ≡ true → all q l ≡ true
  all_weaker p q f [] h = refl
  all_weaker p q f (a ∷ l) h = and_both (q a) (all q l) (f a (and_left (p a) _ h)) (all_weaker p q f l (and_right (p a) _ h))

  pub all-stored : (p : A → Bool) (l : List A) (i : ℕ) (a : A) → all p l ≡ true → p a ≡ true → all p (set l i a) ≡ true
  all-stored p [] i a h k = refl
  all-stored p (b ∷ l) zero a h k = and_both (p a) (all p l) k (and_right (p b) (all p l) h)
  all-stored p (b ∷ l) (suc i) a h k = and_both (p b) (all p (set l i a)) (and_left (p b) (all p l) h) (all-stored p l i a (and_right (p b) (all p l) h) k)

-- ---- parts of a list

module _ {A : Type 0} where
  -- lists that agree from a place on agree from a later one on
  pub agree-later : (m n : ℕ) (x y : List A) → m ≤ n → drop m x ≡ drop m y → drop n x ≡ drop n y
  agree-later m n x y h q =
      let e : m + (n - m) ≡ n = omega arith in
      ap (λ (k : ℕ). drop k x) (sym e) ∙ sym (drop-drop (n - m) m x) ∙ ap (drop (n - m)) q ∙ drop-drop (n - m) m y ∙ ap (λ (k : ℕ). drop k y) e

  -- a store at the last place of a front
  pub set_front : (rs : List A) (p : ℕ) (x : List A) (a : A) → p < length rs → set (take (suc p) rs ++ x) p a ≡ take p rs ++ a ∷ x
  set_front rs p x a h =
      ap (λ (l : List A). set (l ++ x) p a) (take-suc rs p a h)
      ∙ ap (λ (l : List A). set l p a) (append_snoc (take p rs) (get_or rs p a) x)
      ∙ set_at (take p rs) (get_or rs p a) x a p (length-take-le p rs (omega arith))

module _ {A B : Type 0} (f : A → B) where
  pub empty-map : (l : List A) → empty (map f l) ≡ empty l
  empty-map [] = refl
  empty-map (a ∷ l) = refl

  pub map-take : (n : ℕ) (l : List A) → take n (map f l) ≡ map f (take n l)
  map-take zero l = refl
  map-take (suc n) [] = refl
  map-take (suc n) (a ∷ l) = ap (λ (r : List B). f a ∷ r) (map-take n l)

  pub map-drop : (n : ℕ) (l : List A) → drop n (map f l) ≡ map f (drop n l)
  map-drop zero l = refl
  map-drop (suc n) [] = refl
  map-drop (suc n) (a ∷ l) = map-drop n l

-- of two lists after one another
pub all-joined : {A : Type 0} (p : A → Bool) (a b : List A) → all p (a ++ b) ≡ (all p a && all p b)
all-joined p [] b = refl
all-joined p (x ∷ a) b = ap (λ (t : Bool). p x && t) (all-joined p a b) ∙ sym (and_assoc (p x) (all p a) (all p b))
