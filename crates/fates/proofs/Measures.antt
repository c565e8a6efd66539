-- Measures of entries that no redelivery changes, and sums of them over what is kept, put in order or in flight. Assumes nothing.
use Prim.Native.Nat.{ℕ, ◌+◌, ◌≤◌}
use native.Mathlib.Omega.{arith}
use mathlib.Core.Path.{◌≡◌, refl, sym, ◌∙◌, ap}
use mathlib.Core.Bool.{Bool, true, false, not, ◌||◌, true≢false}
use mathlib.Core.List.{List, [], ◌∷◌, map}
use mathlib.Core.Option.{some}
use lib.Dec.{ltb, eqb}
use borrow.Author.Tests.{eq-eqb}
use Rattle.definition.specs.Base.{whether◌then◌else◌, keep, tally, find, put, member}
use Rattle.definition.specs.Types.{Entry, Sub}
use Rattle.definition.specs.Consumer.{redelivered, is_browser}
use Rattle.definition.specs.Destination.{insert, insert_all}
use Rattle.definition.specs.Calls.{seqs, flying}
use Rattle.definition.proofs.Tests.{by-test, if-true, if-false}
use Rattle.definition.proofs.Lists.{none-some, some_inj, All}
use Rattle.definition.proofs.Sums.{sum, one, occ, occ-yes, occ-member}
use Rattle.definition.proofs.Whole.{sums, count_m}

-- a redelivery more does not change it
abbrev pub Steady : (Entry → ℕ) → Type 0
Steady f = (e : Entry) → f (redelivered e) ≡ f e

pub one-steady : Steady one
one-steady e = refl

pub occ-steady : (x : ℕ) → Steady (occ x)
unfolding occ
occ-steady x e = refl

-- ---- what is kept, and what is not

pub sum-split : (f : Entry → ℕ) (p : Entry → Bool) (l : List Entry) → sum f l ≡ sum f (keep (λ e. not (p e)) l) + sum f (keep p l)
sum-split f p [] = refl
sum-split f p (e ∷ l) = by-test (p e) (λ c. rw c (omega (arith, sum-split f p l))) (λ c. rw c (omega (arith, sum-split f p l)))

-- a measure of what passes only
abbrev pub only : (Entry → Bool) → (Entry → ℕ) → Entry → ℕ
only p f e = whether p e then f e else 0

pub sum-only : (f : Entry → ℕ) (p : Entry → Bool) (l : List Entry) → sum (only p f) l ≡ sum f (keep p l)
sum-only f p [] = refl
sum-only f p (e ∷ l) = by-test (p e) (λ c. rw c (omega (arith, sum-only f p l))) (λ c. rw c (omega (arith, sum-only f p l)))

pub only_none : (p : Entry → Bool) (f : Entry → ℕ) (l : List Entry) → All (λ e. p e ≡ false) l → sum (only p f) l ≡ 0
only_none p f [] h = refl
only_none p f (e ∷ l) h = rw h.0 (omega (arith, only_none p f l h.1))

pub only-all : (p : Entry → Bool) (f : Entry → ℕ) (l : List Entry) → All (λ e. p e ≡ true) l → sum (only p f) l ≡ sum f l
only-all p f [] h = refl
only-all p f (e ∷ l) h = rw h.0 (omega (arith, only-all p f l h.1))

-- measures that agree on a list
pub sum_same : (f g : Entry → ℕ) (l : List Entry) → All (λ e. f e ≡ g e) l → sum f l ≡ sum g l
sum_same f g [] h = refl
sum_same f g (e ∷ l) h = omega (arith, h.0, sum_same f g l h.1)

-- ---- numbers

pub occ-times : (x : ℕ) (l : List Entry) → sum (occ x) l ≡ tally (eqb x) (seqs l)
unfolding occ
occ-times x [] = refl
occ-times x (e ∷ l) = omega (arith, occ-times x l)

pub member-occ : (x : ℕ) (l : List Entry) → member x (seqs l) ≡ true → 1 ≤ sum (occ x) l
member-occ x [] h = absurd (true≢false (sym h))
member-occ x (e ∷ l) h = by-test (eqb x e.seq)
    (λ c. omega (arith, occ-yes x e c))
    (λ c. omega (arith, member-occ x l (sym (ap (λ b. b || member x (seqs l)) c) ∙ h)))

-- an entry of a list counts there
pub mine-occ : (P : ℕ → Type 0) (l : List Entry) → ((x : ℕ) → 1 ≤ sum (occ x) l → P x) → All (λ e. P e.seq) l
mine-occ P [] h = tt
mine-occ P (e ∷ l) h = (h e.seq (omega (arith, occ-yes e.seq e (eq-eqb e.seq e.seq refl))), mine-occ P l (λ x g. h x (omega arith)))

pub yes-member : (x : ℕ) (l : List Entry) → 1 ≤ sum (occ x) l → member x (seqs l) ≡ true
yes-member x l h = by-test (member x (seqs l)) (λ c. c) (λ c. absurd (omega (arith, occ-member x l c)))

-- ---- entries put in order, none in the place of another

pub insert-sum : (f : Entry → ℕ) (e : Entry) (l : List Entry) → sum (occ e.seq) l ≡ 0 → sum f (insert e l) ≡ f e + sum f l
insert-sum f e [] h = refl
insert-sum f e (g ∷ l) h = by-test (ltb e.seq g.seq) (λ c. rw c)
    (λ c. rw c (by-test (eqb e.seq g.seq) (λ d. absurd (omega (arith, occ-yes e.seq g d))) (λ d. rw d (omega (arith, insert-sum f e l (omega arith))))))

pub insert_all-sum : (f : Entry → ℕ) (l m : List Entry) → ((x : ℕ) → sum (occ x) l + sum (occ x) m ≤ 1) → sum f (insert_all l m) ≡ sum f l + sum f m
insert_all-sum f [] m h = omega arith
insert_all-sum f (e ∷ l) m h =
    let z : sum (occ e.seq) m ≡ 0 = omega (arith, h e.seq, occ-yes e.seq e (eq-eqb e.seq e.seq refl)) in
    omega (arith, insert-sum f e m z, insert_all-sum f l (insert e m) (λ x. omega (arith, h x, insert-sum (occ x) e m z)))

-- ---- one consumer in its place

module _ (g : Sub → ℕ) where
  pub sums-put : (p : Sub → Bool) (l : List Sub) (s v : Sub) → find p l ≡ some s → sums g (put p v l) + g s ≡ sums g l + g v
  sums-put p [] s v f = absurd (none-some f)
  sums-put p (c ∷ l) s v f = by-test (p c)
      (λ e. rw e (omega (arith, ap g (some_inj (sym (if-true (some c) (find p l) e) ∙ f)))))
      (λ e. rw e (omega (arith, sums-put p l s v (sym (if-false (some c) (find p l) e) ∙ f))))

  pub sums-map : (h : Sub → Sub) (l : List Sub) → ((s : Sub) → g (h s) ≡ g s) → sums g (map h l) ≡ sums g l
  sums-map h [] e = refl
  sums-map h (s ∷ l) e = omega (arith, e s, sums-map h l e)

-- the same entries in flight, at a consumer that is a browser or not as before
pub count_same : (f : Entry → ℕ) (s v : Sub) → is_browser v ≡ is_browser s → sum f (flying v) ≡ sum f (flying s) → count_m f v ≡ count_m f s
unfolding count_m
count_same f s v b h = by-test (is_browser s) (λ c. rw (b, c)) (λ c. rw (b, c) h)
