-- Laws of a share: of two lists one after the other, of entries by their connections, and the turns of the loops. Assumes nothing.
use mathlib.Core.Path.{◌≡◌, refl, sym, ap, ap₂, ◌∙◌}
use mathlib.Core.Bool.{Bool, true, false, ◌&&◌, and-false, and_comm}
use mathlib.Core.List.{List, [], ◌∷◌, ◌++◌}
use Prim.Native.Nat.{ℕ, suc, ◌+◌, ◌%◌, ◌≤◌, ◌<◌}
use native.Mathlib.Nat.{add_comm}
use native.Mathlib.Omega.{arith}
use borrow.Author.Tests.{eqb-true, eq-eqb, eqb-false, le-leb}
use lib.Dec.{leb, eqb}
use lib.ListN.{length, take, take-append-drop, get_or, set, replicate, get_or-replicate, length-replicate, length-set}
use lib.Seq.{slice, slice-cons, get_or-set_same, get_or-set_other, length-take-le}
use Rattle.words.proofs.Tests.{by-test}
use Rattle.words.proofs.Lists.{take_next}
use Rattle.definition.specs.Base.{whether◌then◌else◌, all, tally}
use Rattle.definition.specs.Types.{Entry}
use Rattle.definition.specs.Calls.{rows_from, within_share}
use Rattle.definition.proofs.Thin.{tally-append, tally-length, tally-less}
use Rattle.definition.proofs.Lists.{all-joined}
use Rattle.shares.specs.Shares.{within_each, conns}

-- ---- counts

all_of : (p : ℕ → Bool) (l : List ℕ) → ((x : ℕ) → p x ≡ true) → all p l ≡ true
all_of p [] h = refl
all_of p (x ∷ l) h = ap₂ (λ (a b : Bool). a && b) (h x) (all_of p l h)

-- ---- a share

-- as many as there are
pub within-full : (share : ℕ) (l : List ℕ) → length l ≤ share → within_each share l ≡ true
within-full share l h = all_of (λ x. leb (tally (eqb x) l) share) l (λ x. le-leb (tally (eqb x) l) share (omega (arith, tally-length (eqb x) l, h)))

-- the order of two blocks does not matter
pub within-turned : (share : ℕ) (l m : List ℕ) → within_each share (l ++ m) ≡ within_each share (m ++ l)
within-turned share l m =
    all-joined (λ x. leb (tally (eqb x) (l ++ m)) share) l m
    ∙ and_comm (all (λ x. leb (tally (eqb x) (l ++ m)) share) l) (all (λ x. leb (tally (eqb x) (l ++ m)) share) m)
    ∙ sym (all-joined (λ x. leb (tally (eqb x) (l ++ m)) share) m l)
    ∙ (λ i. all (λ x. leb (same x i) share) (m ++ l))
  where
    same : (x : ℕ) → tally (eqb x) (l ++ m) ≡ tally (eqb x) (m ++ l)
    same x = tally-append (eqb x) l m ∙ add_comm (tally (eqb x) l) (tally (eqb x) m) ∙ sym (tally-append (eqb x) m l)

-- nor that of the first two of three
pub within-swapped : (share : ℕ) (l m n : List ℕ) → within_each share (l ++ (m ++ n)) ≡ within_each share (m ++ (l ++ n))
within-swapped share l m n =
    split l m n
    ∙ swap (all p l) (all p m) (all p n)
    ∙ sym (split m l n)
    ∙ (λ i. all (λ x. leb (same x i) share) (m ++ (l ++ n)))
  where
    p : ℕ → Bool
    p x = leb (tally (eqb x) (l ++ (m ++ n))) share

    split : (a b c : List ℕ) → all p (a ++ (b ++ c)) ≡ (all p a && (all p b && all p c))
    split a b c = all-joined p a (b ++ c) ∙ ap (λ (t : Bool). all p a && t) (all-joined p b c)

    swap : (a b c : Bool) → (a && (b && c)) ≡ (b && (a && c))
    swap true b c = refl
    swap false true c = refl
    swap false false c = refl

    same : (x : ℕ) → tally (eqb x) (l ++ (m ++ n)) ≡ tally (eqb x) (m ++ (l ++ n))
    same x = omega (arith, tally-append (eqb x) l (m ++ n), tally-append (eqb x) m n, tally-append (eqb x) m (l ++ n), tally-append (eqb x) l n)

-- entries, by their connections
from-conns : (c : ℕ) (l : List Entry) → rows_from c l ≡ tally (eqb c) (conns l)
from-conns c [] = refl
from-conns c (e ∷ l) = ap (λ (n : ℕ). (whether eqb c e.producer then 1 else 0) + n) (from-conns c l)

each-conns : (share : ℕ) (l m : List Entry) → all (λ e. leb (rows_from e.producer m) share) l ≡ all (λ x. leb (tally (eqb x) (conns m)) share) (conns l)
each-conns share [] m = refl
each-conns share (e ∷ l) m = ap₂ (λ (n : ℕ) (b : Bool). leb n share && b) (from-conns e.producer m) (each-conns share l m)

pub within-conns : (share : ℕ) (l : List Entry) → within_share share l ≡ within_each share (conns l)
within-conns share l = each-conns share l l

-- ---- the loops, a turn at a time

tally-next : (p : ℕ → Bool) (xs : List ℕ) (i : ℕ) → i < length xs → tally p (take (i + 1) xs) ≡ tally p (take i xs) + (whether p (get_or xs i 0) then 1 else 0)
tally-next p xs i h = ap (tally p) (take_next xs i 0 h) ∙ tally-append p (take i xs) (get_or xs i 0 ∷ []) ∙ by-test (p (get_or xs i 0)) (λ t. rw t (omega arith)) (λ t. rw t (omega arith))

pub tally-hit : (p : ℕ → Bool) (xs : List ℕ) (i : ℕ) → i < length xs → p (get_or xs i 0) ≡ true → tally p (take (i + 1) xs) ≡ tally p (take i xs) + 1
tally-hit p xs i h t = tally-next p xs i h ∙ rw t

pub tally-miss : (p : ℕ → Bool) (xs : List ℕ) (i : ℕ) → i < length xs → p (get_or xs i 0) ≡ false → tally p (take (i + 1) xs) ≡ tally p (take i xs)
tally-miss p xs i h t = tally-next p xs i h ∙ rw t (omega arith)

-- ---- remainders

abbrev pub leaves : ℕ → ℕ → Bool
leaves s x = eqb s (x % 256)

-- the table counts how often each remainder came up, and none more often than the share
pub record Counted (share : ℕ) (counts l : List ℕ) : Type 0 where
  pub size : length counts ≡ 256
  pub exact : (s : ℕ) → s < 256 → get_or counts s 0 ≡ tally (leaves s) l
  pub low : (s : ℕ) → s < 256 → get_or counts s 0 ≤ share

pub counted_none : (share : ℕ) → Counted share (replicate 256 0) []
counted_none share = record {
  size = length-replicate {A = ℕ} 256 0;
  exact = λ s h. get_or-replicate {A = ℕ} 256 s 0 0 h;
  low = λ s h. omega (arith, get_or-replicate {A = ℕ} 256 s 0 0 h);
}

module _ (share : ℕ) (counts xs : List ℕ) (i : ℕ) (c : Counted share counts (take i xs)) (h : i < length xs) where
  abbrev slot : ℕ
  slot = get_or xs i 0 % 256

  -- one more fits a small word
  pub counted-few : get_or counts slot 0 ≤ i
  counted-few = omega (arith, c.exact slot (omega arith), tally-length (leaves slot) (take i xs), length-take-le i xs (omega (arith, h)))

  module _ (n : ℕ) (e : n ≡ get_or counts slot 0 + 1) (l : n ≤ share) where
    here : (s : ℕ) → s ≡ slot → get_or (set counts slot n) s 0 ≡ n
    here s q = ap (λ (k : ℕ). get_or (set counts slot n) k 0) q ∙ get_or-set_same counts slot n 0 (omega (arith, c.size))

    pub counted-more : Counted share (set counts slot n) (take (i + 1) xs)
    counted-more = record {
      size = length-set counts slot n ∙ c.size;
      exact = λ s g. by-test (eqb s slot)
          (λ t. let q = eqb-true s slot t in here s q ∙ omega (arith, e, c.exact slot (omega arith), tally-hit (leaves slot) xs i h (eq-eqb slot slot refl), ap (λ (k : ℕ). tally (leaves k) (take (i + 1) xs)) q))
          (λ t. get_or-set_other counts slot s n 0 (eqb-false s slot t) ∙ c.exact s g ∙ sym (tally-miss (leaves s) xs i h t));
      low = λ s g. by-test (eqb s slot)
          (λ t. omega (arith, here s (eqb-true s slot t), l))
          (λ t. omega (arith, get_or-set_other counts slot s n 0 (eqb-false s slot t), c.low s g));
    }

pub counted-within : (share : ℕ) (counts l : List ℕ) → Counted share counts l → within_each share l ≡ true
counted-within share counts l c =
    all_of (λ x. leb (tally (eqb x) l) share) l
    (λ x.
    let s : ℕ = x % 256 in
    let h : s < 256 = omega arith in
    let u = tally-less (eqb x) (leaves s) l (λ y t. eq-eqb s (y % 256) (ap (λ (z : ℕ). z % 256) (eqb-true x y t))) in
    le-leb (tally (eqb x) l) share (omega (arith, u, c.exact s h, c.low s h)))
