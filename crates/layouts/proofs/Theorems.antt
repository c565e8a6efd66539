-- What specs/Claims.antt claims of the check and the lookup. Assumes nothing.
use mathlib.Core.Path.{◌≡◌, refl, sym, ap, subst, ◌∙◌}
use mathlib.Core.Bool.{Bool, true, false, ◌&&◌, ◌||◌}
use mathlib.Core.List.{List, [], ◌∷◌}
use Prim.Native.Nat.{ℕ, zero, suc, ◌+◌, ◌-◌, ◌/◌, ◌%◌, ◌^◌, ◌≤◌, ◌<◌}
use native.Mathlib.Nat.{one-mul}
use native.Mathlib.Omega.{arith}
use borrow.Author.Tests.{eqb-true, eqb-false, eq-eqb, ne_eqb, ltb-true, ltb-false, lt-ltb, le-ltb}
use lib.Bits.{shifted_even}
use lib.Dec.{eqb, ltb}
use lib.Pow.{pow-add, shl-shr, shr_lt, pow-lt}
use Rattle.words.proofs.Tests.{by-test}
use Rattle.entry.specs.Entry.{bit, selects}
use Rattle.layouts.specs.declared.Checked.{Checked}
use Rattle.layouts.specs.Layouts.{selector, covers, cover_count, is_gap, is_overlap, lowest_gap, lowest_overlap, checked, selector_at}
use Rattle.layouts.specs.Claims.{LowestGap, LowestOverlap, GapIsLowest, OverlapIsLowest, AcceptedOnce, OnceAccepted, LookupAccepts, LookupOneBit, reads, SelectsExactly}
use Rattle.layouts.proofs.Rows.{table-ranged, selector-below}
use Rattle.layouts.proofs.Lowest.{lowest-found, lowest-is}
use Rattle.layouts.proofs.Sums.{gapless}
use Rattle.layouts.proofs.Answers.{Case, out, bare, twice, once, case-of, check-fine, accepted, lookup-range, lookup-refused, lookup-found}

-- ---- the check

gap-lowest : (t : List (List ℕ)) → lowest_gap t < 65536 → LowestGap t (lowest_gap t)
unfolding lowest_gap
gap-lowest t h =
    let f = lowest-found (is_gap t) 0 65536 in
    record {
      layout = omega arith;
      none = eqb-true (cover_count t (lowest_gap t)) 0 (f.found (omega arith));
      below = λ k b. let u = eqb-false (cover_count t k) 0 (f.none k (omega arith) b) in omega (arith, u);
    }

single : (t : List (List ℕ)) (k : ℕ) → k < lowest_overlap t → cover_count t k ≤ 1
unfolding lowest_overlap
single t k h = ltb-false 1 (cover_count t k) ((lowest-found (is_overlap t) 0 65536).none k (omega arith) h)

overlap-lowest : (t : List (List ℕ)) → 65536 ≤ lowest_gap t → lowest_overlap t < 65536 → LowestOverlap t (lowest_overlap t)
unfolding lowest_overlap
overlap-lowest t g h =
    let f = lowest-found (is_overlap t) 0 65536 in
    record {
      layout = omega arith;
      two = let u = ltb-true 1 (cover_count t (lowest_overlap t)) (f.found (omega arith)) in omega arith;
      below = λ k b. let u = single t k b in let v = gapless t g k (omega arith) in omega arith;
      covered = λ k b. gapless t g k (omega arith);
    }

gap_by : {t : List (List ℕ)} {r : Checked} → Case t r → r.refusal ≡ 12 → LowestGap t r.answer
gap_by (out e) q = absurd (omega arith)
gap_by {t} (bare e h) q = gap-lowest t h
gap_by (twice e h k) q = absurd (omega arith)
gap_by (once e h k) q = absurd (omega arith)

overlap-by : {t : List (List ℕ)} {r : Checked} → Case t r → r.refusal ≡ 13 → LowestOverlap t r.answer
overlap-by (out e) q = absurd (omega arith)
overlap-by (bare e h) q = absurd (omega arith)
overlap-by {t} (twice e h k) q = overlap-lowest t h k
overlap-by (once e h k) q = absurd (omega arith)

pub gap-is-lowest : GapIsLowest
gap-is-lowest t q = gap_by (case-of t) q

pub overlap-is-lowest : OverlapIsLowest
overlap-is-lowest t q = overlap-by (case-of t) q

pub accepted-once : AcceptedOnce
accepted-once t q l h =
    let a = accepted t q in
    let u = single t l (omega (arith, a.no-overlap)) in
    let v = gapless t a.no_gap l (omega arith) in
    omega arith

pub once-accepted : OnceAccepted
unfolding lowest_gap lowest_overlap
once-accepted t e h = check-fine t e
    (let g = lowest-is (is_gap t) 0 65536 65536 (omega arith) (omega arith) (λ l a b. ne_eqb (cover_count t l) 0 (λ z. omega (arith, z, h l (omega arith)))) (λ b. absurd (omega arith)) in omega (arith, g))
    (let o = lowest-is (is_overlap t) 0 65536 65536 (omega arith) (omega arith) (λ l a b. le-ltb 1 (cover_count t l) (omega (arith, h l (omega arith)))) (λ b. absurd (omega arith)) in omega (arith, o))

-- ---- the lookup

pub looked-up : LookupAccepts
looked-up t l q = by-test (ltb 65535 l)
    (λ e. let z = sym (ap (λ (r : Checked). r.refusal) (lookup-range t l (ltb-true 65535 l e))) ∙ q in absurd (omega (arith, z)))
    (λ e. let h = ltb-false 65535 l e in by-test (eqb (checked t).refusal 0)
    (λ k. let z = eqb-true (checked t).refusal 0 k in record { layout = h; table = z; word = ap (λ (r : Checked). r.answer) (lookup-found t l h z) })
    (λ k. let n = eqb-false (checked t).refusal 0 k in absurd (n (sym (ap (λ (r : Checked). r.refusal) (lookup-refused t l h n)) ∙ q))))

-- a power of two has its own bit and no other
power-high : (j k : ℕ) → bit (2 ^ (j + k)) k ≡ eqb (j + k) k
power-high zero k =
    ap (λ (w : ℕ). eqb (w / 2 ^ k % 2) 1) (pow-add 2 0 k) ∙ ap (λ (w : ℕ). eqb (w % 2) 1) (shl-shr 1 k) ∙ sym (eq-eqb (0 + k) k (omega arith))
power-high (suc j) k =
    ap (λ (w : ℕ). eqb (w / 2 ^ k % 2) 1) (pow-add 2 (suc j) k)
    ∙ ap (λ (w : ℕ). eqb (w % 2) 1) (shl-shr (2 ^ suc j) k)
    ∙ ap (λ (w : ℕ). eqb w 1) (ap (λ (w : ℕ). w % 2) (sym (one-mul (2 ^ suc j))) ∙ shifted_even 1 j)
    ∙ sym (ne_eqb (suc j + k) k (λ q. omega (arith, q)))

power-low : (a k : ℕ) → a < k → bit (2 ^ a) k ≡ false
power-low a k h =
    let p : 2 ^ a < 2 ^ (0 + k) = pow-lt (omega arith) in
    let z : 2 ^ a / 2 ^ k < 1 = shr_lt 0 k p in
    let n : 2 ^ a / 2 ^ k ≡ 0 = omega arith in
    ap (λ (w : ℕ). eqb (w % 2) 1) n

power-bit : (a k : ℕ) → bit (2 ^ a) k ≡ eqb a k
power-bit a k = by-test (ltb a k)
    (λ e. let h = ltb-true a k e in power-low a k h ∙ sym (ne_eqb a k (λ q. omega (arith, q))))
    (λ e. let h = ltb-false a k e in let q : (a - k) + k ≡ a = omega arith in subst (λ (n : ℕ). bit (2 ^ n) k ≡ eqb n k) q (power-high (a - k) k))

pub looked-up-bit : LookupOneBit
looked-up-bit t l q =
    let u = looked-up t l q in
    record {
      below = selector-below t l (table-ranged t (accepted t u.table).range);
      bits = λ k. ap (λ (w : ℕ). bit w k) u.word ∙ power-bit (selector_at t l) k;
    }

-- where no row covers a layout, none with a selector does; where one does, it is the one found
reads_none : (t : List (List ℕ)) (s l : ℕ) → cover_count t l ≡ 0 → reads t s l ≡ false
reads_none [] s l e = refl
reads_none (row ∷ rows) s l e = by-test (covers row l)
    (λ b. let z = rw b at e in absurd (omega (arith, z)))
    (λ b. let z : cover_count rows l ≡ 0 = (let y = rw b at e in omega (arith, y)) in rw (b, reads_none rows s l z) (off (eqb (selector row) s)))
  where
    off : (a : Bool) → ((a && false) || false) ≡ false
    off true = refl
    off false = refl

reads-one : (t : List (List ℕ)) (s l : ℕ) → cover_count t l ≡ 1 → reads t s l ≡ eqb (selector_at t l) s
reads-one [] s l e = absurd (omega arith)
reads-one (row ∷ rows) s l e = by-test (covers row l)
    (λ b. let z : cover_count rows l ≡ 0 = (let y = rw b at e in omega (arith, y)) in rw (b, reads_none rows s l z) (only (eqb (selector row) s)))
    (λ b. let z : cover_count rows l ≡ 1 = (let y = rw b at e in omega (arith, y)) in rw (b, reads-one rows s l z) (off (eqb (selector row) s) (eqb (selector_at rows l) s)))
  where
    only : (a : Bool) → ((a && true) || false) ≡ a
    only true = refl
    only false = refl

    off : (a b : Bool) → ((a && false) || b) ≡ b
    off true b = refl
    off false b = refl

pub selects-exactly : SelectsExactly
unfolding selects
selects-exactly t l s q h =
    let u = looked-up t l q in
    rw (lt-ltb s 64 h) ((looked-up-bit t l q).bits s ∙ sym (reads-one t s l (accepted-once t u.table l u.layout)))
