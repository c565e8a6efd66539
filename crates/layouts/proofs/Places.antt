-- The check and the lookup refuse exactly by the places of specs/Claims.antt. Assumes nothing.
use mathlib.Core.Path.{◌≡◌, refl, sym, ap, ◌∙◌}
use mathlib.Core.Bool.{Bool, true, false, not, ◌&&◌, ◌||◌}
use mathlib.Core.List.{List, [], ◌∷◌}
use Prim.Native.Nat.{ℕ, zero, suc, ◌<◌}
use native.Mathlib.Omega.{arith}
use borrow.Author.Tests.{eqb-true, eqb-false, ltb-true, ltb-false, leb-true, leb-false}
use lib.Dec.{eqb, ltb, leb}
use lib.ListN.{length}
use Rattle.words.specs.Pick.{whether◌then◌else◌, all}
use Rattle.words.specs.Places.{◌when◌}
use Rattle.words.proofs.Tests.{by-test, if-true, if-false, or_left, or_right}
use Rattle.words.proofs.Places.{first_of, exact}
use Rattle.layouts.specs.declared.Checked.{Checked}
use Rattle.layouts.specs.Layouts.{first, last, selector, cover_count, row_in_range, all_in_range, table_in_range, is_gap, is_overlap, lowest, lowest_gap, lowest_overlap, says, checked, looked_up}
use Rattle.layouts.specs.Claims.{out_of_range, one_below, layout_places, CheckRefuses, LookupRefuses, LookupAsChecked}
use Rattle.layouts.proofs.Lowest.{lowest-found}
use Rattle.layouts.proofs.Answers.{Case, out, bare, twice, once, case-of, lookup-range, lookup-refused, lookup-found}

-- ---- the tests of the places

-- "at most" and "not above"
leb-not : (a b : ℕ) → leb a b ≡ not (ltb b a)
leb-not a b = by-test (ltb b a)
    (λ h. by-test (leb a b) (λ k. absurd (omega (arith, ltb-true b a h, leb-true a b k))) (λ k. k ∙ sym (ap not h)))
    (λ h. by-test (leb a b) (λ k. k ∙ sym (ap not h)) (λ k. absurd (omega (arith, ltb-false b a h, leb-false a b k))))

not-or : (a b c d : Bool) → (not a && (not b && (not c && not d))) ≡ not (a || (b || (c || d)))
not-or true b c d = refl
not-or false true c d = refl
not-or false false true d = refl
not-or false false false d = refl

row-ranged : (row : List ℕ) → row_in_range row ≡ not (out_of_range row)
unfolding row_in_range
row-ranged row =
    rw (leb-not (first row) 65535, leb-not (last row) 65535, leb-not (selector row) 63, leb-not (first row) (last row))
    (not-or (ltb 65535 (first row)) (ltb 65535 (last row)) (ltb 63 (selector row)) (ltb (last row) (first row)))

rows-ranged : (t : List (List ℕ)) → all_in_range t ≡ all (λ row. not (out_of_range row)) t
rows-ranged [] = refl
rows-ranged (row ∷ t) = rw (row-ranged row, rows-ranged t)

not-both : (a b : Bool) → (a || not b) ≡ not (not a && b)
not-both true b = refl
not-both false b = refl

table-out : (t : List (List ℕ)) → (ltb 64 (length t) || not (all (λ row. not (out_of_range row)) t)) ≡ not (table_in_range t)
unfolding table_in_range
table-out t = rw (leb-not (length t) 64, rows-ranged t) (not-both (ltb 64 (length t)) (all (λ row. not (out_of_range row)) t))

-- one below n is so, and none is
one_below_lem : (p : ℕ → Bool) (n k : ℕ) → k < n → p k ≡ true → one_below p n ≡ true
one_below_lem p zero k h e = absurd (omega arith)
one_below_lem p (suc n) k h e = by-test (eqb k n)
    (λ q. or_left (p n) (one_below p n) (sym (ap p (eqb-true k n q)) ∙ e))
    (λ q. or_right (p n) (one_below p n) (one_below_lem p n k (omega (arith, eqb-false k n q)) e))

none_below : (p : ℕ → Bool) (n : ℕ) → ((k : ℕ) → k < n → p k ≡ false) → one_below p n ≡ false
none_below p zero h = refl
none_below p (suc n) h = rw (h n (omega arith)) (none_below p n (λ k b. h k (omega arith)))

below-lowest : (p : ℕ → Bool) (n : ℕ) → one_below p n ≡ ltb (lowest p 0 n) n
below-lowest p n =
    let f = lowest-found p 0 n in
    by-test (ltb (lowest p 0 n) n)
    (λ h. let k = ltb-true (lowest p 0 n) n h in one_below_lem p n (lowest p 0 n) k (f.found (omega arith)) ∙ sym h)
    (λ h. let k = ltb-false (lowest p 0 n) n h in none_below p n (λ l b. f.none l (omega arith) (omega arith)) ∙ sym h)

-- ---- the first place that refuses

gap-place : (t : List (List ℕ)) → one_below (λ l. eqb (cover_count t l) 0) 65536 ≡ ltb (lowest_gap t) 65536
unfolding lowest_gap
gap-place t = below-lowest (is_gap t) 65536

overlap-place : (t : List (List ℕ)) → one_below (λ l. ltb 1 (cover_count t l)) 65536 ≡ ltb (lowest_overlap t) 65536
unfolding lowest_overlap
overlap-place t = below-lowest (is_overlap t) 65536

abbrev three : Bool → Bool → Bool → ℕ
three a b c = first_of (3 when a ∷ 12 when b ∷ 13 when c ∷ [])

by_three : (r a b : Bool) (x y : ℕ) → (whether not r then says 3 0 else whether a then says 12 x else whether b then says 13 y else says 0 0).refusal ≡ three (not r) a b
by_three false a b x y = refl
by_three true true b x y = refl
by_three true false true x y = refl
by_three true false false x y = refl

checked-three : (t : List (List ℕ)) → (checked t).refusal ≡ three (not (table_in_range t)) (ltb (lowest_gap t) 65536) (ltb (lowest_overlap t) 65536)
unfolding checked
checked-three t = by_three (table_in_range t) (ltb (lowest_gap t) 65536) (ltb (lowest_overlap t) 65536) (lowest_gap t) (lowest_overlap t)

first-place : (t : List (List ℕ)) → (checked t).refusal ≡ first_of (layout_places t)
first-place t =
    checked-three t
    ∙ sym (ap (λ (a : Bool). three a (ltb (lowest_gap t) 65536) (ltb (lowest_overlap t) 65536)) (table-out t))
    ∙ sym (ap (λ (b : Bool). three (ltb 64 (length t) || not (all (λ row. not (out_of_range row)) t)) b (ltb (lowest_overlap t) 65536)) (gap-place t))
    ∙ sym (ap (λ (c : Bool). three (ltb 64 (length t) || not (all (λ row. not (out_of_range row)) t)) (one_below (λ l. eqb (cover_count t l) 0) 65536) c) (overlap-place t))

answer-by : {t : List (List ℕ)} {r : Checked} → Case t r → r.refusal ≡ 3 → r.answer ≡ 0
answer-by (out e) q = refl
answer-by (bare e h) q = absurd (omega arith)
answer-by (twice e h k) q = absurd (omega arith)
answer-by (once e h k) q = refl

pub check-refuses : CheckRefuses
check-refuses t = (exact (checked t).refusal (layout_places t) refl (first-place t), answer-by (case-of t))

pub lookup-as-checked : LookupAsChecked
lookup-as-checked t l h n = lookup-refused t l h n

lookup_first : (t : List (List ℕ)) (l : ℕ) → (looked_up t l).refusal ≡ first_of (3 when ltb 65535 l ∷ layout_places t)
lookup_first t l = by-test (ltb 65535 l)
    (λ e. ap (λ (r : Checked). r.refusal) (lookup-range t l (ltb-true 65535 l e)) ∙ sym (if-true 3 (first_of (layout_places t)) e))
    (λ e. let h = ltb-false 65535 l e in by-test (eqb (checked t).refusal 0)
    (λ k. let z = eqb-true (checked t).refusal 0 k in ap (λ (r : Checked). r.refusal) (lookup-found t l h z) ∙ sym z ∙ first-place t ∙ sym (if-false 3 (first_of (layout_places t)) e))
    (λ k. ap (λ (r : Checked). r.refusal) (lookup-refused t l h (eqb-false (checked t).refusal 0 k)) ∙ first-place t ∙ sym (if-false 3 (first_of (layout_places t)) e)))

lookup-answer : (t : List (List ℕ)) (l : ℕ) → (looked_up t l).refusal ≡ 3 → (looked_up t l).answer ≡ 0
lookup-answer t l q = by-test (ltb 65535 l)
    (λ e. ap (λ (r : Checked). r.answer) (lookup-range t l (ltb-true 65535 l e)))
    (λ e. let h = ltb-false 65535 l e in by-test (eqb (checked t).refusal 0)
    (λ k. let z = sym (ap (λ (r : Checked). r.refusal) (lookup-found t l h (eqb-true (checked t).refusal 0 k))) ∙ q in absurd (omega (arith, z)))
    (λ k. let s = lookup-refused t l h (eqb-false (checked t).refusal 0 k) in
    ap (λ (r : Checked). r.answer) s ∙ answer-by (case-of t) (sym (ap (λ (r : Checked). r.refusal) s) ∙ q)))

pub lookup-refuses : LookupRefuses
lookup-refuses t l = (exact (looked_up t l).refusal (3 when ltb 65535 l ∷ layout_places t) refl (lookup_first t l), lookup-answer t l)
