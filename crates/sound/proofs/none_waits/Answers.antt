use mathlib.Core.Path.{refl, sym, ap, ◌∙◌}
use mathlib.Core.Bool.{not}
use Prim.Native.Nat.{ℕ, ◌≤◌}
use lib.ListN.{get_or}
use lib.Seq.{slice}
use Rattle.definition.specs.Base.{all, member}
use Rattle.subrows.specs.Subrows.{seqs_at}
use Rattle.sound.proofs.Rising.{resumed, none-stop, none-next, none-end}
use native.Mathlib.Omega.{arith}
use borrow.Author.Rules.{rules}
use Rattle.sound.proofs.none_waits.Goals as goal

pub loop-x-init : goal.loop-x-init
loop-x-init c =
    (search rules, (λ y t. refl), c.requires.rows_value, refl)

pub not_below-at-requires : goal.not_below-at-requires
not_below-at-requires c =
    let a = c.args in
    let xs = a.xs.now in
    let rows = a.rows.now in
    let v = c.loop-x.invariant in
    let p = (λ (z : ℕ). not (member z (seqs_at (slice a.from a.to rows)))) in
    let q : a.from ≤ a.to = omega arith in
    let g = c.resume-start in
    let r = resumed rows a.from a.to c.loop-x.at g.result (get_or xs c.loop-x.x-index 0) c.loop-x.last g.ensures.0 g.ensures.1 q v.0 c.requires.rows_value v.1 v.2 in record { from_le_to = r.0; to_in_bounds = c.requires.to_in_bounds; rows_value = r.2 }

pub returns-then-stands : goal.returns-then-stands
returns-then-stands c =
    let a = c.args in
    let xs = a.xs.now in
    let rows = a.rows.now in
    let v = c.loop-x.invariant in
    let p = (λ (z : ℕ). not (member z (seqs_at (slice a.from a.to rows)))) in
    let q : a.from ≤ a.to = omega arith in
    let g = c.resume-start in
    let r = resumed rows a.from a.to c.loop-x.at g.result (get_or xs c.loop-x.x-index 0) c.loop-x.last g.ensures.0 g.ensures.1 q v.0 c.requires.rows_value v.1 v.2 in
    let e = c.not_below-at.ensures in
    let x = get_or xs c.loop-x.x-index 0 in
    let here : x ≤ x = omega arith in
    let m = r.1 x here ∙ e.same_from x here ∙ e.rows_value_3 ∙ sym c.stands.ensures in
    none-stop p xs c.loop-x.x-index (all p xs) v.3 c.loop-x-test.true (ap not (m ∙ c.if-stands.true))

pub loop-x-preserved : goal.loop-x-preserved
loop-x-preserved c =
    let a = c.args in
    let xs = a.xs.now in
    let rows = a.rows.now in
    let v = c.loop-x.invariant in
    let p = (λ (z : ℕ). not (member z (seqs_at (slice a.from a.to rows)))) in
    let q : a.from ≤ a.to = omega arith in
    let g = c.resume-start in
    let r = resumed rows a.from a.to c.loop-x.at g.result (get_or xs c.loop-x.x-index 0) c.loop-x.last g.ensures.0 g.ensures.1 q v.0 c.requires.rows_value v.1 v.2 in
    let e = c.not_below-at.ensures in
    let x = get_or xs c.loop-x.x-index 0 in
    let here : x ≤ x = omega arith in
    let m = r.1 x here ∙ e.same_from x here ∙ e.rows_value_3 ∙ sym c.stands.ensures in
    (e.upper_bound, (λ y u. r.1 y u ∙ e.same_from y u), e.rows_value_2, none-next p xs c.loop-x.x-index (all p xs) v.3 c.loop-x-test.true (ap not (m ∙ c.if-stands.false)))

pub loop-x-preserved-then-x-low : goal.loop-x-preserved-then-x-low
loop-x-preserved-then-x-low c =
    let a = c.args in
    let xs = a.xs.now in
    let rows = a.rows.now in
    let v = c.loop-x.invariant in
    let p = (λ (z : ℕ). not (member z (seqs_at (slice a.from a.to rows)))) in
    (v.0, v.1, v.2, none-next p xs c.loop-x.x-index (all p xs) v.3 c.loop-x-test.true (ap not (c.least_of-low.ensures (get_or xs c.loop-x.x-index 0) c.if-x-low.true)))

pub returns : goal.returns
returns c =
    let a = c.args in
    let xs = a.xs.now in
    let rows = a.rows.now in
    let v = c.loop-x.invariant in
    let p = (λ (z : ℕ). not (member z (seqs_at (slice a.from a.to rows)))) in
    none-end p xs c.loop-x.x-index (all p xs) v.3 c.loop-x-test.false
