use mathlib.Core.Path.{sym, ap, ◌∙◌}
use Prim.Native.Nat.{ℕ, ◌+◌}
use lib.Dec.{eqb}
use lib.ListN.{drop, drop_of_length-le}
use Rattle.layouts.specs.Layouts.{is_gap}
use Rattle.layouts.specs.Steps.{next, lower, lowest_of, gap_of}
use Rattle.layouts.proofs.Rows.{rows_next, in-range-at, table-few, table-ranged}
use Rattle.layouts.proofs.Gaps.{walked, gap-right}
use Rattle.layouts.proofs.Lanes.{column-length, count-right}
use Rattle.layouts.proofs.gap.Goals as goal

pub walk-requires : goal.walk-requires
walk-requires c = table-ranged c.args.table.now c.requires

pub returns-then-walk-eq-LAYOUTS : goal.returns-then-walk-eq-LAYOUTS
returns-then-walk-eq-LAYOUTS c = walked c.args.table.now (sym c.walk.ensures ∙ c.if-walk-eq-LAYOUTS.true)

pub lane_count-requires : goal.lane_count-requires
lane_count-requires c =
    let s = c in
    let t = s.args.table.now in
    let n = table-few t s.requires in record { firsts_len = column-length t 0 1 c.column-firsts.result n c.column-firsts.ensures; lasts_len = column-length t 1 0 c.column-lasts.result n c.column-lasts.ensures }

pub loop-row-init : goal.loop-row-init
unfolding gap_of
loop-row-init c =
    let n = c.lane_count in
    let t = c.args.table.now in
    let e = count-right t c.column-firsts.result c.column-lasts.result 0 n.result c.column-firsts.ensures c.column-lasts.ensures n.ensures in
    ap (λ (r : ℕ). lowest_of (is_gap t) next r t) (c.lower-lowest.ensures ∙ ap (λ (m : ℕ). lower (eqb m 0) 0 65536) e)

pub next-at-requires : goal.next-at-requires
next-at-requires c =
    let s = c in
    let t = s.args.table.now in
    in-range-at t c.loop-row.row-index c.loop-row-test.true (table-ranged t s.requires)

pub lane_count-requires-in-loop-row : goal.lane_count-requires-in-loop-row
lane_count-requires-in-loop-row c =
    let s = c in
    let t = s.args.table.now in
    let n = table-few t s.requires in record { firsts_len = column-length t 0 1 c.column-firsts.result n c.column-firsts.ensures; lasts_len = column-length t 1 0 c.column-lasts.result n c.column-lasts.ensures }

pub loop-row-preserved : goal.loop-row-preserved
loop-row-preserved c =
    let n = c.lane_count-in-loop-row in
    let x = c.next-at in
    let t = c.args.table.now in
    let e = count-right t c.column-firsts.result c.column-lasts.result x.result n.result c.column-firsts.ensures c.column-lasts.ensures n.ensures in
    ap (λ (r : ℕ). lowest_of (is_gap t) next r (drop (c.loop-row.row-index + 1) t))
    (c.lower-lowest-in-loop-row.ensures ∙ ap (λ (m : ℕ). lower (eqb m 0) x.result c.loop-row.lowest) e ∙ ap (λ (l : ℕ). lower (is_gap t l) l c.loop-row.lowest) x.ensures)
    ∙ sym (ap (lowest_of (is_gap t) next c.loop-row.lowest) (rows_next t c.loop-row.row-index c.loop-row-test.true))
    ∙ c.loop-row.invariant

pub returns : goal.returns
returns c =
    let t = c.args.table.now in
    sym (ap (lowest_of (is_gap t) next c.loop-row.lowest) (drop_of_length-le t c.loop-row-test.false)) ∙ c.loop-row.invariant ∙ gap-right t
