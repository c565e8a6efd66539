use mathlib.Core.Path.{sym, ap, ◌∙◌}
use Prim.Native.Nat.{ℕ, ◌+◌}
use lib.Dec.{ltb}
use lib.ListN.{drop, drop_of_length-le}
use Rattle.layouts.specs.Layouts.{first, is_overlap}
use Rattle.layouts.specs.Steps.{lower, lowest_of, overlap_of}
use Rattle.layouts.proofs.Rows.{rows_next, in-range-at, table-few, table-ranged}
use Rattle.layouts.proofs.Overlaps.{overlap-right}
use Rattle.layouts.proofs.Lanes.{column-length, count-right}
use borrow.Author.Rules.{rules}
use Rattle.layouts.proofs.overlap.Goals as goal

pub loop-row-init : goal.loop-row-init
unfolding overlap_of
loop-row-init c = search rules

pub start-at-requires : goal.start-at-requires
start-at-requires c =
    let s = c in
    let t = s.args.table.now in
    in-range-at t c.loop-row.row-index c.loop-row-test.true (table-ranged t s.requires)

pub lane_count-requires : goal.lane_count-requires
lane_count-requires c =
    let s = c in
    let t = s.args.table.now in
    let n = table-few t s.requires in record { firsts_len = column-length t 0 1 c.column-firsts.result n c.column-firsts.ensures; lasts_len = column-length t 1 0 c.column-lasts.result n c.column-lasts.ensures }

pub loop-row-preserved : goal.loop-row-preserved
loop-row-preserved c =
    let n = c.lane_count in
    let x = c.start-at in
    let t = c.args.table.now in
    let e = count-right t c.column-firsts.result c.column-lasts.result x.result n.result c.column-firsts.ensures c.column-lasts.ensures n.ensures in
    ap (λ (r : ℕ). lowest_of (is_overlap t) first r (drop (c.loop-row.row-index + 1) t))
    (c.lower-lowest.ensures ∙ ap (λ (m : ℕ). lower (ltb 1 m) x.result c.loop-row.lowest) e ∙ ap (λ (l : ℕ). lower (is_overlap t l) l c.loop-row.lowest) x.ensures)
    ∙ sym (ap (lowest_of (is_overlap t) first c.loop-row.lowest) (rows_next t c.loop-row.row-index c.loop-row-test.true))
    ∙ c.loop-row.invariant

pub returns : goal.returns
returns c =
    let t = c.args.table.now in
    sym (ap (lowest_of (is_overlap t) first c.loop-row.lowest) (drop_of_length-le t c.loop-row-test.false)) ∙ c.loop-row.invariant ∙ overlap-right t
