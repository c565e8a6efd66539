use mathlib.Core.Path.{ap, ap₂, ◌∙◌}
use mathlib.Core.Bool.{false}
use lib.ListN.{set, take}
use Rattle.reportlines.specs.ReportLines.{gone_after}
use Rattle.stationcalls.specs.Parts.{lent_all}
use Rattle.stationreport.specs.StationReporting.{gone_row}
use Rattle.stationreport.proofs.Shown.{listed-are, listed-long}
use Rattle.stationreport.proofs.Gathered.{lent-long}
use Rattle.stationreport.proofs.LeftLines.{blocks-put, left-listed}
use native.Mathlib.Omega.{arith}
use Rattle.stationreport.proofs.lines.put_place_left.Goals as goal

pub leave_at-k-requires : goal.leave_at-k-requires
leave_at-k-requires c =
    let p = c.requires in
    let h = p.within.0.is-place in
    let e = c.came_at-m.ensures in
    let f = p.few_held.0.few c.args.j h in record { within = (p.within.0, p.within.1); n_in_bounds = (omega (arith, f, lent-long c.args.lists.now p.few_held.0.lists_length c.args.j h), omega (arith, e.few, p.few_held.1, listed-long e (omega (arith, p.few_held.1))), omega (arith, f, e.few, p.few_held.1)); own_value = p.within.2 }

pub offset_bounds-gone-j-2 : goal.offset_bounds-gone-j-2
offset_bounds-gone-j-2 c = record { fits = omega (arith, c.requires.within.0.is-place) }

pub bounds-gone-j : goal.bounds-gone-j
bounds-gone-j c =
    let p = c.requires in
    omega (arith, p.within.0.is-place, p.few_held.3)

pub returns : goal.returns
returns c =
    let a = c.args in
    let p = c.requires in
    let h = p.within.0.is-place in
    let gone = a.gone.now in
    let e = c.came_at-m.ensures in
    let b = lent_all a.heads.now a.subs.now a.rows.now a.own.now in
    let left = left-listed b a.lists.now a.counts.now p.few_held.0 (take a.n a.told.now) a.number a.code a.words a.j h e c.leave_at-k.ensures in
    let few = p.few_held.0.few a.j h in
    let put = blocks-put a.j left (omega (arith, few, e.few, p.few_held.1, p.few_held.4)) c.put_blocks.ensures in
    let counted = c.gone_after-g.ensures ∙ ap₂ (gone_after false) (listed-are left) c.gone_of.ensures in record { puts = (put.0, omega (arith, put.1, few, e.few, p.few_held.1)); gone_after = ap (set gone a.j) (c.gone_words.ensures ∙ ap gone_row counted) }
