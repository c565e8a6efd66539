use mathlib.Core.Path.{sym, ap, ◌∙◌}
use mathlib.Core.List.{[]}
use Rattle.reporting.specs.Reporting.{ways_of}
use Rattle.stationcalls.specs.Parts.{lent_all}
use Rattle.stationreport.proofs.Shown.{holds-past, listed-are}
use native.Mathlib.Omega.{arith}
use Rattle.stationreport.proofs.blocks.ways_at.Goals as goal

pub returns-then-number-gt7 : goal.returns-then-number-gt7
returns-then-number-gt7 c =
    let a = c.args in
    c.ways.ensures ∙ sym (ap ways_of (holds-past (lent_all a.heads.now a.subs.now a.rows.now a.own.now) a.number [] c.if-number-gt7.true))

pub shown_at-n-requires : goal.shown_at-n-requires
shown_at-n-requires c =
    let p = c.requires in
    (record { is-place = omega arith; heads-long = p.0.heads-long; subs-long = p.0.subs-long; rows_long = p.0.rows_long }, p.1, omega arith)

pub returns : goal.returns
returns c =
    c.ways-2.ensures ∙ ap ways_of (listed-are c.shown_at-n.ensures)
