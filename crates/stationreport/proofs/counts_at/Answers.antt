use mathlib.Core.Path.{sym, ap, ◌∙◌}
use mathlib.Core.List.{[]}
use lib.ListN.{get_or-eq_default}
use Rattle.stationreport.specs.StationReporting.{gone_by_words}
use Rattle.stationreport.proofs.counts_at.Goals as goal

pub returns-then-gone-k : goal.returns-then-gone-k
returns-then-gone-k c =
    let a = c.args in
    c.gone_of.ensures ∙ sym (ap gone_by_words (get_or-eq_default a.gone.now [] c.if-gone-k.true))

pub returns : goal.returns
returns c = c.gone_of-2.ensures
