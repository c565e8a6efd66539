use mathlib.Core.Path.{sym, ◌∙◌}
use borrow.Author.Tests.{not-true, not-false}
use lib.ListN.{length}
use Rattle.definition_station.proofs.Buffers.{own-long}
use Rattle.stationcalls.specs.Parts.{lent_all}
use Rattle.stationcalls.proofs.Starting.{start-refused, start-done}
use Rattle.stationcalls.proofs.start.Goals as goal

pub returns-then-not-whole : goal.returns-then-not-whole
returns-then-not-whole c = rw c.from.ensures (start-refused c.args.heads.now c.args.subs.now c.args.rows.now c.args.own.now c.args.events.now (not-false _ (sym c.whole.ensures ∙ not-true _ c.if-not-whole.true-raw)))

pub start-requires : goal.start-requires
start-requires c = own-long (lent_all c.args.heads.now c.args.subs.now c.args.rows.now c.args.own.now) (length c.args.events.now) (not-true _ (sym c.whole.ensures ∙ not-false _ c.if-not-whole.false-raw))

pub returns : goal.returns
returns c = start-done c.args.heads.now c.args.subs.now c.args.rows.now c.args.own.now c.args.events.now c.start.new.own (not-true _ (sym c.whole.ensures ∙ not-false _ c.if-not-whole.false-raw)) c.start.ensures
