use Rattle.stationcalls.proofs.Uncoded.{as_one, as-ten, as_own, as-others, as_none}
use Rattle.stationcalls.specs.Parts.{lent_all}
use Rattle.definition_station.proofs.Buffers.{heads-long, subs-long, rows_long, own-long}
use Rattle.definition.specs.Calls.{discarding}
use lib.ListN.{length}
use borrow.Author.Tests.{not-true, not-false}
use mathlib.Core.Path.{sym, ◌∙◌}
use native.Mathlib.Omega.{arith}
use Rattle.stationcalls.proofs.barred.Goals as goal

pub returns-then-not-whole : goal.returns-then-not-whole
returns-then-not-whole c = as_one c.args.heads.now c.args.subs.now c.args.rows.now c.args.own.now c.args.events.now c.args.number discarding (not-false _ (sym c.whole.ensures ∙ not-true _ c.if-not-whole.true-raw))

pub absent-requires : goal.absent-requires
absent-requires c = own-long (lent_all c.args.heads.now c.args.subs.now c.args.rows.now c.args.own.now) (length c.args.events.now) (not-true _ (sym c.whole.ensures ∙ not-false _ c.if-not-whole.false-raw))

pub returns-then-absent : goal.returns-then-absent
returns-then-absent c = as-ten c.args.heads.now c.args.subs.now c.args.rows.now c.args.own.now c.args.events.now c.args.number discarding (not-true _ (sym c.whole.ensures ∙ not-false _ c.if-not-whole.false-raw)) (sym c.absent.ensures ∙ c.if-absent.true)

pub ok-requires : goal.ok-requires
ok-requires c = own-long (lent_all c.args.heads.now c.args.subs.now c.args.rows.now c.args.own.now) (length c.args.events.now) (not-true _ (sym c.whole.ensures ∙ not-false _ c.if-not-whole.false-raw))

pub returns-then-not-ok : goal.returns-then-not-ok
returns-then-not-ok c = as_own c.args.heads.now c.args.subs.now c.args.rows.now c.args.own.now c.args.events.now c.args.number discarding (not-true _ (sym c.whole.ensures ∙ not-false _ c.if-not-whole.false-raw)) (sym c.absent.ensures ∙ c.if-absent.false) (sym c.ok.ensures ∙ not-true _ c.if-not-ok.true-raw)

pub others_sound-requires : goal.others_sound-requires
others_sound-requires c = (record { is-place = omega arith; heads-long = heads-long (lent_all c.args.heads.now c.args.subs.now c.args.rows.now c.args.own.now) (length c.args.events.now) (not-true _ (sym c.whole.ensures ∙ not-false _ c.if-not-whole.false-raw)); subs-long = subs-long (lent_all c.args.heads.now c.args.subs.now c.args.rows.now c.args.own.now) (length c.args.events.now) (not-true _ (sym c.whole.ensures ∙ not-false _ c.if-not-whole.false-raw)); rows_long = rows_long (lent_all c.args.heads.now c.args.subs.now c.args.rows.now c.args.own.now) (length c.args.events.now) (not-true _ (sym c.whole.ensures ∙ not-false _ c.if-not-whole.false-raw)) }, own-long (lent_all c.args.heads.now c.args.subs.now c.args.rows.now c.args.own.now) (length c.args.events.now) (not-true _ (sym c.whole.ensures ∙ not-false _ c.if-not-whole.false-raw)))

pub returns-then-not-others_sound : goal.returns-then-not-others_sound
returns-then-not-others_sound c = as-others c.args.heads.now c.args.subs.now c.args.rows.now c.args.own.now c.args.events.now c.args.number discarding (not-true _ (sym c.whole.ensures ∙ not-false _ c.if-not-whole.false-raw)) (sym c.absent.ensures ∙ c.if-absent.false) (sym c.ok.ensures ∙ not-false _ c.if-not-ok.false-raw) (sym c.others_sound.ensures ∙ not-true _ c.if-not-others_sound.true-raw)

pub returns : goal.returns
returns c = as_none c.args.heads.now c.args.subs.now c.args.rows.now c.args.own.now c.args.events.now c.args.number discarding (not-true _ (sym c.whole.ensures ∙ not-false _ c.if-not-whole.false-raw)) (sym c.absent.ensures ∙ c.if-absent.false) (sym c.ok.ensures ∙ not-false _ c.if-not-ok.false-raw) (sym c.others_sound.ensures ∙ not-false _ c.if-not-others_sound.false-raw)
