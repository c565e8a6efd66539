use mathlib.Core.Path.{refl, sym, ◌∙◌}
use borrow.Author.Tests.{not-true, not-false}
use Rattle.stationcalls.specs.Parts.{lent_all}
use Rattle.stationcalls.specs.Own.{other_ok}
use Rattle.stationcalls.proofs.Eight.{from_next, from-stop, from_end}
use borrow.Author.Rules.{rules}
use Rattle.stationcalls.proofs.others_sound.Goals as goal

pub loop-k-init : goal.loop-k-init
loop-k-init c = (search rules, refl)

pub other_ok-requires : goal.other_ok-requires
other_ok-requires c = (record { is-place = c.loop-k-test.true; heads-long = c.requires.0.heads-long; subs-long = c.requires.0.subs-long; rows_long = c.requires.0.rows_long }, c.requires.1)

pub returns-then-not-other_ok : goal.returns-then-not-other_ok
returns-then-not-other_ok c = sym (sym c.loop-k.invariant.1 ∙ from-stop (other_ok (lent_all c.args.heads.now c.args.subs.now c.args.rows.now c.args.own.now) c.args.but) c.loop-k.k c.loop-k-test.true (sym c.other_ok.ensures ∙ not-true _ c.if-not-other_ok.true-raw))

pub loop-k-preserved : goal.loop-k-preserved
loop-k-preserved c = (search rules, from_next (other_ok (lent_all c.args.heads.now c.args.subs.now c.args.rows.now c.args.own.now) c.args.but) c.loop-k.k c.loop-k-test.true (sym c.other_ok.ensures ∙ not-false _ c.if-not-other_ok.false-raw) ∙ c.loop-k.invariant.1)

pub returns : goal.returns
returns c = sym (sym c.loop-k.invariant.1 ∙ from_end (other_ok (lent_all c.args.heads.now c.args.subs.now c.args.rows.now c.args.own.now) c.args.but) c.loop-k.k c.loop-k-test.false)
