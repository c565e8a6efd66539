use mathlib.Core.Path.{sym, ◌∙◌}
use borrow.Author.Tests.{not-true, not-false}
use Rattle.stationcalls.specs.Parts.{lent_all}
use Rattle.stationcalls.proofs.Tested.{own-bad, none-called}
use Rattle.stationcalls.proofs.all_sound.Goals as goal

pub returns-then-not-ok : goal.returns-then-not-ok
returns-then-not-ok c = sym (own-bad (lent_all c.args.heads.now c.args.subs.now c.args.rows.now c.args.own.now) 8 (sym c.ok.ensures ∙ not-true _ c.if-not-ok.true-raw))

pub returns : goal.returns
returns c = c.others_sound.ensures ∙ none-called (lent_all c.args.heads.now c.args.subs.now c.args.rows.now c.args.own.now) (sym c.ok.ensures ∙ not-false _ c.if-not-ok.false-raw)
