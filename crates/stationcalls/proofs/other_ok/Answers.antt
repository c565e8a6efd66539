use mathlib.Core.Path.{sym, ◌∙◌}
use borrow.Author.Tests.{not-true, not-false}
use Rattle.stationcalls.specs.Parts.{lent_all}
use Rattle.stationcalls.proofs.Eight.{other-called, other-closed, other-open}
use Rattle.stationcalls.proofs.other_ok.Goals as goal

pub returns-then-k-but : goal.returns-then-k-but
returns-then-k-but c = other-called (lent_all c.args.heads.now c.args.subs.now c.args.rows.now c.args.own.now) c.args.but c.args.k c.if-k-but.true

pub returns-then-not-is_open : goal.returns-then-not-is_open
returns-then-not-is_open c = other-closed (lent_all c.args.heads.now c.args.subs.now c.args.rows.now c.args.own.now) c.args.but c.args.k c.if-k-but.false (sym c.is_open.ensures ∙ not-true _ c.if-not-is_open.true-raw)

pub returns : goal.returns
returns c = c.sound.ensures c.args.own.now ∙ other-open (lent_all c.args.heads.now c.args.subs.now c.args.rows.now c.args.own.now) c.args.but c.args.k c.if-k-but.false (sym c.is_open.ensures ∙ not-false _ c.if-not-is_open.false-raw)
