use mathlib.Core.Path.{sym, ◌∙◌}
use mathlib.Core.Bool.{◌&&◌}
use lib.Dec.{eqb, ltb, leb}
use borrow.Author.Tests.{not-true, not-false}
use Rattle.reporting.proofs.Hearing.{not-roomy, short-list, by_count}
use Rattle.reporting.proofs.roomy.Goals as goal

pub returns-then-not-roomy : goal.returns-then-not-roomy
returns-then-not-roomy c = let a = c.args in not-roomy (eqb a.block 512 && (ltb a.at.have 512 && leb 949760 a.out)) a.held a.count (sym c.roomy.ensures ∙ not-true _ c.if-not-roomy.true-raw)

pub returns-then-held-lt-HELD_MOST : goal.returns-then-held-lt-HELD_MOST
returns-then-held-lt-HELD_MOST c = let a = c.args in short-list (eqb a.block 512 && (ltb a.at.have 512 && leb 949760 a.out)) a.held a.count (sym c.roomy.ensures ∙ not-false _ c.if-not-roomy.false-raw) c.if-held-lt-HELD_MOST.true

pub returns : goal.returns
returns c = let a = c.args in by_count (eqb a.block 512 && (ltb a.at.have 512 && leb 949760 a.out)) a.held a.count (sym c.roomy.ensures ∙ not-false _ c.if-not-roomy.false-raw) c.if-held-lt-HELD_MOST.false
