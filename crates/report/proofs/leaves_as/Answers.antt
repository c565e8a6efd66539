use mathlib.Core.Path.{◌∙◌}
use Rattle.report.proofs.Leaving.{leaves-cleared, leaves-late, leaves-waited, leaves-acked}
use Rattle.report.proofs.leaves_as.Goals as goal

pub returns-then-code-eq-CLEAR : goal.returns-then-code-eq-CLEAR
returns-then-code-eq-CLEAR c = let a = c.args in leaves-cleared a.code a.word a.waited c.if-code-eq-CLEAR.true

pub returns-then-code-ne-ACK : goal.returns-then-code-ne-ACK
returns-then-code-ne-ACK c = let a = c.args in leaves-late a.code a.word a.waited c.if-code-eq-CLEAR.false c.if-code-ne-ACK.true

pub returns-then-waited : goal.returns-then-waited
returns-then-waited c = let a = c.args in leaves-waited a.code a.word a.waited c.if-code-eq-CLEAR.false c.if-code-ne-ACK.false c.if-waited.true

pub returns : goal.returns
returns c = let a = c.args in c.acked_as.ensures ∙ leaves-acked a.code a.word a.waited c.if-code-eq-CLEAR.false c.if-code-ne-ACK.false c.if-waited.false
