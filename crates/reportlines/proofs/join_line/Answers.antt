use Rattle.callfile.proofs.Parts.{then}
use Rattle.reportlines.specs.ReportLines.{join_line}
use native.Mathlib.Omega.{arith}
use Rattle.reportlines.proofs.join_line.Goals as goal

pub returns : goal.returns
unfolding join_line
returns c = (then c.put_letter-a.ensures (then c.put_number-b.ensures.0 (then c.put_signed-c.ensures.0 (then c.put_signed-d.ensures.0 (then c.put_number-e.ensures.0 c.put_letter.ensures)))), omega arith)
