use Rattle.callfile.proofs.Parts.{then}
use Rattle.reportlines.specs.ReportLines.{turn_line}
use native.Mathlib.Omega.{arith}
use Rattle.reportlines.proofs.turn_line.Goals as goal

pub returns : goal.returns
unfolding turn_line
returns c = (then c.put_letter-a.ensures (then c.put_number-b.ensures.0 (then c.put_number-c.ensures.0 (then c.put_number-d.ensures.0 (then c.put_ways-e.ensures.0 c.put_letter.ensures)))), omega arith)
