use Rattle.callfile.proofs.Parts.{then}
use Rattle.reportlines.specs.ReportLines.{block_line}
use native.Mathlib.Omega.{arith}
use Rattle.reportlines.proofs.block_line.Goals as goal

pub returns : goal.returns
unfolding block_line
returns c = (then c.put_letter-first.ensures (then c.put_number-second.ensures.0 (then c.put_place-third.ensures.0 (then c.put_number-fourth.ensures.0 c.put_letter.ensures))), omega arith)
