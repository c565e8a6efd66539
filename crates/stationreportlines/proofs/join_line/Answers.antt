use Rattle.callfile.proofs.Parts.{then}
use Rattle.reportlines.specs.ReportLines.{join_line}
use Rattle.stationlines.specs.StationLines.{numbered_line}
use native.Mathlib.Omega.{arith}
use Rattle.stationreportlines.proofs.join_line.Goals as goal

pub returns : goal.returns
unfolding numbered_line join_line
returns c =
    (then c.put_letter-a.ensures (then c.put_number-b.ensures.0 (then c.put_number-c.ensures.0 (then c.put_signed-e.ensures.0 (then c.put_signed-f.ensures.0 (then c.put_number-g.ensures.0 c.put_letter.ensures))))), omega (arith, c.put_letter-a.ensures.next, c.put_number-b.ensures.1, c.put_number-c.ensures.1, c.put_signed-e.ensures.1, c.put_signed-f.ensures.1, c.put_number-g.ensures.1, c.put_letter.ensures.next))
