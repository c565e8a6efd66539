use Rattle.callfile.proofs.Parts.{then}
use Rattle.stationreportlines.specs.StationReportLines.{told_line}
use native.Mathlib.Omega.{arith}
use Rattle.stationreportlines.proofs.told_line.Goals as goal

pub returns : goal.returns
unfolding told_line
returns c =
    (then c.put_letter-a.ensures (then c.put_number-b.ensures.0 (then c.put_number-c.ensures.0 (then c.put_number-e.ensures.0 (then c.put_number-f.ensures.0 c.put_letter.ensures)))), omega (arith, c.put_letter-a.ensures.next, c.put_number-b.ensures.1, c.put_number-c.ensures.1, c.put_number-e.ensures.1, c.put_number-f.ensures.1, c.put_letter.ensures.next))
