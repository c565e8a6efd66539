use Rattle.callfile.proofs.Parts.{then}
use Rattle.stationreportlines.specs.StationReportLines.{ways_line}
use native.Mathlib.Omega.{arith}
use Rattle.stationreportlines.proofs.ways_line.Goals as goal

pub returns : goal.returns
unfolding ways_line
returns c =
    (then c.put_letter-a.ensures (then c.put_number-b.ensures.0 (then c.put_ways-c.ensures.0 c.put_letter.ensures)), omega (arith, c.put_letter-a.ensures.next, c.put_number-b.ensures.1, c.put_ways-c.ensures.1, c.put_letter.ensures.next))
