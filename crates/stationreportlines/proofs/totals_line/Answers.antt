use Rattle.callfile.proofs.Parts.{then}
use Rattle.reportlines.specs.ReportLines.{totals_line}
use Rattle.stationlines.specs.StationLines.{numbered_line}
use native.Mathlib.Omega.{arith}
use Rattle.stationreportlines.proofs.totals_line.Goals as goal

pub returns : goal.returns
unfolding numbered_line totals_line
returns c =
    (then c.put_letter-a.ensures (then c.put_number-b.ensures.0 (then c.put_ways-c.ensures.0 (then c.put_gone-e.ensures.0 c.put_letter.ensures))), omega (arith, c.put_letter-a.ensures.next, c.put_number-b.ensures.1, c.put_ways-c.ensures.1, c.put_gone-e.ensures.1, c.put_letter.ensures.next))
