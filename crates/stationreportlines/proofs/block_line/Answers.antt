use Rattle.callfile.proofs.Parts.{then}
use Rattle.reportlines.specs.ReportLines.{block_line}
use Rattle.stationlines.specs.StationLines.{numbered_line}
use native.Mathlib.Omega.{arith}
use Rattle.stationreportlines.proofs.block_line.Goals as goal

pub returns : goal.returns
unfolding numbered_line block_line
returns c =
    (then c.put_letter-first.ensures (then c.put_number-second.ensures.0 (then c.put_number-third.ensures.0 (then c.put_place-fourth.ensures.0 (then c.put_number-fifth.ensures.0 c.put_letter.ensures)))), omega (arith, c.put_letter-first.ensures.next, c.put_number-second.ensures.1, c.put_number-third.ensures.1, c.put_place-fourth.ensures.1, c.put_number-fifth.ensures.1, c.put_letter.ensures.next))
