use Rattle.callfile.specs.Lines.{event_line}
use Rattle.stationlines.specs.StationLines.{numbered_line}
use Rattle.callfile.proofs.Parts.{then}
use native.Mathlib.Omega.{arith}
use Rattle.stationlines.proofs.null_line.Goals as goal

pub returns : goal.returns
unfolding event_line numbered_line
returns c = (
  (
      then c.put_letter-a.ensures (then c.put_place-b.ensures.0 (then c.put_id-c.ensures.0 c.put_letter.ensures))
      ),
  omega arith,
)
