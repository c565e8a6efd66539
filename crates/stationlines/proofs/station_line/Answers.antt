use Rattle.stationlines.specs.StationLines.{station_line}
use Rattle.callfile.proofs.Parts.{then}
use native.Mathlib.Omega.{arith}
use Rattle.stationlines.proofs.station_line.Goals as goal

pub returns : goal.returns
unfolding station_line
returns c = (
  (
      then c.put_letter-a.ensures (then c.put_number-b.ensures.0 (then c.put_number-c.ensures.0 (then c.put_number-d.ensures.0 (then c.put_number-e.ensures.0 c.put_letter.ensures))))
      ),
  omega arith,
)
