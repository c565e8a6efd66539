use Rattle.callfile.proofs.Parts.{then}
use native.Mathlib.Omega.{arith}
use Rattle.stationreportlines.proofs.put_ways.Goals as goal

pub returns : goal.returns
returns c =
    (then c.put_number-a.ensures.0 (then c.put_number-b.ensures.0 c.put_number.ensures.0), omega (arith, c.put_number-a.ensures.1, c.put_number-b.ensures.1, c.put_number.ensures.1))
