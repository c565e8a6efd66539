use Rattle.callfile.proofs.Parts.{then}
use native.Mathlib.Omega.{arith}
use Rattle.stationlines.proofs.put_id.Goals as goal

pub returns : goal.returns
returns c = (
  (
      then c.put_number-a.ensures.0 (then c.put_signed-b.ensures.0 c.put_signed.ensures.0)
      ),
  omega arith,
)
