use native.Mathlib.Omega.{arith}
use Rattle.callfile.proofs.Parts.{then}
use Rattle.callfile.proofs.put_id.Goals as goal

pub put_field-a-requires : goal.put_field-a-requires
put_field-a-requires c = omega arith

pub put_signed-b-requires : goal.put_signed-b-requires
put_signed-b-requires c = omega arith

pub put_signed-requires : goal.put_signed-requires
put_signed-requires c = omega arith

pub shape_of-out : goal.shape_of-out
shape_of-out c = omega arith

pub returns : goal.returns
returns c =
    (then c.put_field-a.ensures.0 (then c.put_signed-b.ensures.0 c.put_signed.ensures.0), omega arith)
