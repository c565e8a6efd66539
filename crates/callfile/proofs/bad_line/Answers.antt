use native.Mathlib.Omega.{arith}
use Rattle.callfile.specs.Lines.{bad_line}
use Rattle.callfile.proofs.Parts.{then}
use Rattle.callfile.proofs.bad_line.Goals as goal

pub put-a-requires : goal.put-a-requires
put-a-requires c = omega arith

pub put_field-b-requires : goal.put_field-b-requires
put_field-b-requires c = omega arith

pub put-requires : goal.put-requires
put-requires c = omega arith

pub shape_of-out : goal.shape_of-out
shape_of-out c = omega arith

pub returns : goal.returns
unfolding bad_line
returns c = (
  (
      then c.put-a.ensures (then c.put_field-b.ensures.0 c.put.ensures)
      ),
  omega arith,
)
