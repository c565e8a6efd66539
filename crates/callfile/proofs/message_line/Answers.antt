use native.Mathlib.Omega.{arith}
use Rattle.callfile.specs.Lines.{event_line}
use Rattle.callfile.proofs.Parts.{then}
use Rattle.callfile.proofs.message_line.Goals as goal

pub put-a-requires : goal.put-a-requires
put-a-requires c = omega arith

pub put_id-b-requires : goal.put_id-b-requires
put_id-b-requires c = omega arith

pub put_field-c-requires : goal.put_field-c-requires
put_field-c-requires c = omega arith

pub put_signed-d-requires : goal.put_signed-d-requires
put_signed-d-requires c = omega arith

pub put-requires : goal.put-requires
put-requires c = omega arith

pub shape_of-out : goal.shape_of-out
shape_of-out c = omega arith

pub returns : goal.returns
unfolding event_line
returns c = (
  (
      then c.put-a.ensures (then c.put_id-b.ensures.0 (then c.put_field-c.ensures.0 (then c.put_signed-d.ensures.0 c.put.ensures)))
      ),
  omega arith,
)
