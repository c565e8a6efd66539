use native.Mathlib.Omega.{arith}
use Rattle.callfile.specs.Lines.{event_line}
use Rattle.callfile.proofs.Parts.{then}
use Rattle.callfile.proofs.letter_line.Goals as goal

pub put-a-requires : goal.put-a-requires
put-a-requires c = omega arith

pub put_field-b-requires : goal.put_field-b-requires
put_field-b-requires c = omega arith

pub put_signed-c-requires : goal.put_signed-c-requires
put_signed-c-requires c = omega arith

pub put_field-d-requires : goal.put_field-d-requires
put_field-d-requires c = omega arith

pub put-requires : goal.put-requires
put-requires c = omega arith

pub shape_of-out : goal.shape_of-out
shape_of-out c = omega arith

pub returns : goal.returns
unfolding event_line
returns c = (
  (
      then c.put-a.ensures (then c.put_field-b.ensures.0 (then c.put_signed-c.ensures.0 (then c.put_field-d.ensures.0 c.put.ensures)))
      ),
  omega arith,
)
