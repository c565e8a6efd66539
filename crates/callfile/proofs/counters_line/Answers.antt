use native.Mathlib.Omega.{arith}
use Rattle.callfile.specs.Lines.{counters_line}
use Rattle.callfile.proofs.Parts.{then}
use Rattle.callfile.proofs.counters_line.Goals as goal

pub put-a-requires : goal.put-a-requires
put-a-requires c = omega arith

pub put_field-b-requires : goal.put_field-b-requires
put_field-b-requires c = omega arith

pub put_field-c-requires : goal.put_field-c-requires
put_field-c-requires c = omega arith

pub put_field-d-requires : goal.put_field-d-requires
put_field-d-requires c = omega arith

pub put_field-e-requires : goal.put_field-e-requires
put_field-e-requires c = omega arith

pub put_field-f-requires : goal.put_field-f-requires
put_field-f-requires c = omega arith

pub put-requires : goal.put-requires
put-requires c = omega arith

pub shape_of-out : goal.shape_of-out
shape_of-out c = omega arith

pub returns : goal.returns
unfolding counters_line
returns c = (
  (
      then c.put-a.ensures (then c.put_field-b.ensures.0 (then c.put_field-c.ensures.0 (then c.put_field-d.ensures.0 (then c.put_field-e.ensures.0 (then c.put_field-f.ensures.0 c.put.ensures)))))
      ),
  omega arith,
)
