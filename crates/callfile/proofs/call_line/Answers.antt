use native.Mathlib.Omega.{arith}
use Rattle.callfile.specs.Lines.{call_line}
use Rattle.callfile.proofs.Parts.{then}
use Rattle.callfile.proofs.Digits.{word-length}
use Rattle.callfile.proofs.call_line.Goals as goal

pub put_digits-a-requires : goal.put_digits-a-requires
put_digits-a-requires c = omega (arith, word-length c.args.index)

pub put_field-b-requires : goal.put_field-b-requires
put_field-b-requires c = omega (arith, word-length c.args.index)

pub put_field-c-requires : goal.put_field-c-requires
put_field-c-requires c = omega (arith, word-length c.args.index)

pub put-requires : goal.put-requires
put-requires c = omega (arith, word-length c.args.index)

pub shape_of-out : goal.shape_of-out
shape_of-out c = omega arith

pub returns : goal.returns
unfolding call_line
returns c = (
  (
      then c.put_digits-a.ensures (then c.put_field-b.ensures.0 (then c.put_field-c.ensures.0 c.put.ensures))
      ),
  omega (arith, word-length c.args.index),
)
