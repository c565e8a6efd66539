use native.Mathlib.Omega.{arith}
use Rattle.callfile.proofs.Digits.{word-length}
use Rattle.callfile.proofs.Parts.{then}
use Rattle.callfile.proofs.put_field.Goals as goal

pub put-next-requires : goal.put-next-requires
put-next-requires c = omega arith

pub put_digits-requires : goal.put_digits-requires
put_digits-requires c = omega (arith, word-length c.args.n)

pub shape_of-out : goal.shape_of-out
shape_of-out c = omega arith

pub returns : goal.returns
returns c =
    (then c.put-next.ensures c.put_digits.ensures, omega (arith, word-length c.args.n))
