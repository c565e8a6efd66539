use native.Mathlib.Omega.{arith}
use Rattle.callfile.proofs.Digits.{signed_lower, signed-upper, upper-length}
use Rattle.callfile.proofs.Parts.{then}
use borrow.Author.Rules.{rules}
use Rattle.callfile.proofs.put_signed.Goals as goal

pub put_field-requires : goal.put_field-requires
put_field-requires c = omega arith

pub shape_of-out-then-w-lt-NEGATIVE : goal.shape_of-out-then-w-lt-NEGATIVE
shape_of-out-then-w-lt-NEGATIVE c = omega arith

pub returns-then-w-lt-NEGATIVE : goal.returns-then-w-lt-NEGATIVE
returns-then-w-lt-NEGATIVE c =
    rw (signed_lower c.args.w c.if-w-lt-NEGATIVE.true) c.put_field.ensures

pub put-space-requires : goal.put-space-requires
put-space-requires c = omega arith

pub put-sign-requires : goal.put-sign-requires
put-sign-requires c = omega arith

pub overflow_sub-w : goal.overflow_sub-w
overflow_sub-w c = omega arith

pub overflow_add-w : goal.overflow_add-w
overflow_add-w c = omega arith

pub put_digits-requires : goal.put_digits-requires
put_digits-requires c = omega (arith, upper-length c.args.w (search rules) (search rules))

pub shape_of-out : goal.shape_of-out
shape_of-out c = omega arith

pub returns : goal.returns
returns c =
    let a = c.args in
    rw (signed-upper a.w c.if-w-lt-NEGATIVE.false (search rules))
    (then c.put-space.ensures (then c.put-sign.ensures c.put_digits.ensures), omega (arith, upper-length a.w (search rules) (search rules)))
