use native.Mathlib.Omega.{arith}
use Prim.Native.Nat.{◌^◌}
use borrow.Author.Rules.{rules}
use lib.IntN.{◌+ℤ◌}
use mir.Syntax.{w64}
use mir.Val.{SFits}
use mir.ValLaws.{to_z-of_z}
use Rattle.broker.specs.Broker.{defaulted}
use Rattle.broker.proofs.Range.{sum_fits, zero-yes, zero-no}
use Rattle.broker.proofs.defaulted.Goals as goal
use Rattle.broker.proofs.defaulted.Goals.{else-t-eq0-via-then-t-eq0+else-o-gt0, else-t-eq0-via-else-t-eq0}

pub overflow_add-result : goal.overflow_add-result
overflow_add-result c =
    let f : SFits w64 c.args.o.default_ttl = search rules in
    rw (to_z-of_z w64 c.args.base c.ranges.base, to_z-of_z w64 c.args.o.default_ttl f)
    (sum_fits c.args.base c.args.o.default_ttl (2 ^ 62) (2 ^ 61) c.requires.0 c.requires.1 (omega arith))

pub returns-then-o-gt0 : goal.returns-then-o-gt0
unfolding defaulted
returns-then-o-gt0 c =
    let t = c.args.t in
    let d = c.args.o.default_ttl in
    let f : SFits w64 d = search rules in
    let g : SFits w64 t.expiration = search rules in
    let h : SFits w64 c.stamp.result = search rules in
    let n = zero-yes t.expiration g c.if-t-eq0.true in
    let p = rw (to_z-of_z w64 d f) at c.if-o-gt0.true in
    let k = sum_fits c.args.base d (2 ^ 62) (2 ^ 61) c.requires.0 c.requires.1 (omega arith) in
    rw (
      to_z-of_z w64 c.args.base c.ranges.base,
      to_z-of_z w64 d f,
      to_z-of_z w64 (c.args.base +ℤ d) k,
      to_z-of_z w64 c.stamp.result h,
      n,
      p,
      rw (to_z-of_z w64 c.args.now c.ranges.now) at c.stamp.ensures,
    )

pub returns : goal.returns
unfolding defaulted
returns c =
    let a = c.args in
    let g : SFits w64 a.t.expiration = search rules in
    let f : SFits w64 a.o.default_ttl = search rules in
    elim c.else-t-eq0.branch [
      | else-t-eq0-via-then-t-eq0+else-o-gt0 w ↦
          rw (zero-yes a.t.expiration g w.if-t-eq0.true, rw (to_z-of_z w64 a.o.default_ttl f) at w.if-o-gt0.false)
      | else-t-eq0-via-else-t-eq0 w ↦ rw (zero-no a.t.expiration g w.if-t-eq0.false)
    ]
