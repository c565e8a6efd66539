use native.Mathlib.Omega.{arith}
use Prim.Native.Nat.{◌^◌}
use borrow.Author.Rules.{rules}
use lib.IntN.{◌+ℤ◌}
use mir.Syntax.{w64}
use mir.Val.{SFits}
use mir.ValLaws.{to_z-of_z}
use Rattle.broker.specs.Broker.{capped}
use Rattle.broker.proofs.Range.{sum_fits}
use Rattle.broker.proofs.capped.Goals as goal
use Rattle.broker.proofs.capped.Goals.{else-o-gt0-via-then-o-gt0+else-t-gt0, else-o-gt0-via-else-o-gt0}

pub overflow_add-cap : goal.overflow_add-cap
overflow_add-cap c =
    let f : SFits w64 c.args.o.ttl_ceiling = search rules in
    rw (to_z-of_z w64 c.args.base c.ranges.base, to_z-of_z w64 c.args.o.ttl_ceiling f)
    (sum_fits c.args.base c.args.o.ttl_ceiling (2 ^ 62) (2 ^ 61) c.requires.0 c.requires.1 (omega arith))

pub returns-then-cap-t : goal.returns-then-cap-t
unfolding capped
returns-then-cap-t c =
    let t = c.args.t in
    let d = c.args.o.ttl_ceiling in
    let f : SFits w64 d = search rules in
    let g : SFits w64 t.expiration = search rules in
    let h : SFits w64 t.timestamp = search rules in
    let k = sum_fits c.args.base d (2 ^ 62) (2 ^ 61) c.requires.0 c.requires.1 (omega arith) in
    let p = rw (to_z-of_z w64 d f) at c.if-o-gt0.true in
    let q = rw (to_z-of_z w64 t.expiration g) at c.if-t-gt0.true in
    let r =
    rw (to_z-of_z w64 c.args.base c.ranges.base, to_z-of_z w64 d f, to_z-of_z w64 (c.args.base +ℤ d) k, to_z-of_z w64 t.expiration g) at
    c.if-cap-t.true in
    rw (to_z-of_z w64 c.args.base c.ranges.base, to_z-of_z w64 d f, to_z-of_z w64 (c.args.base +ℤ d) k, to_z-of_z w64 t.timestamp h, p, q, r)

pub returns-else-cap-t : goal.returns-else-cap-t
unfolding capped
returns-else-cap-t c =
    let t = c.args.t in
    let d = c.args.o.ttl_ceiling in
    let f : SFits w64 d = search rules in
    let g : SFits w64 t.expiration = search rules in
    let k = sum_fits c.args.base d (2 ^ 62) (2 ^ 61) c.requires.0 c.requires.1 (omega arith) in
    let p = rw (to_z-of_z w64 d f) at c.if-o-gt0.true in
    let q = rw (to_z-of_z w64 t.expiration g) at c.if-t-gt0.true in
    let r =
    rw (to_z-of_z w64 c.args.base c.ranges.base, to_z-of_z w64 d f, to_z-of_z w64 (c.args.base +ℤ d) k, to_z-of_z w64 t.expiration g) at
    c.if-cap-t.false in
    rw (p, q, r)

pub returns-else-o-gt0 : goal.returns-else-o-gt0
unfolding capped
returns-else-o-gt0 c =
    let a = c.args in
    let f : SFits w64 a.o.ttl_ceiling = search rules in
    let g : SFits w64 a.t.expiration = search rules in
    elim c.else-o-gt0.branch [
      | else-o-gt0-via-then-o-gt0+else-t-gt0 w ↦
          rw (rw (to_z-of_z w64 a.o.ttl_ceiling f) at w.if-o-gt0.true, rw (to_z-of_z w64 a.t.expiration g) at w.if-t-gt0.false)
      | else-o-gt0-via-else-o-gt0 w ↦ rw (rw (to_z-of_z w64 a.o.ttl_ceiling f) at w.if-o-gt0.false)
    ]
