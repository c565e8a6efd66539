use mathlib.Core.Path.{◌≡◌}
use native.Mathlib.Omega.{arith}
use Prim.Native.Nat.{◌-◌, ◌^◌}
use borrow.Author.Rules.{rules}
use lib.IntN.{◌+ℤ◌}
use mir.Syntax.{w64}
use mir.Val.{SFits, to_z, of_z}
use mir.ValLaws.{to_z-of_z}
use Rattle.broker.specs.Broker.{Positive, rebased, ttl}
use Rattle.broker.proofs.Range.{ranges, ttl-within, sum_fits}
use Rattle.broker.proofs.rebased.Goals as goal
use Rattle.broker.proofs.rebased.Goals.{Then-t-gt0-2, After-ttl, else-o-via-then-o+then-t-gt0+else-t-gt0-2, else-o-via-then-o+else-t-gt0, else-o-via-else-o}

positives : (c : Then-t-gt0-2) → Positive c.args.t.expiration × Positive c.args.t.timestamp
positives c =
    let t = c.args.t in
    let f : SFits w64 t.expiration = search rules in
    let g : SFits w64 t.timestamp = search rules in
    let r = ranges c.args.o t c.args.now c.requires in (
      record { above = rw (to_z-of_z w64 t.expiration f) at c.if-t-gt0.true; most = r.expiration },
      record { above = rw (to_z-of_z w64 t.timestamp g) at c.if-t-gt0-2.true; most = r.timestamp },
    )

sum : (c : After-ttl) → Positive c.args.t.expiration → Positive c.args.t.timestamp
    → (to_z w64 (of_z w64 c.args.now) +ℤ to_z w64 (of_z w64 c.ttl.result) ≡ c.args.now +ℤ ttl c.args.t) × SFits w64 (c.args.now +ℤ ttl c.args.t)
sum c h i =
    let f : SFits w64 c.ttl.result = search rules in
    let r = ranges c.args.o c.args.t c.args.now c.requires in (
      rw (to_z-of_z w64 c.args.now c.ranges.now, to_z-of_z w64 c.ttl.result f, c.ttl.ensures),
      sum_fits c.args.now (ttl c.args.t) (2 ^ 62) (2 ^ 62 - 1) r.clock (ttl-within c.args.t h i) (omega arith),
    )

pub ttl-requires : goal.ttl-requires
ttl-requires c = positives (goal.at.ttl-requires c).Then-t-gt0-2

pub overflow_add-result : goal.overflow_add-result
overflow_add-result c =
    let p = positives (goal.at.overflow_add-result c).Then-t-gt0-2 in
    let s = sum (goal.at.overflow_add-result c).After-ttl p.0 p.1 in
    rw s.0 s.1

pub returns-then-t-gt0-2 : goal.returns-then-t-gt0-2
unfolding rebased
returns-then-t-gt0-2 c =
    let p = positives (goal.at.returns-then-t-gt0-2 c).Then-t-gt0-2 in
    let s = sum (goal.at.returns-then-t-gt0-2 c).After-ttl p.0 p.1 in
    rw (
      s.0,
      to_z-of_z w64 (c.args.now +ℤ ttl c.args.t) s.1,
      to_z-of_z w64 c.args.now c.ranges.now,
      c.if-o.true,
      p.0.above,
      p.1.above,
    )

pub returns : goal.returns
unfolding rebased
returns c =
    let t = c.args.t in
    let f : SFits w64 t.expiration = search rules in
    let g : SFits w64 t.timestamp = search rules in
    elim c.else-o.branch [
      | else-o-via-then-o+then-t-gt0+else-t-gt0-2 w ↦
          rw (w.if-o.true, rw (to_z-of_z w64 t.expiration f) at w.if-t-gt0.true, rw (to_z-of_z w64 t.timestamp g) at w.if-t-gt0-2.false)
      | else-o-via-then-o+else-t-gt0 w ↦ rw (w.if-o.true, rw (to_z-of_z w64 t.expiration f) at w.if-t-gt0.false)
      | else-o-via-else-o w ↦ rw w.if-o.false
    ]
