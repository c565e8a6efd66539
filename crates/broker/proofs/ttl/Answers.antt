use borrow.Author.Rules.{rules}
use lib.IntN.{◌-ℤ◌}
use mir.Syntax.{w64}
use mir.Val.{SFits}
use mir.ValLaws.{to_z-of_z}
use Rattle.broker.specs.Broker.{ttl}
use Rattle.broker.proofs.Range.{left-fits}
use Rattle.broker.proofs.ttl.Goals as goal

pub overflow_sub-left : goal.overflow_sub-left
overflow_sub-left c =
    let t = c.args.t in
    let f : SFits w64 t.expiration = search rules in
    let g : SFits w64 t.timestamp = search rules in
    rw (to_z-of_z w64 t.expiration f, to_z-of_z w64 t.timestamp g) (left-fits t c.requires.0 c.requires.1)

pub returns-then-left-lt0 : goal.returns-then-left-lt0
unfolding ttl
returns-then-left-lt0 c =
    let t = c.args.t in
    let f : SFits w64 t.expiration = search rules in
    let g : SFits w64 t.timestamp = search rules in
    let h = left-fits t c.requires.0 c.requires.1 in
    rw (rw (to_z-of_z w64 t.expiration f, to_z-of_z w64 t.timestamp g, to_z-of_z w64 (t.expiration -ℤ t.timestamp) h) at c.if-left-lt0.true)

pub returns-else-left-lt0 : goal.returns-else-left-lt0
unfolding ttl
returns-else-left-lt0 c =
    let t = c.args.t in
    let f : SFits w64 t.expiration = search rules in
    let g : SFits w64 t.timestamp = search rules in
    let h = left-fits t c.requires.0 c.requires.1 in
    rw (
      to_z-of_z w64 t.expiration f,
      to_z-of_z w64 t.timestamp g,
      to_z-of_z w64 (t.expiration -ℤ t.timestamp) h,
      rw (to_z-of_z w64 t.expiration f, to_z-of_z w64 t.timestamp g, to_z-of_z w64 (t.expiration -ℤ t.timestamp) h) at c.if-left-lt0.false,
    )
