use borrow.Author.Rules.{rules}
use mir.Syntax.{w64}
use mir.Val.{SFits}
use mir.ValLaws.{to_z-of_z}
use Rattle.broker.specs.Broker.{times_expired}
use Rattle.broker.proofs.expired.Goals as goal

pub returns-then-t-gt0 : goal.returns-then-t-gt0
unfolding times_expired
returns-then-t-gt0 c =
    let a = c.args in
    let f : SFits w64 a.t.expiration = search rules in
    let g : SFits w64 a.now = search rules in
    rw (to_z-of_z w64 a.t.expiration f, to_z-of_z w64 a.now g, rw (to_z-of_z w64 a.t.expiration f) at c.if-t-gt0.true)

pub returns-else-t-gt0 : goal.returns-else-t-gt0
unfolding times_expired
returns-else-t-gt0 c =
    let a = c.args in
    let f : SFits w64 a.t.expiration = search rules in
    rw (to_z-of_z w64 a.t.expiration f, rw (to_z-of_z w64 a.t.expiration f) at c.if-t-gt0.false)
