use borrow.Author.Rules.{rules}
use mir.Syntax.{w64}
use mir.Val.{SFits}
use mir.ValLaws.{to_z-of_z}
use Rattle.broker.specs.Broker.{times_in_range}
use Rattle.broker.proofs.times_in_range.Goals as goal

pub returns-then-t-le-TIME_MOST : goal.returns-then-t-le-TIME_MOST
unfolding times_in_range
returns-then-t-le-TIME_MOST c =
    let t = c.args.t in
    let f : SFits w64 t.expiration = search rules in
    let g : SFits w64 t.timestamp = search rules in
    rw (to_z-of_z w64 t.timestamp g, rw (to_z-of_z w64 t.expiration f) at c.if-t-le-TIME_MOST.true)

pub returns-else-t-le-TIME_MOST : goal.returns-else-t-le-TIME_MOST
unfolding times_in_range
returns-else-t-le-TIME_MOST c =
    let t = c.args.t in
    let f : SFits w64 t.expiration = search rules in
    rw (to_z-of_z w64 t.expiration f, rw (to_z-of_z w64 t.expiration f) at c.if-t-le-TIME_MOST.false)
