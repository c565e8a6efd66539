use borrow.Author.Rules.{rules}
use mir.Syntax.{w64}
use mir.Val.{SFits}
use mir.ValLaws.{to_z-of_z}
use Rattle.broker.specs.Broker.{stamp}
use Rattle.broker.proofs.stamp.Goals as goal

pub returns-then-o : goal.returns-then-o
unfolding stamp
returns-then-o c = rw (to_z-of_z w64 c.args.now c.ranges.now, c.if-o.true)

pub returns-else-o : goal.returns-else-o
unfolding stamp
returns-else-o c =
    let t = c.args.t in
    let f : SFits w64 t.timestamp = search rules in
    rw (to_z-of_z w64 t.timestamp f, c.if-o.false)
