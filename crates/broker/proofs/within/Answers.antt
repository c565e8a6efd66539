use mir.Syntax.{w64}
use mir.ValLaws.{to_z-of_z}
use Rattle.broker.proofs.within.Goals as goal

pub returns-then-x-ge0 : goal.returns-then-x-ge0
returns-then-x-ge0 c =
    let a = c.args in
    let f = c.ranges in
    rw (to_z-of_z w64 a.x f.x, to_z-of_z w64 a.most f.most, rw (to_z-of_z w64 a.x f.x) at c.if-x-ge0.true)

pub returns-else-x-ge0 : goal.returns-else-x-ge0
returns-else-x-ge0 c =
    let a = c.args in
    let f = c.ranges in
    rw (to_z-of_z w64 a.x f.x, rw (to_z-of_z w64 a.x f.x) at c.if-x-ge0.false)
