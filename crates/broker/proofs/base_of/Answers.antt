use borrow.Author.Rules.{rules}
use mir.Syntax.{w64}
use mir.Val.{SFits}
use mir.ValLaws.{to_z-of_z}
use Rattle.broker.specs.Broker.{base_of}
use Rattle.broker.proofs.base_of.Goals as goal
use Rattle.broker.proofs.base_of.Goals.{else-t-gt0-via-then-t-gt0+else-not-o, else-t-gt0-via-else-t-gt0}

pub returns-then-not-o : goal.returns-then-not-o
unfolding base_of
returns-then-not-o c =
    let t = c.args.t in
    let f : SFits w64 t.timestamp = search rules in
    rw (to_z-of_z w64 t.timestamp f, rw (to_z-of_z w64 t.timestamp f) at c.if-t-gt0.true, c.if-not-o.true)

pub returns-else-t-gt0 : goal.returns-else-t-gt0
unfolding base_of
returns-else-t-gt0 c =
    let a = c.args in
    let f : SFits w64 a.t.timestamp = search rules in
    let g : SFits w64 a.now = search rules in
    rw (to_z-of_z w64 a.now g)
    (elim c.else-t-gt0.branch [
      | else-t-gt0-via-then-t-gt0+else-not-o w ↦ rw (rw (to_z-of_z w64 a.t.timestamp f) at w.if-t-gt0.true, w.if-not-o.false)
      | else-t-gt0-via-else-t-gt0 w ↦ rw (rw (to_z-of_z w64 a.t.timestamp f) at w.if-t-gt0.false)
    ])
