use Prim.Native.Nat.{◌+◌, ◌≤◌}
use mathlib.Core.Path.{sym, ◌∙◌}
use lib.ListN.{length}
use borrow.Author.Tests.{leb-true, not-true, not-false}
use Rattle.callfile.proofs.Parts.{whole-line, no_room}
use native.Mathlib.Omega.{arith}
use Rattle.callfile.proofs.put_byte.Goals as goal

pub returns-then-not-room : goal.returns-then-not-room
returns-then-not-room c = no_room _ _ _ (sym c.room.ensures ∙ not-true _ c.if-not-room.true-raw)

pub put-requires : goal.put-requires
put-requires c =
    let a = c.args in
    let h : a.at + 1 ≤ length a.out.now = leb-true _ _ (sym c.room.ensures ∙ not-false _ c.if-not-room.false-raw) in
    omega (arith, h)

pub returns : goal.returns
returns c =
    let t = sym c.room.ensures ∙ not-false _ c.if-not-room.false-raw in
    let p = c.put.ensures in
    whole-line t (p, omega (arith, p.next))
