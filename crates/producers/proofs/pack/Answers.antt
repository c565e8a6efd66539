use mathlib.Core.Path.{sym, ap, ◌∙◌}
use mathlib.Core.Bool.{not}
use Prim.Native.Nat.{◌+◌}
use native.Mathlib.Omega.{arith}
use lib.ListN.{length}
use Rattle.producers.specs.Groups.{stays}
use Rattle.producers.proofs.Words.{copied_to}
use Rattle.producers.proofs.Loops.{room-here, packing-holds, packing-goes, packing-stays, packing-ends}
use Rattle.producers.proofs.pack.Goals as goal
use Rattle.producers.proofs.pack.Goals.{then-not-goes_at, else-not-goes_at}

pub loop-init : goal.loop-init
loop-init c =
    let a = c.args in
    packing-holds (stays a.whole a.id) a.width a.n a.at a.head.now c.requires.1

pub overflow_add-next : goal.overflow_add-next
overflow_add-next c =
    let l = c.loop in
    let a = c.args in
    let r = room-here a.n l.counter a.width l.from (length l.head) c.loop-test.true l.invariant.room in
    omega arith

pub goes_at-requires : goal.goes_at-requires
goes_at-requires c =
    let l = c.loop in
    let a = c.args in
    let r = room-here a.n l.counter a.width l.from (length l.head) c.loop-test.true l.invariant.room in
    omega arith

pub copy_within-requires : goal.copy_within-requires
copy_within-requires c =
    let l = c.loop in
    let a = c.args in
    let r = room-here a.n l.counter a.width l.from (length l.head) c.loop-test.true l.invariant.room in
    record { start_le_end = omega arith; in_bounds = r; dest_in_bounds = omega (arith, l.invariant.down); not_exhausted = tt }

pub overflow_add-to : goal.overflow_add-to
overflow_add-to c =
    let l = c.loop in
    let a = c.args in
    let r = room-here a.n l.counter a.width l.from (length l.head) c.loop-test.true l.invariant.room in
    omega arith

pub overflow_add-kept : goal.overflow_add-kept
overflow_add-kept c = let i = c.loop.invariant in omega (arith, i.less)

pub loop-preserved : goal.loop-preserved
loop-preserved c =
    let l = c.loop in
    let a = c.args in
    let p = stays a.whole a.id in
    elim c.if-not-goes_at.branch [
      | then-not-goes_at w ↦
          let moved = w.copy_within.ensures.after ∙ copied_to l.to l.from (l.from + a.width) l.head (omega arith) (room-here a.n l.counter a.width l.from (length l.head) c.loop-test.true l.invariant.room) in
          rw (w.head-is, moved, w.to-is, w.kept-is) (packing-stays p a.width a.n a.at a.head.now l.head l.from l.to l.kept l.counter l.invariant c.loop-test.true (ap not (sym c.goes_at.ensures ∙ w.if-not-goes_at.true)))
      | else-not-goes_at w ↦
          rw (w.head-is, w.to-is, w.kept-is) (packing-goes p a.width a.n a.at a.head.now l.head l.from l.to l.kept l.counter l.invariant c.loop-test.true (ap not (sym c.goes_at.ensures ∙ w.if-not-goes_at.false)))
    ]

pub shape_of-head : goal.shape_of-head
shape_of-head c = c.loop.invariant.long

pub returns : goal.returns
returns c =
    let l = c.loop in
    let a = c.args in
    packing-ends (stays a.whole a.id) a.width a.n a.at a.head.now l.head l.from l.to l.kept l.counter l.invariant c.loop-test.false
