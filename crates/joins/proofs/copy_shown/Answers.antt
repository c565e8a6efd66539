use mathlib.Core.Path.{sym, ◌∙◌}
use Prim.Native.Nat.{◌<◌}
use native.Mathlib.Omega.{arith}
use lib.ListN.{length}
use Rattle.joins.proofs.Copies.{copying-start, copying-end, copying-room, copying-hit, copying-miss}
use borrow.Author.Rules.{rules}
use Rattle.joins.proofs.copy_shown.Goals as goal
use Rattle.joins.proofs.copy_shown.Goals.{then-is_shown, else-is_shown}

pub loop-i-init : goal.loop-i-init
loop-i-init c =
    let a = c.args in
    copying-start a.selector a.at a.from a.to a.rows.now c.requires.0 c.requires.1 c.requires.2

pub offset_bounds-rows-i : goal.offset_bounds-rows-i
offset_bounds-rows-i c =
    let g = c.loop-i.invariant in
    omega (arith, c.loop-i-test.true, g.end, g.same)

pub slice_copy_out-row : goal.slice_copy_out-row
slice_copy_out-row c =
    let g = c.loop-i.invariant in
    omega (arith, c.loop-i-test.true, g.end, g.same)

pub offset_bounds-rows-j : goal.offset_bounds-rows-j
offset_bounds-rows-j c =
    let l = c.loop-i in
    let a = c.args in
    let less = c.loop-i-test.true in
    let n = copying-room a.selector a.at a.from a.to a.rows.now l.rows l.j l.i l.invariant less (sym c.is_shown.ensures ∙ c.if-is_shown.true) in
    let g = l.invariant in
    omega (arith, less, g.end, g.same, g.from_low)

pub bounds-rows-j : goal.bounds-rows-j
bounds-rows-j c =
    let l = c.loop-i in
    let a = c.args in
    let less = c.loop-i-test.true in
    let n = copying-room a.selector a.at a.from a.to a.rows.now l.rows l.j l.i l.invariant less (sym c.is_shown.ensures ∙ c.if-is_shown.true) in
    let g = l.invariant in
    let m : l.j < length l.rows = omega (arith, less, g.end, g.same, g.from_low) in
    search rules

pub overflow_add-j : goal.overflow_add-j
overflow_add-j c =
    let l = c.loop-i in
    let a = c.args in
    let less = c.loop-i-test.true in
    let n = copying-room a.selector a.at a.from a.to a.rows.now l.rows l.j l.i l.invariant less (sym c.is_shown.ensures ∙ c.if-is_shown.true) in
    let g = l.invariant in
    omega (arith, less, g.end, g.same, g.from_low)

pub loop-i-preserved : goal.loop-i-preserved
loop-i-preserved c =
    let l = c.loop-i in
    let a = c.args in
    let less = c.loop-i-test.true in
    elim c.if-is_shown.branch [
      | then-is_shown w ↦ rw (w.rows-is, w.j-is) (copying-hit a.selector a.at a.from a.to a.rows.now l.rows l.j l.i l.invariant less (sym c.is_shown.ensures ∙ w.if-is_shown.true))
      | else-is_shown w ↦ rw (w.rows-is, w.j-is) (copying-miss a.selector a.at a.from a.to a.rows.now l.rows l.j l.i l.invariant less (sym c.is_shown.ensures ∙ w.if-is_shown.false))
    ]

pub returns : goal.returns
returns c =
    let l = c.loop-i in
    let a = c.args in
    copying-end a.selector a.at a.from a.to a.rows.now l.rows l.j l.i l.invariant c.loop-i-test.false
