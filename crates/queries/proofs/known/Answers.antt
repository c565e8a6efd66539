use mathlib.Core.Path.{sym}
use Rattle.copies.proofs.Laws.{slot-met}
use native.Mathlib.Omega.{arith}
use Rattle.queries.proofs.known.Goals as goal

pub returns-then-place-eq0 : goal.returns-then-place-eq0
returns-then-place-eq0 c = sym (c.requires.slot.0 c.if-place-eq0.true)

pub offset_bounds-rows-place : goal.offset_bounds-rows-place
offset_bounds-rows-place c = omega (arith, c.requires.slot.1 (omega arith))

pub bounds-rows-place : goal.bounds-rows-place
bounds-rows-place c = omega (arith, c.requires.slot.1 (omega arith))

pub returns-then-row-seq : goal.returns-then-row-seq
returns-then-row-seq c =
    let a = c.args in
    slot-met a.rows.now a.from a.to c.requires.to_in_bounds a.seq a.place c.requires.slot (omega arith) c.if-row-seq.true
