use Rattle.copies.proofs.Laws.{slot-new, slot-copy}
use native.Mathlib.Omega.{arith}
use Rattle.std.proofs.Common.{sym, ap, ◌∙◌}
use Rattle.definition.specs.Base.{all}
use Rattle.definition.proofs.Chains.{slice-range}
use Rattle.copies.specs.Copies.{alike}
use Rattle.copies.proofs.agrees.Goals as goal

pub returns-then-place-eq0 : goal.returns-then-place-eq0
returns-then-place-eq0 c =
    let a = c.args in
    slot-new a.rows.now a.from a.to c.requires.to_in_bounds a.seq a.size a.place c.requires.slot c.if-place-eq0.true

pub offset_bounds-rows-place : goal.offset_bounds-rows-place
offset_bounds-rows-place c = omega (arith, c.requires.slot.1 (omega arith))

pub bounds-rows-place : goal.bounds-rows-place
bounds-rows-place c = omega (arith, c.requires.slot.1 (omega arith))

pub returns-then-row-seq : goal.returns-then-row-seq
returns-then-row-seq c =
    let a = c.args in
    slot-copy a.rows.now a.from a.to c.requires.to_in_bounds a.seq a.size a.place c.requires.rows_value c.requires.slot (omega arith) c.if-row-seq.true

pub returns : goal.returns
returns c = c.alike.ensures ∙ ap (all (alike c.args.seq c.args.size)) (sym (slice-range c.args.from c.args.to c.args.rows.now c.requires.from_le_to))
