use mathlib.Core.Path.{sym, ◌∙◌}
use native.Mathlib.Omega.{arith}
use Rattle.engine.proofs.Used.{held-part, held-last, held-not-last}
use Rattle.engine.proofs.storing.is_queued.Goals as goal

pub has_number-requires : goal.has_number-requires
has_number-requires c = c.requires

pub returns-then-has_number : goal.returns-then-has_number
returns-then-has_number c =
    let a = c.args in
    let p = c.requires in
    sym (held-last a.first a.used a.seq a.rows.now p.0 (sym c.has_number.ensures ∙ c.if-has_number.true))

pub returns : goal.returns
returns c =
    let a = c.args in
    let p = c.requires in
    c.has_seq.ensures
    ∙ held-part 0 a.first a.seq a.rows.now (omega arith) (omega (arith, p.0, p.1))
    ∙ sym (held-not-last a.first a.used a.seq a.rows.now p.0 (sym c.has_number.ensures ∙ c.if-has_number.false))
