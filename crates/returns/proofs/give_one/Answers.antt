use mathlib.Core.Path.{◌≡◌, ap, ◌∙◌}
use mathlib.Core.List.{[]}
use borrow.Author.Tests.{eq-eqb, ne_eqb}
use lib.IntN.{ℤ}
use lib.ListN.{get_or}
use mir.Syntax.{w64}
use mir.Val.{to_z, of_z}
use mir.ValLaws.{to_z-of_z}
use Rattle.model.specs.Model.{id_of}
use Rattle.definition.specs.Words.{at}
use Rattle.returns.specs.Returns.{given_back}
use Rattle.returns.proofs.Giving.{moves-tx, moves-no-tx}
use Rattle.returns.proofs.give_one.Goals as goal

pub returns-then-row-ne0 : goal.returns-then-row-ne0
returns-then-row-ne0 c =
    let a = c.args in
    let row = get_or a.rows.now a.base [] in
    moves-tx a.clock a.last (id_of a.s.conn a.s.session a.s.value) a.base a.d _ a.subs.now a.rows.now a.subs.now _ row _ c.entry_of-e.ensures (rw (ne_eqb (at 8 row) 0 c.if-row-ne0.true)) (c.reserve.ensures a.subs.now)

pub returns : goal.returns
returns c =
    let a = c.args in
    let row = get_or a.rows.now a.base [] in
    let z : to_z w64 (of_z w64 a.last) ≡ a.last = to_z-of_z w64 a.last c.ranges.last in
    let e = c.given_back.ensures ∙ ap (λ (x : ℤ). given_back x c.entry_of-e.result) z ∙ ap (given_back a.last) c.entry_of-e.ensures in
    moves-no-tx a.clock a.last (id_of a.s.conn a.s.session a.s.value) a.base a.d _ a.subs.now a.rows.now _ _ row _ e (rw (eq-eqb (at 8 row) 0 c.if-row-ne0.false)) c.put_back.ensures.moves
