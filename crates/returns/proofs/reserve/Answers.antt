use mathlib.Core.Path.{refl, ap, ◌∙◌}
use mathlib.Core.List.{List}
use Prim.Native.Nat.{ℕ, ◌-◌}
use lib.ListN.{set}
use Rattle.definition.specs.Layout.{Row}
use Rattle.table.specs.Table.{close_gap}
use Rattle.model.specs.Model.{id_of}
use Rattle.returns.specs.Returns.{held_for}
use Rattle.returns.proofs.Moving.{moves-reserved}
use Rattle.returns.proofs.reserve.Goals as goal

pub returns : goal.returns
returns c =
    let a = c.args in
    let o = c.requires.0 in
    let l = a.rows.now in
    let n = c.first_waiting-end in
    let x = c.reserved_row in
    let q = ap (λ (y : List Row). set y (n.result - 1) x.result) c.close_gap.ensures ∙ ap (λ (m : ℕ). set (close_gap a.from 1 m l) (m - 1) x.result) n.ensures in
    λ subs. moves-reserved a.from a.d subs l o _ _ x.result (held_for (id_of a.s.conn a.s.session a.s.value) a.e) x.ensures.0 x.ensures.1 refl q
