use mathlib.Core.Path.{sym, ap, ◌∙◌}
use Prim.Native.Nat.{ℕ}
use native.Mathlib.Nat.{zero-add}
use lib.ListN.{take}
use Rattle.definition.specs.Base.{distinct}
use Rattle.sound.proofs.Rising.{head_apart}
use Rattle.sound.proofs.rows_apart.Goals as goal

pub returns-then-rows_rise : goal.returns-then-rows_rise
returns-then-rows_rise c =
    let a = c.args in
    let g = c.min-head in
    sym (head_apart a.rows.now a.from a.n a.k g.result c.requires.n_in_bounds c.requires.k_le_n g.ensures c.requires.rows_value (sym c.rows_rise.ensures ∙ c.if-rows_rise.true))

pub returns : goal.returns
returns c =
    let g = c.gather in
    let a = c.args in
    c.distinct.ensures ∙ ap (λ (k : ℕ). distinct (take k g.new.out)) (sym (zero-add a.n)) ∙ ap distinct g.ensures
