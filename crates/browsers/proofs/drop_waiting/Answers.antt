use mathlib.Core.Path.{ap, ◌∙◌}
use mathlib.Core.List.{List}
use Prim.Native.Nat.{ℕ}
use native.Mathlib.Omega.{arith}
use Rattle.definition.specs.Layout.{Row}
use Rattle.table.specs.Table.{has_seq, remove_rows, removed_rows}
use Rattle.browsers.specs.Serving.{dropped}
use Rattle.browsers.proofs.Dropped.{gone-few}
use Rattle.browsers.proofs.drop_waiting.Goals as goal

pub overflow_sub-d : goal.overflow_sub-d
overflow_sub-d c =
    let a = c.args in
    let pre = c.requires in
    let few = gone-few a.seq a.d a.rows.now _ _ c.first_waiting-from.ensures c.remove_seq-gone.ensures.value pre.0 (omega (arith, pre.1, pre.2)) in
    omega (arith, few, pre.0)

pub overflow_sub-d-2 : goal.overflow_sub-d-2
overflow_sub-d-2 c =
    let a = c.args in
    let pre = c.requires in
    gone-few a.seq a.d a.rows.now _ _ c.first_waiting-from.ensures c.remove_seq-gone.ensures.value pre.0 (omega (arith, pre.1, pre.2))

pub returns : goal.returns
returns c =
    let a = c.args in
    let rows : List Row = a.rows.now in
    let from = c.first_waiting-from.ensures in
    let out = c.remove_seq-gone.ensures in record { value = c.count_expired.ensures ∙ ap (λ (k : ℕ). dropped k a.d) (out.value ∙ ap (λ (n : ℕ). removed_rows (has_seq a.seq) n a.d.used a.d.used rows) from); rows_after = out.rows_after ∙ ap (λ (n : ℕ). remove_rows (has_seq a.seq) n a.d.used a.d.used rows) from }
