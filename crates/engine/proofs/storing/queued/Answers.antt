use mathlib.Core.Path.{ap, ap₂, ◌∙◌}
use Prim.Native.Nat.{ℕ}
use native.Mathlib.Omega.{arith}
use lib.Seq.{slice}
use Rattle.definition.specs.Layout.{Row}
use Rattle.table.specs.Table.{place_of, insert_row}
use Rattle.engine.specs.Arrivals.{rows_in_order}
use Rattle.engine.proofs.storing.queued.Goals as goal

pub place_from_end-place-requires : goal.place_from_end-place-requires
place_from_end-place-requires c =
    let e = c.first_waiting.ensures in
    (omega (arith, e), c.requires.1, ap (λ (n : ℕ). rows_in_order (slice n c.args.d.used c.args.rows.now)) e ∙ c.requires.3)

pub returns : goal.returns
returns c =
    let a = c.args in
    let place = c.place_from_end-place.ensures ∙ ap (λ (n : ℕ). place_of n a.d.used a.e.seq a.rows.now) c.first_waiting.ensures in record { value = c.not_idle.ensures; subs_after = c.hold_back.ensures; rows_after = c.insert_row.ensures ∙ ap₂ (λ (n : ℕ) (r : Row). insert_row n a.d.used r a.rows.now) place c.held_row.ensures }
