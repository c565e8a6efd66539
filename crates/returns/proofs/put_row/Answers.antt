use mathlib.Core.Path.{◌≡◌, refl, sym, ap, ◌∙◌}
use mathlib.Core.List.{List, []}
use Prim.Native.Nat.{ℕ, ◌-◌, ◌<◌}
use native.Mathlib.Omega.{arith}
use borrow.Author.Rules.{rules}
use borrow.Author.Tests.{ltb-true}
use lib.Dec.{ltb, eqb}
use lib.ListN.{length, get_or, set, length-set}
use Rattle.definition.specs.Layout.{Row}
use Rattle.definition.proofs.Tests.{and_left}
use Rattle.table.specs.Table.{place_of, close_gap}
use Rattle.table.proofs.Laws.{close-length}
use Rattle.returns.proofs.Placing.{place, place-bounds, placed-over, placed-new}
use Rattle.returns.proofs.put_row.Goals as goal

pub offset_bounds-rows-place : goal.offset_bounds-rows-place
offset_bounds-rows-place c =
    let o = c.requires in
    let a = c.args in
    let x = c.place_of-place.result in
    let h : x < a.d.used = ltb-true x a.d.used (and_left (ltb x a.d.used) (eqb (get_or (get_or a.rows.now x []) 0 0) a.e.seq) (sym c.waits_at.ensures ∙ c.if-waits_at.true)) in
    record { fits = omega (arith, h, o.used) }

pub bounds-rows-place : goal.bounds-rows-place
bounds-rows-place c =
    let o = c.requires in
    let a = c.args in
    let x = c.place_of-place.result in
    let h : x < a.d.used = ltb-true x a.d.used (and_left (ltb x a.d.used) (eqb (get_or (get_or a.rows.now x []) 0 0) a.e.seq) (sym c.waits_at.ensures ∙ c.if-waits_at.true)) in
    let g : c.place_of-place.result < length c.args.rows.now = omega (arith, h, o.used, o.long) in
    search rules

pub shape_of-rows-then-waits_at : goal.shape_of-rows-then-waits_at
shape_of-rows-then-waits_at c =
    ap length c.close_gap.ensures ∙ close-length _ _ _ _ ∙ length-set c.args.rows.now c.place_of-place.result c.waiting_row-row.result

pub returns-then-waits_at : goal.returns-then-waits_at
returns-then-waits_at c =
    let a = c.args in
    let o = c.requires in
    let at : c.place_of-place.result ≡ place a.from a.e a.d a.rows.now o = c.place_of-place.ensures ∙ ap (λ (n : ℕ). place_of n a.d.used a.e.seq a.rows.now) c.first_waiting.ensures in
    let w = rw at at (sym c.waits_at.ensures ∙ c.if-waits_at.true) in
    let q = c.close_gap.ensures ∙ ap (λ (n : ℕ). close_gap a.from 1 a.d.used (set a.rows.now n c.waiting_row-row.result)) at in
    placed-over a.from a.e a.d a.rows.now o c.waiting_row-row.result c.waiting_row-row.ensures.0 c.waiting_row-row.ensures.1 _ _ w refl q

pub overflow_sub-row : goal.overflow_sub-row
overflow_sub-row c =
    let a = c.args in
    let o = c.requires in
    let b = place-bounds a.from a.e a.d a.rows.now o in
    let at : c.place_of-place.result ≡ place a.from a.e a.d a.rows.now o = c.place_of-place.ensures ∙ ap (λ (n : ℕ). place_of n a.d.used a.e.seq a.rows.now) c.first_waiting.ensures in
    omega (arith, b, at)

pub offset_bounds-rows-place-2 : goal.offset_bounds-rows-place-2
offset_bounds-rows-place-2 c =
    let a = c.args in
    let o = c.requires in
    let b = place-bounds a.from a.e a.d a.rows.now o in
    let at : c.place_of-place.result ≡ place a.from a.e a.d a.rows.now o = c.place_of-place.ensures ∙ ap (λ (n : ℕ). place_of n a.d.used a.e.seq a.rows.now) c.first_waiting.ensures in
    record { fits = omega (arith, b, at, o.used) }

pub bounds-rows-place-2 : goal.bounds-rows-place-2
bounds-rows-place-2 c =
    let a = c.args in
    let o = c.requires in
    let b = place-bounds a.from a.e a.d a.rows.now o in
    let at : c.place_of-place.result ≡ place a.from a.e a.d a.rows.now o = c.place_of-place.ensures ∙ ap (λ (n : ℕ). place_of n a.d.used a.e.seq a.rows.now) c.first_waiting.ensures in
    let e = ap length c.close_gap-2.ensures ∙ close-length _ _ _ _ in
    search rules

pub returns : goal.returns
returns c =
    let a = c.args in
    let o = c.requires in
    let at : c.place_of-place.result ≡ place a.from a.e a.d a.rows.now o = c.place_of-place.ensures ∙ ap (λ (n : ℕ). place_of n a.d.used a.e.seq a.rows.now) c.first_waiting.ensures in
    let w = rw at at (sym c.waits_at.ensures ∙ c.if-waits_at.false) in
    let q = ap (λ (l : List Row). set l (c.place_of-place.result - 1) c.waiting_row-row.result) c.close_gap-2.ensures
    ∙ ap (λ (n : ℕ). set (close_gap a.from 1 n a.rows.now) (n - 1) c.waiting_row-row.result) at in
    placed-new a.from a.e a.d a.rows.now o c.waiting_row-row.result c.waiting_row-row.ensures.0 c.waiting_row-row.ensures.1 _ _ w refl q
