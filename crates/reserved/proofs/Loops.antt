-- The loops over the reserved rows, a turn at a time. Assumes nothing.
use mathlib.Core.Path.{◌≡◌, sym, ap, ap₂, ◌∙◌}
use mathlib.Core.Bool.{false, not}
use mathlib.Core.List.{List, [], map}
use Prim.Native.Nat.{ℕ, ◌+◌, ◌-◌, ◌≤◌, ◌<◌}
use native.Mathlib.Omega.{arith}
use borrow.Author.Tests.{le-leb, lt-leb}
use lib.ListN.{length-drop, length, take, drop, get_or}
use lib.Seq.{length-take-le, get_or-take, get_or-drop, slice}
use Rattle.definition.specs.Base.{keep, empty}
use Rattle.definition.specs.Types.{Id, Audit, Held}
use Rattle.definition.specs.Destination.{held_by, reserved_of}
use Rattle.definition.specs.Layout.{Row, held_at, sub_rows}
use Rattle.definition.proofs.Tests.{if-true, if-false}
use Rattle.definition.proofs.Lists.{empty-map}
use Rattle.definition.proofs.Chains.{list_any-keep, slice-range}
use Rattle.std.specs.List.{list_any, slice_range}
use Rattle.table.proofs.Lists.{slice-take}
use Rattle.table.proofs.Segments.{keep-map}
use Rattle.state.specs.declared.Head.{Head}
use Rattle.state.specs.State.{head_view, first_reserved, first_waiting}
use Rattle.state.specs.Fits.{Fits}
use Rattle.reserved.specs.Reserved.{any_held, has_reserved}

-- ---- has_reserved

module _ (d : Head) (id : Id) (rows : List Row) where
  pub has_short : length rows < first_waiting d → has_reserved d id rows ≡ false
  unfolding has_reserved
  has_short h = if-false _ _ (lt-leb (first_waiting d) (length rows) h)

  pub has-long : first_waiting d ≤ length rows → has_reserved d id rows ≡ any_held id (slice (first_reserved d) (first_waiting d) rows)
  unfolding has_reserved
  has-long h = if-true _ _ (le-leb (first_waiting d) (length rows) h)

-- what `any` says of the rows in between
pub has-range : (d : Head) (id : Id) (rows : List Row) (from to : ℕ) → from ≡ first_reserved d → to ≡ first_waiting d → to ≤ length rows
    → list_any (λ w. held_by id (held_at w)) (slice_range rows from to) ≡ has_reserved d id rows
has-range d id rows from to ef et h =
    list_any-keep (λ w. held_by id (held_at w)) (slice_range rows from to)
    ∙ ap (any_held id) (sym (slice-range from to rows (omega arith)))
    ∙ ap₂ (λ (x y : ℕ). any_held id (slice x y rows)) ef et
    ∙ sym (has-long d id rows (omega arith))

-- ---- where the numbers fit, this is the view's

pub reserved-slice : (subs rows : List Row) (d : Head) (nrows events : ℕ) → Fits subs d nrows events
    → slice (first_reserved d) (first_waiting d) rows ≡ take d.reserved (drop (sub_rows (take d.consumers subs)) rows)
reserved-slice subs rows d nrows events f =
    let u = f.rows-used in
    let a : d.used - d.waiting - d.reserved ≡ sub_rows (take d.consumers subs) = omega arith in
    let b : d.used - d.waiting - (d.used - d.waiting - d.reserved) ≡ d.reserved = omega arith in
    slice-take (first_reserved d) (first_waiting d) rows (omega arith) ∙ (λ j. take (b j) (drop (a j) rows))

pub has-reserved-view : (subs rows : List Row) (d : Head) (events : ℕ) (id : Id) (producers : List Id) (audits : List Audit) → Fits subs d (length rows) events
    → has_reserved d id rows ≡ not (empty (reserved_of id (head_view d subs rows producers audits)))
unfolding head_view
has-reserved-view subs rows d events id producers audits f =
    let l : List Row = take d.reserved (drop (sub_rows (take d.consumers subs)) rows) in
    has-long d id rows (omega (arith, f.used, f.rows_long))
    ∙ ap (any_held id) (reserved-slice subs rows d (length rows) events f)
    ∙ sym (ap not (
    empty-map (λ (h : Held). h.entry) (keep (held_by id) (map held_at l))
    ∙ ap empty (keep-map held_at (held_by id) l)
    ∙ empty-map held_at (keep (λ w. held_by id (held_at w)) l)))

-- ---- the rows of `&rows[from..to]`, one by one

pub row_in : (rows : List Row) (from to k : ℕ) → k < to - from → get_or (slice_range rows from to) k [] ≡ get_or rows (from + k) []
row_in rows from to k h = get_or-take (to - from) (drop from rows) k [] h ∙ get_or-drop from rows k []

pub row_count : (rows : List Row) (from to : ℕ) → to ≤ length rows → length (slice_range rows from to) ≡ to - from
row_count rows from to h = length-take-le (to - from) (drop from rows) (omega (arith, length-drop from rows))
