-- When anything is done, and what is promised of it. Assumes nothing.
use Rattle.std.specs.Prelude.{Some, None}
use mathlib.Core.Path.{◌≡◌, sym, ap}
use mathlib.Core.Bool.{true, false, and-false}
use mathlib.Core.List.{List, []}
use mathlib.Core.Option.{Option}
use Prim.Native.Nat.{ℕ, ◌≤◌, ◌<◌, ◌^◌}
use native.Mathlib.Omega.{arith}
use borrow.Author.Tests.{le-leb, lt-leb}
use lib.IntN.{ℤ}
use lib.ListN.{length, take}
use Rattle.definition.specs.Base.{is_some}
use Rattle.definition.specs.Types.{Id, Audit}
use Rattle.definition.specs.Types as Def
use Rattle.definition.specs.Destination.{sub_of}
use Rattle.definition.specs.Words.{kind_by}
use Rattle.definition.specs.Layout.{Row}
use Rattle.consumers.specs.Table.{position_from}
use Rattle.consumers.proofs.Seek.{found_at, found_none}
use Rattle.state.specs.declared.Head.{Head}
use Rattle.state.specs.State.{head_view}
use Rattle.state.specs.Fits.{fits, Fits}
use Rattle.state.specs.Leaves.{silent, Leaves}
use Rattle.state.proofs.Leaves.{leaves-as, leaves-rest}
use Rattle.returns.specs.Returns.{departed_at, departed, in_bounds}

module _ (now : ℕ) (subs : List Row) (d : Head) (rows events : ℕ) where
  pub bounds-late : 2 ^ 62 < now → in_bounds now subs d rows events ≡ false
  unfolding in_bounds
  bounds-late h = rw (lt-leb now (2 ^ 62) h) (and-false (fits subs d rows events))

  pub bounds-unfit : fits subs d rows events ≡ false → in_bounds now subs d rows events ≡ false
  unfolding in_bounds
  bounds-unfit h = rw h

  pub bounds-fit : fits subs d rows events ≡ true → now ≤ 2 ^ 62 → in_bounds now subs d rows events ≡ true
  unfolding in_bounds
  bounds-fit f h = rw (f, le-leb now (2 ^ 62) h)

-- the numbers fit the smallest event list too
pub fits-least : (subs : List Row) (d : Head) (rows events : ℕ) → Fits subs d rows events → Fits subs d rows 545
fits-least subs d rows events f = record {
  subs-long = f.subs-long;
  rows_long = f.rows_long;
  events-long = omega arith;
  consumers = f.consumers;
  turn = f.turn;
  reserved = f.reserved;
  waiting = f.waiting;
  used = f.used;
  sent = f.sent;
  calls = f.calls;
  enqueued = f.enqueued;
  dequeued = f.dequeued;
  expired = f.expired;
  discarded = f.discarded;
  dispatched = f.dispatched;
  rows-used = f.rows-used;
  fitted = f.fitted;
}

-- ---- whether a consumer is there

module _ (id : Id) (d : Head) (subs : List Row) where
  pub present-yes : (i : ℕ) → position_from 0 id (take d.consumers subs) ≡ Some i → (rows : List Row) (p : List Id) (u : List Audit) → true ≡ is_some (sub_of id (head_view d subs rows p u))
  unfolding head_view
  present-yes i e rows p u = sym (ap is_some (found_at id (take d.consumers subs) i e (kind_by d.queue) rows))

  pub present-no : position_from 0 id (take d.consumers subs) ≡ None → (rows : List Row) (p : List Id) (u : List Audit) → false ≡ is_some (sub_of id (head_view d subs rows p u))
  unfolding head_view
  present-no e rows p u = sym (ap is_some (found_none id (take d.consumers subs) e (kind_by d.queue) rows))

  -- one that is not there does not leave
  pub leaves-absent : (now : ℕ) (last : ℤ) (rows events : List Row) → Fits subs d (length rows) (length events) → position_from 0 id (take d.consumers subs) ≡ None
      → Leaves (silent (departed now id last)) d d subs rows events subs rows events
  unfolding head_view
  leaves-absent now last rows events f e =
      leaves-as (silent (λ t. t)) (silent (departed now id last)) d d subs rows events subs rows events
      (λ p u _. ap (λ (o : Option Def.Sub). record { dest = departed_at now id last (head_view d subs rows p u) o; events = [] }) (sym (found_none id (take d.consumers subs) e (kind_by d.queue) rows)))
      (leaves-rest d subs rows events (record { consumers = f.consumers; used = f.used; rows-used = f.rows-used }))
