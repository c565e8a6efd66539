-- An entry that is counted and then stored by the kind, as `store` promises it. Assumes nothing.
use mathlib.Core.Path.{◌≡◌, refl, sym, ap, ◌∙◌, subst}
use mathlib.Core.Bool.{true, false}
use mathlib.Core.List.{List}
use Prim.Native.Nat.{ℕ, ◌≤◌, ◌<◌, ◌^◌}
use native.Mathlib.Omega.{arith}
use Rattle.stats.specs.declared.Stats.{Stats}
use Rattle.stats.specs.Counted.{top, with_enqueued}
use Rattle.entry.specs.Entry.{row_of}
use Rattle.definition.specs.Types.{Kind, queue, topic, Id, Entry, Audit, Dest}
use Rattle.definition.specs.Layout.{Row}
use Rattle.table.specs.Table.{place_of, insert_row}
use Rattle.consumers.specs.Table.{on_first, held_back_row}
use Rattle.state.specs.declared.Head.{Head}
use Rattle.state.specs.State.{head_view, kind_by, with_counters, first_waiting}
use Rattle.state.specs.Leaves.{silent, Leaves}
use Rattle.state.proofs.Counts.{enqueued-view}
use Rattle.engine.specs.Storing.{queued_head, stored_by, kept, waits_counted, spread}
use Rattle.engine.specs.Arrivals.{Arrives, Arrived}
use Rattle.engine.proofs.Queue.{queued-arrived}

-- what f means with other counters, g means with these
leaves-counted : (f g : Dest → Dest) (s : Stats) (d r : Head) (subs rows events subs' rows' events' : List Row)
    → ((producers : List Id) (audits : List Audit) → f (head_view (with_counters s d) subs rows producers audits) ≡ g (head_view d subs rows producers audits))
    → Leaves (silent f) (with_counters s d) r subs rows events subs' rows' events' → Leaves (silent g) d r subs rows events subs' rows' events'
leaves-counted f g s d r subs rows events subs' rows' events' same l = record {
  view = λ ps qs k. l.view ps qs k ∙ same ps qs;
  sent = l.sent;
  later = l.later;
  more = l.more;
  producers = l.producers;
  audits = l.audits;
  queue = l.queue;
  allowance = l.allowance;
  share = l.share;
  consumers = l.consumers;
  used = l.used;
  rows-used = l.rows-used;
  strict = l.strict;
  subs-past = l.subs-past;
  rows-past = l.rows-past;
  subs-length = l.subs-length;
  rows-length = l.rows-length;
  events-length = l.events-length;
}

-- the entry is counted, and then stored by the kind
module _ (now : ℕ) (e : Entry) (d : Head) (subs rows : List Row) (h : d.stats.enqueued < top) (producers : List Id) (audits : List Audit) where
  kind-is : (head_view d subs rows producers audits).kind ≡ kind_by d.queue
  unfolding head_view
  kind-is = refl

  by_kind : (k : Kind) → kind_by d.queue ≡ k → stored_by now e (head_view d subs rows producers audits) k ≡ kept now e (head_view d subs rows producers audits)
  by_kind k q = ap (stored_by now e (head_view d subs rows producers audits)) (sym (kind-is ∙ q))

  counted-queue : d.queue ≡ true → waits_counted e (head_view (with_counters (with_enqueued d.stats) d) subs rows producers audits) ≡ kept now e (head_view d subs rows producers audits)
  counted-queue q = ap (waits_counted e) (enqueued-view subs rows producers audits d h) ∙ by_kind queue (ap kind_by q)

  counted-topic : d.queue ≡ false → spread now e (head_view (with_counters (with_enqueued d.stats) d) subs rows producers audits) ≡ kept now e (head_view d subs rows producers audits)
  counted-topic q = ap (spread now e) (enqueued-view subs rows producers audits d h) ∙ by_kind topic (ap kind_by q)

-- ---- as it is stored

abbrev pub counted : Head → Head
counted d = with_counters (with_enqueued d.stats) d

module _ (now : ℕ) (e : Entry) (d : Head) (subs rows : List Row) (a : Arrives e d subs rows) (room : d.stats.enqueued ≤ 2 ^ 62) where
  few : d.stats.enqueued < top
  few = omega (arith, room)

  pub arrives : Arrives e (counted d) subs rows
  arrives = record {
    row = a.row;
    subs-long = a.subs-long;
    rows_long = a.rows_long;
    consumers = a.consumers;
    room = a.room;
    expired = a.expired;
    discarded = a.discarded;
    rows-used = a.rows-used;
    absent = a.absent;
    order = record { waiting = a.order.waiting; held = a.order.held };
  }

  module _ (r : Head) (subs' rows' : List Row) where
    by : (f : Dest → Dest) → ((producers : List Id) (audits : List Audit) → f (head_view (counted d) subs rows producers audits) ≡ kept now e (head_view d subs rows producers audits))
        → Arrived f (counted d) r subs rows subs' rows' → Arrived (kept now e) d r subs rows subs' rows'
    by f same x events = (leaves-counted f (kept now e) (with_enqueued d.stats) d r subs rows events subs' rows' events same (x events).0, record { room = (x events).1.room; as_many = (x events).1.as_many })

    pub stored-topic : (h : Head) → h ≡ counted d → d.queue ≡ false → Arrived (spread now e) h r subs rows subs' rows' → Arrived (kept now e) d r subs rows subs' rows'
    stored-topic h p q x =
        by (spread now e) (λ ps qs. counted-topic now e d subs rows few ps qs q) (subst (λ (z : Head). Arrived (spread now e) z r subs rows subs' rows') p x)

    pub stored-queue : d.queue ≡ true → r ≡ queued_head (counted d) → subs' ≡ on_first (held_back_row e.seq) d.consumers subs
        → rows' ≡ insert_row (place_of (first_waiting d) d.used e.seq rows) d.used (row_of e 0 0 0) rows → Arrived (kept now e) d r subs rows subs' rows'
    stored-queue q p o l = by (waits_counted e) (λ ps qs. counted-queue now e d subs rows few ps qs q) (rw (p, o, l) (queued-arrived e (counted d) subs rows arrives q))
