-- A consumer stored again in its place, with as many rows as before: what the tables then hold, that the numbers still fit, and what a call
-- leaves that does no more than this and send events. Assumes nothing.
use Rattle.std.specs.Prelude.{Some, None}
use mathlib.Core.Path.{◌≡◌, refl, sym, ap, ap₂, ◌∙◌}
use mathlib.Core.Bool.{Bool, true}
use mathlib.Core.List.{List, [], ◌++◌, append-nil, map}
use mathlib.Core.Option.{none, some}
use Prim.Native.Nat.{ℕ, suc, ◌+◌, ◌≤◌, ◌<◌}
use native.Mathlib.Omega.{arith}
use borrow.Author.Tests.{le-leb}
use lib.ListN.{length, take, drop, get_or, set, length-set}
use lib.Seq.{length-take-le, get_or-take, take-set-lt, drop-set-lt}
use Rattle.entry.specs.Entry.{entry_of}
use Rattle.definition.specs.Base.{all}
use Rattle.definition.specs.Types.{Kind, Id, Audit, Dest, Event}
use Rattle.definition.specs.Destination as Destination
use Rattle.definition.specs.Destination.{Out, put_sub}
use Rattle.definition.specs.Layout.{Row, held_at, inflight_count, held_count, subs_at, sub_rows, entry_strict, subs_strict, event_words}
use Rattle.definition.proofs.Tests.{and_both}
use Rattle.definition.proofs.Lists.{all-stored, all-at}
use Rattle.consumers.specs.declared.Sub.{Sub}
use Rattle.consumers.specs.Consumers.{row_sub, sub_words, sub_view}
use Rattle.consumers.specs.Seats.{flying_in, held_in}
use Rattle.consumers.specs.Table.{position_from, fitting}
use Rattle.consumers.proofs.View.{sub_at_lem, sub-stored, inflight-stored, held-stored, inflight-loaded, held-loaded, rows_split, rows-set, subs-reword}
use Rattle.consumers.proofs.Seek.{position-within, found_at, put-at, found_none}
use Rattle.consumers.proofs.Laws.{fitting-at}
use Rattle.consumers.proofs.Strict.{stored-strict, strict-reword, tables-strict, strict-tables}
use Rattle.state.specs.declared.Head.{Head}
use Rattle.state.specs.State.{head_view, kind_by, strict_tables, with_events}
use Rattle.state.specs.Fits.{fits}
use Rattle.state.specs.Leaves.{Leaves}
use Rattle.state.proofs.Fitting.{fits-facts, facts-fit}

-- ---- counts within the tables

pub record Within (subs : List Row) (d : Head) : Type 0 where
  pub subs-long : 32 ≤ length subs
  pub consumers : d.consumers ≤ 32
  pub used : d.used ≤ 512
  pub rows-used : sub_rows (take d.consumers subs) + (d.reserved + d.waiting) ≡ d.used

pub within-fits : (subs : List Row) (d : Head) (rows events : ℕ) → fits subs d rows events ≡ true → Within subs d
within-fits subs d rows events h =
    let f = fits-facts subs d rows events h in
    record { subs-long = f.subs-long; consumers = f.consumers; used = f.used; rows-used = f.rows-used }

-- nothing is changed, and nothing is to be
pub leaves-same : (f : Dest → Out) (d : Head) (subs rows events : List Row) → Within subs d
    → ((ps : List Id) (qs : List Audit) → f (head_view d subs rows ps qs) ≡ record { dest = head_view d subs rows ps qs; events = [] })
    → Leaves f d d subs rows events subs rows events
leaves-same f d subs rows events w says = record {
  view = λ ps qs _. sym (ap (λ (o : Out). o.dest) (says ps qs));
  sent = λ ps qs _. sym (ap (λ (o : Out). take d.events events ++ map event_words o.events) (says ps qs) ∙ append-nil (take d.events events));
  later = refl;
  more = omega arith;
  producers = refl;
  audits = refl;
  queue = refl;
  allowance = refl;
  share = refl;
  consumers = w.consumers;
  used = w.used;
  rows-used = w.rows-used;
  strict = λ h. h;
  subs-past = refl;
  rows-past = refl;
  subs-length = refl;
  rows-length = refl;
  events-length = refl;
}

-- ---- no such consumer

pub none-view : (d : Head) (subs rows : List Row) (id : Id) → position_from 0 id (take d.consumers subs) ≡ None
    → (ps : List Id) (qs : List Audit) → Destination.sub_of id (head_view d subs rows ps qs) ≡ none
unfolding head_view
none-view d subs rows id e ps qs = found_none id (take d.consumers subs) e (kind_by d.queue) rows

-- ---- the consumer with an identifier, at its place

module _ (d : Head) (subs rows : List Row) (id : Id) (i : ℕ) (long : d.consumers ≤ length subs) (e : position_from 0 id (take d.consumers subs) ≡ Some i) where
  abbrev ws : List Row
  ws = take d.consumers subs

  abbrev k : Kind
  k = kind_by d.queue

  -- its words, and its rows
  abbrev pub own : Sub
  own = row_sub (get_or subs i [])

  abbrev pub own_flying : List Row
  own_flying = flying_in ws rows i

  abbrev pub own_held : List Row
  own_held = held_in ws rows i

  here : i < length ws
  here = position-within id ws i e

  less : i < d.consumers
  less = omega (arith, here, length-take-le d.consumers subs long)

  row_is : get_or ws i [] ≡ get_or subs i []
  row_is = get_or-take d.consumers subs i [] less

  pub own_view_lem : (ps : List Id) (qs : List Audit) → Destination.sub_of id (head_view d subs rows ps qs) ≡ some (sub_view k own own_flying own_held)
  unfolding head_view
  own_view_lem ps qs = found_at id ws i e k rows ∙ ap some (sub_at_lem k (get_or ws i []) own_flying own_held ∙ ap (λ (w : Row). sub_view k (row_sub w) own_flying own_held) row_is)

  pub own-fitting : all fitting ws ≡ true → (own.freed ≤ own.inflight) × (own.next_dseq ≤ 72057594037927937) × (own.generation ≤ 72057594037927937)
  unfolding row_sub
  own-fitting h = rw row_is at (fitting-at ws i h here)

  pub own-test : (p : Row → Bool) → all p ws ≡ true → p (get_or subs i []) ≡ true
  own-test p h = ap p (sym row_is) ∙ all-at p ws i [] h here

  -- another in its place
  module _ (s : Sub) (f : s.inflight ≡ own.inflight) (h : s.held ≡ own.held) where
    abbrev subs' : List Row
    subs' = set subs i (sub_words s)

    table_is : take d.consumers subs' ≡ set ws i (sub_words s)
    table_is = take-set-lt d.consumers subs i (sub_words s) less

    flying-same : inflight_count (sub_words s) ≡ inflight_count (get_or ws i [])
    flying-same = inflight-stored s ∙ f ∙ inflight-loaded (get_or subs i []) ∙ ap inflight_count (sym row_is)

    held_same : held_count (sub_words s) ≡ held_count (get_or ws i [])
    held_same = held-stored s ∙ h ∙ held-loaded (get_or subs i []) ∙ ap held_count (sym row_is)

    rows_same : sub_rows (take d.consumers subs') ≡ sub_rows ws
    rows_same =
        ap sub_rows table_is
        ∙ rows-set ws i (sub_words s) here
        ∙ ap₂ (λ (m n : ℕ). sub_rows (take i ws) + (m + (n + sub_rows (drop (suc i) ws)))) flying-same held_same
        ∙ sym (rows_split ws i here)

    subs-are : subs_at k (take d.consumers subs') rows ≡ (put_sub id (sub_view k s own_flying own_held) (head_view d subs rows [] [])).subs
    unfolding head_view
    subs-are =
        ap (λ (l : List Row). subs_at k l rows) table_is
        ∙ subs-reword k ws rows i (sub_words s) here flying-same held_same
        ∙ ap (set (subs_at k ws rows) i) (sub-stored k s own_flying own_held)
        ∙ sym (put-at id ws i e k rows (sub_view k s own_flying own_held))

    -- the tables hold it in the place of the consumer
    pub put_view : (ps : List Id) (qs : List Audit) → head_view d subs' rows ps qs ≡ put_sub id (sub_view k s own_flying own_held) (head_view d subs rows ps qs)
    unfolding head_view
    put_view ps qs = λ j. record {
      kind = k;
      topic_limit = d.topic_limit;
      call_limit = d.call_limit;
      allowance = d.allowance;
      share = d.share;
      calls_used = d.calls_used;
      pending = map entry_of (take d.waiting (drop d.reserved (drop (rows_same j) rows)));
      subs = subs-are j;
      rr = d.turn;
      producers = ps;
      audits = qs;
      stats = d.stats;
      idle = (head_view d subs rows ps qs).idle;
      reserved = map held_at (take d.reserved (drop (rows_same j) rows));
    }

    -- strict words stay strict
    strict_same : strict_tables d subs rows ≡ true → strict_tables d subs' rows ≡ true
    strict_same t =
        let n : ℕ = d.reserved + d.waiting in
        let o = tables-strict n ws rows t in
        strict-tables n (take d.consumers subs') rows (record {
          subs = ap (λ (l : List Row). subs_strict l rows) table_is ∙ strict-reword ws rows i (sub_words s) here flying-same held_same (stored-strict s) o.subs;
          others = ap (λ (m : ℕ). all entry_strict (take n (drop m rows))) rows_same ∙ o.others;
        })

    -- the numbers still fit
    pub put-fits : (r v : ℕ) → fits subs d r v ≡ true → s.freed ≡ own.freed → s.next_dseq ≡ own.next_dseq → s.generation ≤ 72057594037927937 → fits subs' d r v ≡ true
    unfolding fitting sub_words
    put-fits r v t p q g =
        let x = fits-facts subs d r v t in
        let o = own-fitting x.fitted in
        let one : fitting (sub_words s) ≡ true =
        and_both _ _ (le-leb s.freed s.inflight (omega arith)) (and_both _ _ (le-leb s.next_dseq 72057594037927937 (omega arith)) (le-leb s.generation 72057594037927937 g)) in
        facts-fit subs' d r v (record {
          subs-long = simp length-set x.subs-long;
          rows_long = x.rows_long;
          events-long = x.events-long;
          consumers = x.consumers;
          turn = x.turn;
          reserved = x.reserved;
          waiting = x.waiting;
          used = x.used;
          sent = x.sent;
          calls = x.calls;
          enqueued = x.enqueued;
          dequeued = x.dequeued;
          expired = x.expired;
          discarded = x.discarded;
          dispatched = x.dispatched;
          rows-used = ap (λ (n : ℕ). n + (d.reserved + d.waiting)) rows_same ∙ x.rows-used;
          fitted = ap (all fitting) table_is ∙ all-stored fitting ws i (sub_words s) x.fitted one;
        })

    -- what is left, with so many events sent
    pub leaves-put : (g : Dest → Out) (sends : List Event) (n : ℕ) (events events' : List Row) → Within subs d
        → ((t : Dest) → Destination.sub_of id t ≡ some (sub_view k own own_flying own_held) → g t ≡ record { dest = put_sub id (sub_view k s own_flying own_held) t; events = sends })
        → d.events ≤ n → take n events' ≡ take d.events events ++ map event_words sends → drop n events' ≡ drop n events → length events' ≡ length events
        → Leaves g d (with_events n d) subs rows events subs' rows events'
    unfolding head_view
    leaves-put g sends n events events' w says more up later same =
        let means : (ps : List Id) (qs : List Audit) → g (head_view d subs rows ps qs) ≡ record { dest = put_sub id (sub_view k s own_flying own_held) (head_view d subs rows ps qs); events = sends } =
        λ ps qs. says (head_view d subs rows ps qs) (own_view_lem ps qs) in
        record {
          view = λ ps qs _. put_view ps qs ∙ sym (ap (λ (o : Out). o.dest) (means ps qs));
          sent = λ ps qs _. up ∙ sym (ap (λ (o : Out). take d.events events ++ map event_words o.events) (means ps qs));
          later = later;
          more = more;
          producers = refl;
          audits = refl;
          queue = refl;
          allowance = refl;
          share = refl;
          consumers = w.consumers;
          used = w.used;
          rows-used = ap (λ (m : ℕ). m + (d.reserved + d.waiting)) rows_same ∙ w.rows-used;
          strict = strict_same;
          subs-past = drop-set-lt 32 subs i (sub_words s) (omega (arith, less, w.consumers));
          rows-past = refl;
          subs-length = length-set subs i (sub_words s);
          rows-length = refl;
          events-length = same;
        }
