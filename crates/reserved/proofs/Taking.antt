-- The rows that are taken out of the reserved ones, and what that leaves of the destination. Assumes nothing.
use mathlib.Core.Path.{◌≡◌, refl, sym, ap, ap₂, ◌∙◌, subst}
use mathlib.Core.Bool.{Bool, true, false, not}
use mathlib.Core.List.{List, [], ◌∷◌, ◌++◌, map, append-nil}
use mathlib.Core.Option.{Option, none, some}
use Prim.Native.Nat.{ℕ, ◌+◌, ◌-◌, ◌≤◌}
use native.Mathlib.Omega.{arith}
use lib.ListN.{length, take, drop, length-drop, length-map, take-append-drop}
use lib.Seq.{slice, length-slice, length-take-le, take-add, take_at, drop_at}
use Rattle.stats.specs.declared.Stats.{Stats}
use Rattle.stats.specs.Counted.{with_dequeued_by, with_expired_by}
use Rattle.model.specs.declared.AckCount.{AckCount}
use Rattle.model.specs.declared.AckCount.TheVariants.{Uncounted, Dequeue, Expiry, DeadLetter}
use Rattle.model.specs.declared.AckRule.{AckRule}
use Rattle.model.specs.Model.{ack_rule}
use Rattle.entry.specs.Entry.{entry_of}
use Rattle.definition.specs.Base.{whether◌then◌else◌, keep, tally, all}
use Rattle.definition.specs.Types.{Kind, Id, Entry, Held, Audit, Event, Dest, letter}
use Rattle.definition.specs.Consumer.{◌⊕◌, Ack, add_dequeued, add_expired, add_discarded}
use Rattle.definition.specs.Destination.{Out, letters, ack_reserved}
use Rattle.definition.specs.Layout.{Row, held_at, subs_at, sub_rows, event_words, entry_strict}
use Rattle.definition.proofs.Thin.{tally-length}
use Rattle.definition.proofs.Lists.{all_append, all_keep, keep-count, tally-keep}
use Rattle.definition.proofs.Local.{⊕-zero}
use Rattle.table.specs.Table.{remove_rows}
use Rattle.table.proofs.Laws.{remove-length, remove-after, remove-parts}
use Rattle.table.proofs.Segments.{tally-map, keep-map, kept-length}
use Rattle.consumers.proofs.View.{subs-agree}
use Rattle.consumers.proofs.Strict.{all_left, all_right, strict-agree, tables-strict, strict-tables}
use Rattle.state.specs.declared.Head.{Head}
use Rattle.state.specs.State.{head_view, strict_tables, kind_by, with_counters, with_used, with_events, with_reserved_count, first_reserved, first_waiting}
use Rattle.state.specs.Fits.{Fits}
use Rattle.state.specs.Leaves.{Leaves, Room}
use Rattle.state.proofs.Counts.{dequeued-plain, expired-plain}
use Rattle.table.specs.declared.Span.{Span}
use Rattle.acks.specs.Parts.{Told, row_letters, row_discards}
use Rattle.reserved.specs.Reserved.{wants, wants_row, wanted_of, taken_counts, taken_events, taking, told_counts, told_events, counted_head, Holding}
use Rattle.reserved.proofs.Loops.{reserved-slice}
use Rattle.reserved.proofs.Types.{takes-reserved}

-- ---- lists

letters-rows : (l : List Row) → letters (map (λ (h : Held). h.entry) (map held_at l)) ≡ row_letters false l
letters-rows [] = refl
letters-rows (r ∷ l) = ap (λ (x : List Event). whether (entry_of r).persistent then letter (entry_of r).seq (entry_of r).redelivery false ∷ x else x) (letters-rows l)

-- ---- told and counted

module _ (id : Id) (p : Span) (l : List Row) where
  abbrev taken : List Entry
  taken = map (λ (h : Held). h.entry) (keep (wants id p) (map held_at l))

  taken-rows : taken ≡ map (λ (h : Held). h.entry) (map held_at (keep (wants_row id p) l))
  unfolding wants_row
  taken-rows = ap (map (λ (h : Held). h.entry)) (keep-map held_at (wants id p) l)

  taken-size : length taken ≡ tally (wants_row id p) l
  taken-size =
      ap length taken-rows
      ∙ length-map (map held_at (keep (wants_row id p) l)) (λ (h : Held). h.entry)
      ∙ length-map (keep (wants_row id p) l) held_at
      ∙ keep-count (wants_row id p) l

  taken-discards : tally (λ e. not e.persistent) taken ≡ row_discards (wants_row id p) l
  taken-discards =
      ap (tally (λ e. not e.persistent)) taken-rows
      ∙ tally-map (λ (h : Held). h.entry) (λ e. not e.persistent) (map held_at (keep (wants_row id p) l))
      ∙ tally-map held_at (λ (h : Held). not h.entry.persistent) (keep (wants_row id p) l)
      ∙ tally-keep (wants_row id p) (λ r. not (entry_of r).persistent) l

  events-are : (c : AckCount) → told_events c (keep (wants_row id p) l) ≡ taken_events c taken
  events-are Uncounted = refl
  events-are Dequeue = refl
  events-are Expiry = refl
  events-are DeadLetter = sym (ap letters taken-rows ∙ letters-rows (keep (wants_row id p) l))

  -- the counters, told and then counted
  stats-are : (c : AckCount) (s : Stats) (d : Head) (n : ℕ) → n ≡ tally (wants_row id p) l → n ≤ 512 → d.stats ≡ s ⊕ told_counts c (wants_row id p) l → s.dequeued ≤ 4611686018427387904 → s.expired ≤ 4611686018427387904
      → (counted_head c n d).stats ≡ s ⊕ taken_counts c taken
  stats-are Uncounted s d n e few q hd he = q
  stats-are Dequeue s d n e few q hd he =
      let x : d.stats ≡ s = q ∙ ⊕-zero s in
      ap (λ (y : Stats). with_dequeued_by y n) x ∙ dequeued-plain s n (omega arith) ∙ ap (λ (m : ℕ). s ⊕ add_dequeued m) (e ∙ sym taken-size)
  stats-are Expiry s d n e few q hd he =
      let x : d.stats ≡ s = q ∙ ⊕-zero s in
      ap (λ (y : Stats). with_expired_by y n) x ∙ expired-plain s n (omega arith) ∙ ap (λ (m : ℕ). s ⊕ add_expired m) (e ∙ sym taken-size)
  stats-are DeadLetter s d n e few q hd he = q ∙ ap (λ (m : ℕ). s ⊕ add_discarded m) (sym taken-discards)

-- by what the rows count as
pub tell-as : (counts c : AckCount) (q : Row → Bool) (l : List Row) (m : ℕ) (d r : Head) (events events' : List Row) → counts ≡ c
    → Told (told_counts c q l) (told_events c (keep q l)) m d r events events' → Told (told_counts counts q l) (told_events counts (keep q l)) m d r events events'
tell-as counts c q l m d r events events' u x = rw u x

-- no more go than are reserved
pub gone-few : (q : Row → Bool) (d : Head) (rows : List Row) (events from to : ℕ) → Holding (length rows) events d → from ≡ first_reserved d → to ≡ first_waiting d
    → tally q (slice from to rows) ≤ d.reserved
gone-few q d rows events from to h ef et = omega (arith, tally-length q (slice from to rows), length-slice from to rows (omega (arith, h.used, h.room)), h.rows)

-- counting changes the counters alone
counted-only : (c : AckCount) (n : ℕ) (d : Head) → counted_head c n d ≡ with_counters (counted_head c n d).stats d
counted-only Uncounted n d = refl
counted-only Dequeue n d = refl
counted-only Expiry n d = refl
counted-only DeadLetter n d = refl

-- ---- the destination

module _ (id : Id) (counts : AckCount) (p : Span) (d t r : Head) (gone : ℕ) (rows events rows' events' : List Row) (holding : Holding (length rows) (length events) d)
    (told : Told (told_counts counts (wants_row id p) (slice (first_reserved d) (first_waiting d) rows)) (told_events counts (keep (wants_row id p) (slice (first_reserved d) (first_waiting d) rows))) (tally (wants_row id p) (slice (first_reserved d) (first_waiting d) rows)) d t events events')
    (count : gone ≡ tally (wants_row id p) (slice (first_reserved d) (first_waiting d) rows))
    (out : rows' ≡ remove_rows (wants_row id p) (first_reserved d) (first_waiting d) d.used rows)
    (end : r ≡ counted_head counts gone (with_reserved_count (t.reserved - gone) (with_used (t.used - gone) t)))
    (subs : List Row)
    (fits : Fits subs d (length rows) (length events))
  where
    abbrev ws : List Row
    ws = take d.consumers subs

    abbrev k : Kind
    k = kind_by d.queue

    -- the consumers' rows, the reserved ones, the waiting ones and the rest
    abbrev base : ℕ
    base = sub_rows ws

    abbrev a : List Row
    a = take base rows

    abbrev s : List Row
    s = take d.reserved (drop base rows)

    abbrev c : List Row
    c = take d.waiting (drop d.reserved (drop base rows))

    abbrev z : List Row
    z = drop d.waiting (drop d.reserved (drop base rows))

    abbrev q : Row → Bool
    q = wants_row id p

    abbrev kept : List Row
    kept = keep (λ w. not (q w)) s

    in_parts : rows ≡ a ++ (s ++ (c ++ z))
    in_parts = sym (
        ap (λ (x : List Row). a ++ (s ++ x)) (take-append-drop d.waiting (drop d.reserved (drop base rows)))
        ∙ ap (λ (x : List Row). a ++ x) (take-append-drop d.reserved (drop base rows))
        ∙ take-append-drop base rows)

    s-is : slice (first_reserved d) (first_waiting d) rows ≡ s
    s-is = reserved-slice subs rows d (length rows) (length events) fits

    used-is : base + (d.reserved + d.waiting) ≡ d.used
    used-is = fits.rows-used

    a-size : length a ≡ base
    a-size = length-take-le base rows (omega (arith, used-is, fits.used, fits.rows_long))

    s-size : length s ≡ d.reserved
    s-size = length-take-le d.reserved (drop base rows) (simp length-drop (omega (arith, used-is, fits.used, fits.rows_long)))

    c-size : length c ≡ d.waiting
    c-size = length-take-le d.waiting (drop d.reserved (drop base rows)) (simp length-drop (omega (arith, used-is, fits.used, fits.rows_long)))

    gone-is : gone ≡ tally q s
    gone-is = count ∙ ap (tally q) s-is

    kept-size : length kept ≡ d.reserved - gone
    kept-size = omega (arith, kept-length q s, s-size, gone-is)

    few : gone ≤ d.reserved
    few = omega (arith, tally-length q s, s-size, gone-is)

    abbrev junk : List Row
    junk = drop (length kept + length c) (s ++ (c ++ z))

    parts : rows' ≡ a ++ (kept ++ (c ++ junk))
    parts =
        let e : first_reserved d ≡ base = omega (arith, used-is) in
        let f : first_waiting d ≡ base + d.reserved = omega (arith, used-is) in
        out
        ∙ ap₂ (λ (m n : ℕ). remove_rows q m n d.used rows) e f
        ∙ ap (remove_rows q base (base + d.reserved) d.used) in_parts
        ∙ remove-parts q base (base + d.reserved) d.used a s c z a-size (omega (arith, s-size)) (omega (arith, c-size, used-is))

    before : take base rows' ≡ take base rows
    before = ap (take base) parts ∙ take_at a (kept ++ (c ++ junk)) base a-size

    others : drop base rows' ≡ kept ++ (c ++ junk)
    others = ap (drop base) parts ∙ drop_at a (kept ++ (c ++ junk)) base a-size

    left_is : take (d.reserved - gone) (drop base rows') ≡ kept
    left_is = ap (take (d.reserved - gone)) others ∙ take_at kept (c ++ junk) (d.reserved - gone) kept-size

    waits-are : take d.waiting (drop (d.reserved - gone) (drop base rows')) ≡ c
    waits-are =
        ap (λ (l : List Row). take d.waiting (drop (d.reserved - gone) l)) others
        ∙ ap (take d.waiting) (drop_at kept (c ++ junk) (d.reserved - gone) kept-size)
        ∙ take_at c junk d.waiting c-size

    -- the numbers
    abbrev x : Stats
    x = d.stats ⊕ taken_counts counts (taken id p s)

    head-is : r ≡ with_reserved_count (d.reserved - gone) (with_used (d.used - gone) (with_events t.events (with_counters x d)))
    head-is =
        let m : Head = with_reserved_count (t.reserved - gone) (with_used (t.used - gone) t) in
        let st : t.stats ≡ d.stats ⊕ told_counts counts q s = ap (λ (y : Head). y.stats) told.head ∙ ap (λ (l : List Row). d.stats ⊕ told_counts counts q l) s-is in
        let counted : (counted_head counts gone m).stats ≡ x =
        stats-are id p s counts d.stats m gone gone-is (omega (arith, few, holding.rows, holding.used)) st holding.dequeued holding.expired in
        end
        ∙ counted-only counts gone m
        ∙ ap (λ (y : Stats). with_counters y m) counted
        ∙ ap (λ (y : Head). with_counters x (with_reserved_count (y.reserved - gone) (with_used (y.used - gone) y))) told.head

    view : (ps : List Id) (qs : List Audit) → head_view r subs rows' ps qs ≡ (taking id counts p (head_view d subs rows ps qs)).dest
    unfolding head_view taking wants_row
    view ps qs =
        let mine : subs_at k ws rows' ≡ subs_at k ws rows = subs-agree k ws base rows' rows (omega arith) before in
        let held : map held_at (take (d.reserved - gone) (drop base rows')) ≡ keep (λ h. not (wants id p h)) (map held_at s) =
        ap (map held_at) left_is ∙ sym (keep-map held_at (λ h. not (wants id p h)) s) in
        ap (λ (y : Head). head_view y subs rows' ps qs) head-is
        ∙ (λ j. record {
          kind = k;
          topic_limit = d.topic_limit;
          call_limit = d.call_limit;
          allowance = d.allowance;
          share = d.share;
          calls_used = d.calls_used;
          pending = map entry_of (waits-are j);
          subs = mine j;
          rr = d.turn;
          producers = ps;
          audits = qs;
          stats = x;
          idle = (head_view d subs rows ps qs).idle;
          reserved = held j;
        })

    -- strict words stay strict
    strict : strict_tables d subs rows ≡ true → strict_tables r subs rows' ≡ true
    strict h =
        let g = tables-strict (d.reserved + d.waiting) ws rows h in
        let both : all entry_strict (s ++ c) ≡ true = ap (all entry_strict) (sym (take-add d.reserved d.waiting (drop base rows))) ∙ g.others in
        let left : take (d.reserved - gone + d.waiting) (drop base rows') ≡ kept ++ c = take-add (d.reserved - gone) d.waiting (drop base rows') ∙ ap₂ (λ (l m : List Row). l ++ m) left_is waits-are in
        ap (λ (y : Head). strict_tables y subs rows') head-is
        ∙ strict-tables (d.reserved - gone + d.waiting) ws rows' (record {
          subs = strict-agree ws base rows' rows (omega arith) before ∙ g.subs;
          others = ap (all entry_strict) left ∙ all_append entry_strict kept c (all_keep entry_strict (λ w. not (q w)) s (all_left entry_strict s c both)) (all_right entry_strict s c both);
        })

    same-events : r.events ≡ t.events
    same-events = ap (λ (y : Head). y.events) head-is

    sent : (ps : List Id) (qs : List Audit) → take r.events events' ≡ take d.events events ++ map event_words (taking id counts p (head_view d subs rows ps qs)).events
    unfolding head_view taking
    sent ps qs =
        ap (λ (n : ℕ). take n events') same-events
        ∙ told.said
        ∙ ap (λ (l : List Row). take d.events events ++ map event_words (told_events counts (keep q l))) s-is
        ∙ ap (λ (l : List Event). take d.events events ++ map event_words l) (events-are id p s counts)

    pub takes_out : Leaves (taking id counts p) d r subs rows events subs rows' events' × Room d r
    takes_out =
        let nc : r.consumers ≡ d.consumers = ap (λ (y : Head). y.consumers) head-is in
        let nr : r.reserved ≡ d.reserved - gone = ap (λ (y : Head). y.reserved) head-is in
        let nw : r.waiting ≡ d.waiting = ap (λ (y : Head). y.waiting) head-is in
        let nu : r.used ≡ d.used - gone = ap (λ (y : Head). y.used) head-is in
        let ne : r.events ≡ t.events = same-events in
        let base-is : sub_rows (take r.consumers subs) ≡ base = ap (λ (n : ℕ). sub_rows (take n subs)) nc in
        let g : gone ≤ d.reserved = few in
        let total : base + (d.reserved + d.waiting) ≡ d.used = used-is in
        let most : t.events ≤ d.events + gone = omega (arith, told.few, count) in (
          record {
            view = λ ps qs l. view ps qs;
            sent = λ ps qs l. sent ps qs;
            later = ap (λ (n : ℕ). drop n events') ne ∙ told.later ∙ ap (λ (n : ℕ). drop n events) (sym ne);
            more = omega (arith, told.more);
            producers = ap (λ (y : Head). y.producers) head-is;
            audits = ap (λ (y : Head). y.audits) head-is;
            queue = ap (λ (y : Head). y.queue) head-is;
            allowance = ap (λ (y : Head). y.allowance) head-is;
            share = ap (λ (y : Head). y.share) head-is;
            consumers = omega (arith, fits.consumers);
            used = omega (arith, fits.used);
            rows-used = omega arith;
            strict = strict;
            subs-past = refl;
            rows-past = ap (drop 512) out ∙ remove-after q (first_reserved d) (first_waiting d) d.used rows 512 (omega (arith, fits.used));
            subs-length = refl;
            rows-length = ap length out ∙ remove-length q (first_reserved d) (first_waiting d) d.used rows;
            events-length = told.size;
          },
          record { room = omega (arith, fits.sent); as_many = nc },
        )

-- for a segment as it was read
pub takes_at : (id : Id) (counts : AckCount) (p : Span) (d t r : Head) (gone : ℕ) (rows events rows' events' : List Row) → Holding (length rows) (length events) d
    → (from to : ℕ) → from ≡ first_reserved d → to ≡ first_waiting d
    → Told (told_counts counts (wants_row id p) (slice from to rows)) (told_events counts (keep (wants_row id p) (slice from to rows))) (tally (wants_row id p) (slice from to rows)) d t events events'
    → gone ≡ tally (wants_row id p) (slice from to rows)
    → rows' ≡ remove_rows (wants_row id p) from to d.used rows
    → r ≡ counted_head counts gone (with_reserved_count (t.reserved - gone) (with_used (t.used - gone) t))
    → (subs : List Row) → Fits subs d (length rows) (length events) → Leaves (taking id counts p) d r subs rows events subs rows' events' × Room d r
takes_at id counts p d t r gone rows events rows' events' holding from to ef et told count out end subs fits =
    takes_out id counts p d t r gone rows events rows' events' holding (rw (ef, et) at told) (rw (ef, et) at count) (rw (ef, et) at out) end subs fits

-- ---- an acknowledgement

module _ (id : Id) (a : Ack) (subs rows events : List Row) (d : Head) (fits : Fits subs d (length rows) (length events)) where
  pub holds : Holding (length rows) (length events) d
  holds = record {
    rows = omega (arith, fits.rows-used);
    used = fits.used;
    room = fits.rows_long;
    events = fits.sent;
    events-room = fits.events-long;
    dequeued = fits.dequeued;
    expired = fits.expired;
    discarded = fits.discarded;
  }

  -- with a last number, what its rule takes
  pub acks-reserved : (r : Head) (rows' events' : List Row) (rule : AckRule) (p : Span) (last : ℕ) (o : Option ℕ) → rule ≡ ack_rule a.type → p ≡ wanted_of rule.reserved a.first last → o ≡ some last
      → Leaves (taking id rule.counts p) d r subs rows events subs rows' events' × Room d r
      → Leaves (λ t. ack_reserved id a t o) d r subs rows events subs rows' events' × Room d r
  acks-reserved r rows' events' rule p last o er ep eo x =
      let f : taking id rule.counts p ≡ (λ t. ack_reserved id a t (some last)) = ap (taking id rule.counts) ep ∙ (λ j t. takes-reserved id a t last rule er j) in
      rw eo (subst (λ (g : Dest → Out). Leaves g d r subs rows events subs rows' events' × Room d r) f x)

  -- without one, nothing
  pub acks-nothing : (o : Option ℕ) → o ≡ none → Leaves (λ t. ack_reserved id a t o) d d subs rows events subs rows events × Room d d
  unfolding ack_reserved
  acks-nothing o eo = rw eo (
    record {
      view = λ ps qs l. refl;
      sent = λ ps qs l. sym (append-nil (take d.events events));
      later = refl;
      more = omega arith;
      producers = refl;
      audits = refl;
      queue = refl;
      allowance = refl;
      share = refl;
      consumers = fits.consumers;
      used = fits.used;
      rows-used = fits.rows-used;
      strict = λ h. h;
      subs-past = refl;
      rows-past = refl;
      subs-length = refl;
      rows-length = refl;
      events-length = refl;
    },
    record { room = fits.sent; as_many = refl },
  )
