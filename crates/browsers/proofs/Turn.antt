-- A turn of `send_snapshot`, and the closing null: what the definition says of the tables before it, it says of the tables after it.
-- Assumes nothing.
use mathlib.Core.Path.{◌≡◌, refl, sym, ap, ◌∙◌}
use mathlib.Core.Bool.{Bool, true, false, not}
use mathlib.Core.List.{List, [], ◌∷◌, ◌++◌, append-nil, map, map-append}
use mathlib.Core.Option.{some}
use Prim.Native.Nat.{ℕ, ◌+◌, ◌-◌, ◌≤◌, ◌<◌}
use native.Mathlib.Omega.{arith}
use lib.IntN.{pos}
use lib.ListN.{length, take, drop, get_or, set, length-drop}
use lib.Seq.{slice, length-take-le, take_at, drop_at}
use Rattle.entry.specs.Entry.{expired, entry_of}
use Rattle.model.specs.Model.{id_of}
use Rattle.definition.specs.Base.{all, keep, tally}
use Rattle.definition.specs.Types.{Entry, queue, null}
use Rattle.definition.specs.Types as Def
use Rattle.definition.specs.Consumer.{has_credit, zero_stats, ◌⊕◌, add_expired, snapshot, with_snapshot, inflight_of, send, sent, send_null, same_seq}
use Rattle.definition.specs.Consumer as Consumer
use Rattle.definition.specs.Layout.{Row, inflight_at, browser_at, tpending_at, event_words, entry_strict, flying_strict}
use Rattle.definition.proofs.Lists.{all_keep}
use Rattle.definition.proofs.Local.{⊕-zero}
use Rattle.table.specs.Table.{has_seq, close_gap, flown_row}
use Rattle.table.proofs.Strict.{flown-strict}
use Rattle.table.proofs.Bounds.{gone-in}
use Rattle.consumers.specs.declared.Sub.{Sub}
use Rattle.consumers.specs.Consumers.{sub_view, credit_of}
use Rattle.consumers.proofs.Laws.{credit}
use Rattle.state.specs.declared.Head.{Head}
use Rattle.state.specs.State.{first_waiting, with_used, with_events}
use Rattle.state.proofs.Counts.{expired-plain}
use Rattle.state.proofs.Events.{events-up-to}
use Rattle.state.specs.Parts.{Parts, held_sent, lost_sub}
use Rattle.state.proofs.Parts.{held_first, parts-sent, first-strict}
use Rattle.state.proofs.Parts as Topics
use Rattle.browsers.specs.Serving.{gone_rows, left_rows, dropped, Shown, showing, shown_at, browser_stepped, browser_ran, closed_sub, BrowserFine, BrowserStrict}
use Rattle.browsers.proofs.Show.{serve-stop, serve-finished, serve-closed, serve-lost, serve-sent, ran-rest, ran-turn}
use Rattle.browsers.proofs.Dropped.{entries-left, entries-gone, waiting-rows, parts-gone, gone-few}

-- after an expired entry
abbrev pub lost_head : ℕ → Head → Head
lost_head k d = with_used (d.used - k - 1) (dropped k d)

-- of a queue's browser
still-none : (b : Bool) (l m : List Entry) → b ≡ true → tpending_at queue b l ≡ tpending_at queue b m
still-none true l m e = refl
still-none false l m e = ap (λ (b : Bool). tpending_at queue b l) e ∙ sym (ap (λ (b : Bool). tpending_at queue b m) e)

module _ (now base m : ℕ) (s : Sub) (d : Head) (rows events : List Row) (fine : BrowserFine (length rows) (length events) base s d now) (fits : base + s.inflight + s.held + m + d.waiting ≡ d.used) where
  abbrev v : Shown
  v = shown_at base m s d rows events

  abbrev held : List Row
  held = take s.held (drop (base + s.inflight) rows)

  -- the rows after its own
  abbrev later : List Row
  later = take (d.used - (base + s.inflight + s.held)) (drop (base + s.inflight + s.held) rows)

  has : has_credit v.sub ≡ credit_of s
  unfolding shown_at
  has = credit queue s (take s.inflight (drop base rows)) held (length-take-le s.inflight (drop base rows) (simp length-drop (omega arith)))

  snap : snapshot v.sub ≡ map entry_of held
  unfolding shown_at sub_view
  snap = ap (λ (b : Bool). Consumer.shown (browser_at queue b (map entry_of held))) fine.browser

  -- there is no credit
  pub ran-stop : credit_of s ≡ false → browser_ran now v ≡ v
  ran-stop c = ran-rest now v (serve-stop now v.pending v.sub (has ∙ c))

  -- no row is held
  module _ (empty : s.held ≤ 0) (credited : credit_of s ≡ true) where
    none : snapshot v.sub ≡ []
    none = let e : s.held ≡ 0 = omega arith in snap ∙ ap (λ (n : ℕ). map entry_of (take n (drop (base + s.inflight) rows))) e

    pub ran-finished : s.finished ≡ true → browser_ran now v ≡ v
    unfolding shown_at sub_view
    ran-finished h = ran-rest now v (serve-finished now v.pending v.sub none (has ∙ credited) h)

    pub ran-closed : s.finished ≡ false → shown_at base m (closed_sub s) (with_events (d.events + 1) d) rows (set events d.events (event_words (null (id_of s.conn s.session s.value)))) ≡ browser_ran now v
    unfolding shown_at sub_view
    ran-closed h =
        let told : Row = event_words (null (id_of s.conn s.session s.value)) in
        (λ i. record {
          before = v.before;
          sub = send_null (Def.with_finished true v.sub);
          after = v.after;
          pending = v.pending;
          stats = sym (⊕-zero d.stats) i;
          events = events-up-to d.events events told (omega arith) i;
        })
        ∙ ap (λ (b : Consumer.Browse). browser_stepped b v) (sym (serve-closed now v.pending v.sub none (has ∙ credited) h))

  -- a row is held
  module _ (more : 0 < s.held) (credited : credit_of s ≡ true) where
    abbrev row : Row
    row = get_or rows (base + s.inflight) []

    abbrev e : Entry
    e = entry_of row

    abbrev rest : List Row
    rest = take (s.held - 1) (drop (base + s.inflight + 1) rows)

    first : snapshot v.sub ≡ e ∷ map entry_of rest
    first = snap ∙ ap (map entry_of) (held_first base s.inflight s.held d.used rows more (omega arith) (omega arith))

    -- what it holds is its snapshot
    browsing : browser_at queue s.browser (map entry_of rest) ≡ some (map entry_of rest)
    browsing = ap (λ (b : Bool). browser_at queue b (map entry_of rest)) fine.browser

    waiting : tpending_at queue s.browser (map entry_of rest) ≡ tpending_at queue s.browser (map entry_of held)
    waiting = still-none s.browser (map entry_of rest) (map entry_of held) fine.browser

    -- the first has expired
    abbrev k : ℕ
    k = gone_rows e.seq d rows

    abbrev left : List Row
    left = keep (λ r. not (has_seq e.seq r)) (drop m later)

    k-rows : k ≡ tally (has_seq e.seq) (slice (first_waiting d) d.used rows)
    k-rows = gone-in (has_seq e.seq) (first_waiting d) d.used d.used rows (omega arith) (omega arith) (omega arith)

    k-is : k ≡ tally (same_seq e) (map entry_of (drop m later))
    k-is =
        k-rows
        ∙ ap (tally (has_seq e.seq)) (waiting-rows (has_seq e.seq) base s.inflight s.held m d.waiting d.used rows fits (omega arith))
        ∙ sym (entries-gone e (drop m later))

    pub k-few : k ≤ d.waiting
    k-few = gone-few e.seq d rows (first_waiting d) k refl refl (omega arith) (omega arith)

    shown-lost : shown_at base m (lost_sub s) (lost_head k d) (close_gap (base + s.inflight) 1 (d.used - k) (left_rows e.seq d rows)) events
        ≡ browser_stepped
        (record { sub = with_snapshot (map entry_of rest) v.sub; pending = keep (λ f. not (same_seq e f)) v.pending; counts = add_expired (tally (same_seq e) v.pending); events = [] })
        v
    unfolding shown_at sub_view
    shown-lost =
        let p = parts-gone (has_seq e.seq) base s.inflight s.held m d.waiting d.used rows fits (omega arith) more k k-rows in
        let low : List Row = take m later in
        let end : ℕ = base + s.inflight + s.held in
        let all : length later ≡ d.used - end = length-take-le (d.used - end) (drop end rows) (simp length-drop (omega arith)) in
        let size : length low ≡ m = length-take-le m later (omega (arith, all)) in
        let after : take m (low ++ left) ≡ low = take_at low left m size in
        let pending : map entry_of (drop m (low ++ left)) ≡ keep (λ f. not (same_seq e f)) (map entry_of (drop m later)) = ap (map entry_of) (drop_at low left m size) ∙ sym (entries-left e (drop m later)) in
        let stats : (dropped k d).stats ≡ d.stats ⊕ add_expired (tally (same_seq e) (map entry_of (drop m later))) =
        expired-plain d.stats k (omega (arith, k-few, fine.expired)) ∙ ap (λ (n : ℕ). d.stats ⊕ add_expired n) k-is in
        ap (showing m (lost_sub s) (dropped k d).stats (take d.events events)) p
        ∙ (λ i. record {
          before = take base rows;
          sub = Def.with_browser (browsing i) (Def.with_tpending (waiting i) v.sub);
          after = after i;
          pending = pending i;
          stats = stats i;
          events = sym (append-nil (take d.events events)) i;
        })

    -- strict words stay strict
    pub strict-lost : BrowserStrict base m s d rows → BrowserStrict base m (lost_sub s) (lost_head k d) (close_gap (base + s.inflight) 1 (d.used - k) (left_rows e.seq d rows))
    strict-lost z =
        let p = parts-gone (has_seq e.seq) base s.inflight s.held m d.waiting d.used rows fits (omega arith) more k k-rows in
        let low : List Row = take m later in
        let end : ℕ = base + s.inflight + s.held in
        let whole : length later ≡ d.used - end = length-take-le (d.used - end) (drop end rows) (simp length-drop (omega arith)) in
        let size : length low ≡ m = length-take-le m later (omega (arith, whole)) in
        record {
          own = record {
            flying = ap (λ (x : Parts). all flying_strict x.flying) p ∙ z.own.flying;
            held = ap (λ (x : Parts). all entry_strict x.held) p ∙ (first-strict base s.inflight s.held d.used rows more (omega arith) (omega arith) z.own).1;
          };
          waiting = ap (λ (x : Parts). all entry_strict (drop m x.after)) p ∙ ap (all entry_strict) (drop_at low left m size) ∙ all_keep entry_strict (λ r. not (has_seq e.seq r)) (drop m later) z.waiting;
        }

    pub strict-sent : (x : Row) → x ≡ flown_row s.next_dseq row → BrowserStrict base m s d rows → BrowserStrict base m (held_sent s) (with_events (d.events + 1) d) (set rows (base + s.inflight) x)
    strict-sent x is z =
        let h : base + s.inflight + s.held ≤ d.used = omega arith in
        let n : d.used ≤ length rows = omega arith in
        let o = (first-strict base s.inflight s.held d.used rows more h n z.own).0 in
        record {
          own = Topics.strict-sent base s.inflight s.held d.used rows more h n z.own x (ap flying_strict is ∙ flown-strict s.next_dseq row o);
          waiting = ap (λ (y : Parts). all entry_strict (drop m y.after)) (parts-sent base s.inflight s.held d.used rows more h n x) ∙ z.waiting;
        }

    pub ran-lost : expired (pos now) e ≡ true
        → browser_ran now (shown_at base m (lost_sub s) (lost_head k d) (close_gap (base + s.inflight) 1 (d.used - k) (left_rows e.seq d rows)) events) ≡ browser_ran now v
    ran-lost x =
        ap (browser_ran now) shown-lost
        ∙ ran-turn now (add_expired (tally (same_seq e) v.pending)) [] (keep (λ f. not (same_seq e f)) v.pending) (with_snapshot (map entry_of rest) v.sub) v
        (serve-lost now v.pending v.sub e (map entry_of rest) first (has ∙ credited) x)

    -- or it is sent
    module _ (x : Row) (flies : inflight_at x ≡ inflight_of s.next_dseq e) where
      abbrev said : Row
      said = event_words (sent v.sub e)

      shown-sent : shown_at base m (held_sent s) (with_events (d.events + 1) d) (set rows (base + s.inflight) x) (set events d.events said)
          ≡ browser_stepped (record { sub = send e (with_snapshot (map entry_of rest) v.sub); pending = v.pending; counts = zero_stats; events = sent v.sub e ∷ [] }) v
      unfolding shown_at sub_view
      shown-sent =
          let p = parts-sent base s.inflight s.held d.used rows more (omega arith) (omega arith) x in
          let flying : List Row = take s.inflight (drop base rows) in
          let flown : map inflight_at (flying ++ (x ∷ [])) ≡ map inflight_at flying ++ (inflight_of s.next_dseq e ∷ []) =
          map-append inflight_at flying (x ∷ []) ∙ ap (λ (y : Def.Inflight). map inflight_at flying ++ (y ∷ [])) flies in
          let next : Def.Sub = send e (with_snapshot (map entry_of rest) v.sub) in
          ap (showing m (held_sent s) d.stats (take (d.events + 1) (set events d.events said))) p
          ∙ (λ i. record {
            before = take base rows;
            sub = Def.with_browser (browsing i) (Def.with_tpending (waiting i) (Def.with_inflight (flown i) next));
            after = take m later;
            pending = map entry_of (drop m later);
            stats = sym (⊕-zero d.stats) i;
            events = events-up-to d.events events said (omega arith) i;
          })

      pub ran-sent : expired (pos now) e ≡ false
          → browser_ran now (shown_at base m (held_sent s) (with_events (d.events + 1) d) (set rows (base + s.inflight) x) (set events d.events said)) ≡ browser_ran now v
      ran-sent y =
          ap (browser_ran now) shown-sent
          ∙ ran-turn now zero_stats (sent v.sub e ∷ []) v.pending (send e (with_snapshot (map entry_of rest) v.sub)) v
          (serve-sent now v.pending v.sub e (map entry_of rest) first (has ∙ credited) y)
