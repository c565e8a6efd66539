-- What holds while a browser's snapshot is sent, and when the browser is served. Assumes nothing.
use mathlib.Core.Path.{◌≡◌, refl, sym, ap, ◌∙◌}
use mathlib.Core.Bool.{Bool, true, false, false≢true}
use mathlib.Core.List.{List, []}
use Prim.Native.Nat.{ℕ, zero, suc, ◌+◌, ◌-◌, ◌≤◌, ◌<◌}
use native.Mathlib.Omega.{arith}
use lib.IntN.{pos}
use lib.ListN.{length, drop, get_or, set, length-set}
use lib.Seq.{drop-set-lt}
use Rattle.entry.specs.Entry.{expired, entry_of}
use Rattle.model.specs.Model.{id_of}
use Rattle.definition.specs.Types.{Id, Entry, message, null}
use Rattle.definition.specs.Consumer.{inflight_of}
use Rattle.definition.specs.Layout.{Row, inflight_at, event_words}
use Rattle.definition.proofs.Lists.{agree-later}
use Rattle.table.specs.Table.{has_seq, close_gap, flown_row}
use Rattle.table.proofs.Rows.{flown-row}
use Rattle.table.proofs.Laws.{close-after, close-length, remove-length, remove-after}
use Rattle.consumers.specs.declared.Sub.{Sub}
use Rattle.consumers.specs.Consumers.{credit_of, sub_view}
use Rattle.state.specs.declared.Head.{Head}
use Rattle.state.specs.State.{first_waiting, with_used, with_events}
use Rattle.state.proofs.Events.{events-after}
use Rattle.state.specs.Parts.{held_sent, lost_sub}
use Rattle.browsers.specs.Serving.{gone_rows, left_rows, dropped, shown_at, browser_ran, closed_sub, rows_between, BrowserFine, BrowserKept, Sending, Done}
use Rattle.browsers.proofs.Dropped.{gone-few}
use Rattle.browsers.proofs.Turn.{lost_head, ran-stop, ran-finished, ran-closed, k-few, ran-lost, ran-sent, strict-lost, strict-sent}

-- where a row is held only without credit
pub none-held : (n : ℕ) (b : Bool) → (0 < n → b ≡ false) → b ≡ true → n ≤ 0
none-held zero b h e = omega arith
none-held (suc n) b h e = absurd (false≢true (sym (h (omega arith)) ∙ e))

pub sending-start : (now base : ℕ) (rows events : List Row) (s : Sub) (d : Head) → BrowserFine (length rows) (length events) base s d now → Sending now base rows events s d rows events s d
sending-start now base rows events s d f = record {
  fine = f;
  same_rows = refl;
  same-events = refl;
  said = refl;
  later = refl;
  past = refl;
  kept = record { rows = omega arith; used = omega arith; own = omega arith; sent = omega arith; next = omega arith; waiting = omega arith; expired = refl; dispatched = refl; head = refl };
  few = omega arith;
  strict = λ z. z;
}

module _ (now base : ℕ) (rows₀ events₀ : List Row) (s₀ : Sub) (d₀ : Head) (rows events : List Row) (s : Sub) (d : Head) (g : Sending now base rows₀ events₀ s₀ d₀ rows events s d) where
  abbrev f : BrowserFine (length rows) (length events) base s d now
  f = g.fine

  abbrev m : ℕ
  m = rows_between base s₀ d₀

  abbrev row : Row
  row = get_or rows (base + s.inflight) []

  abbrev id-of : Sub → Id
  id-of t = id_of t.conn t.session t.value

  -- its own rows stay, whatever goes of those that wait
  pub used-left : (seq : ℕ) (d' : Head) → 0 < s.held → d' ≡ dropped (gone_rows seq d rows) d → 1 ≤ d'.used
  used-left seq d' some p =
      let r = f.rows in
      let few : gone_rows seq d rows ≤ d.waiting = gone-few seq d rows (first_waiting d) (gone_rows seq d rows) refl refl (omega arith) (omega arith) in
      let u : d'.used ≡ d.used - gone_rows seq d rows = ap (λ (x : Head). x.used) p in
      omega (arith, few, u, r, some)

  module _ (some : 0 < s.held) (credited : credit_of s ≡ true) where
    -- the first has expired
    abbrev k : ℕ
    k = gone_rows (entry_of row).seq d rows

    abbrev left : List Row
    left = left_rows (entry_of row).seq d rows

    few-gone : k ≤ d.waiting
    few-gone = k-few now base m s d rows events f g.kept.rows some credited

    counted : (lost_head k d).stats.expired ≡ d.stats.expired + k
    counted = let h = few-gone in omega arith

    fine-lost : BrowserFine (length rows) (length events) base (lost_sub s) (lost_head k d) now
    fine-lost =
        let h = few-gone in
        let c = counted in
        let r = f.rows in
        record { browser = f.browser; rows = omega arith; used = omega arith; room = f.room; events = omega arith; next = omega arith; expired = omega arith; clock = f.clock }

    kept-lost : BrowserKept base m s₀ d₀ (lost_sub s) (lost_head k d)
    kept-lost =
        let q = g.kept in
        let h = few-gone in
        let c = counted in
        record {
          rows = omega (arith, q.rows);
          used = omega (arith, q.used);
          own = omega (arith, q.own);
          sent = q.sent;
          next = omega (arith, q.next);
          waiting = omega (arith, q.waiting);
          expired = omega (arith, q.expired);
          dispatched = q.dispatched;
          head = ap (lost_head k) q.head;
        }

    past-lost : drop d₀.used (close_gap (base + s.inflight) 1 (d.used - k) left) ≡ drop d₀.used rows₀
    past-lost =
        close-after (base + s.inflight) 1 (d.used - k) left d₀.used (omega (arith, g.kept.used))
        ∙ remove-after (has_seq (entry_of row).seq) (first_waiting d) d.used d.used rows d₀.used (omega (arith, g.kept.used))
        ∙ g.past

    pub sending-lost : (e : Entry) (d' : Head) (rows' rows'' : List Row) → e ≡ entry_of row → d' ≡ dropped (gone_rows e.seq d rows) d → rows' ≡ left_rows e.seq d rows
        → rows'' ≡ close_gap (base + s.inflight) 1 d'.used rows' → expired (pos now) e ≡ true
        → Sending now base rows₀ events₀ s₀ d₀ rows'' events (lost_sub s) (with_used (d'.used - 1) d')
    sending-lost e d' rows' rows'' is p q r x =
        let y : expired (pos now) (entry_of row) ≡ true = rw is at x in
        let size : length (close_gap (base + s.inflight) 1 (d.used - k) left) ≡ length rows = close-length (base + s.inflight) 1 (d.used - k) left ∙ remove-length _ _ _ _ rows in
        rw (r, p, q, is) (record {
          fine = rw size fine-lost;
          same_rows = size ∙ g.same_rows;
          same-events = g.same-events;
          said = ran-lost now base m s d rows events f g.kept.rows some credited y ∙ g.said;
          later = g.later;
          past = past-lost;
          kept = kept-lost;
          few = omega (arith, g.few);
          strict = λ z. strict-lost now base m s d rows events f g.kept.rows some credited (g.strict z);
        })

    -- or it is sent
    kept-sent : BrowserKept base m s₀ d₀ (held_sent s) (with_events (d.events + 1) d)
    kept-sent = let q = g.kept in record {
      rows = omega (arith, q.rows);
      used = q.used;
      own = omega (arith, q.own);
      sent = omega (arith, q.sent);
      next = omega (arith, q.next);
      waiting = q.waiting;
      expired = q.expired;
      dispatched = q.dispatched;
      head = ap (with_events (d.events + 1)) q.head;
    }

    fine-sent : BrowserFine (length rows) (length events) base (held_sent s) (with_events (d.events + 1) d) now
    fine-sent = record { browser = f.browser; rows = omega arith; used = f.used; room = f.room; events = omega arith; next = omega arith; expired = f.expired; clock = f.clock }

    pub sending-sent : (s' : Sub) (d' : Head) (events' : List Row) (x : Row) → s' ≡ held_sent s → d' ≡ with_events (d.events + 1) d
        → events' ≡ set events d.events (event_words (message (id-of s) (entry_of row).seq (entry_of row).redelivery))
        → x ≡ flown_row s.next_dseq row → length row ≡ 10 → expired (pos now) (entry_of row) ≡ false
        → Sending now base rows₀ events₀ s₀ d₀ (set rows (base + s.inflight) x) events' s' d'
    unfolding shown_at sub_view
    sending-sent s' d' events' x o p q r n y =
        let flies : inflight_at x ≡ inflight_of s.next_dseq (entry_of row) = ap inflight_at r ∙ flown-row s.next_dseq row n in
        let e : Row = event_words (message (id-of s) (entry_of row).seq (entry_of row).redelivery) in
        rw (o, p, q) (record {
          fine = simp length-set fine-sent;
          same_rows = simp length-set g.same_rows;
          same-events = simp length-set g.same-events;
          said = ran-sent now base m s d rows events f g.kept.rows some credited x flies y ∙ g.said;
          later = events-after d.events events e ∙ agree-later d.events (d.events + 1) events events₀ (omega arith) g.later;
          past = drop-set-lt d₀.used rows (base + s.inflight) x (omega (arith, g.kept.used, f.rows)) ∙ g.past;
          kept = kept-sent;
          few = omega (arith, g.few);
          strict = λ z. strict-sent now base m s d rows events f g.kept.rows some credited x r (g.strict z);
        })

  -- ---- served

  done-same : shown_at base m s d rows events ≡ browser_ran now (shown_at base m s₀ d₀ rows₀ events₀) → Done now base rows₀ events₀ s₀ d₀ rows events s d
  done-same e = record { said = e; later = g.later; past = g.past; kept = g.kept; few = omega (arith, g.few); strict = g.strict }

  -- without credit
  pub done-stop : credit_of s ≡ false → Done now base rows₀ events₀ s₀ d₀ rows events s d
  done-stop c = done-same (sym (ran-stop now base m s d rows events f g.kept.rows c) ∙ g.said)

  -- or with nothing left: the null has been sent, or is sent now
  module _ (empty : s.held ≤ 0) (credited : credit_of s ≡ true) where
    pub done-finished : s.finished ≡ true → Done now base rows₀ events₀ s₀ d₀ rows events s d
    done-finished h = done-same (sym (ran-finished now base m s d rows events f g.kept.rows empty credited h) ∙ g.said)

    pub done-closed : (s' : Sub) (d' : Head) (events' : List Row) → s' ≡ closed_sub s → d' ≡ with_events (d.events + 1) d → events' ≡ set events d.events (event_words (null (id-of s)))
        → s.finished ≡ false → Done now base rows₀ events₀ s₀ d₀ rows events' s' d'
    done-closed s' d' events' o p q h =
        let w = g.kept in
        rw (o, p, q) (record {
          said = ran-closed now base m s d rows events f g.kept.rows empty credited h ∙ g.said;
          later = events-after d.events events (event_words (null (id-of s))) ∙ agree-later d.events (d.events + 1) events events₀ (omega arith) g.later;
          past = g.past;
          kept = record { rows = w.rows; used = w.used; own = w.own; sent = omega (arith, w.sent); next = w.next; waiting = w.waiting; expired = w.expired; dispatched = w.dispatched; head = ap (with_events (d.events + 1)) w.head };
          few = omega (arith, g.few);
          strict = λ z. let y = g.strict z in record { own = record { flying = y.own.flying; held = y.own.held }; waiting = y.waiting };
        })
