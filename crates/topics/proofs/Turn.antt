-- A turn of `serve_topic`: what the definition says of the tables before it, it says of the tables after it. Assumes nothing.
use mathlib.Core.Path.{◌≡◌, refl, sym, ap, ap₂, ◌∙◌}
use mathlib.Core.Bool.{Bool, true, false, ◌&&◌}
use mathlib.Core.List.{List, [], ◌∷◌, ◌++◌, append-nil, map, map-append}
use mathlib.Core.Option.{Option}
use Prim.Native.Nat.{ℕ, ◌+◌, ◌-◌, ◌≤◌, ◌<◌}
use native.Mathlib.Omega.{arith}
use borrow.Author.Tests.{lt-ltb, le-ltb}
use lib.Dec.{ltb}
use lib.IntN.{pos}
use lib.ListN.{length, take, drop, get_or, set, length-drop, length-set}
use lib.Seq.{length-take-le, drop-set-lt, drop-drop}
use Rattle.stats.specs.Counted.{with_expired_by, with_dispatched}
use Rattle.entry.specs.Entry.{expired, entry_of}
use Rattle.model.specs.Model.{id_of}
use Rattle.definition.specs.Types.{Entry, topic, message, with_tpending}
use Rattle.definition.specs.Types as Def
use Rattle.definition.specs.Consumer.{has_credit, add_expired, add_dispatched, inflight_of, send, sent}
use Rattle.definition.specs.Layout.{Row, inflight_at, event_words, flying_strict}
use Rattle.definition.proofs.Stored.{same-browser}
use Rattle.consumers.specs.declared.Sub.{Sub}
use Rattle.consumers.specs.Consumers.{row_sub, sub_view, credit_of, with_held}
use Rattle.consumers.specs.Seats.{OwnStrict}
use Rattle.consumers.proofs.Laws.{credit}
use Rattle.state.specs.declared.Head.{Head}
use Rattle.state.specs.State.{with_counters, with_used, with_events}
use Rattle.state.proofs.Counts.{expired-plain, dispatched-plain}
use Rattle.state.proofs.Events.{events-up-to, events-after}
use Rattle.table.specs.Table.{close_gap, flown_row}
use Rattle.table.proofs.Laws.{close-after, close-length}
use Rattle.table.proofs.Rows.{flown-row}
use Rattle.table.proofs.Strict.{flown-strict}
use Rattle.state.specs.Parts.{Parts, parts_of, held_sent, lost_sub}
use Rattle.topics.specs.Topics.{can_serve, Seen, topic_seen, topic_stepped, topic_ran, TopicFine, ConsumerKept}
use Rattle.topics.proofs.Serve.{serve-none, serve-stop, serve-lost, serve-sent, ran-rest, ran-turn}
use Rattle.state.proofs.Parts.{held_first, parts-lost, parts-sent, first-strict, strict-lost, strict-sent}

-- ---- the numbers after a turn

abbrev pub lost_head : Head → Head
lost_head d = with_counters (with_expired_by d.stats 1) (with_used (d.used - 1) d)

abbrev pub sent_head : Head → Head
sent_head d = with_counters (with_dispatched d.stats) (with_events (d.events + 1) d)

module _ (now base : ℕ) (s : Sub) (d : Head) (rows events : List Row) (fine : TopicFine (length rows) (length events) base s d now) where
  abbrev v : Seen
  v = topic_seen base s d rows events

  -- no row is held
  pub ran-none : s.held ≤ 0 → topic_ran now v ≡ v
  unfolding topic_seen sub_view
  ran-none h =
      let e : s.held ≡ 0 = omega arith in
      ran-rest now v (serve-none now v.sub (ap (λ (n : ℕ). map entry_of (take n (drop (base + s.inflight) rows))) e))

  module _ (some : 0 < s.held) where
    abbrev pub row : Row
    row = get_or rows (base + s.inflight) []

    abbrev rest : List Row
    rest = take (s.held - 1) (drop (base + s.inflight + 1) rows)

    abbrev held : List Row
    held = take s.held (drop (base + s.inflight) rows)

    first : v.sub.tpending ≡ entry_of row ∷ map entry_of rest
    unfolding topic_seen sub_view
    first = ap (map entry_of) (held_first base s.inflight s.held d.used rows some fine.rows (omega arith))

    has : has_credit v.sub ≡ credit_of s
    unfolding topic_seen
    has = credit topic s (take s.inflight (drop base rows)) held (length-take-le s.inflight (drop base rows) (simp length-drop (omega arith)))

    -- there is no credit
    pub ran-stop : credit_of s ≡ false → topic_ran now v ≡ v
    ran-stop c = ran-rest now v (serve-stop now v.sub (entry_of row) (map entry_of rest) first (has ∙ c))

    -- the first held row has expired
    seen-lost : topic_seen base (lost_sub s) (lost_head d) (close_gap (base + s.inflight) 1 d.used rows) events
        ≡ topic_stepped (record { sub = with_tpending (map entry_of rest) v.sub; counts = add_expired 1; events = [] }) v
    unfolding topic_seen sub_view
    seen-lost =
        let p = parts-lost base s.inflight s.held d.used rows some fine.rows (omega arith) in
        let now-is : Parts = parts_of base s.inflight (s.held - 1) (d.used - 1) (close_gap (base + s.inflight) 1 d.used rows) in
        let sub : sub_view topic (lost_sub s) now-is.flying now-is.held ≡ with_tpending (map entry_of rest) v.sub =
        ap (λ (x : Parts). sub_view topic (lost_sub s) x.flying x.held) p
        ∙ ap (λ (b : Option (List Entry)). Def.with_browser b (with_tpending (map entry_of rest) v.sub)) (same-browser s.browser (map entry_of rest) (map entry_of held)) in
        λ i. record {
          before = (p i).before;
          sub = sub i;
          after = (p i).after;
          stats = expired-plain d.stats 1 (omega arith) i;
          events = sym (append-nil (take d.events events)) i;
        }

    module _ (credited : credit_of s ≡ true) where
      pub ran-lost : expired (pos now) (entry_of row) ≡ true → topic_ran now (topic_seen base (lost_sub s) (lost_head d) (close_gap (base + s.inflight) 1 d.used rows) events) ≡ topic_ran now v
      ran-lost x =
          ap (topic_ran now) seen-lost
          ∙ ran-turn now (add_expired 1) [] (with_tpending (map entry_of rest) v.sub) v (serve-lost now v.sub (entry_of row) (map entry_of rest) first (has ∙ credited) x)

    -- or it is sent
    module _ (x : Row) (flies : inflight_at x ≡ inflight_of s.next_dseq (entry_of row)) where
      abbrev said : Row
      said = event_words (sent v.sub (entry_of row))

      seen-sent : topic_seen base (held_sent s) (sent_head d) (set rows (base + s.inflight) x) (set events d.events said)
          ≡ topic_stepped (record { sub = send (entry_of row) (with_tpending (map entry_of rest) v.sub); counts = add_dispatched 1; events = sent v.sub (entry_of row) ∷ [] }) v
      unfolding topic_seen sub_view
      seen-sent =
          let p = parts-sent base s.inflight s.held d.used rows some fine.rows (omega arith) x in
          let now-is : Parts = parts_of base (s.inflight + 1) (s.held - 1) d.used (set rows (base + s.inflight) x) in
          let flying : List Row = take s.inflight (drop base rows) in
          let flown : map inflight_at (flying ++ (x ∷ [])) ≡ map inflight_at flying ++ (inflight_of s.next_dseq (entry_of row) ∷ []) =
          map-append inflight_at flying (x ∷ []) ∙ ap (λ (y : Def.Inflight). map inflight_at flying ++ (y ∷ [])) flies in
          let next : Def.Sub = send (entry_of row) (with_tpending (map entry_of rest) v.sub) in
          let sub : sub_view topic (held_sent s) now-is.flying now-is.held ≡ next =
          ap (λ (y : Parts). sub_view topic (held_sent s) y.flying y.held) p
          ∙ ap₂ (λ (b : Option (List Entry)) (y : List Def.Inflight). Def.with_browser b (Def.with_inflight y next)) (same-browser s.browser (map entry_of rest) (map entry_of held)) flown in
          λ i. record {
            before = (p i).before;
            sub = sub i;
            after = (p i).after;
            stats = dispatched-plain d.stats (omega arith) i;
            events = events-up-to d.events events said (omega arith) i;
          }

      pub ran-sent : credit_of s ≡ true → expired (pos now) (entry_of row) ≡ false
          → topic_ran now (topic_seen base (held_sent s) (sent_head d) (set rows (base + s.inflight) x) (set events d.events said)) ≡ topic_ran now v
      ran-sent credited y =
          ap (topic_ran now) seen-sent
          ∙ ran-turn now (add_dispatched 1) (sent v.sub (entry_of row) ∷ []) (send (entry_of row) (with_tpending (map entry_of rest) v.sub)) v
          (serve-sent now v.sub (entry_of row) (map entry_of rest) first (has ∙ credited) y)

-- ---- what holds while the consumer is served

pub record Going (now base : ℕ) (rows₀ events₀ : List Row) (s₀ : Sub) (d₀ : Head) (rows events : List Row) (s : Sub) (d : Head) : Type 0 where
  pub fine : TopicFine (length rows) (length events) base s d now
  pub same_rows : length rows ≡ length rows₀
  pub same-events : length events ≡ length events₀
  pub said : topic_ran now (topic_seen base s d rows events) ≡ topic_ran now (topic_seen base s₀ d₀ rows₀ events₀)
  pub later : drop d.events events ≡ drop d.events events₀
  pub kept : ConsumerKept base s₀ d₀ s d
  pub past : drop d₀.used rows ≡ drop d₀.used rows₀
  pub strict : OwnStrict base s₀.inflight s₀.held rows₀ → OwnStrict base s.inflight s.held rows

pub going_start : (now base : ℕ) (rows events : List Row) (s : Sub) (d : Head) → TopicFine (length rows) (length events) base s d now → Going now base rows events s d rows events s d
going_start now base rows events s d f = record {
  fine = f;
  same_rows = refl;
  same-events = refl;
  said = refl;
  later = refl;
  kept = record { rows = f.rows; used = omega arith; tail = refl; own = omega arith; events = omega arith; sent = omega arith; expired = omega arith; dispatched = omega arith; head = refl };
  past = refl;
  strict = λ o. o;
}

module _ (now base : ℕ) (rows₀ events₀ : List Row) (s₀ : Sub) (d₀ : Head) (rows events : List Row) (s : Sub) (d : Head) (g : Going now base rows₀ events₀ s₀ d₀ rows events s d) where
  abbrev f : TopicFine (length rows) (length events) base s d now
  f = g.fine

  pub going-none : s.held ≤ 0 → topic_seen base s d rows events ≡ topic_ran now (topic_seen base s₀ d₀ rows₀ events₀)
  going-none h = sym (ran-none now base s d rows events f h) ∙ g.said

  module _ (some : 0 < s.held) where
    pub going-stop : credit_of s ≡ false → topic_seen base s d rows events ≡ topic_ran now (topic_seen base s₀ d₀ rows₀ events₀)
    going-stop h = sym (ran-stop now base s d rows events f some h) ∙ g.said

    module _ (credited : credit_of s ≡ true) where
      fine-lost : TopicFine (length rows) (length events) base (lost_sub s) (lost_head d) now
      fine-lost =
          let e : (lost_head d).stats.expired ≡ d.stats.expired + 1 = omega arith in
          omega arith

      kept-lost : ConsumerKept base s₀ d₀ (lost_sub s) (lost_head d)
      kept-lost = let k = g.kept in record {
        rows = omega arith;
        used = omega arith;
        tail = omega arith;
        own = omega arith;
        events = omega arith;
        sent = omega arith;
        expired = omega arith;
        dispatched = omega arith;
        head = ap lost_head k.head;
      }

      pub going-lost : (d' : Head) (rows' : List Row) → d' ≡ lost_head d → rows' ≡ close_gap (base + s.inflight) 1 d.used rows
          → expired (pos now) (entry_of (get_or rows (base + s.inflight) [])) ≡ true → Going now base rows₀ events₀ s₀ d₀ rows' events (lost_sub s) d'
      going-lost d' rows' p q x =
          let size : length (close_gap (base + s.inflight) 1 d.used rows) ≡ length rows = close-length (base + s.inflight) 1 d.used rows in
          rw (p, q) (record {
            fine = rw size fine-lost;
            same_rows = size ∙ g.same_rows;
            same-events = g.same-events;
            said = ran-lost now base s d rows events f some credited x ∙ g.said;
            later = g.later;
            kept = kept-lost;
            past = close-after (base + s.inflight) 1 d.used rows d₀.used (omega (arith, g.kept.used)) ∙ g.past;
            strict = λ o. strict-lost base s.inflight s.held d.used rows some f.rows (omega arith) (g.strict o);
          })

      fine-sent : TopicFine (length rows) (length events) base (held_sent s) (sent_head d) now
      fine-sent = omega arith

      kept-sent : ConsumerKept base s₀ d₀ (held_sent s) (sent_head d)
      kept-sent = let k = g.kept in record {
        rows = omega arith;
        used = omega arith;
        tail = omega arith;
        own = omega arith;
        events = omega arith;
        sent = omega arith;
        expired = omega arith;
        dispatched = omega arith;
        head = ap sent_head k.head;
      }

      pub going-sent : (s' : Sub) (d' : Head) (events' : List Row) (x : Row) → s' ≡ held_sent s → d' ≡ sent_head d
          → events' ≡ set events d.events (event_words (message (id_of s.conn s.session s.value) (entry_of (get_or rows (base + s.inflight) [])).seq (entry_of (get_or rows (base + s.inflight) [])).redelivery))
          → x ≡ flown_row s.next_dseq (get_or rows (base + s.inflight) []) → length (get_or rows (base + s.inflight) []) ≡ 10
          → expired (pos now) (entry_of (get_or rows (base + s.inflight) [])) ≡ false
          → Going now base rows₀ events₀ s₀ d₀ (set rows (base + s.inflight) x) events' s' d'
      unfolding topic_seen sub_view
      going-sent s' d' events' x o p q r n y =
          let row : Row = get_or rows (base + s.inflight) [] in
          let flies : inflight_at x ≡ inflight_of s.next_dseq (entry_of row) = ap inflight_at r ∙ flown-row s.next_dseq row n in
          let e : Row = event_words (message (id_of s.conn s.session s.value) (entry_of (get_or rows (base + s.inflight) [])).seq (entry_of (get_or rows (base + s.inflight) [])).redelivery) in
          rw (o, p, q) (record {
            fine = simp length-set fine-sent;
            same_rows = simp length-set g.same_rows;
            same-events = simp length-set g.same-events;
            said = ran-sent now base s d rows events f some x flies credited y ∙ g.said;
            later = events-after d.events events e ∙ sym (drop-drop 1 d.events events) ∙ ap (drop 1) g.later ∙ drop-drop 1 d.events events₀;
            kept = kept-sent;
            past = drop-set-lt d₀.used rows (base + s.inflight) x (omega (arith, g.kept.used, f.rows)) ∙ g.past;
            strict = λ o.
                let z = g.strict o in
                let e = (first-strict base s.inflight s.held d.used rows some f.rows (omega arith) z).0 in
                strict-sent base s.inflight s.held d.used rows some f.rows (omega arith) z x (ap flying_strict r ∙ flown-strict s.next_dseq row e);
          })

-- ---- whether a consumer can be served

module _ (w : Row) (s : Sub) (is : s ≡ row_sub w) where
  pub serves-some : 0 < s.held → credit_of s ≡ can_serve w
  serves-some h = ap credit_of is ∙ sym (ap (λ (b : Bool). b && credit_of (row_sub w)) (ap (λ (x : Sub). ltb 0 x.held) (sym is) ∙ lt-ltb 0 s.held h))

  pub serves-none : s.held ≤ 0 → false ≡ can_serve w
  serves-none h = sym (ap (λ (b : Bool). b && credit_of (row_sub w)) (ap (λ (x : Sub). ltb 0 x.held) (sym is) ∙ le-ltb 0 s.held h))
