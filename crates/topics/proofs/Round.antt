-- What holds while a topic's consumers are served one after the other, and what it says when all are. Assumes nothing.
use mathlib.Core.Path.{◌≡◌, refl, sym, ap, ap₂, ◌∙◌}
use mathlib.Core.Bool.{Bool, true, false, ◌&&◌}
use mathlib.Core.List.{List, [], ◌∷◌, ◌++◌, map}
use Prim.Native.Nat.{ℕ, suc, ◌+◌, ◌-◌, ◌≤◌, ◌<◌, ◌^◌}
use native.Mathlib.Omega.{arith}
use borrow.Author.Tests.{ltb-true, ltb-false}
use lib.Dec.{ltb}
use lib.ListN.{length, take, drop, get_or, set, length-set}
use lib.Seq.{length-take-le, get_or-take, drop-length, drop-set-lt}
use Rattle.words.proofs.Tests.{by-test}
use Rattle.words.proofs.Lists.{set_next, take_next}
use Rattle.entry.specs.Entry.{entry_of}
use Rattle.definition.specs.Types.{Kind, topic, Id, Audit}
use Rattle.definition.specs.Types as Def
use Rattle.definition.specs.Consumer.{◌⊕◌}
use Rattle.definition.specs.Destination.{serve_all, dispatch_topic}
use Rattle.definition.specs.Layout.{Row, held_at, inflight_count, held_count, subs_at, sub_rows, event_words, subs_strict, tables_strict}
use Rattle.definition.proofs.Lists.{agree-later}
use Rattle.table.proofs.Lists.{same_after, agree-take, agree-drop}
use Rattle.consumers.specs.declared.Sub.{Sub}
use Rattle.consumers.specs.Consumers.{row_sub, sub_words, sub_view, credit_of}
use Rattle.consumers.specs.Seats.{OwnStrict}
use Rattle.consumers.proofs.Laws.{fitting-at}
use Rattle.consumers.proofs.Words.{round}
use Rattle.state.specs.declared.Head.{Head}
use Rattle.state.specs.State.{head_view, strict_tables, kind_by}
use Rattle.state.specs.Fits.{Fits}
use Rattle.state.specs.Leaves.{Leaves}
use Rattle.state.specs.Parts.{head_moved}
use Rattle.topics.specs.Topics.{can_serve, topic_seen, topic_ran, TopicFine, ConsumerKept, Dispatched}
use Rattle.topics.proofs.All.{Whole, whole, whole_words, whole-start, whole-end, Ready, ready-turn, ends-turn, strict-turn, whole-turn}
use Rattle.topics.proofs.Turn.{ran-none, ran-stop}
use Rattle.consumers.proofs.Line.{rows-one, subs-done, strict-done, left-size, LineStrict, line-start, line-end, line-words, line-own}

pub record Round (now : ℕ) (subs₀ rows₀ events₀ : List Row) (d₀ : Head) (subs rows events : List Row) (d : Head) (base i : ℕ) : Type 0 where
  pub within : i ≤ d₀.consumers
  pub same-subs : length subs ≡ length subs₀
  pub same_rows : length rows ≡ length rows₀
  pub same-events : length events ≡ length events₀
  pub rest : drop i subs ≡ drop i subs₀
  pub ready : Ready (take d₀.consumers subs₀) i base d₀ d
  pub ends : base ≡ sub_rows (take i subs)
  pub past : drop d₀.used rows ≡ drop d₀.used rows₀
  pub later : drop d.events events ≡ drop d.events events₀
  pub strict : strict_tables d₀ subs₀ rows₀ ≡ true → LineStrict (d₀.reserved + d₀.waiting) (take d₀.consumers subs₀) subs i base rows
  pub said : whole now (take d₀.consumers subs₀) i base d subs rows events ≡ whole now (take d₀.consumers subs₀) 0 0 d₀ subs₀ rows₀ events₀

module _ (now : ℕ) (subs₀ rows₀ events₀ : List Row) (d₀ : Head) (fits : Fits subs₀ d₀ (length rows₀) (length events₀)) where
  abbrev ws : List Row
  ws = take d₀.consumers subs₀

  size : length ws ≡ d₀.consumers
  size = length-take-le d₀.consumers subs₀ (omega arith)

  pub round-start : Round now subs₀ rows₀ events₀ d₀ subs₀ rows₀ events₀ d₀ 0 0
  unfolding sub_rows
  round-start = let u = fits.rows-used in record {
    within = omega arith;
    same-subs = refl;
    same_rows = refl;
    same-events = refl;
    rest = refl;
    ready = record { rows = omega arith; used = omega arith; events = omega arith; sent = omega arith; expired = omega arith; dispatched = omega arith; head = refl };
    ends = refl;
    past = refl;
    later = refl;
    strict = line-start (d₀.reserved + d₀.waiting) ws subs₀ rows₀;
    said = refl;
  }

  module _ (subs rows events : List Row) (d : Head) (base i : ℕ) (g : Round now subs₀ rows₀ events₀ d₀ subs rows events d base i) where
    module _ (less : i < d₀.consumers) where
      abbrev w : Row
      w = get_or ws i []

      here : i < length ws
      here = omega (arith, size)

      row_is : get_or subs i [] ≡ w
      row_is = same_after i i subs subs₀ [] g.rest (omega arith) ∙ sym (get_or-take d₀.consumers subs₀ i [] less)

      next_row : (row_sub w).next_dseq ≤ 72057594037927937
      unfolding row_sub
      next_row = (fitting-at ws i fits.fitted here).1

      fine-row : now ≤ 2 ^ 62 → TopicFine (length rows) (length events) base (row_sub w) d now
      fine-row clock =
          let r = g.ready in
          let h : sub_rows (drop i ws) ≡ (row_sub w).inflight + ((row_sub w).held + sub_rows (drop (suc i) ws)) = left-size ws i here in
          let next : (row_sub w).next_dseq ≤ 72057594037927937 = next_row in
          record {
            rows = omega arith;
            used = omega arith;
            room = omega (arith, g.same_rows);
            events = omega (arith, g.same-events);
            next = omega arith;
            expired = omega arith;
            dispatched = omega arith;
            clock = clock;
          }

      pub round-fine : (s : Sub) → s ≡ row_sub (get_or subs i []) → now ≤ 2 ^ 62 → TopicFine (length rows) (length events) base s d now
      round-fine s e clock = rw (e, row_is) (fine-row clock)

      pub round-turn : (s t : Sub) (r : Head) (subs' rows' events' : List Row) → s ≡ row_sub (get_or subs i []) → subs' ≡ set subs i (sub_words t)
          → length rows' ≡ length rows → length events' ≡ length events
          → topic_seen base t r rows' events' ≡ topic_ran now (topic_seen base s d rows events) → drop r.events events' ≡ drop r.events events → ConsumerKept base s d t r → drop d.used rows' ≡ drop d.used rows
          → (OwnStrict base s.inflight s.held rows → OwnStrict base t.inflight t.held rows')
          → Round now subs₀ rows₀ events₀ d₀ subs' rows' events' r (base + t.inflight + t.held) (i + 1)
      round-turn s t r subs' rows' events' e p lr le said later kept past own =
          let q : s ≡ row_sub w = e ∙ ap row_sub row_is in
          let k : ConsumerKept base (row_sub w) d t r = rw q at kept in
          let v : topic_seen base t r rows' events' ≡ topic_ran now (topic_seen base (row_sub w) d rows events) = rw q at said in
          let count : d₀.reserved + d₀.waiting ≡ d.reserved + d.waiting = sym (ap (λ (x : Head). x.reserved + x.waiting) g.ready.head) in
          let b : i < length subs = omega (arith, fits.subs-long, fits.consumers, g.same-subs) in
          rw p (record {
            within = omega arith;
            same-subs = simp length-set g.same-subs;
            same_rows = lr ∙ g.same_rows;
            same-events = le ∙ g.same-events;
            rest = drop-set-lt (i + 1) subs i (sub_words t) (omega arith) ∙ agree-later i (i + 1) subs subs₀ (omega arith) g.rest;
            ready = ready-turn now ws i base d₀ d subs rows events rows' events' t r here b g.ready g.ends k v;
            ends = ends-turn now ws i base d₀ d subs rows events rows' events' t r here b g.ready g.ends k v;
            past = agree-later d.used d₀.used rows' rows g.ready.used past ∙ g.past;
            later = later ∙ agree-later d.events r.events events events₀ k.sent g.later;
            strict = λ h. rw count (strict-turn now ws i base d₀ d subs rows events rows' events' t r here b g.ready g.ends k v (rw count at (g.strict h)) (rw q at own));
            said = whole-turn now ws i base d₀ d subs rows events rows' events' t r here b g.ready g.ends k v ∙ g.said;
          })

      -- one that cannot be served is passed over
      module _ (s : Sub) (e : s ≡ row_sub (get_or subs i [])) (not-served : can_serve (get_or subs i []) ≡ false) (clock : now ≤ 2 ^ 62) where
        abbrev x : Row
        x = get_or subs i []

        abbrev end : ℕ
        end = base + s.inflight + s.held

        fine : TopicFine (length rows) (length events) base s d now
        fine = round-fine s e clock

        stays : topic_seen base s d rows events ≡ topic_ran now (topic_seen base s d rows events)
        stays = by-test (ltb 0 s.held)
            (λ t. sym (ran-stop now base s d rows events fine (ltb-true 0 s.held t) (sym (ap (λ (b : Bool). b && credit_of s) t) ∙ ap (λ (y : Sub). ltb 0 y.held && credit_of y) e ∙ not-served)))
            (λ t. sym (ran-none now base s d rows events fine (ltb-false 0 s.held t)))

        kept : ConsumerKept base s d s d
        kept = let f = fine.rows in record { rows = omega arith; used = omega arith; tail = refl; own = omega arith; events = omega arith; sent = omega arith; expired = omega arith; dispatched = omega arith; head = refl }

        abbrev stored : List Row
        stored = set subs i (sub_words s)

        turn : Round now subs₀ rows₀ events₀ d₀ stored rows events d end (i + 1)
        turn = round-turn s s d stored rows events e refl refl refl stays refl kept refl (λ o. o)

        long : i < length subs
        long = omega (arith, fits.subs-long, fits.consumers, g.same-subs)

        ends_same : end ≡ sub_rows (take (i + 1) subs)
        unfolding row_sub
        ends_same =
            let q : sub_rows (take (i + 1) subs) ≡ sub_rows (take i subs) + inflight_count x + held_count x = ap sub_rows (take_next subs i [] long) ∙ rows-one (take i subs) x in
            let f : s.inflight ≡ inflight_count x = ap (λ (y : Sub). y.inflight) e in
            let h : s.held ≡ held_count x = ap (λ (y : Sub). y.held) e in
            omega (arith, g.ends)

        -- the same consumer, by its own words and by those of the view
        front : subs_at topic (take (i + 1) subs) rows ≡ subs_at topic (take (i + 1) stored) rows
        unfolding row_sub sub_words
        front =
            let y : Def.Sub = sub_view topic s (take s.inflight (drop base rows)) (take s.held (drop (base + s.inflight) rows)) in
            ap (λ (l : List Row). subs_at topic l rows) (take_next subs i [] long)
            ∙ subs-done topic (take i subs) x base rows rows y g.ends refl (ap (λ (z : Sub). sub_view topic z (take z.inflight (drop base rows)) (take z.held (drop (base + z.inflight) rows))) (sym e))
            ∙ sym (subs-done topic (take i subs) (sub_words s) base rows rows y g.ends refl (ap (λ (z : Sub). sub_view topic z (take s.inflight (drop base rows)) (take s.held (drop (base + s.inflight) rows))) (round s)))
            ∙ sym (ap (λ (l : List Row). subs_at topic l rows) (set_next subs i (sub_words s) long))

        strict_same : strict_tables d₀ subs₀ rows₀ ≡ true → LineStrict (d₀.reserved + d₀.waiting) ws subs (i + 1) end rows
        strict_same h =
            let n : ℕ = d₀.reserved + d₀.waiting in
            let l : LineStrict n ws subs i base rows = g.strict h in
            let own : OwnStrict base (inflight_count w) (held_count w) rows = line-own n ws subs i base rows here l in
            let t : LineStrict n ws stored (i + 1) end rows = turn.strict h in
            record {
              done = ap (λ (y : List Row). subs_strict y rows) (take_next subs i [] long ∙ ap (λ (y : Row). take i subs ++ (y ∷ [])) row_is)
                  ∙ strict-done (take i subs) w base rows rows g.ends refl l.done (record { words = line-words n ws subs i base rows here l; flying = own.flying; held = own.held });
              left = t.left;
              others = t.others;
            }

        pub round-pass : Round now subs₀ rows₀ events₀ d₀ subs rows events d end (i + 1)
        round-pass = record {
          within = omega arith;
          same-subs = g.same-subs;
          same_rows = g.same_rows;
          same-events = g.same-events;
          rest = agree-later i (i + 1) subs subs₀ (omega arith) g.rest;
          ready = turn.ready;
          ends = ends_same;
          past = g.past;
          later = g.later;
          strict = strict_same;
          said = whole_words now ws (i + 1) end d subs stored rows events front ∙ turn.said;
        }

    -- all are served
    module _ (done : d₀.consumers ≤ i) (plain : d₀.queue ≡ false) where
      all_done : i ≡ length ws
      all_done = omega (arith, size, g.within)

      i-is : i ≡ d₀.consumers
      i-is = all_done ∙ size

      last : ◌≡◌ {A = Whole} (record { subs = subs_at topic (take i subs) rows; others = take (d.reserved + d.waiting) (drop base rows); stats = d.stats; events = take d.events events })
          (record {
            subs = (serve_all now (subs_at topic ws rows₀)).subs;
            others = take (d₀.reserved + d₀.waiting) (drop (sub_rows ws) rows₀);
            stats = d₀.stats ⊕ (serve_all now (subs_at topic ws rows₀)).counts;
            events = take d₀.events events₀ ++ map event_words (serve_all now (subs_at topic ws rows₀)).events;
          })
      last = sym (whole-end now ws i base d subs rows events all_done) ∙ g.said ∙ whole-start now ws d₀ subs₀ rows₀ events₀

      kind-is : kind_by d₀.queue ≡ topic
      kind-is = ap kind_by plain

      abbrev same : {A : Type 0} (f : Head → A) → f d ≡ f (head_moved d₀ d)
      same f = ap f g.ready.head

      base-is : base ≡ sub_rows (take d₀.consumers subs)
      base-is = g.ends ∙ ap (λ (n : ℕ). sub_rows (take n subs)) i-is

      -- the rows after the consumers'
      others : take (d₀.reserved + d₀.waiting) (drop (sub_rows (take d₀.consumers subs)) rows) ≡ take (d₀.reserved + d₀.waiting) (drop (sub_rows ws) rows₀)
      others =
          ap₂ (λ (n b : ℕ). take n (drop b rows)) (sym (same (λ (x : Head). x.reserved + x.waiting))) (sym base-is) ∙ ap (λ (x : Whole). x.others) last

      view : (ps : List Id) (qs : List Audit) → head_view d subs rows ps qs ≡ (dispatch_topic now (head_view d₀ subs₀ rows₀ ps qs)).dest
      unfolding head_view dispatch_topic
      view ps qs =
          let u : List Row = take d₀.consumers subs in
          let mine : subs_at (kind_by d₀.queue) u rows ≡ (serve_all now (subs_at (kind_by d₀.queue) ws rows₀)).subs =
          ap₂ (λ (k : Kind) (n : ℕ). subs_at k (take n subs) rows) kind-is (sym i-is)
          ∙ ap (λ (x : Whole). x.subs) last
          ∙ ap (λ (k : Kind). (serve_all now (subs_at k ws rows₀)).subs) (sym kind-is) in
          let counted : d.stats ≡ d₀.stats ⊕ (serve_all now (subs_at (kind_by d₀.queue) ws rows₀)).counts =
          ap (λ (x : Whole). x.stats) last ∙ ap (λ (k : Kind). d₀.stats ⊕ (serve_all now (subs_at k ws rows₀)).counts) (sym kind-is) in
          let m : ℕ = d₀.reserved + d₀.waiting in
          let a : List Row = drop (sub_rows u) rows in
          let b : List Row = drop (sub_rows ws) rows₀ in
          let n : m - d₀.reserved ≡ d₀.waiting = omega arith in
          let waits : take d₀.waiting (drop d₀.reserved a) ≡ take d₀.waiting (drop d₀.reserved b) =
          ap (λ (x : ℕ). take x (drop d₀.reserved a)) (sym n) ∙ agree-drop d₀.reserved m a b others (omega arith) ∙ ap (λ (x : ℕ). take x (drop d₀.reserved b)) n in
          let held : take d₀.reserved a ≡ take d₀.reserved b = agree-take d₀.reserved m a b others (omega arith) in
          same (λ (x : Head). head_view x subs rows ps qs)
          ∙ (λ j. record {
            kind = kind_by d₀.queue;
            topic_limit = d₀.topic_limit;
            call_limit = d₀.call_limit;
            allowance = d₀.allowance;
            share = d₀.share;
            calls_used = d₀.calls_used;
            pending = map entry_of (waits j);
            subs = mine j;
            rr = d₀.turn;
            producers = ps;
            audits = qs;
            stats = counted j;
            idle = (head_view d₀ subs₀ rows₀ ps qs).idle;
            reserved = map held_at (held j);
          })

      sent : (ps : List Id) (qs : List Audit) → take d.events events ≡ take d₀.events events₀ ++ map event_words (dispatch_topic now (head_view d₀ subs₀ rows₀ ps qs)).events
      unfolding head_view dispatch_topic
      sent ps qs = ap (λ (x : Whole). x.events) last
          ∙ ap (λ (k : Kind). take d₀.events events₀ ++ map event_words (serve_all now (subs_at k ws rows₀)).events) (sym kind-is)

      none_left : sub_rows (drop i ws) ≡ 0
      unfolding sub_rows
      none_left = ap sub_rows (ap (λ (n : ℕ). drop n ws) all_done ∙ drop-length ws)

      pub round-end : Leaves (dispatch_topic now) d₀ d subs₀ rows₀ events₀ subs rows events × Dispatched d₀ d
      round-end =
          let r = g.ready in
          let z = none_left in
          let n : d.consumers ≡ d₀.consumers = same (λ (x : Head). x.consumers) in
          let m : take d.consumers subs ≡ take i subs = ap (λ (k : ℕ). take k subs) (n ∙ sym i-is) in
          let w = g.ends in (
            record {
              view = λ ps qs _. view ps qs;
              sent = λ ps qs _. sent ps qs;
              later = g.later;
              more = r.sent;
              producers = same (λ (x : Head). x.producers);
              audits = same (λ (x : Head). x.audits);
              queue = same (λ (x : Head). x.queue);
              allowance = same (λ (x : Head). x.allowance);
              share = same (λ (x : Head). x.share);
              consumers = omega (arith, n, fits.consumers);
              used = omega (arith, r.used, fits.used);
              rows-used = rw m (omega arith);
              strict = λ h. ap₂ (λ (k : ℕ) (l : List Row). tables_strict k l rows) (same (λ (x : Head). x.reserved + x.waiting)) m
                  ∙ line-end (d₀.reserved + d₀.waiting) ws subs i base rows all_done g.ends (g.strict h);
              subs-past = agree-later i 32 subs subs₀ (omega (arith, g.within, fits.consumers)) g.rest;
              rows-past = agree-later d₀.used 512 rows rows₀ fits.used g.past;
              subs-length = g.same-subs;
              rows-length = g.same_rows;
              events-length = g.same-events;
            },
            record { consumers = n; most = omega arith },
          )
