-- A turn of the loop over all consumers: what the definition says of the tables before it, it says of the tables after it. Assumes nothing.
use mathlib.Core.Path.{◌≡◌, refl, sym, ap, ap₂, ◌∙◌}
use mathlib.Core.List.{List, [], ◌∷◌, ◌++◌, append_assoc, append-nil, map, map-append}
use Prim.Native.Nat.{ℕ, suc, ◌+◌, ◌-◌, ◌≤◌, ◌<◌}
use native.Mathlib.Numerals.{add-one}
use native.Mathlib.Omega.{arith}
use lib.ListN.{length, take, drop, get_or, set}
use lib.Seq.{drop-drop, drop-length}
use Rattle.words.proofs.Lists.{set_next}
use Rattle.stats.specs.declared.Stats.{Stats}
use Rattle.definition.specs.Types.{topic}
use Rattle.definition.specs.Types as Def
use Rattle.definition.specs.Consumer.{◌⊕◌, Step, serve_topic}
use Rattle.definition.specs.Destination.{Served, serve_all}
use Rattle.definition.specs.Layout.{Row, each_sub, subs_at, sub_rows, event_words}
use Rattle.definition.proofs.Local.{⊕-zero, ⊕-assoc}
use Rattle.consumers.specs.declared.Sub.{Sub}
use Rattle.consumers.specs.Consumers.{row_sub, sub_words, sub_view}
use Rattle.consumers.proofs.Words.{round}
use Rattle.state.specs.declared.Head.{Head}
use Rattle.state.specs.Parts.{head_moved}
use Rattle.topics.specs.Topics.{Seen, topic_seen, topic_ran, ConsumerKept}
use Rattle.table.proofs.Lists.{agree-drop}
use Rattle.consumers.proofs.Line.{rows-one, subs-done, left-size, subs-next, subs-rest, LineStrict, line-own, line-turn}
use Rattle.consumers.specs.Seats.{OwnStrict}
use Rattle.consumers.proofs.Strict.{stored-strict}

-- the consumers, the rows after theirs, the counters and the events
pub record Whole : Type 0 where
  pub subs : List Def.Sub
  pub others : List Row
  pub stats : Stats
  pub events : List Row

-- with the consumers that are done before those that the definition has yet to serve
abbrev ended : List Def.Sub → List Row → Stats → List Row → Served → Whole
ended done others stats events x = record { subs = done ++ x.subs; others = others; stats = stats ⊕ x.counts; events = events ++ map event_words x.events }

-- what the definition says when i of the consumers ws are done, whose rows end at base
pub whole : ℕ → List Row → ℕ → ℕ → Head → List Row → List Row → List Row → Whole
whole now ws i base d subs rows events =
    ended (subs_at topic (take i subs) rows) (take (d.reserved + d.waiting) (drop (base + sub_rows (drop i ws)) rows)) d.stats (take d.events events)
    (serve_all now (subs_at topic (drop i ws) (drop base rows)))

-- the consumers that are done, by other words
pub whole_words : (now : ℕ) (ws : List Row) (i base : ℕ) (d : Head) (subs subs' rows events : List Row) → subs_at topic (take i subs) rows ≡ subs_at topic (take i subs') rows
    → whole now ws i base d subs rows events ≡ whole now ws i base d subs' rows events
unfolding whole
whole_words now ws i base d subs subs' rows events e =
    ap (λ (l : List Def.Sub). ended l (take (d.reserved + d.waiting) (drop (base + sub_rows (drop i ws)) rows)) d.stats (take d.events events) (serve_all now (subs_at topic (drop i ws) (drop base rows)))) e

-- at the start
pub whole-start : (now : ℕ) (ws : List Row) (d : Head) (subs rows events : List Row)
    → whole now ws 0 0 d subs rows events ≡ ended [] (take (d.reserved + d.waiting) (drop (sub_rows ws) rows)) d.stats (take d.events events) (serve_all now (subs_at topic ws rows))
unfolding whole each_sub
whole-start now ws d subs rows events =
    let e : 0 + sub_rows ws ≡ sub_rows ws = omega arith in
    ap (λ (n : ℕ). ended [] (take (d.reserved + d.waiting) (drop n rows)) d.stats (take d.events events) (serve_all now (subs_at topic ws rows))) e

-- at the end
pub whole-end : (now : ℕ) (ws : List Row) (i base : ℕ) (d : Head) (subs rows events : List Row) → i ≡ length ws
    → whole now ws i base d subs rows events ≡ record { subs = subs_at topic (take i subs) rows; others = take (d.reserved + d.waiting) (drop base rows); stats = d.stats; events = take d.events events }
unfolding whole each_sub sub_rows serve_all
whole-end now ws i base d subs rows events e =
    let none : drop i ws ≡ [] = ap (λ (n : ℕ). drop n ws) e ∙ drop-length ws in
    let z : base + 0 ≡ base = omega arith in
    ap (λ (l : List Row). ended (subs_at topic (take i subs) rows) (take (d.reserved + d.waiting) (drop (base + sub_rows l) rows)) d.stats (take d.events events) (serve_all now (subs_at topic l (drop base rows)))) none
    ∙ (λ j. record {
      subs = append-nil (subs_at topic (take i subs) rows) j;
      others = take (d.reserved + d.waiting) (drop (z j) rows);
      stats = ⊕-zero d.stats j;
      events = append-nil (take d.events events) j;
    })

-- the counts, with i consumers done
pub record Ready (ws : List Row) (i base : ℕ) (d₀ d : Head) : Type 0 where
  pub rows : base + sub_rows (drop i ws) + (d.reserved + d.waiting) ≡ d.used
  pub used : d.used ≤ d₀.used
  pub events : d.events + sub_rows (drop i ws) ≤ d₀.events + d₀.used
  pub sent : d₀.events ≤ d.events
  pub expired : d.stats.expired + sub_rows (drop i ws) ≤ d₀.stats.expired + d₀.used
  pub dispatched : d.stats.dispatched + sub_rows (drop i ws) ≤ d₀.stats.dispatched + d₀.used
  pub head : d ≡ head_moved d₀ d

spans : (u v b f h f' h' : ℕ) → u + (f + h) ≡ v + (f' + h') → u - (b + f' + h') ≡ v - (b + f + h)
spans u v b f h f' h' e = omega arith

module _ (now : ℕ) (ws : List Row) (i base : ℕ) (d₀ d : Head) (subs rows events rows' events' : List Row) (t : Sub) (r : Head)
    (more : i < length ws)
    (within : i < length subs)
    (ready : Ready ws i base d₀ d)
    (ends : base ≡ sub_rows (take i subs))
    (kept : ConsumerKept base (row_sub (get_or ws i [])) d t r)
    (said : topic_seen base t r rows' events' ≡ topic_ran now (topic_seen base (row_sub (get_or ws i [])) d rows events))
  where
    abbrev w : Row
    w = get_or ws i []

    abbrev s : Sub
    s = row_sub w

    abbrev post : List Row
    post = drop (suc i) ws

    abbrev v : Seen
    v = topic_seen base s d rows events

    abbrev a : Step
    a = serve_topic now v.sub

    -- where the consumer's rows ended, and where they end
    abbrev end : ℕ
    end = base + s.inflight + s.held

    abbrev end' : ℕ
    end' = base + t.inflight + t.held

    abbrev subs' : List Row
    subs' = set subs i (sub_words t)

    left_is : drop (i + 1) ws ≡ post
    left_is = ap (λ (n : ℕ). drop n ws) (add-one i)

    size : sub_rows (drop i ws) ≡ s.inflight + (s.held + sub_rows post)
    size = left-size ws i more

    pub ready-turn : Ready ws (i + 1) end' d₀ r
    ready-turn =
        let z : sub_rows (drop (i + 1) ws) ≡ sub_rows post = ap sub_rows left_is in
        let res : r.reserved ≡ d.reserved = ap (λ (x : Head). x.reserved) kept.head in
        let wait : r.waiting ≡ d.waiting = ap (λ (x : Head). x.waiting) kept.head in
        let y = size in
        record {
          rows = omega arith;
          used = omega arith;
          events = omega arith;
          sent = omega arith;
          expired = omega arith;
          dispatched = omega arith;
          head = kept.head ∙ ap (λ (x : Head). head_moved x r) ready.head;
        }

    pre_is : take (i + 1) subs' ≡ take i subs ++ (sub_words t ∷ [])
    pre_is = set_next subs i (sub_words t) within

    pub ends-turn : end' ≡ sub_rows (take (i + 1) subs')
    unfolding sub_words
    ends-turn =
        let q : sub_rows (take (i + 1) subs') ≡ sub_rows (take i subs) + t.inflight + t.held = ap sub_rows pre_is ∙ rows-one (take i subs) (sub_words t) in
        omega arith

    -- the consumers that are done
    front : subs_at topic (take (i + 1) subs') rows' ≡ subs_at topic (take i subs) rows ++ (a.sub ∷ [])
    unfolding topic_seen sub_words
    front =
        let f : List Row = take t.inflight (drop base rows') in
        let h : List Row = take t.held (drop (base + t.inflight) rows') in
        ap (λ (l : List Row). subs_at topic l rows') pre_is
        ∙ subs-done topic (take i subs) (sub_words t) base rows rows' a.sub ends (ap (λ (x : Seen). x.before) said)
        (ap (λ (x : Sub). sub_view topic x f h) (round t) ∙ ap (λ (x : Seen). x.sub) said)

    -- the rows after the consumer's are as they were
    abbrev n : ℕ
    n = d.used - end

    agrees : take n (drop end' rows') ≡ take n (drop end rows)
    unfolding topic_seen
    agrees =
        let g : r.used - end' ≡ n = spans r.used d.used base s.inflight s.held t.inflight t.held kept.tail in
        ap (λ (m : ℕ). take m (drop end' rows')) (sym g) ∙ ap (λ (x : Seen). x.after) said

    fits : sub_rows post ≤ n
    fits = let y = size in let z = ready.rows in omega arith

    back : subs_at topic (drop (i + 1) ws) (drop end' rows') ≡ subs_at topic post (drop end rows)
    back = subs-rest ws i more topic n end end' rows rows' fits agrees

    others : take (r.reserved + r.waiting) (drop (end' + sub_rows (drop (i + 1) ws)) rows') ≡ take (d.reserved + d.waiting) (drop (base + sub_rows (drop i ws)) rows)
    others =
        let m : ℕ = sub_rows post in
        let y = size in
        let z = ready.rows in
        let res : r.reserved ≡ d.reserved = ap (λ (x : Head). x.reserved) kept.head in
        let wait : r.waiting ≡ d.waiting = ap (λ (x : Head). x.waiting) kept.head in
        let count : r.reserved + r.waiting ≡ n - m = omega arith in
        let count₀ : n - m ≡ d.reserved + d.waiting = omega arith in
        let from : end + m ≡ base + sub_rows (drop i ws) = omega arith in
        ap₂ (λ (x : ℕ) (l : List Row). take x (drop (end' + sub_rows l) rows')) count left_is
        ∙ ap (take (n - m)) (sym (drop-drop m end' rows'))
        ∙ agree-drop m n (drop end' rows') (drop end rows) agrees fits
        ∙ ap₂ take count₀ (drop-drop m end rows ∙ ap (λ (x : ℕ). drop x rows) from)

    -- the definition serves this consumer, then the rest
    abbrev x : Served
    x = serve_all now (subs_at topic post (drop end rows))

    served : serve_all now (subs_at topic (drop i ws) (drop base rows)) ≡ record { subs = a.sub ∷ x.subs; counts = a.counts ⊕ x.counts; events = a.events ++ x.events }
    unfolding serve_all topic_seen row_sub
    served = ap (serve_all now) (subs-next ws i more topic base rows)

    abbrev count : ℕ
    count = d.reserved + d.waiting

    pub strict-turn : LineStrict count ws subs i base rows → (OwnStrict base s.inflight s.held rows → OwnStrict base t.inflight t.held rows') → LineStrict count ws subs' (i + 1) end' rows'
    unfolding topic_seen sub_words row_sub
    strict-turn l o =
        let y = size in
        let z = ready.rows in
        line-turn count ws subs i base rows more l subs' (sub_words t) rows' n end end' pre_is ends refl (stored-strict t) (o (line-own count ws subs i base rows more l)) (ap (λ (x : Seen). x.before) said) (omega arith) agrees

    pub whole-turn : whole now ws (i + 1) end' r subs' rows' events' ≡ whole now ws i base d subs rows events
    unfolding whole topic_seen
    whole-turn =
        let p : List Def.Sub = subs_at topic (take i subs) rows in
        let o : List Row = take (d.reserved + d.waiting) (drop (base + sub_rows (drop i ws)) rows) in
        (λ j. ended (front j) (others j) (said j).stats (said j).events (serve_all now (back j)))
        ∙ (λ j. record {
          subs = append_assoc p (a.sub ∷ []) x.subs j;
          others = o;
          stats = ⊕-assoc d.stats a.counts x.counts j;
          events = (append_assoc (take d.events events) (map event_words a.events) (map event_words x.events) ∙ ap (λ (l : List Row). take d.events events ++ l) (sym (map-append event_words a.events x.events))) j;
        })
        ∙ ap (ended p o d.stats (take d.events events)) (sym served)
