-- A turn of the loop over all consumers: what the definition says of the tables before it, it says of the tables after it. Assumes nothing.
use mathlib.Core.Path.{◌≡◌, sym, ap, ap₂, ◌∙◌}
use mathlib.Core.List.{List, [], ◌∷◌, ◌++◌, append_assoc, append-nil, map, map-append}
use Prim.Native.Nat.{ℕ, suc, ◌+◌, ◌-◌, ◌<◌}
use native.Mathlib.Numerals.{add-one}
use native.Mathlib.Omega.{arith}
use lib.ListN.{length, take, drop, get_or}
use lib.Seq.{drop-drop, drop-length}
use Rattle.stats.specs.declared.Stats.{Stats}
use Rattle.entry.specs.Entry.{entry_of}
use Rattle.definition.specs.Base.{whether◌then◌else◌}
use Rattle.definition.specs.Types.{Entry, queue}
use Rattle.definition.specs.Types as Def
use Rattle.definition.specs.Consumer.{◌⊕◌, is_browser, Browse, dispatch_browser}
use Rattle.definition.specs.Destination.{Browsed, browsers}
use Rattle.definition.specs.Layout.{Row, inflight_count, held_count, each_sub, subs_at, sub_rows, event_words}
use Rattle.definition.proofs.Local.{⊕-zero, ⊕-assoc, alone}
use Rattle.table.proofs.Lists.{slice-take, agree-drop}
use Rattle.consumers.specs.Consumers.{row_sub, sub_view}
use Rattle.state.specs.declared.Head.{Head}
use Rattle.consumers.proofs.Line.{subs-done, left-size, subs-next, subs-rest}

-- the consumers, the reserved rows, what waits, the counters and the events
pub record Whole : Type 0 where
  pub subs : List Def.Sub
  pub reserved : List Row
  pub pending : List Entry
  pub stats : Stats
  pub events : List Row

-- with the consumers that are done before those that the definition has yet to look at
abbrev ended : List Def.Sub → List Row → Stats → List Row → Browsed → Whole
ended done reserved stats events x = record { subs = done ++ x.subs; reserved = reserved; pending = x.pending; stats = stats ⊕ x.counts; events = events ++ map event_words x.events }

-- the rows after the consumers', which end at a place: the reserved ones, and those that wait
abbrev pub reserved_rows : ℕ → Head → List Row → List Row
reserved_rows end d rows = take d.reserved (drop end rows)

abbrev pub waiting_rows : ℕ → Head → List Row → List Row
waiting_rows end d rows = take d.waiting (drop d.reserved (drop end rows))

-- what the definition says when i of the consumers ws are done, whose rows end at base
pub whole : ℕ → List Row → ℕ → ℕ → Head → List Row → List Row → List Row → Whole
whole now ws i base d subs rows events =
    let end = base + sub_rows (drop i ws) in
    ended (subs_at queue (take i subs) rows) (reserved_rows end d rows) d.stats (take d.events events)
    (browsers now (subs_at queue (drop i ws) (drop base rows)) (map entry_of (waiting_rows end d rows)))

-- at the start
pub whole-start : (now : ℕ) (ws : List Row) (d : Head) (subs rows events : List Row) → whole now ws 0 0 d subs rows events
    ≡ ended [] (reserved_rows (sub_rows ws) d rows) d.stats (take d.events events) (browsers now (subs_at queue ws rows) (map entry_of (waiting_rows (sub_rows ws) d rows)))
unfolding whole each_sub
whole-start now ws d subs rows events =
    let e : 0 + sub_rows ws ≡ sub_rows ws = omega arith in
    ap (λ (n : ℕ). ended [] (reserved_rows n d rows) d.stats (take d.events events) (browsers now (subs_at queue ws rows) (map entry_of (waiting_rows n d rows)))) e

-- at the end
pub whole-end : (now : ℕ) (ws : List Row) (i base : ℕ) (d : Head) (subs rows events : List Row) → i ≡ length ws → whole now ws i base d subs rows events
    ≡ record { subs = subs_at queue (take i subs) rows; reserved = reserved_rows base d rows; pending = map entry_of (waiting_rows base d rows); stats = d.stats; events = take d.events events }
unfolding whole each_sub sub_rows browsers
whole-end now ws i base d subs rows events e =
    let none : drop i ws ≡ [] = ap (λ (n : ℕ). drop n ws) e ∙ drop-length ws in
    let z : base + 0 ≡ base = omega arith in
    ap
    (λ (l : List Row). ended (subs_at queue (take i subs) rows) (reserved_rows (base + sub_rows l) d rows) d.stats (take d.events events) (browsers now (subs_at queue l (drop base rows)) (map entry_of (waiting_rows (base + sub_rows l) d rows))))
    none
    ∙ (λ j. record {
      subs = append-nil (subs_at queue (take i subs) rows) j;
      reserved = reserved_rows (z j) d rows;
      pending = map entry_of (waiting_rows (z j) d rows);
      stats = ⊕-zero d.stats j;
      events = append-nil (take d.events events) j;
    })

-- what the definition does with one consumer
abbrev pub met : ℕ → List Entry → Def.Sub → Browse
met now pending s = whether is_browser s then dispatch_browser now pending s else alone pending s

abbrev joined : ℕ → List Def.Sub → Browse → Browsed
joined now l b = let x = browsers now l b.pending in record { subs = b.sub ∷ x.subs; pending = x.pending; counts = b.counts ⊕ x.counts; events = b.events ++ x.events }

browsers-next : (now : ℕ) (s : Def.Sub) (l : List Def.Sub) (pending : List Entry) (b : Browse) → met now pending s ≡ b → browsers now (s ∷ l) pending ≡ joined now l b
unfolding browsers
browsers-next now s l pending b h = ap (joined now l) h

-- the rows that wait, after those of a consumer and m more
pub waits-after : (end m w u : ℕ) (rows : List Row) → end + m + w ≡ u → drop m (take (u - end) (drop end rows)) ≡ take w (drop (end + m) rows)
waits-after end m w u rows e =
    let n : u - end - m ≡ w = omega arith in
    slice-take m (u - end) (drop end rows) (omega arith) ∙ ap₂ take n (drop-drop m end rows)

waits-at : (end n : ℕ) (d : Head) (rows : List Row) → end + d.reserved ≡ n → waiting_rows end d rows ≡ take d.waiting (drop n rows)
waits-at end n d rows e = ap (take d.waiting) (drop-drop d.reserved end rows ∙ ap (λ (k : ℕ). drop k rows) e)

-- ---- one turn: the consumer is stored as the row x, and the definition makes b of it
module _ (now : ℕ) (ws : List Row) (i base m : ℕ) (d r : Head) (subs subs' rows rows' events events' : List Row) (x : Row) (b : Browse)
    (more : i < length ws)
    (ends : base ≡ sub_rows (take i subs))
    (done : take (i + 1) subs' ≡ take i subs ++ (x ∷ []))
    (between : m ≡ sub_rows (drop (suc i) ws) + d.reserved)
    (same : r.reserved ≡ d.reserved)
  where
    abbrev w : Row
    w = get_or ws i []

    -- where the consumer's rows ended, and where they end
    abbrev end : ℕ
    end = base + inflight_count w + held_count w

    abbrev end' : ℕ
    end' = base + inflight_count x + held_count x

    abbrev mine : Def.Sub
    mine = sub_view queue (row_sub w) (take (inflight_count w) (drop base rows)) (take (held_count w) (drop (base + inflight_count w) rows))

    abbrev pending : List Entry
    pending = map entry_of (take d.waiting (drop (end + m) rows))

    module _ (low : take base rows' ≡ take base rows)
        (stored : sub_view queue (row_sub x) (take (inflight_count x) (drop base rows')) (take (held_count x) (drop (base + inflight_count x) rows')) ≡ b.sub)
        (agrees : take m (drop end' rows') ≡ take m (drop end rows))
        (waits : map entry_of (take r.waiting (drop (end' + m) rows')) ≡ b.pending)
        (stats : r.stats ≡ d.stats ⊕ b.counts)
        (sent : take r.events events' ≡ take d.events events ++ map event_words b.events)
        (is : met now pending mine ≡ b)
      where
        abbrev post : List Row
        post = drop (suc i) ws

        size : base + sub_rows (drop i ws) ≡ end + sub_rows post
        unfolding row_sub
        size = omega (arith, left-size ws i more)

        abbrev now-ends : ℕ
        now-ends = end' + sub_rows (drop (i + 1) ws)

        size' : now-ends ≡ end' + sub_rows post
        size' = ap (λ (n : ℕ). end' + sub_rows (drop n ws)) (add-one i)

        -- the reserved rows
        kept : reserved_rows now-ends r rows' ≡ reserved_rows (base + sub_rows (drop i ws)) d rows
        kept =
            let n : ℕ = sub_rows post in
            let count : r.reserved ≡ m - n = omega arith in
            let count₀ : m - n ≡ d.reserved = omega arith in
            ap₂ (λ (k e : ℕ). take k (drop e rows')) count size'
            ∙ ap (take (m - n)) (sym (drop-drop n end' rows'))
            ∙ agree-drop n m (drop end' rows') (drop end rows) agrees (omega arith)
            ∙ ap₂ take count₀ (drop-drop n end rows ∙ ap (λ (k : ℕ). drop k rows) (sym size))

        -- what waits
        waited : map entry_of (waiting_rows (base + sub_rows (drop i ws)) d rows) ≡ pending
        waited = ap (map entry_of) (waits-at (base + sub_rows (drop i ws)) (end + m) d rows (omega (arith, size)))

        waits-on : map entry_of (waiting_rows now-ends r rows') ≡ b.pending
        waits-on = ap (map entry_of) (waits-at now-ends (end' + m) r rows' (omega (arith, size'))) ∙ waits

        front : subs_at queue (take (i + 1) subs') rows' ≡ subs_at queue (take i subs) rows ++ (b.sub ∷ [])
        front = ap (λ (l : List Row). subs_at queue l rows') done ∙ subs-done queue (take i subs) x base rows rows' b.sub ends low stored

        back : subs_at queue (drop (i + 1) ws) (drop end' rows') ≡ subs_at queue post (drop end rows)
        back = subs-rest ws i more queue m end end' rows rows' (omega arith) agrees

        served : browsers now (subs_at queue (drop i ws) (drop base rows)) (map entry_of (waiting_rows (base + sub_rows (drop i ws)) d rows)) ≡ joined now (subs_at queue post (drop end rows)) b
        served = ap₂ (browsers now) (subs-next ws i more queue base rows) waited ∙ browsers-next now mine (subs_at queue post (drop end rows)) pending b is

        pub whole-turn : whole now ws (i + 1) end' r subs' rows' events' ≡ whole now ws i base d subs rows events
        unfolding whole
        whole-turn =
            let p : List Def.Sub = subs_at queue (take i subs) rows in
            let o : List Row = reserved_rows (base + sub_rows (drop i ws)) d rows in
            let y : Browsed = browsers now (subs_at queue post (drop end rows)) b.pending in
            (λ j. ended (front j) (kept j) (stats j) (sent j) (browsers now (back j) (waits-on j)))
            ∙ (λ j. record {
              subs = append_assoc p (b.sub ∷ []) y.subs j;
              reserved = o;
              pending = y.pending;
              stats = ⊕-assoc d.stats b.counts y.counts j;
              events = (append_assoc (take d.events events) (map event_words b.events) (map event_words y.events) ∙ ap (λ (l : List Row). take d.events events ++ l) (sym (map-append event_words b.events y.events))) j;
            })
            ∙ ap (ended p o d.stats (take d.events events)) (sym served)
