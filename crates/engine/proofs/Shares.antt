-- The rows of a producer connection: those that are counted in the tables are those of the definitions. Assumes nothing.
use mathlib.Core.Path.{◌≡◌, refl, sym, ap, ap₂, ◌∙◌}
use mathlib.Core.Bool.{Bool, true, false}
use mathlib.Core.List.{List, [], ◌∷◌, ◌++◌, map}
use Prim.Native.Nat.{ℕ, ◌+◌, ◌-◌, ◌≤◌, ◌<◌, min}
use native.Mathlib.Omega.{arith}
use lib.Dec.{eqb}
use lib.ListN.{length, take, drop, get_or}
use lib.Seq.{slice, take-add}
use Rattle.words.proofs.Tests.{by-test}
use Rattle.entry.specs.Entry.{entry_of}
use Rattle.definition.specs.Base.{whether◌then◌else◌, tally}
use Rattle.definition.specs.Types.{Kind, Entry, queue, topic}
use Rattle.definition.specs.Consumer.{is_browser}
use Rattle.definition.specs.Words.{at}
use Rattle.definition.specs.Calls.{rows_of, flying, taken, consumer_rows, own_rows, rows_from}
use Rattle.definition.specs.Layout.{Row, flag, held_at, inflight_count, held_count, sub_at, each_sub, subs_at, sub_rows}
use Rattle.definition.proofs.Thin.{tally-append}
use Rattle.definition.proofs.Stored.{flying-rows}
use Rattle.table.proofs.Lists.{slice-take}
use Rattle.table.proofs.Segments.{tally-map, tally-most}
use Rattle.consumers.specs.declared.Sub.{Sub}
use Rattle.consumers.specs.Consumers.{row_sub}
use Rattle.consumers.proofs.Lists.{first_next, first_ended}
use Rattle.consumers.proofs.Laws.{browser-sub, rows-of-sub}
use Rattle.consumers.proofs.View.{sub_at_lem, inflight-loaded, held-loaded, drop-three}
use Rattle.consumers.proofs.Table.{rows_next}
use Rattle.state.specs.declared.Head.{Head}
use Rattle.state.specs.State.{head_view, kind_by}
use Rattle.engine.specs.Shares.{came_from, own_of, taken_from, held_from}
use Rattle.engine.proofs.Used.{held-entries, reserved_rows, waiting_rows}

-- a row's word
pub came-word : (c : ℕ) (w : Row) → came_from c w ≡ eqb c (get_or w 3 0)
unfolding entry_of
came-word c w = refl

-- ---- the consumers' rows

browser-at : (k : Kind) (w : Row) (f h : List Row) → is_browser (sub_at k w f h) ≡ (row_sub w).browser
browser-at k w f h = ap is_browser (sub_at_lem k w f h) ∙ browser-sub k (row_sub w) f h

pub part : (base n : ℕ) (rows : List Row) → take n (drop base rows) ≡ slice base (base + n) rows
part base n rows =
    let e : n ≡ base + n - base = omega arith in
    ap (λ (m : ℕ). take m (drop base rows)) e ∙ sym (slice-take base (base + n) rows (omega arith))

module _ (c : ℕ) where
  counted : (l : List Row) → rows_from c (map entry_of l) ≡ tally (came_from c) l
  counted l = tally-map entry_of (λ (e : Entry). eqb c e.producer) l

  joined : (l m : List Entry) → rows_from c (l ++ m) ≡ rows_from c l + rows_from c m
  joined l m = tally-append (λ (e : Entry). eqb c e.producer) l m

  -- one consumer's, on a queue and on a topic
  one-queue : (w : Row) (h rows : List Row) → (b : Bool) → (row_sub w).browser ≡ b
      → rows_from c (whether b then [] else flying (sub_at queue w (take (inflight_count w) rows) h)) ≡ tally (came_from c) (take (whether b then 0 else inflight_count w) rows)
  unfolding sub_at
  one-queue w h rows true e = refl
  one-queue w h rows false e = ap (rows_from c) (flying-rows (take (inflight_count w) rows)) ∙ counted (take (inflight_count w) rows)

  one-topic : (w : Row) (rows : List Row)
      → rows_from c (rows_of (sub_at topic w (take (inflight_count w) rows) (take (held_count w) (drop (inflight_count w) rows)))) ≡ tally (came_from c) (take (inflight_count w + held_count w) rows)
  one-topic w rows =
      let f : List Row = take (inflight_count w) rows in
      let h : List Row = take (held_count w) (drop (inflight_count w) rows) in
      ap (rows_from c) (rows-of-sub topic w f h) ∙ counted (f ++ h) ∙ ap (tally (came_from c)) (sym (take-add (inflight_count w) (held_count w) rows))

  -- all of them, from a place on
  all-queue : (base : ℕ) (ws rows : List Row) → rows_from c (taken (subs_at queue ws (drop base rows))) ≡ taken_from true c base ws rows
  unfolding each_sub taken_from row_sub
  all-queue base [] rows = refl
  all-queue base (w ∷ ws) rows =
      let a : ℕ = inflight_count w in
      let b : ℕ = held_count w in
      let r : List Row = drop base rows in
      let s = sub_at queue w (take a r) (take b (drop a r)) in
      let t = browser-at queue w (take a r) (take b (drop a r)) in
      joined (whether is_browser s then [] else flying s) (taken (subs_at queue ws (drop b (drop a r))))
      ∙ ap₂ (λ (x y : ℕ). x + y)
      (ap (λ (x : Bool). rows_from c (whether x then [] else flying s)) t ∙ one-queue w (take b (drop a r)) r (row_sub w).browser refl ∙ ap (tally (came_from c)) (part base (own_of true (row_sub w)) rows))
      (ap (λ (x : List Row). rows_from c (taken (subs_at queue ws x))) (drop-three base a b rows) ∙ all-queue (base + (a + b)) ws rows)

  all-topic : (base : ℕ) (ws rows : List Row) → rows_from c (consumer_rows (subs_at topic ws (drop base rows))) ≡ taken_from false c base ws rows
  unfolding each_sub taken_from row_sub
  all-topic base [] rows = refl
  all-topic base (w ∷ ws) rows =
      let a : ℕ = inflight_count w in
      let b : ℕ = held_count w in
      let r : List Row = drop base rows in
      joined (rows_of (sub_at topic w (take a r) (take b (drop a r)))) (consumer_rows (subs_at topic ws (drop b (drop a r))))
      ∙ ap₂ (λ (x y : ℕ). x + y)
      (one-topic w r ∙ ap (tally (came_from c)) (part base (a + b) rows))
      (ap (λ (x : List Row). rows_from c (consumer_rows (subs_at topic ws x))) (drop-three base a b rows) ∙ all-topic (base + (a + b)) ws rows)

  -- ---- the destination's

  module _ (d : Head) (subs rows : List Row) (e : sub_rows (take d.consumers subs) + (d.reserved + d.waiting) ≡ d.used) where
    abbrev n : ℕ
    n = sub_rows (take d.consumers subs)

    abbrev res : List Row
    res = reserved_rows d subs rows

    abbrev wait : List Row
    wait = waiting_rows d subs rows

    -- reserved and waiting ones
    others : rows_from c (map entry_of wait) + rows_from c (map entry_of res) ≡ tally (came_from c) (slice n d.used rows)
    others =
        let p : tally (came_from c) (slice n d.used rows) ≡ tally (came_from c) res + tally (came_from c) wait =
        ap (λ (m : ℕ). tally (came_from c) (slice n m rows)) (sym e) ∙ ap (tally (came_from c)) (sym (part n (d.reserved + d.waiting) rows) ∙ take-add d.reserved d.waiting (drop n rows)) ∙ tally-append (came_from c) res wait in
        omega (arith, p, counted wait, counted res)

    sum : (x : List Entry) (y : ℕ) → rows_from c x ≡ y → rows_from c (map entry_of wait ++ (map (λ h. h.entry) (map held_at res) ++ x)) ≡ y + tally (came_from c) (slice n d.used rows)
    sum x y q =
        let l : List Entry = map (λ h. h.entry) (map held_at res) in
        let r : rows_from c l ≡ rows_from c (map entry_of res) = ap (rows_from c) (held-entries res) in
        omega (arith, joined (map entry_of wait) (l ++ x), joined l x, q, r, others)

    by_kind : (b : Bool) → d.queue ≡ b → rows_from c (own_rows (head_view d subs rows [] []) (kind_by b)) ≡ taken_from b c 0 (take d.consumers subs) rows + tally (came_from c) (slice n d.used rows)
    unfolding head_view
    by_kind true q = sum (taken (subs_at (kind_by d.queue) (take d.consumers subs) rows)) _ (ap (λ (x : Bool). rows_from c (taken (subs_at (kind_by x) (take d.consumers subs) rows))) q ∙ all-queue 0 (take d.consumers subs) rows)
    by_kind false q = sum (consumer_rows (subs_at (kind_by d.queue) (take d.consumers subs) rows)) _ (ap (λ (x : Bool). rows_from c (consumer_rows (subs_at (kind_by x) (take d.consumers subs) rows))) q ∙ all-topic 0 (take d.consumers subs) rows)

    pub held-from : taken_from d.queue c 0 (take d.consumers subs) rows + tally (came_from c) (slice n d.used rows) ≡ held_from c d subs rows
    held-from = sym (by_kind d.queue refl)

  -- ---- the loop over the consumers

  module _ (q : Bool) (i k : ℕ) (subs rows : List Row) where
    pub taken_next : (base : ℕ) → i < min k (length subs) → taken_from q c base (slice i k subs) rows
        ≡ tally (came_from c) (slice base (base + own_of q (row_sub (get_or subs i []))) rows) + taken_from q c (base + (inflight_count (get_or subs i []) + held_count (get_or subs i []))) (slice (i + 1) k subs) rows
    unfolding taken_from
    taken_next base h = rw (first_next i k subs [] h)

    pub taken_none : (base : ℕ) → min k (length subs) ≤ i → taken_from q c base (slice i k subs) rows ≡ 0
    unfolding taken_from
    taken_none base h = rw (first_ended i k subs h)

  -- no more than the rows
  own-least : (q : Bool) (w : Row) → own_of q (row_sub w) ≤ inflight_count w + held_count w
  unfolding row_sub
  own-least q w = by-test q (λ t. rw t (by-test (flag (at 6 w)) (λ u. rw u (omega arith)) (λ u. rw u (omega arith)))) (λ t. rw t (omega arith))

  taken-least : (q : Bool) (base : ℕ) (ws rows : List Row) → base + sub_rows ws ≤ length rows → taken_from q c base ws rows ≤ sub_rows ws
  unfolding taken_from sub_rows
  taken-least q base [] rows h = omega arith
  taken-least q base (w ∷ ws) rows h =
      let o = own-least q w in
      let own : ℕ = own_of q (row_sub w) in
      let t = tally-most (came_from c) base (base + own) rows (omega arith) (omega (arith, o)) in
      omega (arith, o, t, taken-least q (base + (inflight_count w + held_count w)) ws rows (omega arith))

  -- no more than the rows in use
  pub held-least : (d : Head) (subs rows : List Row) → sub_rows (take d.consumers subs) + (d.reserved + d.waiting) ≡ d.used → d.used ≤ length rows → held_from c d subs rows ≤ d.used
  held-least d subs rows e l =
      let n : ℕ = sub_rows (take d.consumers subs) in
      omega (arith, held-from d subs rows e, taken-least d.queue 0 (take d.consumers subs) rows (omega arith), tally-most (came_from c) n d.used rows (omega arith) l)

  -- one turn: the consumer as loaded, how many of its rows belong to connections, and how many of these to this one
  module _ (q : Bool) (i k : ℕ) (subs rows : List Row) (base own got : ℕ) (s : Sub) (h : i < min k (length subs)) (es : s ≡ row_sub (get_or subs i [])) (eo : own ≡ own_of q s) where
    abbrev w : Row
    w = get_or subs i []

    all_of : s.inflight + s.held ≡ inflight_count w + held_count w
    all_of = ap (λ (x : Sub). x.inflight + x.held) es ∙ ap₂ (λ (x y : ℕ). x + y) (inflight-loaded w) (held-loaded w)

    -- its rows stand before those of the others
    pub turn-rows : base + sub_rows (slice i k subs) ≡ base + (s.inflight + s.held) + sub_rows (slice (i + 1) k subs)
    turn-rows = omega (arith, rows_next i k subs h, all_of)

    pub turn-own : own ≤ s.inflight + s.held
    turn-own = omega (arith, own-least q w, all_of, eo ∙ ap (own_of q) es)

    module _ (eg : got ≡ tally (came_from c) (slice base (base + own) rows)) where
      pub turn-got : base + own ≤ length rows → got ≤ own
      turn-got l = omega (arith, tally-most (came_from c) base (base + own) rows (omega arith) l, eg)

      pub turn-taken : (count : ℕ) → count + taken_from q c base (slice i k subs) rows ≡ count + got + taken_from q c (base + (s.inflight + s.held)) (slice (i + 1) k subs) rows
      turn-taken count =
          let g : got ≡ tally (came_from c) (slice base (base + own_of q (row_sub w)) rows) = eg ∙ ap (λ (m : ℕ). tally (came_from c) (slice base (base + m) rows)) (eo ∙ ap (own_of q) es) in
          let b = ap (λ (m : ℕ). taken_from q c (base + m) (slice (i + 1) k subs) rows) all_of in
          omega (arith, taken_next q i k subs rows base h, g, b)
