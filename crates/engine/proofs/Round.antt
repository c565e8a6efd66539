-- What holds while a topic's consumers get their copies one after the other, and what it says when all have theirs. Assumes nothing.
use mathlib.Core.Path.{◌≡◌, refl, sym, ap, ap₂, ◌∙◌}
use mathlib.Core.Bool.{true, false}
use mathlib.Core.List.{List, [], ◌∷◌, ◌++◌, append-nil, map}
use Prim.Native.Nat.{ℕ, suc, ◌+◌, ◌≤◌, ◌<◌, ◌^◌}
use native.Mathlib.Numerals.{add-one}
use native.Mathlib.Omega.{arith}
use lib.ListN.{length, take, drop, get_or, set, length-set, length-drop, take-append-drop}
use lib.Seq.{slice, length-take-le, get_or-take, take_all, drop-length, take-add, drop-drop, drop-cons, take-set-lt, take-suc-set, drop-set-lt, take-append-le, drop-append-le, set_at, append_snoc}
use Rattle.stats.specs.declared.Stats.{Stats}
use Rattle.stats.specs.Counted.{with_discarded_by}
use Rattle.entry.specs.Entry.{entry_of}
use Rattle.definition.specs.Base as Base
use Rattle.definition.specs.Base.{whether◌then◌else◌, every, nth, tally, member}
use Rattle.definition.specs.Types.{Kind, topic, Id, Entry, Audit}
use Rattle.definition.specs.Types as Def
use Rattle.definition.specs.Consumer.{◌⊕◌, add_expired, add_discarded}
use Rattle.definition.specs.Destination.{Served, fan_out, fan_out_all}
use Rattle.definition.specs.Calls.{seqs, consumer_rows}
use Rattle.definition.specs.Layout.{Row, inflight_count, held_count, held_at, sub_at, each_sub, subs_at, sub_rows, entry_strict, sub_strict, subs_strict}
use Rattle.definition.proofs.Tests.{and_left, or-no-right, if-false}
use Rattle.definition.proofs.Local.{⊕-assoc}
use Rattle.consumers.specs.declared.Sub.{Sub}
use Rattle.consumers.specs.Consumers.{row_sub, sub_words, sub_view, accepts_of}
use Rattle.consumers.specs.Seats.{flying_in, held_in, after_in, sub_in}
use Rattle.consumers.specs.Table.{takes_entry}
use Rattle.definition.proofs.Stored.{subs-length}
use Rattle.consumers.proofs.View.{sub_at_lem, sub-stored, inflight-stored, held-stored, inflight-loaded, held-loaded, rows_split, rows_take, rows-set, rows_append, each-before, subs-nth, subs-put, rows-parts, flying-length, held-length, after-all, after-put}
use Rattle.consumers.proofs.Laws.{rows-of-sub, consumer-rows}
use Rattle.consumers.proofs.Strict.{all_rest, stored-strict, strict-at, strict-put, tables-strict, strict-tables}
use Rattle.state.specs.declared.Head.{Head}
use Rattle.state.specs.State.{head_view, kind_by, strict_tables}
use Rattle.state.proofs.Counts.{expired-plain, discarded-plain}
use Rattle.engine.specs.Storing.{holds, rows_needed, spread}
use Rattle.engine.specs.declared.fanning.Copied.{Copied}
use Rattle.engine.specs.Copies.{copied, copied_rows, counted_by}
use Rattle.engine.specs.Arrivals.{rows_in_order, holds_in_order, Arrives, Arrived}
use Rattle.engine.proofs.Used.{reserved_rows, waiting_rows, holds-append, absent-parts}
use Rattle.engine.proofs.Order.{held-rise}
use Rattle.engine.proofs.Copy.{lost, lost-is, Copy, copy, copied-few}
use Rattle.engine.proofs.Spread.{fan-length, fan-more, fan-counts, nth-rest, absent-rest, absent-first}

-- the first i consumers of l with their copies
abbrev pub fan : ℕ → ℕ → Entry → ℕ → List Def.Sub → Served
fan now limit e i l = fan_out_all now limit e (take i l)

-- so many rows are in use, and so many have expired and were discarded
pub record Round (now : ℕ) (e : Entry) (subs₀ rows₀ : List Row) (d₀ : Head) (subs rows : List Row) (used expired over base i : ℕ) : Type 0 where
  pub within : i ≤ d₀.consumers
  pub same-subs : length subs ≡ length subs₀
  pub same_rows : length rows ≡ length rows₀
  pub subs-past : drop 32 subs ≡ drop 32 subs₀
  pub rows-past : drop 512 rows ≡ drop 512 rows₀
  pub begins : base ≡ sub_rows (take i (take d₀.consumers subs))
  pub uses : sub_rows (take d₀.consumers subs) + (d₀.reserved + d₀.waiting) ≡ used
  pub room : d₀.events + used + tally (takes_entry e) (drop i (take d₀.consumers subs)) ≤ 512
  pub few : expired + over + used ≤ 512 + i
  pub said : subs_at topic (take d₀.consumers subs) rows
      ≡ (fan now d₀.topic_limit e i (subs_at topic (take d₀.consumers subs₀) rows₀)).subs ++ drop i (subs_at topic (take d₀.consumers subs₀) rows₀)
  pub counts : lost expired over ≡ (fan now d₀.topic_limit e i (subs_at topic (take d₀.consumers subs₀) rows₀)).counts
  pub reserved : take d₀.reserved (drop (sub_rows (take d₀.consumers subs)) rows) ≡ reserved_rows d₀ subs₀ rows₀
  pub waiting : take d₀.waiting (drop d₀.reserved (drop (sub_rows (take d₀.consumers subs)) rows)) ≡ waiting_rows d₀ subs₀ rows₀
  pub strict : subs_strict (take d₀.consumers subs₀) rows₀ ≡ true → subs_strict (take d₀.consumers subs) rows ≡ true

-- two tables with the same rows g first: r of them, and the w after these
module _ (r w : ℕ) (g y z : List Row) (h : r + w ≤ length g) where
  front_same : take r (g ++ y) ≡ take r (g ++ z)
  front_same = take-append-le r g y (omega arith) ∙ sym (take-append-le r g z (omega arith))

  next : (l : List Row) → take w (drop r (g ++ l)) ≡ take w (drop r g)
  next l = ap (take w) (drop-append-le r g l (omega arith)) ∙ take-append-le w (drop r g) l (omega (arith, length-drop r g))

  next-same : take w (drop r (g ++ y)) ≡ take w (drop r (g ++ z))
  next-same = next y ∙ sym (next z)

module _ (now : ℕ) (e : Entry) (subs₀ rows₀ : List Row) (d₀ : Head) (a : Arrives e d₀ subs₀ rows₀) (plain : d₀.queue ≡ false) (soon : now ≤ 2 ^ 62) where
  abbrev n : ℕ
  n = d₀.consumers

  abbrev limit : ℕ
  limit = d₀.topic_limit

  abbrev ws₀ : List Row
  ws₀ = take n subs₀

  abbrev all : List Def.Sub
  all = subs_at topic ws₀ rows₀

  needs-tally : rows_needed e d₀ subs₀ ≡ tally (takes_entry e) ws₀
  needs-tally = if-false 1 (tally (takes_entry e) ws₀) plain

  -- before the first
  pub round-first : Round now e subs₀ rows₀ d₀ subs₀ rows₀ d₀.used 0 0 0 0
  unfolding fan_out_all sub_rows
  round-first = record {
    within = omega arith;
    same-subs = refl;
    same_rows = refl;
    subs-past = refl;
    rows-past = refl;
    begins = refl;
    uses = a.rows-used;
    room = omega (arith, a.room, needs-tally);
    few = omega (arith, a.room);
    said = refl;
    counts = refl;
    reserved = refl;
    waiting = refl;
    strict = λ o. o;
  }

  -- no consumer has the number
  none_has : member e.seq (seqs (consumer_rows all)) ≡ false
  none_has =
      ap (λ (l : List Entry). member e.seq (seqs l)) (consumer-rows topic ws₀ rows₀)
      ∙ (absent-parts d₀ subs₀ rows₀ a.rows-used e.seq a.absent).0

  module _ (subs rows : List Row) (used expired over base i : ℕ) (g : Round now e subs₀ rows₀ d₀ subs rows used expired over base i) where
    abbrev ws : List Row
    ws = take n subs

    long : n ≤ length subs
    long = omega (arith, a.subs-long, a.consumers, g.same-subs)

    size : length ws ≡ n
    size = length-take-le n subs long

    module _ (less : i < n) where
      abbrev w : Row
      w = get_or ws i []

      abbrev s : Sub
      s = row_sub w

      abbrev post : List Row
      post = drop (suc i) ws

      here : i < length ws
      here = omega (arith, size)

      row_is : get_or subs i [] ≡ w
      row_is = sym (get_or-take n subs i [] less)

      split : sub_rows ws ≡ sub_rows (take i ws) + (s.inflight + (s.held + sub_rows post))
      unfolding row_sub
      split = rows_split ws i here

      fits : sub_rows ws ≤ length rows
      fits = omega (arith, g.uses, g.room, g.same_rows, a.rows_long)

      among : (t : Sub) → t ≡ row_sub (get_or subs i []) → (base + t.inflight + t.held ≤ used) × (used ≤ 512)
      among t q =
          let f : (base + s.inflight + s.held ≤ used) × (used ≤ 512) = (omega (arith, split, g.begins, g.uses), omega (arith, g.room)) in
          rw (q, row_is) f

      -- no sum below is large
      pub round-few : (t : Sub) (r : Copied) → t ≡ row_sub (get_or subs i []) → r ≡ copied now limit e base t used rows
          → (base + r.sub.inflight + r.sub.held ≤ 513) × (expired + r.expired ≤ 1057) × (over + r.over ≤ 1057)
      round-few t r q p =
          let f = copied-few now limit e base t used rows in
          let b = among t q in
          let k = g.few in
          let m = g.within in
          let n = a.consumers in
          rw p (omega arith, omega arith, omega arith)

      -- the rows in parts: before the consumer's, in flight, held, later ones in use, free ones
      abbrev front : List Row
      front = take (sub_rows (take i ws)) rows

      abbrev flying : List Row
      flying = flying_in ws rows i

      abbrev held : List Row
      held = held_in ws rows i

      abbrev after : List Row
      after = after_in ws rows i

      abbrev m : ℕ
      m = sub_rows post + (d₀.reserved + d₀.waiting)

      abbrev later : List Row
      later = take m after

      parts : rows ≡ front ++ (flying ++ (held ++ (later ++ drop m after)))
      parts = sym (ap (λ (l : List Row). front ++ (flying ++ (held ++ l))) (take-append-drop m after) ∙ rows-parts ws rows i)

      front_length : length front ≡ base
      front_length = length-take-le (sub_rows (take i ws)) rows (omega (arith, rows_take ws i, fits)) ∙ sym g.begins

      flies : length flying ≡ s.inflight
      flies = flying-length ws rows i here fits ∙ sym (inflight-loaded w)

      holding : length held ≡ s.held
      holding = held-length ws rows i here fits ∙ sym (held-loaded w)

      later-length : length later ≡ m
      unfolding row_sub
      later-length =
          let x : ℕ = sub_rows (take i ws) in
          length-take-le m after
          (omega (arith, length-drop (held_count w) (drop (inflight_count w) (drop x rows)), length-drop (inflight_count w) (drop x rows), length-drop x rows, split, g.uses, g.room, g.same_rows, a.rows_long))

      -- the consumer is one that the definition has yet to serve
      abbrev it : Def.Sub
      it = sub_in topic ws rows i

      it-is : it ≡ sub_view topic s flying held
      it-is = sub_at_lem topic w flying held

      done-length : length (fan now limit e i all).subs ≡ i
      done-length = fan-length now limit e (take i all) ∙ length-take-le i all (omega (arith, subs-length topic ws₀ rows₀, length-take-le n subs₀ (omega (arith, a.subs-long, a.consumers))))

      rest-is : drop i all ≡ it ∷ drop 1 (drop i all)
      rest-is = nth-rest (fan now limit e i all).subs (drop i all) it (ap₂ nth done-length (sym g.said) ∙ subs-nth topic ws rows i here)

      -- its rows are those that it had: what it holds is in order
      pub round-fine : (t : Sub) → t ≡ row_sub (get_or subs i [])
          → (base + t.inflight + t.held ≤ used) × (used ≤ 512) × (used ≤ length rows) × (rows_in_order (slice (base + t.inflight) (base + t.inflight + t.held) rows) ≡ true)
      round-fine t q =
          let f = among t q in
          let o : holds_in_order it ≡ true = and_left (holds_in_order it) _ (ap (λ (l : List Def.Sub). Base.all holds_in_order l) (sym rest-is) ∙ all_rest holds_in_order i all (a.order.held plain)) in
          (f.0, f.1, omega (arith, f.1, g.same_rows, a.rows_long), held-rise ws rows i base t g.begins (q ∙ ap row_sub row_is) o)

      missing : holds e.seq held ≡ false
      missing =
          let h : member e.seq (seqs (consumer_rows (it ∷ drop 1 (drop i all)))) ≡ false =
          ap (λ (l : List Def.Sub). member e.seq (seqs (consumer_rows l))) (sym rest-is) ∙ absent-rest e.seq i all none_has in
          let o : holds e.seq (flying ++ held) ≡ false =
          ap (λ (l : List Entry). member e.seq (seqs l)) (sym (rows-of-sub topic w flying held)) ∙ absent-first e.seq it (drop 1 (drop i all)) h in
          or-no-right (holds e.seq flying) _ (sym (holds-append e.seq flying held) ∙ o)

      tally-is : tally (takes_entry e) (drop i ws) ≡ (whether accepts_of s e then 1 else 0) + tally (takes_entry e) post
      tally-is = ap (tally (takes_entry e)) (drop-cons ws i [] here)

      mine : Copy now limit e front flying held later s used rows (copied now limit e base s used rows) (copied_rows now limit e base s used rows)
      mine =
          copy now limit e front flying held later (drop m after) rows base s used parts front_length flies holding
          (omega (arith, later-length, split, g.begins, g.uses))
          (omega (arith, tally-is, g.room))
          (omega (arith, g.same_rows, a.rows_long))
          soon a.row missing

      -- the consumer with its copy in the table
      module _ (r : Copied) (rows' : List Row) (k : Copy now limit e front flying held later s used rows r rows') where
        abbrev t : Sub
        t = r.sub

        abbrev w' : Row
        w' = sub_words t

        abbrev subs' : List Row
        subs' = set subs i w'

        ws-is : take n subs' ≡ set ws i w'
        ws-is = take-set-lt n subs i w' less

        in-flight : length flying ≡ inflight_count w'
        in-flight = flies ∙ sym k.flying ∙ sym (inflight-stored t)

        held-now : length k.held ≡ held_count w'
        held-now = k.holding ∙ sym (held-stored t)

        before-long : sub_rows (take i ws) ≤ length rows
        before-long = omega (arith, rows_take ws i, fits)

        after_is : later ++ drop m after ≡ after
        after_is = take-append-drop m after

        others : {A : Type 0} (of : Row → List Row → List Row → A) → each_sub of post (later ++ k.free) ≡ each_sub of post after
        others of =
            let h : sub_rows post ≤ length later = omega (arith, later-length) in
            each-before of post later k.free h ∙ sym (each-before of post later (drop m after) h) ∙ ap (each_sub of post) after_is

        abbrev gets : Def.Sub
        gets = (fan_out now limit e it).sub

        now-has : sub_at topic w' flying k.held ≡ gets
        now-has = sub-stored topic t flying k.held ∙ k.sub ∙ ap (λ (x : Def.Sub). (fan_out now limit e x).sub) (sym it-is)

        put : subs_at topic (set ws i w') rows' ≡ set (subs_at topic ws rows) i gets
        put =
            ap (subs_at topic (set ws i w')) k.rows_are
            ∙ subs-put topic ws rows i w' flying k.held (later ++ k.free) here before-long in-flight held-now (others (sub_at topic))
            ∙ ap (set (subs_at topic ws rows) i) now-has

        -- strict words stay strict
        strict_next : subs_strict ws₀ rows₀ ≡ true → subs_strict (set ws i w') rows' ≡ true
        strict_next o =
            let q = strict-at ws rows i here (g.strict o) in
            ap (subs_strict (set ws i w')) k.rows_are
            ∙ strict-put ws rows i w' flying k.held (later ++ k.free) here before-long in-flight held-now q
            (record { words = stored-strict t; flying = q.own.flying; held = k.strict q.own.held }) (ap every (others sub_strict) ∙ q.after)

        -- one more of the definition's consumers is done
        taken : take (i + 1) all ≡ take i all ++ it ∷ []
        taken = take-add i 1 all ∙ ap (λ (l : List Def.Sub). take i all ++ take 1 l) rest-is

        said-next : subs_at topic (set ws i w') rows' ≡ (fan now limit e (i + 1) all).subs ++ drop (i + 1) all
        said-next =
            let p : List Def.Sub = (fan now limit e i all).subs in
            let q : List Def.Sub = drop 1 (drop i all) in
            put
            ∙ ap (λ (l : List Def.Sub). set l i gets) (g.said ∙ ap (λ (l : List Def.Sub). p ++ l) rest-is)
            ∙ set_at p it q gets i done-length
            ∙ sym (append_snoc p gets q)
            ∙ ap₂ (λ (x y : List Def.Sub). x ++ y) (sym (ap (λ (l : List Def.Sub). (fan_out_all now limit e l).subs) taken ∙ fan-more now limit e (take i all) it)) (drop-drop 1 i all)

        counts-next : lost (expired + r.expired) (over + r.over) ≡ (fan now limit e (i + 1) all).counts
        counts-next =
            ap₂ (λ (x y : Stats). x ⊕ y) g.counts (k.counts ∙ ap (λ (x : Def.Sub). (fan_out now limit e x).counts) (sym it-is))
            ∙ sym (ap (λ (l : List Def.Sub). (fan_out_all now limit e l).counts) taken ∙ fan-counts now limit e (take i all) it)

        -- the rows past the consumers'
        abbrev past : List Row
        past = drop (sub_rows post) later

        past-new : drop (sub_rows (set ws i w')) rows' ≡ past ++ k.free
        past-new =
            ap (drop (sub_rows (set ws i w'))) k.rows_are
            ∙ after-put ws rows i w' flying k.held (later ++ k.free) here before-long in-flight held-now
            ∙ drop-append-le (sub_rows post) later k.free (omega (arith, later-length))

        past-old : drop (sub_rows ws) rows ≡ past ++ drop m after
        past-old =
            after-all ws rows i here
            ∙ ap (drop (sub_rows post)) (sym after_is)
            ∙ drop-append-le (sub_rows post) later (drop m after) (omega (arith, later-length))

        past-length : d₀.reserved + d₀.waiting ≤ length past
        past-length = omega (arith, length-drop (sub_rows post) later, later-length)

        reserved-next : take d₀.reserved (drop (sub_rows (set ws i w')) rows') ≡ reserved_rows d₀ subs₀ rows₀
        reserved-next =
            ap (take d₀.reserved) past-new
            ∙ front_same d₀.reserved d₀.waiting past k.free (drop m after) past-length
            ∙ ap (take d₀.reserved) (sym past-old) ∙ g.reserved

        waiting-next : take d₀.waiting (drop d₀.reserved (drop (sub_rows (set ws i w')) rows')) ≡ waiting_rows d₀ subs₀ rows₀
        waiting-next =
            ap (λ (l : List Row). take d₀.waiting (drop d₀.reserved l)) past-new
            ∙ next-same d₀.reserved d₀.waiting past k.free (drop m after) past-length
            ∙ ap (λ (l : List Row). take d₀.waiting (drop d₀.reserved l)) (sym past-old) ∙ g.waiting

        -- the counts
        begins-next : base + t.inflight + t.held ≡ sub_rows (take (i + 1) (set ws i w'))
        unfolding sub_rows sub_words
        begins-next =
            let p : take (i + 1) (set ws i w') ≡ take i ws ++ w' ∷ [] = ap (λ (j : ℕ). take j (set ws i w')) (add-one i) ∙ take-suc-set ws i w' here in
            omega (arith, ap sub_rows p ∙ rows_append (take i ws) (w' ∷ []), g.begins)

        used-next : sub_rows (set ws i w') + (d₀.reserved + d₀.waiting) ≡ r.used
        unfolding sub_words
        used-next = omega (arith, rows-set ws i w' here, split, k.flying, k.uses, g.uses)

        room_next : d₀.events + r.used + tally (takes_entry e) (drop (i + 1) (set ws i w')) ≤ 512
        room_next =
            let p : drop (i + 1) (set ws i w') ≡ post = drop-set-lt (i + 1) ws i w' (omega arith) ∙ ap (λ (j : ℕ). drop j ws) (add-one i) in
            omega (arith, ap (tally (takes_entry e)) p, tally-is, g.room, k.uses, k.most)

        round-next : Round now e subs₀ rows₀ d₀ subs' rows' r.used (expired + r.expired) (over + r.over) (base + t.inflight + t.held) (i + 1)
        round-next = record {
          within = omega (arith, less);
          same-subs = length-set subs i w' ∙ g.same-subs;
          same_rows = k.size ∙ g.same_rows;
          subs-past = drop-set-lt 32 subs i w' (omega (arith, less, a.consumers)) ∙ g.subs-past;
          rows-past = k.past ∙ g.rows-past;
          begins = rw ws-is begins-next;
          uses = rw ws-is used-next;
          room = rw ws-is room_next;
          few = omega (arith, k.few, g.few);
          said = rw ws-is said-next;
          counts = counts-next;
          reserved = rw ws-is reserved-next;
          waiting = rw ws-is waiting-next;
          strict = rw ws-is strict_next;
        }

      pub round-turn : (t : Sub) (r : Copied) (subs' rows' : List Row) → t ≡ row_sub (get_or subs i []) → r ≡ copied now limit e base t used rows → rows' ≡ copied_rows now limit e base t used rows
          → subs' ≡ set subs i (sub_words r.sub) → Round now e subs₀ rows₀ d₀ subs' rows' r.used (expired + r.expired) (over + r.over) (base + r.sub.inflight + r.sub.held) (i + 1)
      round-turn t r subs' rows' q p l h =
          let is : t ≡ s = q ∙ ap row_sub row_is in
          rw (h, p, l, is) (round-next (copied now limit e base s used rows) (copied_rows now limit e base s used rows) mine)

    -- all have theirs
    module _ (done : n ≤ i) where
      i-is : i ≡ n
      i-is = omega (arith, g.within)

      all-length : length all ≡ i
      all-length = subs-length topic ws₀ rows₀ ∙ length-take-le n subs₀ (omega (arith, a.subs-long, a.consumers)) ∙ sym i-is

      whole : take i all ≡ all
      whole = take_all i all (omega (arith, all-length))

      none_left : drop i all ≡ []
      none_left = ap (λ (j : ℕ). drop j all) (sym all-length) ∙ drop-length all

      kind-is : kind_by d₀.queue ≡ topic
      kind-is = ap kind_by plain

      abbrev d : Head
      d = counted_by used expired over d₀

      counted : d.stats ≡ d₀.stats ⊕ lost expired over
      counted =
          let s : Stats = d₀.stats in
          ap (λ (x : Stats). with_discarded_by x over) (expired-plain s expired (omega (arith, g.few, a.expired, a.consumers, g.within)))
          ∙ discarded-plain (s ⊕ add_expired expired) over (omega (arith, g.few, a.discarded, a.consumers, g.within))
          ∙ ⊕-assoc s (add_expired expired) (add_discarded over)
          ∙ ap (λ (x : Stats). s ⊕ x) (sym (lost-is expired over))

      view : (ps : List Id) (qs : List Audit) → head_view d subs rows ps qs ≡ spread now e (head_view d₀ subs₀ rows₀ ps qs)
      unfolding head_view
      view ps qs =
          let mine : subs_at (kind_by d₀.queue) ws rows ≡ (fan_out_all now limit e (subs_at (kind_by d₀.queue) ws₀ rows₀)).subs =
          ap (λ (k : Kind). subs_at k ws rows) kind-is
          ∙ g.said
          ∙ ap₂ (λ (x y : List Def.Sub). (fan_out_all now limit e x).subs ++ y) whole none_left
          ∙ append-nil (fan_out_all now limit e all).subs
          ∙ ap (λ (k : Kind). (fan_out_all now limit e (subs_at k ws₀ rows₀)).subs) (sym kind-is) in
          let sums : d.stats ≡ d₀.stats ⊕ (fan_out_all now limit e (subs_at (kind_by d₀.queue) ws₀ rows₀)).counts =
          counted
          ∙ ap (λ (x : Stats). d₀.stats ⊕ x) g.counts
          ∙ ap (λ (x : List Def.Sub). d₀.stats ⊕ (fan_out_all now limit e x).counts) whole
          ∙ ap (λ (k : Kind). d₀.stats ⊕ (fan_out_all now limit e (subs_at k ws₀ rows₀)).counts) (sym kind-is) in
          (λ j. record {
            kind = kind_by d₀.queue;
            topic_limit = limit;
            call_limit = d₀.call_limit;
            allowance = d₀.allowance;
            share = d₀.share;
            calls_used = d₀.calls_used;
            pending = map entry_of (g.waiting j);
            subs = mine j;
            rr = d₀.turn;
            producers = ps;
            audits = qs;
            stats = sums j;
            idle = (head_view d₀ subs₀ rows₀ ps qs).idle;
            reserved = map held_at (g.reserved j);
          })

      -- and so do the rows past the consumers'
      strict : strict_tables d₀ subs₀ rows₀ ≡ true → strict_tables d subs rows ≡ true
      strict o =
          let r : ℕ = d₀.reserved in
          let w : ℕ = d₀.waiting in
          let t = tables-strict (r + w) ws₀ rows₀ o in
          let kept : take (r + w) (drop (sub_rows ws) rows) ≡ take (r + w) (drop (sub_rows ws₀) rows₀) =
          take-add r w (drop (sub_rows ws) rows) ∙ ap₂ (λ (x y : List Row). x ++ y) g.reserved g.waiting ∙ sym (take-add r w (drop (sub_rows ws₀) rows₀)) in
          strict-tables (r + w) ws rows (record { subs = g.strict t.subs; others = ap (Base.all entry_strict) kept ∙ t.others })

      pub round-end : Arrived (spread now e) d₀ d subs₀ rows₀ subs rows
      round-end events = (
        record {
          view = λ ps qs _. view ps qs;
          sent = λ ps qs _. sym (append-nil (take d₀.events events));
          later = refl;
          more = omega arith;
          producers = refl;
          audits = refl;
          queue = refl;
          allowance = refl;
          share = refl;
          consumers = a.consumers;
          used = omega (arith, g.room);
          rows-used = g.uses;
          strict = strict;
          subs-past = g.subs-past;
          rows-past = g.rows-past;
          subs-length = g.same-subs;
          rows-length = g.same_rows;
          events-length = refl;
        },
        record { room = omega (arith, g.room); as_many = refl },
      )
