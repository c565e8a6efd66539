-- What holds while a queue's consumers are gone through one after the other, and what it says when all are. Assumes nothing.
use mathlib.Core.Path.{◌≡◌, refl, sym, ap, ap₂, ◌∙◌}
use mathlib.Core.Bool.{Bool, true, false}
use mathlib.Core.List.{List, [], ◌∷◌, ◌++◌, append-nil, map}
use Prim.Native.Nat.{ℕ, suc, ◌+◌, ◌-◌, ◌≤◌, ◌<◌, ◌^◌}
use native.Mathlib.Numerals.{add-one}
use native.Mathlib.Omega.{arith}
use borrow.Author.Tests.{le-leb}
use lib.ListN.{length, take, drop, get_or, set, length-set}
use lib.Seq.{length-take-le, get_or-take, drop-drop, drop-length, drop-set-lt, take-add, take-take}
use Rattle.words.proofs.Lists.{set_next, take_next}
use Rattle.entry.specs.Entry.{entry_of}
use Rattle.definition.specs.Base.{all, is_some}
use Rattle.definition.specs.Types.{Entry, Kind, queue, Id, Audit}
use Rattle.definition.specs.Types as Def
use Rattle.definition.specs.Consumer.{◌⊕◌, is_browser, Browse, dispatch_browser}
use Rattle.definition.specs.Destination.{Browsed, browsers}
use Rattle.definition.specs.Words.{at}
use Rattle.definition.specs.Layout.{Row, inflight_count, held_count, held_at, browser_at, subs_at, sub_rows, event_words, entry_strict, tables_strict}
use Rattle.definition.proofs.Tests.{if-true, if-false}
use Rattle.definition.proofs.Lists.{all_end, all_append, agree-later}
use Rattle.definition.proofs.Local.{⊕-zero, alone}
use Rattle.table.proofs.Lists.{same_after, agree-drop}
use Rattle.consumers.specs.declared.Sub.{Sub}
use Rattle.consumers.specs.Consumers.{row_sub, sub_words, sub_view}
use Rattle.consumers.specs.Table.{next_fits}
use Rattle.consumers.proofs.Laws.{fitting-at}
use Rattle.consumers.proofs.Words.{round}
use Rattle.state.specs.declared.Head.{Head}
use Rattle.state.specs.State.{head_view, strict_tables, kind_by, with_waiting}
use Rattle.state.specs.Fits.{Fits}
use Rattle.state.specs.Leaves.{Leaves}
use Rattle.state.specs.Parts.{head_moved}
use Rattle.consumers.proofs.Strict.{stored-strict, all_left, all_right}
use Rattle.consumers.proofs.Line.{rows-one, left-size, LineStrict, line-start, line-end, line-own, line-words, line-others, line_step}
use Rattle.browsers.specs.Browsers.{browsed, BrowsersServed}
use Rattle.browsers.specs.Serving.{Shown, shown_at, rows_between, BrowserFine, BrowserKept, BrowserStrict, Done}
use Rattle.browsers.proofs.All.{Whole, whole, whole-start, whole-end, reserved_rows, waiting_rows, met, waits-after, whole-turn}

-- the counts, with i consumers done
pub record Ready (ws : List Row) (i base : ℕ) (d₀ d : Head) : Type 0 where
  pub rows : base + sub_rows (drop i ws) + (d.reserved + d.waiting) ≡ d.used
  pub used : d.used ≤ d₀.used
  pub events : d.events + sub_rows (drop i ws) ≤ d₀.events + sub_rows ws + i
  pub sent : d₀.events ≤ d.events
  pub waiting : d.waiting ≤ d₀.waiting
  pub expired : d.stats.expired + d.waiting ≡ d₀.stats.expired + d₀.waiting
  pub dispatched : d.stats.dispatched ≡ d₀.stats.dispatched
  pub head : d ≡ with_waiting d.waiting (head_moved d₀ d)

pub record Round (now : ℕ) (subs₀ rows₀ events₀ : List Row) (d₀ : Head) (subs rows events : List Row) (d : Head) (base i : ℕ) : Type 0 where
  pub within : i ≤ d₀.consumers
  pub same-subs : length subs ≡ length subs₀
  pub same_rows : length rows ≡ length rows₀
  pub same-events : length events ≡ length events₀
  pub rest : drop i subs ≡ drop i subs₀
  pub ready : Ready (take d₀.consumers subs₀) i base d₀ d
  pub ends : base ≡ sub_rows (take i subs)
  pub nexts : all next_fits (take i subs) ≡ true
  pub past : drop d₀.used rows ≡ drop d₀.used rows₀
  pub later : drop d.events events ≡ drop d.events events₀
  pub strict : strict_tables d₀ subs₀ rows₀ ≡ true → LineStrict (d.reserved + d.waiting) (take d₀.consumers subs₀) subs i base rows
  pub said : whole now (take d₀.consumers subs₀) i base d subs rows events ≡ whole now (take d₀.consumers subs₀) 0 0 d₀ subs₀ rows₀ events₀

module _ (now : ℕ) (subs₀ rows₀ events₀ : List Row) (d₀ : Head) (fits : Fits subs₀ d₀ (length rows₀) (length events₀)) where
  abbrev ws : List Row
  ws = take d₀.consumers subs₀

  size : length ws ≡ d₀.consumers
  size = length-take-le d₀.consumers subs₀ (omega arith)

  pub round-start : Round now subs₀ rows₀ events₀ d₀ subs₀ rows₀ events₀ d₀ 0 0
  unfolding sub_rows
  round-start = let u = fits.rows-used in record {
    within = omega arith;
    same-subs = refl;
    same_rows = refl;
    same-events = refl;
    rest = refl;
    ready = record { rows = omega arith; used = omega arith; events = omega arith; sent = omega arith; waiting = omega arith; expired = refl; dispatched = refl; head = refl };
    ends = refl;
    nexts = refl;
    past = refl;
    later = refl;
    strict = line-start (d₀.reserved + d₀.waiting) ws subs₀ rows₀;
    said = refl;
  }

  module _ (subs rows events : List Row) (d : Head) (base i : ℕ) (g : Round now subs₀ rows₀ events₀ d₀ subs rows events d base i) where
    module _ (less : i < d₀.consumers) where
      abbrev w : Row
      w = get_or ws i []

      abbrev s : Sub
      s = row_sub w

      abbrev post : List Row
      post = drop (suc i) ws

      here : i < length ws
      here = omega (arith, size)

      within-subs : i < length subs
      within-subs = omega (arith, fits.subs-long, fits.consumers, g.same-subs)

      row_is : get_or subs i [] ≡ w
      row_is = same_after i i subs subs₀ [] g.rest (omega arith) ∙ sym (get_or-take d₀.consumers subs₀ i [] less)

      left : sub_rows (drop i ws) ≡ s.inflight + (s.held + sub_rows post)
      left = left-size ws i here

      next_row : s.next_dseq ≤ 72057594037927937
      unfolding row_sub
      next_row = (fitting-at ws i fits.fitted here).1

      own-few : s.held ≤ 512
      own-few = let r = g.ready in let h = left in omega (arith, r.rows, r.used, fits.used)

      fine-row : s.browser ≡ true → now ≤ 2 ^ 62 → BrowserFine (length rows) (length events) base s d now
      fine-row shows clock =
          let r = g.ready in
          let h = left in
          let u = fits.rows-used in
          let next = next_row in
          let few = own-few in
          record {
            browser = shows;
            rows = omega arith;
            used = omega arith;
            room = omega (arith, g.same_rows);
            events = omega (arith, g.same-events);
            next = omega arith;
            expired = omega arith;
            clock = clock;
          }

      pub round-fine : (t : Sub) → t ≡ row_sub (get_or subs i []) → t.browser ≡ true → now ≤ 2 ^ 62 → BrowserFine (length rows) (length events) base t d now
      round-fine t e shows clock =
          let q : t ≡ s = e ∙ ap row_sub row_is in
          rw q (fine-row (sym (ap (λ (x : Sub). x.browser) q) ∙ shows) clock)

      -- its rows are in use
      pub round_room : (t : Sub) → t ≡ row_sub (get_or subs i []) → base + t.inflight + t.held ≤ 512
      round_room t e =
          let q : t ≡ s = e ∙ ap row_sub row_is in
          let h = left in
          rw q (omega (arith, g.ready.rows, g.ready.used, fits.used))

      -- the rows of the consumers that are left, and the reserved ones
      abbrev m : ℕ
      m = sub_rows post + d.reserved

      abbrev mine : Def.Sub
      mine = sub_view queue s (take (inflight_count w) (drop base rows)) (take (held_count w) (drop (base + inflight_count w) rows))

      browses : is_browser mine ≡ s.browser
      unfolding is_browser sub_view
      browses = is-it s.browser (map entry_of (take (held_count w) (drop (base + inflight_count w) rows)))
        where
          is-it : (b : Bool) (l : List Entry) → is_some (browser_at queue b l) ≡ b
          is-it true l = refl
          is-it false l = refl

      left-next : sub_rows (drop (i + 1) ws) ≡ sub_rows post
      left-next = ap (λ (n : ℕ). sub_rows (drop n ws)) (add-one i)

      -- it is no browser
      module _ (other : s.browser ≡ false) where
        abbrev end : ℕ
        end = base + inflight_count w + held_count w

        abbrev pending : List Entry
        pending = map entry_of (take d.waiting (drop (end + m) rows))

        whole-pass : whole now ws (i + 1) end d subs rows events ≡ whole now ws i base d subs rows events
        whole-pass = whole-turn now ws i base m d d subs subs rows rows events events w (alone pending mine) here g.ends (take_next subs i [] within-subs ∙ ap (λ (x : Row). take i subs ++ (x ∷ [])) row_is) refl refl
            refl refl refl refl (sym (⊕-zero d.stats)) (sym (append-nil (take d.events events)))
            (if-false (dispatch_browser now pending mine) (alone pending mine) (browses ∙ other))

        pass : Round now subs₀ rows₀ events₀ d₀ subs rows events d end (i + 1)
        unfolding row_sub
        pass =
            let r = g.ready in
            let h = left in
            let n = left-next in
            let front : take (i + 1) subs ≡ take i subs ++ (w ∷ []) = take_next subs i [] within-subs ∙ ap (λ (x : Row). take i subs ++ (x ∷ [])) row_is in
            record {
              within = omega arith;
              same-subs = g.same-subs;
              same_rows = g.same_rows;
              same-events = g.same-events;
              rest = agree-later i (i + 1) subs subs₀ (omega arith) g.rest;
              ready = record { rows = omega arith; used = r.used; events = omega arith; sent = r.sent; waiting = r.waiting; expired = r.expired; dispatched = r.dispatched; head = r.head };
              ends = omega (arith, g.ends, ap sub_rows front ∙ rows-one (take i subs) w);
              nexts = ap (all next_fits) front ∙ all_end next_fits (take i subs) w g.nexts (le-leb (at 8 w) (2 ^ 62) (omega (arith, (fitting-at ws i fits.fitted here).1)));
              past = g.past;
              later = g.later;
              strict = λ z.
                  let l = g.strict z in
                  line_step (d.reserved + d.waiting) ws subs i base rows here l subs w rows (sub_rows post) end end (d.reserved + d.waiting) front g.ends refl (line-words (d.reserved + d.waiting) ws subs i base rows here l)
                  (line-own (d.reserved + d.waiting) ws subs i base rows here l) refl (omega arith) refl (line-others (d.reserved + d.waiting) ws subs i base rows here l end refl);
              said = whole-pass ∙ g.said;
            }

      pub round-pass : (t : Sub) → t ≡ row_sub (get_or subs i []) → t.browser ≡ false → Round now subs₀ rows₀ events₀ d₀ subs rows events d (base + t.inflight + t.held) (i + 1)
      unfolding row_sub
      round-pass t e other =
          let q : t ≡ s = e ∙ ap row_sub row_is in
          rw q (pass (sym (ap (λ (x : Sub). x.browser) q) ∙ other))

      -- it is a browser, and served
      module _ (shows : s.browser ≡ true) (t : Sub) (r : Head) (rows' events' : List Row) (lr : length rows' ≡ length rows) (le : length events' ≡ length events) (done : Done now base rows events s d rows' events' t r) where
        abbrev k : BrowserKept base (rows_between base s d) s d t r
        k = done.kept

        m-is : rows_between base s d ≡ m
        m-is = let h = left in omega (arith, g.ready.rows)

        abbrev v : Shown
        v = shown_at base (rows_between base s d) s d rows events

        abbrev b : Browse
        b = dispatch_browser now v.pending v.sub

        whole-served : whole now ws (i + 1) (base + t.inflight + t.held) r (set subs i (sub_words t)) rows' events' ≡ whole now ws i base d subs rows events
        unfolding shown_at sub_words row_sub
        whole-served =
            let n : ℕ = rows_between base s d in
            let end : ℕ = base + s.inflight + s.held in
            let end' : ℕ = base + t.inflight + t.held in
            let res : r.reserved ≡ d.reserved = ap (λ (x : Head). x.reserved) k.head in
            let spans : end + n + d.waiting ≡ d.used = omega (arith, m-is, left, g.ready.rows) in
            let stored : sub_view queue (row_sub (sub_words t)) (take t.inflight (drop base rows')) (take t.held (drop (base + t.inflight) rows')) ≡ b.sub =
            ap (λ (x : Sub). sub_view queue x (take t.inflight (drop base rows')) (take t.held (drop (base + t.inflight) rows'))) (round t) ∙ ap (λ (x : Shown). x.sub) done.said in
            let agrees : take n (drop end' rows') ≡ take n (drop end rows) =
            sym (take-take n (r.used - end') (drop end' rows') (omega (arith, k.rows))) ∙ ap (λ (x : Shown). x.after) done.said ∙ take-take n (d.used - end) (drop end rows) (omega arith) in
            let waits : map entry_of (take r.waiting (drop (end' + n) rows')) ≡ b.pending =
            sym (ap (map entry_of) (waits-after end' n r.waiting r.used rows' k.rows)) ∙ ap (λ (x : Shown). x.pending) done.said in
            let waited : map entry_of (take d.waiting (drop (end + n) rows)) ≡ v.pending = sym (ap (map entry_of) (waits-after end n d.waiting d.used rows spans)) in
            whole-turn now ws i base n d r subs (set subs i (sub_words t)) rows rows' events events' (sub_words t) b here g.ends (set_next subs i (sub_words t) within-subs) m-is res
            (ap (λ (x : Shown). x.before) done.said) stored agrees waits (ap (λ (x : Shown). x.stats) done.said) (ap (λ (x : Shown). x.events) done.said)
            (ap (λ (p : List Entry). met now p mine) waited ∙ if-true (dispatch_browser now v.pending mine) (alone v.pending mine) (browses ∙ shows))

        -- the rows after the consumers': the reserved ones as they were, and those that wait
        others-strict : LineStrict (d.reserved + d.waiting) ws subs i base rows → BrowserStrict base (rows_between base s d) t r rows'
            → all entry_strict (take (r.reserved + r.waiting) (drop (base + t.inflight + t.held + sub_rows post) rows')) ≡ true
        unfolding shown_at row_sub
        others-strict l z =
            let n : ℕ = rows_between base s d in
            let c : ℕ = sub_rows post in
            let end : ℕ = base + s.inflight + s.held in
            let end' : ℕ = base + t.inflight + t.held in
            let res : r.reserved ≡ d.reserved = ap (λ (x : Head). x.reserved) k.head in
            let spans : end + n + d.waiting ≡ d.used = omega (arith, m-is, left, g.ready.rows) in
            let agrees : take n (drop end' rows') ≡ take n (drop end rows) =
            sym (take-take n (r.used - end') (drop end' rows') (omega (arith, k.rows))) ∙ ap (λ (x : Shown). x.after) done.said ∙ take-take n (d.used - end) (drop end rows) (omega arith) in
            let old = ap (all entry_strict) (sym (take-add d.reserved d.waiting (drop (end + c) rows))) ∙ line-others (d.reserved + d.waiting) ws subs i base rows here l end refl in
            let kept : take r.reserved (drop (end' + c) rows') ≡ take d.reserved (drop (end + c) rows) =
            ap₂ take (res ∙ sym between-less) (sym (drop-drop c end' rows')) ∙ agree-drop c n (drop end' rows') (drop end rows) agrees (omega (arith, m-is)) ∙ ap₂ take between-less (drop-drop c end rows) in
            let from : end' + c + r.reserved ≡ end' + n = omega (arith, m-is, res) in
            let waits : take r.waiting (drop r.reserved (drop (end' + c) rows')) ≡ drop n (take (r.used - end') (drop end' rows')) =
            ap (take r.waiting) (drop-drop r.reserved (end' + c) rows' ∙ ap (λ (x : ℕ). drop x rows') from) ∙ sym (waits-after end' n r.waiting r.used rows' k.rows) in
            ap (all entry_strict) (take-add r.reserved r.waiting (drop (end' + c) rows'))
            ∙ all_append entry_strict (take r.reserved (drop (end' + c) rows')) _ (ap (all entry_strict) kept ∙ all_left entry_strict (take d.reserved (drop (end + c) rows)) (take d.waiting (drop d.reserved (drop (end + c) rows))) old) (ap (all entry_strict) waits ∙ z.waiting)
          where
            between-less : rows_between base s d - sub_rows post ≡ d.reserved
            between-less = omega (arith, m-is)

        -- what serving it starts from
        before-strict : LineStrict (d.reserved + d.waiting) ws subs i base rows → BrowserStrict base (rows_between base s d) s d rows
        unfolding row_sub
        before-strict l =
            let n : ℕ = rows_between base s d in
            let c : ℕ = sub_rows post in
            let end : ℕ = base + s.inflight + s.held in
            let spans : end + n + d.waiting ≡ d.used = omega (arith, m-is, left, g.ready.rows) in
            let old = ap (all entry_strict) (sym (take-add d.reserved d.waiting (drop (end + c) rows))) ∙ line-others (d.reserved + d.waiting) ws subs i base rows here l end refl in
            let from : end + n ≡ end + c + d.reserved = omega (arith, m-is) in
            let waits : drop n (take (d.used - end) (drop end rows)) ≡ take d.waiting (drop d.reserved (drop (end + c) rows)) =
            waits-after end n d.waiting d.used rows spans ∙ ap (take d.waiting) (ap (λ (x : ℕ). drop x rows) from ∙ sym (drop-drop d.reserved (end + c) rows)) in
            let o = line-own (d.reserved + d.waiting) ws subs i base rows here l in
            record { own = record { flying = o.flying; held = o.held }; waiting = ap (all entry_strict) waits ∙ all_right entry_strict (take d.reserved (drop (end + c) rows)) _ old }

        strict-served : LineStrict (d.reserved + d.waiting) ws subs i base rows → LineStrict (r.reserved + r.waiting) ws (set subs i (sub_words t)) (i + 1) (base + t.inflight + t.held) rows'
        unfolding shown_at sub_words row_sub
        strict-served l =
            let n : ℕ = rows_between base s d in
            let end : ℕ = base + s.inflight + s.held in
            let end' : ℕ = base + t.inflight + t.held in
            let agrees : take n (drop end' rows') ≡ take n (drop end rows) =
            sym (take-take n (r.used - end') (drop end' rows') (omega (arith, k.rows))) ∙ ap (λ (x : Shown). x.after) done.said ∙ take-take n (d.used - end) (drop end rows) (omega (arith, m-is, left, g.ready.rows)) in
            let z = done.strict (before-strict l) in
            line_step (d.reserved + d.waiting) ws subs i base rows here l (set subs i (sub_words t)) (sub_words t) rows' n end end' (r.reserved + r.waiting) (set_next subs i (sub_words t) within-subs) g.ends refl
            (stored-strict t) (record { flying = z.own.flying; held = z.own.held }) (ap (λ (x : Shown). x.before) done.said) (omega (arith, m-is)) agrees (others-strict l z)

        served : Round now subs₀ rows₀ events₀ d₀ (set subs i (sub_words t)) rows' events' r (base + t.inflight + t.held) (i + 1)
        unfolding sub_words
        served =
            let o = g.ready in
            let h = left in
            let n = left-next in
            let z = m-is in
            let res : r.reserved ≡ d.reserved = ap (λ (x : Head). x.reserved) k.head in
            let front : take (i + 1) (set subs i (sub_words t)) ≡ take i subs ++ (sub_words t ∷ []) = set_next subs i (sub_words t) within-subs in
            record {
              within = omega arith;
              same-subs = simp length-set g.same-subs;
              same_rows = lr ∙ g.same_rows;
              same-events = le ∙ g.same-events;
              rest = drop-set-lt (i + 1) subs i (sub_words t) (omega arith) ∙ agree-later i (i + 1) subs subs₀ (omega arith) g.rest;
              ready = record {
                rows = omega (arith, k.rows);
                used = omega (arith, k.used, o.used);
                events = omega (arith, done.few, o.events);
                sent = omega (arith, k.sent, o.sent);
                waiting = omega (arith, k.waiting, o.waiting);
                expired = k.expired ∙ o.expired;
                dispatched = k.dispatched ∙ o.dispatched;
                head = k.head ∙ ap (λ (x : Head). with_waiting r.waiting (head_moved x r)) o.head;
              };
              ends = omega (arith, g.ends, ap sub_rows front ∙ rows-one (take i subs) (sub_words t));
              nexts = ap (all next_fits) front ∙ all_end next_fits (take i subs) (sub_words t) g.nexts (le-leb t.next_dseq (2 ^ 62) (omega (arith, k.next, next_row, own-few)));
              past = agree-later d.used d₀.used rows' rows o.used done.past ∙ g.past;
              later = done.later ∙ agree-later d.events r.events events events₀ k.sent g.later;
              strict = λ z. strict-served (g.strict z);
              said = whole-served ∙ g.said;
            }

      pub round-served : (x t : Sub) (r : Head) (subs' rows' events' : List Row) → x ≡ row_sub (get_or subs i []) → x.browser ≡ true → subs' ≡ set subs i (sub_words t)
          → length rows' ≡ length rows → length events' ≡ length events → Done now base rows events x d rows' events' t r
          → Round now subs₀ rows₀ events₀ d₀ subs' rows' events' r (base + t.inflight + t.held) (i + 1)
      round-served x t r subs' rows' events' e shows p lr le done =
          let q : x ≡ s = e ∙ ap row_sub row_is in
          rw p (served (sym (ap (λ (y : Sub). y.browser) q) ∙ shows) t r rows' events' lr le (rw q at done))

    -- all are done
    module _ (last : d₀.consumers ≤ i) (is-queue : d₀.queue ≡ true) where
      all_done : i ≡ length ws
      all_done = omega (arith, size, g.within)

      i-is : i ≡ d₀.consumers
      i-is = all_done ∙ size

      abbrev x : Browsed
      x = browsers now (subs_at queue ws rows₀) (map entry_of (waiting_rows (sub_rows ws) d₀ rows₀))

      ending : ◌≡◌ {A = Whole}
          (record { subs = subs_at queue (take i subs) rows; reserved = reserved_rows base d rows; pending = map entry_of (waiting_rows base d rows); stats = d.stats; events = take d.events events })
          (record { subs = x.subs; reserved = reserved_rows (sub_rows ws) d₀ rows₀; pending = x.pending; stats = d₀.stats ⊕ x.counts; events = take d₀.events events₀ ++ map event_words x.events })
      ending = sym (whole-end now ws i base d subs rows events all_done) ∙ g.said ∙ whole-start now ws d₀ subs₀ rows₀ events₀

      kind-is : kind_by d₀.queue ≡ queue
      kind-is = ap kind_by is-queue

      abbrev same : {A : Type 0} (f : Head → A) → f d ≡ f (with_waiting d.waiting (head_moved d₀ d))
      same f = ap f g.ready.head

      base-is : base ≡ sub_rows (take d₀.consumers subs)
      base-is = g.ends ∙ ap (λ (n : ℕ). sub_rows (take n subs)) i-is

      abbrev found : Kind → Browsed
      found k = browsers now (subs_at k ws rows₀) (map entry_of (waiting_rows (sub_rows ws) d₀ rows₀))

      view : (ps : List Id) (qs : List Audit) → head_view d subs rows ps qs ≡ (browsed now (head_view d₀ subs₀ rows₀ ps qs)).dest
      unfolding head_view
      view ps qs =
          let u : List Row = take d₀.consumers subs in
          let res : d.reserved ≡ d₀.reserved = same (λ (y : Head). y.reserved) in
          let mine : subs_at (kind_by d₀.queue) u rows ≡ (found (kind_by d₀.queue)).subs =
          ap₂ (λ (k : Kind) (n : ℕ). subs_at k (take n subs) rows) kind-is (sym i-is)
          ∙ ap (λ (y : Whole). y.subs) ending
          ∙ ap (λ (k : Kind). (found k).subs) (sym kind-is) in
          let waits : map entry_of (take d.waiting (drop d₀.reserved (drop (sub_rows u) rows))) ≡ (found (kind_by d₀.queue)).pending =
          ap₂ (λ (a e : ℕ). map entry_of (take d.waiting (drop a (drop e rows)))) (sym res) (sym base-is)
          ∙ ap (λ (y : Whole). y.pending) ending
          ∙ ap (λ (k : Kind). (found k).pending) (sym kind-is) in
          let counted : d.stats ≡ d₀.stats ⊕ (found (kind_by d₀.queue)).counts =
          ap (λ (y : Whole). y.stats) ending ∙ ap (λ (k : Kind). d₀.stats ⊕ (found k).counts) (sym kind-is) in
          let held : take d₀.reserved (drop (sub_rows u) rows) ≡ take d₀.reserved (drop (sub_rows ws) rows₀) =
          ap₂ (λ (a e : ℕ). take a (drop e rows)) (sym res) (sym base-is) ∙ ap (λ (y : Whole). y.reserved) ending in
          same (λ (y : Head). head_view y subs rows ps qs)
          ∙ (λ j. record {
            kind = kind_by d₀.queue;
            topic_limit = d₀.topic_limit;
            call_limit = d₀.call_limit;
            allowance = d₀.allowance;
            share = d₀.share;
            calls_used = d₀.calls_used;
            pending = waits j;
            subs = mine j;
            rr = d₀.turn;
            producers = ps;
            audits = qs;
            stats = counted j;
            idle = (head_view d₀ subs₀ rows₀ ps qs).idle;
            reserved = map held_at (held j);
          })

      sent : (ps : List Id) (qs : List Audit) → take d.events events ≡ take d₀.events events₀ ++ map event_words (browsed now (head_view d₀ subs₀ rows₀ ps qs)).events
      unfolding head_view
      sent ps qs = ap (λ (y : Whole). y.events) ending ∙ ap (λ (k : Kind). take d₀.events events₀ ++ map event_words (found k).events) (sym kind-is)

      none_left : sub_rows (drop i ws) ≡ 0
      unfolding sub_rows
      none_left = ap sub_rows (ap (λ (n : ℕ). drop n ws) all_done ∙ drop-length ws)

      pub round-end : Leaves (browsed now) d₀ d subs₀ rows₀ events₀ subs rows events × BrowsersServed d₀ d subs
      round-end =
          let r = g.ready in
          let z = none_left in
          let n : d.consumers ≡ d₀.consumers = same (λ (y : Head). y.consumers) in
          let e : take d.consumers subs ≡ take i subs = ap (λ (k : ℕ). take k subs) (n ∙ sym i-is) in
          let u = fits.rows-used in
          let w = g.ends in (
            record {
              view = λ ps qs _. view ps qs;
              sent = λ ps qs _. sent ps qs;
              later = g.later;
              more = r.sent;
              producers = same (λ (y : Head). y.producers);
              audits = same (λ (y : Head). y.audits);
              queue = same (λ (y : Head). y.queue);
              allowance = same (λ (y : Head). y.allowance);
              share = same (λ (y : Head). y.share);
              consumers = omega (arith, n, fits.consumers);
              used = omega (arith, r.used, fits.used);
              rows-used = rw e (omega arith);
              strict = λ h. ap (λ (l : List Row). tables_strict (d.reserved + d.waiting) l rows) e ∙ line-end (d.reserved + d.waiting) ws subs i base rows all_done g.ends (g.strict h);
              subs-past = agree-later i 32 subs subs₀ (omega (arith, g.within, fits.consumers)) g.rest;
              rows-past = agree-later d₀.used 512 rows rows₀ fits.used g.past;
              subs-length = g.same-subs;
              rows-length = g.same_rows;
              events-length = g.same-events;
            },
            record {
              consumers = n;
              turn = same (λ (y : Head). y.turn);
              reserved = same (λ (y : Head). y.reserved);
              waiting = r.waiting;
              used = r.used;
              most = omega arith;
              expired = omega arith;
              dispatched = r.dispatched;
              nexts = rw e g.nexts;
            },
          )
