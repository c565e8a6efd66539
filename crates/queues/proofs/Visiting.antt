-- A consumer's turn in the scan: the definition's, on the tables. Assumes nothing.
use mathlib.Core.Path.{◌≡◌, refl, sym, ap, ap₂, ◌∙◌}
use mathlib.Core.Bool.{Bool, true, false, not, ◌&&◌, ◌||◌, true≢false}
use mathlib.Core.List.{List, [], ◌∷◌, ◌++◌, append_assoc, append-nil, map, map-append}
use mathlib.Core.Option.{none, some}
use Prim.Native.Nat.{ℕ, suc, ◌+◌, ◌-◌, ◌%◌, ◌≤◌, ◌<◌, ◌^◌}
use native.Mathlib.Nat.{mod-lt}
use native.Mathlib.Omega.{arith}
use borrow.Author.Tests.{le-leb, leb-true}
use lib.ListN.{length, take, drop, get_or, set, length-append, length-drop, length-set}
use lib.Seq.{slice, length-take-le, length-slice, get_or-take, get_or_at, take-add, take-take, take-set-lt, drop-set-lt}
use Rattle.words.proofs.Tests.{by-test}
use Rattle.stats.specs.declared.Stats.{Stats}
use Rattle.stats.specs.Counted.{with_expired_by}
use Rattle.entry.specs.Entry.{entry_of}
use Rattle.definition.specs.Base.{all, nth}
use Rattle.definition.specs.Types.{Entry, Inflight, Id, Audit, Dest, message, queue, with_cursor}
use Rattle.definition.specs.Types as Def
use Rattle.definition.specs.Consumer.{◌⊕◌, add_expired, add_dispatched, is_browser, has_credit, send, sent}
use Rattle.definition.specs.Consumer as Consumer
use Rattle.definition.specs.Destination.{Look, look, given, visit_at, visit}
use Rattle.definition.specs.Words.{at}
use Rattle.definition.specs.Layout.{Row, inflight_at, inflight_count, held_count, subs_at, sub_rows, event_words, entry_strict, flying_strict, subs_strict}
use Rattle.definition.proofs.Tests.{and_left, and_right, and_both}
use Rattle.definition.proofs.Lists.{all_append, all_end, all-stored, all-at}
use Rattle.table.specs.Table.{insert_row}
use Rattle.table.proofs.Lists.{parts}
use Rattle.table.proofs.Laws.{insert-parts}
use Rattle.consumers.specs.declared.Sub.{Sub}
use Rattle.consumers.specs.Consumers.{row_sub, sub_words, sub_view, credit_of, sent_sub}
use Rattle.consumers.specs.Seats.{flying_in, held_in, after_in}
use Rattle.definition.proofs.Stored.{subs-length}
use Rattle.consumers.proofs.View.{sub_at_lem, sub-stored, subs-nth, subs-put, subs-reword, rows-parts, rows-set, rows_split, rows_take, flying-length, held-length}
use Rattle.consumers.proofs.Laws.{credit, browser-sub, accepts-sub}
use Rattle.consumers.proofs.Strict.{all_left, all_right, all_weaker, stored-strict, strict-at, strict-put, strict-reword}
use Rattle.state.specs.declared.Head.{Head}
use Rattle.state.specs.State.{head_view, strict_tables, first_waiting, with_counters, with_turn, with_waiting, with_used, with_events}
use Rattle.state.proofs.Counts.{expired-plain, dispatched-plain}
use Rattle.state.proofs.Events.{events-up-to, events-after}
use Rattle.queues.specs.Look.{lone, Found, Missed}
use Rattle.queues.specs.Give.{looked_head, gave_head, moved_sub, Gives, Gave}
use Rattle.queues.specs.Scan.{can_take, next_room, Scans, Onward, Visited}
use Rattle.queues.proofs.Looking.{look-same}
use Rattle.queues.proofs.Viewing.{parts_view, view-parts, strict-parts, behind-length, behind-past, all_without}
use Rattle.queues.proofs.Onward.{onward-same}

-- ---- the definition

module _ (now i : ℕ) (t : Dest) (s : Def.Sub) (there : nth i t.subs ≡ some s) where
  visit-idle : (is_browser s || not (has_credit s)) ≡ true → visit now i t ≡ record { took = false; dest = t; events = [] }
  unfolding visit visit_at
  visit-idle h = ap (visit_at now i t) there ∙ rw h

  visit-on : is_browser s ≡ false → has_credit s ≡ true → (l : Look) → look now s s.cursor t.pending ≡ l → visit now i t ≡ given i s l t l.chosen
  unfolding visit visit_at
  visit-on b c l e = ap (visit_at now i t) there ∙ rw (b, c) (ap (λ (x : Look). given i s x t x.chosen) e)

-- ---- numbers

-- other counters, turn, waiting rows, events and rows in use
abbrev turned_head : Stats → ℕ → ℕ → ℕ → ℕ → Head → Head
turned_head stats turn n events used d = with_counters stats (with_turn turn (with_waiting n (with_events events (with_used used d))))

-- after a look that left so many waiting rows, up to the end, and so many spare ones
abbrev missed_head : ℕ → ℕ → ℕ → Head → Head
missed_head k n end d = turned_head (d.stats ⊕ add_expired k) d.turn n d.events end d

abbrev found_head : ℕ → ℕ → ℕ → ℕ → Head → Head
found_head i k n end d = turned_head ((d.stats ⊕ add_expired k) ⊕ add_dispatched 1) ((i + 1) % d.consumers) n (d.events + 1) end d

module _ (d : Head) (end k n : ℕ) (size : end + k ≡ d.used) (waits : n + k ≡ d.waiting) (few : d.stats.expired + d.waiting ≤ 2 ^ 63) where
  looked-plain : looked_head end d ≡ missed_head k n end d
  looked-plain =
      let gone : d.used - end ≡ k = omega arith in
      let left : d.waiting - k ≡ n = omega arith in
      ap (λ (x : ℕ). with_counters (with_expired_by d.stats x) (with_waiting (d.waiting - x) (with_used end d))) gone
      ∙ ap₂ (λ (x : Stats) (y : ℕ). with_counters x (with_waiting y (with_used end d))) (expired-plain d.stats k (omega arith)) left

  gave-plain : (i m : ℕ) → suc m ≡ n → d.stats.dispatched + d.waiting ≤ 2 ^ 63 → gave_head i (looked_head end d) ≡ found_head i k m end d
  gave-plain i m e less =
      let one : n - 1 ≡ m = omega arith in
      ap (gave_head i) looked-plain
      ∙ ap₂ (λ (x : Stats) (y : ℕ). with_counters x (with_turn ((i + 1) % d.consumers) (with_waiting y (with_events (d.events + 1) (with_used end d))))) (dispatched-plain (d.stats ⊕ add_expired k) (omega arith)) one

-- ---- the tables before the turn

module _ (now i : ℕ) (d : Head) (subs rows events : List Row) (ok : Scans subs d (length rows) (length events)) (here : i < d.consumers) where
  abbrev ws : List Row
  ws = take d.consumers subs

  abbrev w : Row
  w = get_or subs i []

  abbrev s : Sub
  s = row_sub w

  abbrev from : ℕ
  from = first_waiting d

  abbrev a : List Row
  a = take (sub_rows ws) rows

  abbrev b : List Row
  b = take d.reserved (drop (sub_rows ws) rows)

  abbrev c : List Row
  c = slice from d.used rows

  abbrev z : List Row
  z = drop d.used rows

  abbrev pre : List Row
  pre = take (sub_rows (take i ws)) a

  abbrev flying : List Row
  flying = flying_in ws a i

  abbrev held : List Row
  held = held_in ws a i

  abbrev post : List Row
  post = after_in ws a i

  abbrev S : Def.Sub
  S = sub_view queue s flying held

  ws-length : length ws ≡ d.consumers
  ws-length = length-take-le d.consumers subs (let x = ok.consumers in let y = ok.subs-long in omega arith)

  in-ws : i < length ws
  in-ws = omega (arith, ws-length)

  row_is : get_or ws i [] ≡ w
  row_is = get_or-take d.consumers subs i [] here

  few : sub_rows ws + (d.reserved + d.waiting) ≤ length rows
  few = let u = ok.rows-used in let v = ok.used in let x = ok.rows_long in omega arith

  from_is : from ≡ sub_rows ws + d.reserved
  from_is = let u = ok.rows-used in omega arith

  a-length : length a ≡ sub_rows ws
  a-length = length-take-le (sub_rows ws) rows (let x = few in omega arith)

  b-length : length b ≡ d.reserved
  b-length = length-take-le d.reserved (drop (sub_rows ws) rows) (simp length-drop (let x = few in omega arith))

  c-length : length c ≡ d.waiting
  c-length = length-slice from d.used rows (let v = ok.used in let x = ok.rows_long in omega arith) ∙ (let u = ok.rows-used in omega (arith, from_is))

  first-is : take from rows ≡ a ++ b
  first-is = ap (λ (n : ℕ). take n rows) from_is ∙ take-add (sub_rows ws) d.reserved rows

  rows_is : rows ≡ a ++ (b ++ (c ++ z))
  rows_is =
      parts from d.used rows (let u = ok.rows-used in omega (arith, from_is))
      ∙ ap (λ (x : List Row). x ++ (c ++ z)) first-is
      ∙ append_assoc a b (c ++ z)

  viewed : (ps : List Id) (qs : List Audit) → head_view d subs rows ps qs ≡ parts_view d ws a b c ps qs
  viewed ps qs = ap (λ (x : List Row). head_view d subs x ps qs) rows_is ∙ view-parts d subs a b c z ok.queue a-length b-length c-length ps qs

  strict-was : strict_tables d subs rows ≡ (subs_strict ws a && all entry_strict (b ++ c))
  strict-was = ap (strict_tables d subs) rows_is ∙ strict-parts d subs a b c z a-length b-length c-length

  -- the consumer
  flying-is : length flying ≡ s.inflight
  unfolding row_sub
  flying-is = flying-length ws a i in-ws (omega (arith, a-length)) ∙ ap inflight_count row_is

  held-is : length held ≡ s.held
  unfolding row_sub
  held-is = held-length ws a i in-ws (omega (arith, a-length)) ∙ ap held_count row_is

  nth-is : nth i (subs_at queue ws a) ≡ some S
  nth-is = subs-nth queue ws a i in-ws ∙ ap some (sub_at_lem queue (get_or ws i []) flying held ∙ ap (λ (x : Row). sub_view queue (row_sub x) flying held) row_is)

  -- the next delivery numbers have room
  next-at : at 8 w + d.waiting ≤ 2 ^ 63
  next-at = leb-true (at 8 w + d.waiting) (2 ^ 63) (ap (next_room d.waiting) (sym row_is) ∙ all-at (next_room d.waiting) ws i [] ok.next in-ws)

  next-less : (n : ℕ) → n ≤ d.waiting → all (next_room n) ws ≡ true
  next-less n h = all_weaker (next_room d.waiting) (next_room n)
      (λ x e. le-leb (at 8 x + n) (2 ^ 63) (omega (arith, leb-true (at 8 x + d.waiting) (2 ^ 63) e))) ws ok.next

  -- ---- the tables after it

  module _ (w' : Row) (own left spare rows' events' : List Row) (stats : Stats) (turn sent used : ℕ) where
    abbrev after : Head
    after = turned_head stats turn (length left) sent used d

    -- the consumer's row is w', the consumers' rows are own, and so many rows wait and are spare
    record Turned : Type 0 where
      rows_are : rows' ≡ own ++ (b ++ (left ++ (spare ++ z)))
      own-are : length own ≡ sub_rows (set ws i w')
      in_use : sub_rows (set ws i w') + (d.reserved + length left) ≡ used
      gone : used + length spare ≡ d.used
      next : turn ≤ 32
      waits : length left ≤ d.waiting
      more : d.events ≤ sent
      room : sent + length left ≤ d.events + d.waiting
      expired : stats.expired + length left ≤ d.stats.expired + d.waiting
      dispatched : stats.dispatched + length left ≤ d.stats.dispatched + d.waiting
      numbered : at 8 w' + length left ≤ 2 ^ 63
      own-strict : subs_strict ws a ≡ true → subs_strict (set ws i w') own ≡ true
      left-strict : all entry_strict c ≡ true → all entry_strict left ≡ true
      later : drop sent events' ≡ drop sent events
      as_long : length events' ≡ length events

    module _ (f : Turned) where
      ws-now : take d.consumers (set subs i w') ≡ set ws i w'
      ws-now = take-set-lt d.consumers subs i w' here

      flat : List Row
      flat = own ++ (b ++ (left ++ spare))

      flat-is : rows' ≡ flat ++ z
      unfolding flat
      flat-is = f.rows_are ∙ simp append_assoc

      flat-length : length flat ≡ d.used
      unfolding flat
      flat-length = simp length-append (omega (arith, f.own-are, f.in_use, f.gone, b-length))

      room-rows : d.used ≤ length rows
      room-rows = let v = ok.used in let x = ok.rows_long in omega arith

      turned-length : length rows' ≡ length rows
      turned-length = ap length flat-is ∙ behind-length d.used flat rows flat-length room-rows

      turned-view : (ps : List Id) (qs : List Audit) → head_view after (set subs i w') rows' ps qs ≡ parts_view after (set ws i w') own b left ps qs
      turned-view ps qs =
          ap (λ (x : List Row). head_view after (set subs i w') x ps qs) f.rows_are
          ∙ view-parts after (set subs i w') own b left (spare ++ z) ok.queue (f.own-are ∙ ap sub_rows (sym ws-now)) b-length refl ps qs
          ∙ ap (λ (x : List Row). parts_view after x own b left ps qs) ws-now

      turned-strict : strict_tables d subs rows ≡ true → strict_tables after (set subs i w') rows' ≡ true
      turned-strict h =
          let was = sym strict-was ∙ h in
          let others = and_right (subs_strict ws a) _ was in
          ap (strict_tables after (set subs i w')) f.rows_are
          ∙ strict-parts after (set subs i w') own b left (spare ++ z) (f.own-are ∙ ap sub_rows (sym ws-now)) b-length refl
          ∙ ap (λ (x : List Row). subs_strict x own && all entry_strict (b ++ left)) ws-now
          ∙ and_both (subs_strict (set ws i w') own) _ (f.own-strict (and_left (subs_strict ws a) _ was)) (all_append entry_strict b left (all_left entry_strict b c others) (f.left-strict (all_right entry_strict b c others)))

      turned-next : all (next_room (length left)) (take d.consumers (set subs i w')) ≡ true
      turned-next = ap (all (next_room (length left))) ws-now
          ∙ all-stored (next_room (length left)) ws i w' (next-less (length left) f.waits) (le-leb (at 8 w' + length left) (2 ^ 63) f.numbered)

      turned-scans : Scans (set subs i w') after (length rows') (length events')
      turned-scans = record {
        queue = ok.queue;
        consumers = ok.consumers;
        subs-long = simp length-set ok.subs-long;
        rows-used = ap (λ (x : List Row). sub_rows x + (d.reserved + length left)) ws-now ∙ f.in_use;
        used = omega (arith, f.gone, ok.used);
        rows_long = omega (arith, turned-length, ok.rows_long);
        events = omega (arith, f.room, f.as_long, ok.events);
        expired = omega (arith, f.expired, ok.expired);
        dispatched = omega (arith, f.dispatched, ok.dispatched);
        turn = f.next;
        next = turned-next;
      }

      turned-onward : Onward d after subs rows events (set subs i w') rows' events'
      turned-onward = record {
        consumers = refl;
        producers = refl;
        audits = refl;
        reserved = refl;
        queue = refl;
        allowance = refl;
        share = refl;
        waiting = f.waits;
        used = omega (arith, f.gone);
        more = f.more;
        room = f.room;
        expired = f.expired;
        dispatched = f.dispatched;
        strict = turned-strict;
        later = f.later;
        subs-past = drop-set-lt 32 subs i w' (omega (arith, ok.consumers));
        rows-past = ap (drop 512) flat-is ∙ behind-past d.used flat rows flat-length room-rows 512 ok.used;
        subs-length = length-set subs i w';
        rows-length = turned-length;
        events-length = f.as_long;
      }

  -- ---- a browser, or no credit

  visited-idle : (is_browser S || not (has_credit S)) ≡ true → Visited now i d false d subs rows events subs rows events
  visited-idle h = record {
    sends = [];
    says = λ ps qs. ap (visit now i) (viewed ps qs)
        ∙ visit-idle now i (parts_view d ws a b c ps qs) S nth-is h
        ∙ (λ j. record { took = false; dest = sym (viewed ps qs) j; events = [] });
    sent = sym (append-nil (take d.events events));
    quiet = λ _. refl;
    less = λ e. absurd (true≢false (sym e));
    turn = λ _. refl;
    scans = ok;
    onward = onward-same d subs rows events;
  }

  browses : is_browser S ≡ s.browser
  browses = browser-sub queue s flying held

  credits : has_credit S ≡ credit_of s
  credits = credit queue s flying held flying-is

  pub visited-browser : s.browser ≡ true → Visited now i d false d subs rows events subs rows events
  visited-browser h = visited-idle (rw (browses ∙ h))

  pub visited-spent : s.browser ≡ false → credit_of s ≡ false → Visited now i d false d subs rows events subs rows events
  visited-spent h k = visited-idle (rw (browses ∙ h, credits ∙ k))

  pub visited-not : can_take w ≡ false → Visited now i d false d subs rows events subs rows events
  visited-not h = by-test s.browser visited-browser (λ e. visited-spent e (sym (ap (λ (x : Bool). not x && credit_of s) e) ∙ h))

  -- ---- a look along the waiting rows

  module _ (closed : s.browser ≡ false) (credited : credit_of s ≡ true) where
    looks : (l : Look) → look now (lone s) s.cursor (map entry_of c) ≡ l → look now S S.cursor (map entry_of c) ≡ l
    unfolding sub_view
    looks l e = look-same now S (lone s) refl (λ x. accepts-sub queue s flying held x ∙ sym (accepts-sub queue s [] [] x)) s.cursor (map entry_of c) ∙ e

    visits : (l : Look) → look now (lone s) s.cursor (map entry_of c) ≡ l → (ps : List Id) (qs : List Audit)
        → visit now i (head_view d subs rows ps qs) ≡ given i S l (parts_view d ws a b c ps qs) l.chosen
    visits l e ps qs = ap (visit now i) (viewed ps qs) ∙ visit-on now i (parts_view d ws a b c ps qs) S nth-is (browses ∙ closed) (credits ∙ credited) l (looks l e)

    -- nothing is chosen
    module _ (rows' : List Row) (end cursor : ℕ) (m : Missed now s from d.used rows rows' end cursor) where
      abbrev t : Sub
      t = moved_sub cursor s

      left_is : length m.left + length m.spare ≡ d.waiting
      left_is = let u = ok.rows-used in let x = m.last in let y = m.size in omega (arith, from_is)

      rows_same : sub_rows (set ws i (sub_words t)) ≡ sub_rows ws
      unfolding sub_words row_sub
      rows_same = omega (arith, rows-set ws i (sub_words t) in-ws, rows_split ws i in-ws, ap inflight_count row_is, ap held_count row_is)

      missed : Turned (sub_words t) a m.left m.spare rows' events (d.stats ⊕ add_expired (length m.spare)) d.turn d.events end
      unfolding sub_words row_sub
      missed = let u = ok.rows-used in record {
        rows_are = m.parts ∙ ap (λ (x : List Row). x ++ (m.left ++ (m.spare ++ z))) first-is ∙ append_assoc a b (m.left ++ (m.spare ++ z));
        own-are = a-length ∙ sym rows_same;
        in_use = omega (arith, rows_same, left_is, m.size);
        gone = m.size;
        next = ok.turn;
        waits = omega (arith, left_is);
        more = omega arith;
        room = omega (arith, left_is);
        expired = omega (arith, left_is);
        dispatched = omega (arith, left_is);
        numbered = omega (arith, next-at, left_is);
        own-strict = strict-reword ws a i (sub_words t) in-ws (ap inflight_count (sym row_is)) (ap held_count (sym row_is)) (stored-strict t);
        left-strict = m.strict;
        later = refl;
        as_long = refl;
      }

      mine : subs_at queue (set ws i (sub_words t)) a ≡ set (subs_at queue ws a) i (with_cursor cursor S)
      unfolding sub_words row_sub sub_view
      mine = subs-reword queue ws a i (sub_words t) in-ws (ap inflight_count (sym row_is)) (ap held_count (sym row_is)) ∙ ap (set (subs_at queue ws a) i) (sub-stored queue t flying held)

      abbrev r : Head
      r = missed_head (length m.spare) (length m.left) end d

      missed-says : (ps : List Id) (qs : List Audit) → visit now i (head_view d subs rows ps qs) ≡ record { took = false; dest = head_view r (set subs i (sub_words t)) rows' ps qs; events = [] }
      unfolding given
      missed-says ps qs =
          visits (record { pending = map entry_of m.left; chosen = none; cursor = cursor; gone = length m.spare }) m.said ps qs
          ∙ (λ j. record { took = false; dest = Def.with_subs (sym mine j) (parts_view r ws a b m.left ps qs); events = [] })
          ∙ (λ j. record { took = false; dest = sym (turned-view (sub_words t) a m.left m.spare rows' events (d.stats ⊕ add_expired (length m.spare)) d.turn d.events end missed ps qs) j; events = [] })

      pub visited-missed : Visited now i d false (looked_head end d) subs rows events (set subs i (sub_words t)) rows' events
      visited-missed = rw (looked-plain d end (length m.spare) (length m.left) m.size left_is ok.expired) (record {
        sends = [];
        says = missed-says;
        sent = sym (append-nil (take d.events events));
        quiet = λ _. refl;
        less = λ e. absurd (true≢false (sym e));
        turn = λ _. refl;
        scans = turned-scans (sub_words t) a m.left m.spare rows' events (d.stats ⊕ add_expired (length m.spare)) d.turn d.events end missed;
        onward = turned-onward (sub_words t) a m.left m.spare rows' events (d.stats ⊕ add_expired (length m.spare)) d.turn d.events end missed;
      })

    -- the row at a place is chosen
    module _ (rows₁ : List Row) (place end : ℕ) (m : Found now s from d.used rows rows₁ place end) where
      abbrev e : Entry
      e = entry_of m.row

      abbrev rest : List Row
      rest = m.before ++ m.after

      abbrev unused : List Row
      unused = m.spare ++ z

      rest-length : length rest ≡ length m.before + length m.after
      rest-length = length-append m.before m.after

      rest-is : suc (length rest) + length m.spare ≡ d.waiting
      rest-is = let u = ok.rows-used in let x = m.place in let y = m.last in let v = m.size in omega (arith, from_is, rest-length)

      head-is : looked_head end d ≡ missed_head (length m.spare) (suc (length rest)) end d
      head-is = looked-plain d end (length m.spare) (suc (length rest)) m.size rest-is ok.expired

      fits-rows : d.used ≤ length rows
      fits-rows = let v = ok.used in let x = ok.rows_long in omega arith

      picked : get_or rows₁ place [] ≡ m.row
      picked =
          let q : length (take from rows) ≡ from = length-take-le from rows (let u = ok.rows-used in let v = fits-rows in omega (arith, from_is)) in
          ap (λ (x : List Row). get_or x place []) (m.parts ∙ sym (append_assoc (take from rows) m.before (m.row ∷ (m.after ++ unused))))
          ∙ get_or_at (take from rows ++ m.before) m.row (m.after ++ unused) [] place (length-append (take from rows) m.before ∙ omega (arith, q, m.place))

      looked-length : length rows₁ ≡ length rows
      looked-length =
          let x : List Row = take from rows ++ (m.before ++ m.row ∷ (m.after ++ m.spare)) in
          let q : length (take from rows) ≡ from = length-take-le from rows (let u = ok.rows-used in let v = fits-rows in omega (arith, from_is)) in
          let n : length x ≡ d.used = simp length-append (let y = m.place in let o = m.last in let v = m.size in omega (arith, q)) in
          let flat : rows₁ ≡ x ++ z = m.parts ∙ simp append_assoc in
          ap length flat ∙ behind-length d.used x rows n fits-rows

      before-is : take i ws ≡ take i subs
      before-is = take-take i d.consumers subs (omega arith)

      pre-length : length pre ≡ sub_rows (take i subs)
      pre-length = length-take-le (sub_rows (take i ws)) a (omega (arith, a-length, rows_take ws i)) ∙ ap sub_rows before-is

      pub found-gives : Gives subs (length rows₁) (length events) i s place (looked_head end d)
      unfolding row_sub
      found-gives = rw head-is (record {
        waits = omega arith;
        place = let y = m.last in let v = m.size in let x = fits-rows in omega (arith, looked-length);
        rows = let y = m.last in let v = m.size in omega (arith, ok.used);
        room = omega (arith, rest-is, ok.events);
        next = omega (arith, next-at, rest-is);
        flying = let u = ok.rows-used in omega (arith, ap sub_rows before-is, rows_split ws i in-ws, ap inflight_count row_is, ok.used);
        consumer = here;
        consumers = ok.consumers;
      })

      -- it has gone out
      module _ (x : Row) (flies : inflight_at x ≡ Consumer.inflight_of s.next_dseq e) (clean : flying_strict x ≡ true) where
        abbrev u : Sub
        u = sent_sub (moved_sub e.seq s)

        abbrev given-rows : List Row
        given-rows = insert_row (sub_rows (take i subs) + s.inflight) place x rows₁

        abbrev given-events : List Row
        given-events = set events d.events (event_words (sent S e))

        abbrev own : List Row
        own = pre ++ ((flying ++ x ∷ []) ++ (held ++ post))

        a-parts : length pre + (s.inflight + (s.held + length post)) ≡ sub_rows ws
        a-parts = let y : length (pre ++ (flying ++ (held ++ post))) ≡ length a = ap length (rows-parts ws a i) in
            omega (arith, simp length-append at y, flying-is, held-is, a-length)

        given-now : given-rows ≡ own ++ (b ++ (rest ++ unused))
        given-now =
            let p : List Row = pre ++ flying in
            let q : List Row = (held ++ post) ++ (b ++ m.before) in
            let before : rows₁ ≡ p ++ (q ++ m.row ∷ (m.after ++ unused)) =
            m.parts
            ∙ ap (λ (y : List Row). y ++ (m.before ++ m.row ∷ (m.after ++ unused))) first-is
            ∙ ap (λ (y : List Row). (y ++ b) ++ (m.before ++ m.row ∷ (m.after ++ unused))) (sym (rows-parts ws a i))
            ∙ simp append_assoc in
            let first : length p ≡ sub_rows (take i subs) + s.inflight = length-append pre flying ∙ omega (arith, pre-length, flying-is) in
            let last : sub_rows (take i subs) + s.inflight + length q ≡ place =
            simp length-append (let y = m.place in omega (arith, from_is, a-parts, pre-length, held-is, b-length)) in
            ap (insert_row (sub_rows (take i subs) + s.inflight) place x) before
            ∙ insert-parts (sub_rows (take i subs) + s.inflight) place x m.row p q (m.after ++ unused) first last
            ∙ simp append_assoc

        one_more : sub_rows (set ws i (sub_words u)) ≡ sub_rows ws + 1
        unfolding sub_words row_sub
        one_more = omega (arith, rows-set ws i (sub_words u) in-ws, rows_split ws i in-ws, ap inflight_count row_is, ap held_count row_is)

        given-strict : subs_strict ws a ≡ true → subs_strict (set ws i (sub_words u)) own ≡ true
        unfolding sub_words
        given-strict y =
            let g = strict-at ws a i in-ws y in
            strict-put ws a i (sub_words u) (flying ++ x ∷ []) held post in-ws (omega (arith, a-length, rows_take ws i)) (length-append flying (x ∷ []) ∙ omega (arith, flying-is)) held-is g
            (record { words = stored-strict u; flying = all_end flying_strict flying x g.own.flying clean; held = g.own.held }) g.after

        found_turn : (i + 1) % d.consumers < d.consumers
        found_turn = mod-lt (i + 1) (omega arith)

        found : Turned (sub_words u) own rest m.spare given-rows given-events ((d.stats ⊕ add_expired (length m.spare)) ⊕ add_dispatched 1) ((i + 1) % d.consumers) (d.events + 1) end
        unfolding sub_words row_sub
        found = let u = ok.rows-used in record {
          rows_are = given-now;
          own-are = simp length-append (omega (arith, one_more, a-parts, flying-is, held-is));
          in_use = omega (arith, one_more, rest-is, m.size);
          gone = m.size;
          next = omega (arith, found_turn, ok.consumers);
          waits = omega (arith, rest-is);
          more = omega arith;
          room = omega (arith, rest-is);
          expired = omega (arith, rest-is);
          dispatched = omega (arith, rest-is);
          numbered = omega (arith, next-at, rest-is);
          own-strict = given-strict;
          left-strict = λ y. all_without entry_strict m.before m.row m.after (m.strict y);
          later = events-after d.events events (event_words (sent S e));
          as_long = length-set events d.events (event_words (sent S e));
        }

        abbrev h : Head
        h = found_head i (length m.spare) (length rest) end d

        sub-sent : sub_view queue u (flying ++ x ∷ []) held ≡ send e (with_cursor e.seq S)
        unfolding sub_view
        sub-sent =
            let flown : map inflight_at (flying ++ x ∷ []) ≡ map inflight_at flying ++ Consumer.inflight_of s.next_dseq e ∷ [] =
            map-append inflight_at flying (x ∷ []) ∙ ap (λ (y : Inflight). map inflight_at flying ++ y ∷ []) flies in
            ap (λ (y : List Inflight). Def.with_inflight y (send e (with_cursor e.seq S))) flown

        given-sub : subs_at queue (set ws i (sub_words u)) own ≡ set (subs_at queue ws a) i (send e (with_cursor e.seq S))
        unfolding sub_words
        given-sub =
            subs-put queue ws a i (sub_words u) (flying ++ x ∷ []) held post in-ws (omega (arith, a-length, rows_take ws i)) (length-append flying (x ∷ []) ∙ omega (arith, flying-is)) held-is refl
            ∙ ap (set (subs_at queue ws a) i) (sub-stored queue u (flying ++ x ∷ []) held ∙ sub-sent)

        found-says : (ps : List Id) (qs : List Audit) → visit now i (head_view d subs rows ps qs) ≡ record { took = true; dest = head_view h (set subs i (sub_words u)) given-rows ps qs; events = sent S e ∷ [] }
        unfolding given
        found-says ps qs =
            let size : length (subs_at queue ws a) ≡ d.consumers = subs-length queue ws a ∙ ws-length in
            visits (record { pending = map entry_of rest; chosen = some e; cursor = e.seq; gone = length m.spare }) m.said ps qs
            ∙ (λ j. record {
              took = true;
              dest = Def.with_rr ((i + 1) % size j) (Def.with_subs (sym given-sub j) (parts_view h ws a b rest ps qs));
              events = sent S e ∷ [];
            })
            ∙ (λ j. record { took = true; dest = sym (turned-view (sub_words u) own rest m.spare given-rows given-events ((d.stats ⊕ add_expired (length m.spare)) ⊕ add_dispatched 1) ((i + 1) % d.consumers) (d.events + 1) end found ps qs) j; events = sent S e ∷ [] })

        found-visited : Visited now i d true h subs rows events (set subs i (sub_words u)) given-rows given-events
        found-visited = record {
          sends = sent S e ∷ [];
          says = found-says;
          sent = events-up-to d.events events (event_words (sent S e)) (omega (arith, rest-is, ok.events));
          quiet = λ y. absurd (true≢false y);
          less = λ _. omega (arith, rest-is);
          turn = λ y. absurd (true≢false y);
          scans = turned-scans (sub_words u) own rest m.spare given-rows given-events ((d.stats ⊕ add_expired (length m.spare)) ⊕ add_dispatched 1) ((i + 1) % d.consumers) (d.events + 1) end found;
          onward = turned-onward (sub_words u) own rest m.spare given-rows given-events ((d.stats ⊕ add_expired (length m.spare)) ⊕ add_dispatched 1) ((i + 1) % d.consumers) (d.events + 1) end found;
        }

      pub visited-found : (r : Head) (subs' rows' events' : List Row) → Gave i s place (looked_head end d) r subs rows₁ events subs' rows' events'
          → Visited now i d true r subs rows events subs' rows' events'
      unfolding sub_view
      visited-found r subs' rows' events' g =
          let flies : inflight_at g.row ≡ Consumer.inflight_of s.next_dseq e = g.flies ∙ ap (λ (y : Row). Consumer.inflight_of s.next_dseq (entry_of y)) picked in
          let head : r ≡ found_head i (length m.spare) (length rest) end d =
          g.head ∙ gave-plain d end (length m.spare) (suc (length rest)) m.size rest-is ok.expired i (length rest) refl ok.dispatched in
          let to-subs : subs' ≡ set subs i (sub_words (sent_sub (moved_sub e.seq s))) = g.subs-is ∙ ap (λ (y : Row). set subs i (sub_words (sent_sub (moved_sub (entry_of y).seq s)))) picked in
          let to-events : events' ≡ set events d.events (event_words (sent S e)) =
          g.events-is ∙ ap (λ (y : Row). set events d.events (event_words (message S.id (entry_of y).seq (entry_of y).redelivery))) picked in
          rw (head, to-subs, g.rows_is, to-events) (found-visited g.row flies g.strict)
