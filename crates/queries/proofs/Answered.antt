-- The answers by the numbers of a destination by value, where they fit the tables: they are the definitions' of its view. Assumes nothing.
use mathlib.Core.Path.{◌≡◌, refl, sym, ap, ap₂, ◌∙◌}
use mathlib.Core.Bool.{Bool, true, false, not, ◌&&◌, ◌||◌}
use mathlib.Core.List.{List, [], map}
use mathlib.Core.Option.{none, some}
use Prim.Native.Nat.{ℕ, ◌+◌, ◌-◌, ◌/◌, ◌≤◌, ◌<◌, ◌^◌, min}
use native.Mathlib.Omega.{arith}
use borrow.Author.Tests.{le-leb}
use lib.Dec.{eqb, leb}
use lib.ListN.{length, take, drop, get_or, length-map, length-drop, get_or-map}
use lib.Seq.{slice, drop-drop, length-take-le, get_or-take, get_or-drop}
use mir.Val.{bool_byte}
use Rattle.entry.specs.Entry.{entry_of}
use Rattle.definition.specs.Base.{whether◌then◌else◌, all, empty, nth, is_some}
use Rattle.definition.specs.Types.{Entry, Dest}
use Rattle.definition.specs.Destination.{held_rows}
use Rattle.definition.specs.Queries.{Query, of_kind, consumers, expirations, messages, idle, sequence, query_ok, answer_of, is_queue, has_consumers, expiring, has_expiring, idle_seconds, idle_for, message_count, seq_of, seq_at, number}
use Rattle.definition.specs.Words.{at, kind_by}
use Rattle.definition.specs.Layout.{Row, flag, tpending_at, sub_at, subs_at, sub_rows, buffer_query, lent}
use Rattle.definition.proofs.Lists.{empty-length}
use Rattle.consumers.specs.Table.{kept_rows}
use Rattle.consumers.proofs.Laws.{held-subs, kept-few}
use Rattle.definition.proofs.Stored.{subs-length}
use Rattle.subrows.proofs.Tests.{part_of, all_map}
use Rattle.state.specs.declared.Head.{Head}
use Rattle.state.specs.State.{head_view, loaded, first_waiting}
use Rattle.state.specs.Fits.{Fits}
use Rattle.state.proofs.View.{is-queue}
use Rattle.queries.specs.declared.Asked.{Asked}
use Rattle.queries.specs.Answers.{as_asked, barred, lasts, sub_lasts, is_idle}
use Rattle.queries.proofs.Lists.{nth_past, nth-at}
use Rattle.queries.proofs.Opened.{ids, rings, facts, no-producers, answered}

as_number : (x : Bool) → bool_byte x ≡ number x
as_number true = refl
as_number false = refl

-- ---- one consumer

held-lasts : (q snapshot : Bool) (l : List Row) → all (λ e. not (expiring e)) (tpending_at (kind_by q) snapshot (map entry_of l)) ≡ ((q && snapshot) || all lasts l)
held-lasts true true l = refl
held-lasts true false l = all_map (λ e. not (expiring e)) entry_of l
held-lasts false snapshot l = all_map (λ e. not (expiring e)) entry_of l

sub-lasts : (q : Bool) (w : Row) (f l : List Row) → sub_lasts (sub_at (kind_by q) w f l) ≡ ((q && flag (at 6 w)) || all lasts l)
unfolding sub_at
sub-lasts q w f l = held-lasts q (flag (at 6 w)) l

-- the same with its rows where they stand
pub sub-placed : (q : Bool) (w : Row) (rows : List Row) (base : ℕ) → base + (at 14 w + at 15 w) ≤ length rows
    → sub_lasts (sub_at (kind_by q) w (take (at 14 w) (drop base rows)) (take (at 15 w) (drop (at 14 w) (drop base rows)))) ≡ ((q && flag (at 6 w)) || all lasts (slice (base + at 14 w) (base + (at 14 w + at 15 w)) rows))
sub-placed q w rows base b =
    let e : base + (at 14 w + at 15 w) ≡ base + at 14 w + at 15 w = omega arith in
    let p : take (at 15 w) (drop (at 14 w) (drop base rows)) ≡ slice (base + at 14 w) (base + (at 14 w + at 15 w)) rows =
    ap (take (at 15 w)) (drop-drop (at 14 w) base rows) ∙ sym (ap (λ (n : ℕ). slice (base + at 14 w) n rows) e ∙ part_of rows (base + at 14 w) (at 15 w) (omega arith)) in
    sub-lasts q w (take (at 14 w) (drop base rows)) (take (at 15 w) (drop (at 14 w) (drop base rows))) ∙ ap (λ (l : List Row). (q && flag (at 6 w)) || all lasts l) p

-- ---- a destination

module _ (h : List ℕ) (subs rows : List Row) (z : barred (lent h subs rows) ≡ 0) (d : Head) (l : d ≡ loaded h subs) where
  f : Fits subs d (length rows) 545
  f = facts h subs rows z d l

  abbrev t : Dest
  t = head_view d subs rows (ids h subs rows z) (rings h subs rows z)

  -- an answer from these numbers
  reply : (q : Query) (a : ℕ) → query_ok q ≡ true → a ≡ answer_of t q → ◌≡◌ {A = Asked} (record { refusal = 0; answer = a }) (as_asked (buffer_query (lent h subs rows) q))
  reply = answered h subs rows z d l

  abbrev ws : List Row
  ws = take d.consumers subs

  kind-answer : bool_byte d.queue ≡ number (is_queue t.kind)
  unfolding head_view
  kind-answer = as_number d.queue ∙ sym (ap number (is-queue d.queue))

  subs-count : length t.subs ≡ d.consumers
  unfolding head_view
  subs-count = subs-length (kind_by d.queue) ws rows ∙ length-take-le d.consumers subs (omega (arith, f.consumers, f.subs-long))

  consumers-answer : bool_byte (not (eqb d.consumers 0)) ≡ number (has_consumers t)
  consumers-answer = as_number (not (eqb d.consumers 0)) ∙ sym (ap (λ (x : Bool). number (not x)) (empty-length t.subs ∙ ap (λ (n : ℕ). eqb n 0) subs-count))

  -- ---- what waits

  pub first-is : first_waiting d ≡ sub_rows ws + d.reserved
  first-is = omega (arith, f.rows-used)

  pub in_rows : first_waiting d + d.waiting ≤ length rows
  in_rows = omega (arith, f.rows-used, f.used, f.rows_long)

  pub waits : t.pending ≡ map entry_of (take d.waiting (drop (first_waiting d) rows))
  unfolding head_view
  waits = ap (λ (l : List Row). map entry_of (take d.waiting l)) (drop-drop d.reserved (sub_rows ws) rows ∙ ap (λ (n : ℕ). drop n rows) (sym first-is))

  part_length : length (take d.waiting (drop (first_waiting d) rows)) ≡ d.waiting
  part_length = length-take-le d.waiting (drop (first_waiting d) rows) (omega (arith, in_rows, length-drop (first_waiting d) rows))

  pub waiting-count : length t.pending ≡ d.waiting
  waiting-count = ap length waits ∙ length-map (take d.waiting (drop (first_waiting d) rows)) entry_of ∙ part_length

  past-answer : (i : ℕ) → d.waiting ≤ i → 0 ≡ seq_at i t
  past-answer i past = sym (ap seq_of (nth_past i t.pending (omega (arith, past, waiting-count))))

  seq-answer : (i : ℕ) → i < d.waiting → at 0 (get_or rows (first_waiting d + i) []) ≡ seq_at i t
  unfolding entry_of
  seq-answer i below =
      let m : List Row = take d.waiting (drop (first_waiting d) rows) in
      let g : get_or m i [] ≡ get_or rows (first_waiting d + i) [] = get_or-take d.waiting (drop (first_waiting d) rows) i [] below ∙ get_or-drop (first_waiting d) rows i [] in
      ap (at 0) (sym g)
      ∙ sym (ap (λ (es : List Entry). seq_of (nth i es)) waits
      ∙ ap seq_of (nth-at i (map entry_of m) (entry_of []) (omega (arith, below, length-map m entry_of, part_length)))
      ∙ ap (λ (e : Entry). e.seq) (get_or-map entry_of m i []))

  messages-answer : d.waiting + min 513 (kept_rows d.queue ws) ≡ message_count t
  unfolding head_view
  messages-answer =
      let few : kept_rows d.queue ws ≤ 512 = omega (arith, kept-few d.queue ws, f.rows-used, f.used) in
      let m : min 513 (kept_rows d.queue ws) ≡ kept_rows d.queue ws = omega arith in
      let k : held_rows t.subs ≡ kept_rows d.queue ws =
      held-subs (kind_by d.queue) ws rows (omega (arith, f.rows-used, f.used, f.rows_long)) ∙ ap (λ (x : Bool). kept_rows x ws) (is-queue d.queue) in
      ap₂ ◌+◌ (sym waiting-count) (m ∙ sym k)

  expiring-answer : bool_byte (not (all lasts (slice (first_waiting d) d.used rows) && all sub_lasts (subs_at (kind_by d.queue) ws rows))) ≡ number (has_expiring t)
  unfolding has_expiring head_view
  expiring-answer =
      let u : d.used ≡ first_waiting d + d.waiting = omega (arith, f.rows-used) in
      let p : slice (first_waiting d) d.used rows ≡ take d.waiting (drop (first_waiting d) rows) =
      ap (λ (n : ℕ). slice (first_waiting d) n rows) u ∙ part_of rows (first_waiting d) d.waiting (omega (arith, in_rows)) in
      let e : all lasts (slice (first_waiting d) d.used rows) ≡ all (λ e. not (expiring e)) t.pending =
      ap (all lasts) p ∙ sym (all_map (λ e. not (expiring e)) entry_of (take d.waiting (drop (first_waiting d) rows))) ∙ sym (ap (all (λ e. not (expiring e))) waits) in
      as_number (not (all lasts (slice (first_waiting d) d.used rows) && all sub_lasts (subs_at (kind_by d.queue) ws rows))) ∙ ap (λ (x : Bool). number (not (x && all sub_lasts t.subs))) e

  -- ---- idle_for

  mark : (now secs : ℕ) (b : Bool) → (b && leb secs ((now - d.idle_since) / 1000)) ≡ (is_some (whether b then some d.idle_since else none) && leb secs (idle_seconds now (whether b then some d.idle_since else none)))
  mark now secs true = refl
  mark now secs false = refl

  idle-answer : (now secs : ℕ) → bool_byte (is_idle now secs d) ≡ number (idle_for now secs t)
  unfolding idle_for head_view
  idle-answer now secs =
      let e = no-producers h subs rows z d l in
      let w : empty t.pending ≡ eqb d.waiting 0 = empty-length t.pending ∙ ap (λ (n : ℕ). eqb n 0) waiting-count in
      let s : empty t.subs ≡ eqb d.consumers 0 = empty-length t.subs ∙ ap (λ (n : ℕ). eqb n 0) subs-count in
      as_number (is_idle now secs d)
      ∙ ap number (λ j. sym w j && (sym s j && (sym e j && mark now secs d.idle j)))

  -- ---- the queries

  abbrev Replies : Query → ℕ → Type 0
  Replies q a = ◌≡◌ {A = Asked} (record { refusal = 0; answer = a }) (as_asked (buffer_query (lent h subs rows) q))

  pub kind-replies : Replies of_kind (bool_byte d.queue)
  kind-replies = reply of_kind _ refl kind-answer

  pub consumers-replies : Replies consumers (bool_byte (not (eqb d.consumers 0)))
  consumers-replies = reply consumers _ refl consumers-answer

  pub expiring-replies : (waiting held : Bool) → waiting ≡ all lasts (slice (first_waiting d) d.used rows) → held ≡ all sub_lasts (subs_at (kind_by d.queue) ws rows)
      → Replies expirations (bool_byte (not (waiting && held)))
  expiring-replies waiting held p q = reply expirations _ refl (ap₂ (λ (x y : Bool). bool_byte (not (x && y))) p q ∙ expiring-answer)

  pub messages-replies : (held : ℕ) → held ≡ min 513 (kept_rows d.queue ws) → Replies messages (d.waiting + held)
  messages-replies held e = reply messages _ refl (ap (λ (n : ℕ). d.waiting + n) e ∙ messages-answer)

  pub idle-replies : (now secs : ℕ) (x : Bool) → now ≤ 2 ^ 62 → x ≡ is_idle now secs d → Replies (idle now secs) (bool_byte x)
  idle-replies now secs x c e = reply (idle now secs) _ (le-leb now (2 ^ 62) c) (ap bool_byte e ∙ idle-answer now secs)

  pub past-replies : (i : ℕ) → d.waiting ≤ i → Replies (sequence i) 0
  past-replies i past = reply (sequence i) _ refl (past-answer i past)

  pub seq-replies : (i first : ℕ) → i < d.waiting → first ≡ first_waiting d → Replies (sequence i) (at 0 (get_or rows (first + i) []))
  seq-replies i first below e = reply (sequence i) _ refl (ap (λ (n : ℕ). at 0 (get_or rows (n + i) [])) e ∙ seq-answer i below)

  -- what the code's indexes go by
  pub few : (d.waiting ≤ 512) × (d.used ≤ 512) × (512 ≤ length rows) × (d.consumers ≤ length subs) × (sub_rows ws ≤ length rows)
  few = (f.waiting, f.used, f.rows_long, omega (arith, f.consumers, f.subs-long), omega (arith, f.rows-used, f.used, f.rows_long))
