-- Whether a row gets into a snapshot, and whether a consumer may join, by the tests. Assumes nothing.
use Rattle.std.specs.Prelude.{Some, None, Ok, Err}
use Rattle.std.specs.Result.{is_err}
use Rattle.std.specs.Prelude as Std
use mathlib.Core.Path.{◌≡◌, refl, sym, ap, ap₂, ◌∙◌}
use mathlib.Core.Bool.{Bool, true, false, not, ◌&&◌, true≢false}
use mathlib.Core.List.{List, ◌++◌, map}
use mathlib.Core.Option.{Option}
use Prim.Native.Nat.{ℕ, ◌+◌, ◌-◌, ◌≤◌, ◌<◌}
use native.Mathlib.Omega.{arith}
use borrow.Author.Tests.{le-leb, lt-leb, lt-ltb, le-ltb}
use lib.Dec.{leb, ltb}
use lib.IntN.{pos}
use lib.ListN.{length, take, drop, length-append, length-map, length-drop}
use lib.Seq.{slice, length-take-le, drop-drop}
use Rattle.entry.specs.Entry.{entry_of, expired, selects}
use Rattle.model.specs.declared.Refusal.{Refusal}
use Rattle.state.specs.Answers.{refusal_of}
use Rattle.state.proofs.Told.{numbered}
use Rattle.definition.specs.Base.{whether◌then◌else◌, is_some, tally}
use Rattle.definition.specs.Types.{Id, Audit, Entry, Held, Dest}
use Rattle.definition.specs.Types as Def
use Rattle.definition.specs.Destination as Destination
use Rattle.definition.specs.Calls.{joining, own_refusal, snapshot_rows, consumer_rows}
use Rattle.definition.specs.Calls as Calls
use Rattle.definition.specs.Layout.{Row, held_at, sub_rows}
use Rattle.table.proofs.Lists.{slice-take}
use Rattle.table.proofs.Segments.{tally-map}
use Rattle.consumers.specs.Table.{position_from}
use Rattle.definition.proofs.Stored.{subs-length}
use Rattle.consumers.proofs.Seek.{found_at, found_none}
use Rattle.consumers.proofs.Laws.{consumer-rows}
use Rattle.state.specs.declared.Head.{Head}
use Rattle.state.specs.State.{head_view, kind_by, rows_free, first_waiting, due_by}
use Rattle.joins.specs.declared.SubSpec.{SubSpec}
use Rattle.joins.specs.Joins.{spec_of, snapshot_of, is_found, join_refusal}

-- ---- a refusal, and none

module _ {T : Type 0} where
  pub refused-number : (r : Std.Result T Refusal) → is_err r ≡ true → refusal_of r ≡ 0 → ⊥
  refused-number (Ok x) h z = true≢false (sym h)
  refused-number (Err r) h z = omega (arith, z, numbered r)

  pub accepted-number : (r : Std.Result T Refusal) → is_err r ≡ false → refusal_of r ≡ 0
  accepted-number (Ok x) h = refl
  accepted-number (Err r) h = absurd (true≢false h)

-- ---- the refusal, test by test

module _ (p : SubSpec) (subs : List Row) (d : Head) (k : ℕ) (f : Std.Option ℕ) (e : f ≡ position_from 0 (spec_of p).id (take d.consumers subs)) where
  pub refusal-present : (i : ℕ) → f ≡ Some i → 6 ≡ join_refusal p subs d k
  refusal-present i q = rw (sym e ∙ q)

  pub refusal-full : f ≡ None → 32 ≤ d.consumers → 7 ≡ join_refusal p subs d k
  refusal-full q n = rw (sym e ∙ q, le-leb 32 d.consumers n)

  pub refusal-rows : f ≡ None → d.consumers < 32 → rows_free d < k → 5 ≡ join_refusal p subs d k
  refusal-rows q n h = rw (sym e ∙ q, lt-leb 32 d.consumers n, lt-ltb (rows_free d) k h)

  pub refusal-none : f ≡ None → d.consumers < 32 → k ≤ rows_free d → 0 ≡ join_refusal p subs d k
  refusal-none q n h = rw (sym e ∙ q, lt-leb 32 d.consumers n, le-ltb (rows_free d) k h)

-- ---- the numbers as the definition has them of the view

is_found_lem : (o : Option Def.Sub) (f : Std.Option ℕ) → ((i : ℕ) → f ≡ Some i → is_some o ≡ true) → (f ≡ None → is_some o ≡ false) → is_some o ≡ is_found f
is_found_lem o (Some i) g h = g i refl
is_found_lem o None g h = h refl

module _ (d : Head) (subs rows : List Row) (ps : List Id) (qs : List Audit) (n : d.consumers ≤ length subs)
    (u : sub_rows (take d.consumers subs) + (d.reserved + d.waiting) ≡ d.used) (b : d.used ≤ length rows) where
  abbrev ws : List Row
  ws = take d.consumers subs

  abbrev viewed : Dest
  viewed = head_view d subs rows ps qs

  present-is : (id : Id) → is_some (Destination.sub_of id viewed) ≡ is_found (position_from 0 id ws)
  unfolding head_view
  present-is id = is_found_lem (Destination.sub_of id viewed) (position_from 0 id ws)
      (λ i q. ap is_some (found_at id ws i q (kind_by d.queue) rows))
      (λ q. ap is_some (found_none id ws q (kind_by d.queue) rows))

  consumers-are : length viewed.subs ≡ d.consumers
  unfolding head_view
  consumers-are = subs-length (kind_by d.queue) ws rows ∙ length-take-le d.consumers subs n

  entries : (l : List Held) → length (map (λ (h : Held). h.entry) l) ≡ length l
  entries l = length-map l (λ (h : Held). h.entry)

  -- all rows in use
  pub rows-count : length (Calls.all_rows viewed) ≡ d.used
  unfolding head_view
  rows-count =
      let others : List Row = drop (sub_rows ws) rows in
      let long : length others ≡ length rows - sub_rows ws = length-drop (sub_rows ws) rows in
      let w : List Row = take d.waiting (drop d.reserved others) in
      let r : List Row = take d.reserved others in
      let one : length (map entry_of w) ≡ d.waiting = length-map w entry_of ∙ length-take-le d.waiting (drop d.reserved others) (omega (arith, length-drop d.reserved others)) in
      let two : length (Calls.held viewed) ≡ d.reserved = entries (map held_at r) ∙ length-map r held_at ∙ length-take-le d.reserved others (omega arith) in
      let three : length (consumer_rows viewed.subs) ≡ sub_rows ws =
      ap length (consumer-rows (kind_by d.queue) ws rows) ∙ length-map (take (sub_rows ws) rows) entry_of ∙ length-take-le (sub_rows ws) rows (omega arith) in
      let all : length (Calls.all_rows viewed) ≡ length (map entry_of w) + (length (Calls.held viewed) + length (consumer_rows viewed.subs)) =
      length-append (map entry_of w) (Calls.held viewed ++ consumer_rows viewed.subs) ∙ ap (λ (m : ℕ). length (map entry_of w) + m) (length-append (Calls.held viewed) (consumer_rows viewed.subs)) in
      omega arith

  pub free-is : Calls.free_rows viewed ≡ rows_free d
  free-is = ap (λ (m : ℕ). 512 - m) rows-count

  -- the waiting rows
  pub waiting-rows : viewed.pending ≡ map entry_of (slice (first_waiting d) d.used rows)
  unfolding head_view
  waiting-rows =
      let f : sub_rows ws + d.reserved ≡ first_waiting d = omega arith in
      let m : d.waiting ≡ d.used - first_waiting d = omega arith in
      let h : first_waiting d ≤ d.used = omega arith in
      ap (map entry_of)
      (ap₂ take m (drop-drop d.reserved (sub_rows ws) rows ∙ ap (λ (x : ℕ). drop x rows) f) ∙ sym (slice-take (first_waiting d) d.used rows h))

  pub snapshot-is : (now : ℕ) (p : SubSpec) → snapshot_rows now (spec_of p) viewed ≡ snapshot_of (due_by now d) p d rows
  unfolding head_view
  snapshot-is now p =
      let gets : Entry → Bool = λ e. not (expired (pos (due_by now d)) e) && selects e.match_word p.selector in
      let l : List Row = slice (first_waiting d) d.used rows in
      ap (λ (n : ℕ). whether p.browser then n else 0) (ap (tally gets) waiting-rows ∙ tally-map entry_of gets l)

  pub refusal_is : (now : ℕ) (p : SubSpec) → own_refusal viewed (joining (spec_of p) now) ≡ join_refusal p subs d (snapshot_of (due_by now d) p d rows)
  unfolding own_refusal
  refusal_is now p = λ j.
      whether present-is (spec_of p).id j then 6
      else whether leb 32 (consumers-are j) then 7
      else whether ltb (free-is j) (snapshot-is now p j) then 5
      else 0
