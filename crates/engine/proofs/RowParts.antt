-- The rows in parts: a row put in by its number within a part, and the destination that the parts are. Assumes nothing.
use mathlib.Core.Path.{◌≡◌, sym, ap, ap₂, ◌∙◌, subst}
use mathlib.Core.Bool.{true}
use mathlib.Core.List.{List, ◌∷◌, ◌++◌, append_assoc, map}
use mathlib.Core.Option.{some, none}
use Prim.Native.Nat.{ℕ, ◌+◌, ◌-◌, ◌≤◌}
use native.Mathlib.Omega.{arith}
use lib.ListN.{length, take, drop, get_or, length-append, length-drop, take-append-drop}
use lib.Seq.{length-take-le, take_at, drop_at, drop-drop}
use mir.Syntax.{w32}
use mir.Val.{SFits}
use Rattle.words.proofs.Words.{int-fits}
use Rattle.entry.specs.Entry.{entry_of, row_of}
use Rattle.definition.specs.Base.{whether◌then◌else◌, all}
use Rattle.definition.specs.Types.{Id, Entry, Sub, Audit, Dest}
use Rattle.definition.specs.Layout.{Row, held_at, subs_at, sub_rows, entry_strict}
use Rattle.definition.proofs.Tests.{and_both}
use Rattle.definition.proofs.Lists.{all_append}
use Rattle.table.specs.Table.{place_from, place_of, insert_row}
use Rattle.table.proofs.Search.{place-from-within}
use Rattle.table.proofs.Laws.{place-parts, insert-parts}
use Rattle.table.proofs.Strict.{row-strict}
use Rattle.consumers.proofs.View.{subs-before}
use Rattle.consumers.proofs.Strict.{all_first, all_rest}
use Rattle.state.specs.declared.Head.{Head}
use Rattle.state.specs.State.{head_view, kind_by}
use Rattle.engine.proofs.Used.{own_rows, reserved_rows, waiting_rows}

-- ---- a row put in

-- a part with a row put in at place k
abbrev pub with_row : ℕ → Row → List Row → List Row
with_row k row s = take k s ++ row ∷ drop k s

pub with-row-length : (k : ℕ) (row : Row) (s : List Row) → length (with_row k row s) ≡ length s + 1
with-row-length k row s =
    let p : length (take k s ++ drop k s) ≡ length s = ap length (take-append-drop k s) in
    omega (arith, p, length-append (take k s) (drop k s), length-append (take k s) (row ∷ drop k s))

-- the row is strict where it gives its entry back, and a strict part stays so
pub own-row-strict : (e : Entry) → entry_of (row_of e 0 0 0) ≡ e → entry_strict (row_of e 0 0 0) ≡ true
unfolding entry_of
own-row-strict e h = row-strict e 0 0 0 (subst (λ (x : Entry). SFits w32 x.redelivery) h (int-fits (get_or (row_of e 0 0 0) 5 0)))

pub with-row-strict : (k : ℕ) (row : Row) (s : List Row) → entry_strict row ≡ true → all entry_strict s ≡ true → all entry_strict (with_row k row s) ≡ true
with-row-strict k row s r h = all_append entry_strict (take k s) (row ∷ drop k s) (all_first entry_strict k s h) (and_both (entry_strict row) _ r (all_rest entry_strict k s h))

-- by its number into the part s, before the rows c; row x after them makes way
module _ (f t n q : ℕ) (row x : Row) (a s c z : List Row) (ea : length a ≡ f) (es : f + length s ≡ t) (ec : t + length c ≡ n) where
  abbrev pub place : ℕ
  place = place_from f q s - f

  abbrev rs : List Row
  rs = a ++ (s ++ (c ++ x ∷ z))

  place_is : place_from f q s ≡ f + place
  place_is = let w = place-from-within f q s in omega arith

  pub put-in : insert_row (place_of f t q rs) n row rs ≡ a ++ (with_row place row s ++ (c ++ z))
  put-in =
      let k : ℕ = place in
      let w = place-from-within f q s in
      let b : k ≤ length s = omega arith in
      let p : place_of f t q rs ≡ f + k = place-parts f t a s (c ++ x ∷ z) ea es q ∙ place_is in
      let u : List Row = take k s in
      let v : List Row = drop k s in
      let lu : length u ≡ k = length-take-le k s b in
      let lv : length v ≡ length s - k = length-drop k s in
      let cut : rs ≡ (a ++ u) ++ ((v ++ c) ++ x ∷ z) =
      ap (λ (y : List Row). a ++ (y ++ (c ++ x ∷ z))) (sym (take-append-drop k s))
      ∙ ap (λ (y : List Row). a ++ y) (append_assoc u v (c ++ x ∷ z) ∙ ap (λ (y : List Row). u ++ y) (sym (append_assoc v c (x ∷ z))))
      ∙ sym (append_assoc a u ((v ++ c) ++ x ∷ z)) in
      let la : length (a ++ u) ≡ f + k = length-append a u ∙ omega arith in
      let lc : f + k + length (v ++ c) ≡ n = omega (arith, length-append v c) in
      ap₂ (λ (m : ℕ) (y : List Row). insert_row m n row y) p cut
      ∙ insert-parts (f + k) n row x (a ++ u) (v ++ c) z la lc
      ∙ append_assoc a u (row ∷ ((v ++ c) ++ z))
      ∙ ap (λ (y : List Row). a ++ (u ++ row ∷ y)) (append_assoc v c z)
      ∙ ap (λ (y : List Row). a ++ y) (sym (append_assoc u (row ∷ v) (c ++ z)))

-- ---- the destination that the parts are

abbrev pub made : Head → List Sub → List Row → List Row → List Id → List Audit → Dest
made d subs reserved waiting producers audits = record {
  kind = kind_by d.queue;
  topic_limit = d.topic_limit;
  call_limit = d.call_limit;
  allowance = d.allowance;
  share = d.share;
  calls_used = d.calls_used;
  pending = map entry_of waiting;
  subs = subs;
  rr = d.turn;
  producers = producers;
  audits = audits;
  stats = d.stats;
  idle = whether d.idle then some d.idle_since else none;
  reserved = map held_at reserved;
}

-- rows of the consumers, reserved ones, waiting ones, and those that are free
pub view-parts : (d : Head) (subs own reserved waiting free : List Row) (producers : List Id) (audits : List Audit)
    → length own ≡ sub_rows (take d.consumers subs) → length reserved ≡ d.reserved → length waiting ≡ d.waiting
    → head_view d subs (own ++ (reserved ++ (waiting ++ free))) producers audits ≡ made d (subs_at (kind_by d.queue) (take d.consumers subs) own) reserved waiting producers audits
unfolding head_view
view-parts d subs own reserved waiting free producers audits eo er ew =
    let ws : List Row = take d.consumers subs in
    let rest : drop (sub_rows ws) (own ++ (reserved ++ (waiting ++ free))) ≡ reserved ++ (waiting ++ free) = drop_at own (reserved ++ (waiting ++ free)) (sub_rows ws) eo in
    let mine : subs_at (kind_by d.queue) ws (own ++ (reserved ++ (waiting ++ free))) ≡ subs_at (kind_by d.queue) ws own = subs-before (kind_by d.queue) ws own (reserved ++ (waiting ++ free)) (omega arith) in
    let kept : take d.reserved (drop (sub_rows ws) (own ++ (reserved ++ (waiting ++ free)))) ≡ reserved = ap (take d.reserved) rest ∙ take_at reserved (waiting ++ free) d.reserved er in
    let waits : take d.waiting (drop d.reserved (drop (sub_rows ws) (own ++ (reserved ++ (waiting ++ free))))) ≡ waiting =
    ap (λ (l : List Row). take d.waiting (drop d.reserved l)) rest
    ∙ ap (take d.waiting) (drop_at reserved (waiting ++ free) d.reserved er)
    ∙ take_at waiting free d.waiting ew in
    λ j. made d (mine j) (kept j) (waits j) producers audits

-- the table is those parts
module _ (d : Head) (subs rows : List Row) (e : sub_rows (take d.consumers subs) + (d.reserved + d.waiting) ≡ d.used) (h : d.used ≤ length rows) where
  abbrev n : ℕ
  n = sub_rows (take d.consumers subs)

  pub rows-in-parts : rows ≡ own_rows d subs rows ++ (reserved_rows d subs rows ++ (waiting_rows d subs rows ++ drop d.used rows))
  rows-in-parts =
      let l : List Row = drop n rows in
      let m : List Row = drop d.reserved l in
      let u : n + (d.reserved + d.waiting) ≡ d.used = e in
      let free : drop d.waiting m ≡ drop d.used rows =
      drop-drop d.waiting d.reserved l ∙ drop-drop (d.reserved + d.waiting) n rows ∙ ap (λ (k : ℕ). drop k rows) u in
      sym (take-append-drop n rows)
      ∙ ap (λ (x : List Row). take n rows ++ x) (sym (take-append-drop d.reserved l))
      ∙ ap (λ (x : List Row). take n rows ++ (take d.reserved l ++ x)) (sym (take-append-drop d.waiting m))
      ∙ ap (λ (x : List Row). take n rows ++ (take d.reserved l ++ (take d.waiting m ++ x))) free

  pub own-length : length (own_rows d subs rows) ≡ n
  own-length = length-take-le n rows (omega arith)

  pub reserved-length : length (reserved_rows d subs rows) ≡ d.reserved
  reserved-length = length-take-le d.reserved (drop n rows) (omega (arith, length-drop n rows))

  pub waiting-length : length (waiting_rows d subs rows) ≡ d.waiting
  waiting-length = length-take-le d.waiting (drop d.reserved (drop n rows)) (omega (arith, length-drop n rows, length-drop d.reserved (drop n rows)))
