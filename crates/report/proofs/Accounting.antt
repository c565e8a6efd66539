-- The blocks that a queue holds, by the rows of its tables, and the two lists after a call. Assumes nothing.
use mathlib.Core.Path.{◌≡◌, refl, sym, ap, ap₂, ◌∙◌}
use mathlib.Core.Bool.{Bool, false, not}
use mathlib.Core.List.{List, [], ◌∷◌, ◌++◌, map, map-append}
use Prim.Native.Nat.{ℕ, ◌+◌, ◌≤◌}
use native.Mathlib.Nat.{zero-add}
use native.Mathlib.Omega.{arith}
use borrow.Author.Tests.{ltb-false}
use lib.Dec.{ltb}
use lib.ListN.{length, take, drop, length-append, length-map, length-drop}
use lib.Seq.{sets, sets-eq, drop-drop, take_at}
use Rattle.entry.specs.Entry.{entry_of}
use Rattle.definition.specs.Base.{keep, member}
use Rattle.definition.specs.Types.{queue, Entry, Dest}
use Rattle.definition.specs.Calls.{seqs, taken, held}
use Rattle.definition.specs.Words.{at, kind_by}
use Rattle.definition.specs.Layout.{Row, subs_at, sub_rows}
use Rattle.definition.proofs.Tests.{or-no-left, or-no-right}
use Rattle.definition.proofs.Stored.{held_rows}
use Rattle.state.specs.declared.Head.{Head}
use Rattle.state.specs.State.{head_view, first_waiting, first_reserved}
use Rattle.fates.specs.Fates.{holding}
use Rattle.fates.specs.Blocks.{Block, block_at, held_blocks, went_as, is_gone}
use Rattle.report.specs.Report.{row_block, lists_short, list_with, leavers_of, all_leavers, HeldNumbers, AccountKept}
use Rattle.report.proofs.Filling.{sets-append, rows-blocks, gathered-many}

-- ---- as the code gathers them

module _ (d : Head) (subs rows : List Row) (f : HeldNumbers d subs rows) (first before : ℕ) (p : first ≡ first_waiting d) (q : before ≡ first_reserved d) where
  abbrev u : Dest
  u = head_view d subs rows [] []

  abbrev waits : List Block
  waits = map (row_block 0) (take d.waiting (drop first rows))

  abbrev stays : List Block
  stays = map (row_block 2) (take d.reserved (drop before rows))

  abbrev flies : List Block
  flies = map (block_at 1) (taken (subs_at queue (take d.consumers subs) rows))

  waits-are : map (block_at 0) u.pending ≡ waits
  unfolding head_view
  waits-are =
      let ws = take d.consumers subs in
      let e : sub_rows ws + d.reserved ≡ first = omega (arith, f.used, p) in
      ap (λ (l : List Row). map (block_at 0) (map entry_of (take d.waiting l))) (drop-drop d.reserved (sub_rows ws) rows ∙ ap (λ (n : ℕ). drop n rows) e)
      ∙ sym (rows-blocks 0 (take d.waiting (drop first rows)))

  stays-are : map (block_at 2) (held u) ≡ stays
  unfolding head_view
  stays-are =
      let ws = take d.consumers subs in
      let e : sub_rows ws ≡ before = omega (arith, f.used, q) in
      ap (map (block_at 2)) (held_rows (take d.reserved (drop (sub_rows ws) rows)))
      ∙ ap (λ (n : ℕ). map (block_at 2) (map entry_of (take d.reserved (drop n rows)))) e
      ∙ sym (rows-blocks 2 (take d.reserved (drop before rows)))

  flies-are : map (block_at 1) (taken u.subs) ≡ flies
  unfolding head_view
  flies-are = ap (λ (x : Bool). map (block_at 1) (taken (subs_at (kind_by x) (take d.consumers subs) rows))) f.queue

  held-parts : held_blocks u ≡ waits ++ (stays ++ flies)
  held-parts = λ j. waits-are j ++ (stays-are j ++ flies-are j)

  waits-many : length waits ≡ d.waiting
  waits-many = gathered-many 0 rows first d.waiting (omega (arith, f.used, f.room, p))

  stays-many : length stays ≡ d.reserved
  stays-many = gathered-many 2 rows before d.reserved (omega (arith, f.used, f.room, q))

  pub all-many : (r : ℕ) → r ≡ (d.waiting + d.reserved) + length (taken (subs_at queue (take d.consumers subs) rows)) → r ≡ length (held_blocks u)
  all-many r e =
      let a = length-append waits (stays ++ flies) in
      let b = length-append stays flies in
      omega (arith, e, ap length held-parts, a, b, waits-many, stays-many, length-map (taken (subs_at queue (take d.consumers subs) rows)) (block_at 1))

  pub all-put : (out o₁ o₂ o₃ : List Block) → o₁ ≡ sets out 0 waits → o₂ ≡ sets o₁ d.waiting stays → o₃ ≡ sets o₂ (d.waiting + d.reserved) flies → o₃ ≡ sets out 0 (held_blocks u)
  all-put out o₁ o₂ o₃ a b c =
      c ∙ ap (λ (l : List Block). sets l (d.waiting + d.reserved) flies) (b ∙ ap (λ (l : List Block). sets l d.waiting stays) a)
      ∙ sym (ap (sets out 0) held-parts
      ∙ sets-append waits (stays ++ flies) out 0
      ∙ ap (λ (k : ℕ). sets (sets out 0 waits) k (stays ++ flies)) (zero-add (length waits) ∙ waits-many)
      ∙ sets-append stays flies (sets out 0 waits) d.waiting
      ∙ ap (λ (k : ℕ). sets (sets (sets out 0 waits) d.waiting stays) (d.waiting + k) flies) stays-many)

-- ---- their numbers

numbers-at : (place : ℕ) (l : List Entry) → map (at 0) (map (block_at place) l) ≡ seqs l
numbers-at place [] = refl
numbers-at place (e ∷ l) = ap (λ (m : List ℕ). e.seq ∷ m) (numbers-at place l)

pub numbers-are : (t : Dest) → map (at 0) (held_blocks t) ≡ seqs (holding t)
numbers-are t =
    map-append (at 0) (map (block_at 0) t.pending) (map (block_at 2) (held t) ++ map (block_at 1) (taken t.subs))
    ∙ ap₂ (λ (l m : List ℕ). l ++ m) (numbers-at 0 t.pending) (map-append (at 0) (map (block_at 2) (held t)) (map (block_at 1) (taken t.subs)) ∙ ap₂ (λ (l m : List ℕ). l ++ m) (numbers-at 2 (held t)) (numbers-at 1 (taken t.subs)))
    ∙ sym (map-append (λ e. e.seq) t.pending (held t ++ taken t.subs) ∙ ap (λ (m : List ℕ). seqs t.pending ++ m) (map-append (λ e. e.seq) (held t) (taken t.subs)))

-- those that leave, told from what a queue holds
pub leavers-gone : (code : ℕ) (ws : List ℕ) (u : Dest) (bs : List Block) → leavers_of code ws (held_blocks u) bs ≡ map (went_as code ws) (keep (is_gone u) bs)
unfolding leavers_of
leavers-gone code ws u bs = ap (λ (l : List ℕ). map (went_as code ws) (keep (λ (b : Block). not (member (at 0 b) l)) bs)) (numbers-are u)

-- ---- lists

pub put_first : (v l : List Block) → length v ≤ length l → sets l 0 v ≡ list_with v l
put_first v l h = sets-eq v l 0 (omega (arith, h)) ∙ ap (λ (k : ℕ). v ++ drop k l) (zero-add (length v))

pub as_long : (v l : List Block) → length v ≤ length l → length (list_with v l) ≡ length l
as_long v l h = omega (arith, h, length-append v (drop (length v) l), length-drop (length v) l)

first_of : (m : ℕ) (v l : List Block) → length v ≤ length l → m ≡ length v → take m (sets l 0 v) ≡ v
first_of m v l h e = ap (take m) (put_first v l h) ∙ take_at v (drop (length v) l) m (sym e)

pub record LongLists (n held left : ℕ) : Type 0 where
  pub held-long : 512 ≤ held
  pub left-long : 513 ≤ left
  pub few : n ≤ 512

pub long-lists : (n held left : ℕ) → lists_short n held left ≡ false → LongLists n held left
unfolding lists_short
long-lists n held left s =
    let r = or-no-right (ltb held 512) _ s in
    record { held-long = ltb-false held 512 (or-no-left (ltb held 512) _ s); left-long = ltb-false left 513 (or-no-left (ltb left 513) _ r); few = ltb-false 512 n (or-no-right (ltb left 513) (ltb 512 n) r) }

module _ (d : Head) (subs rows : List Row) (code : ℕ) (ws : List ℕ) (n : ℕ) (held left : List Block) (s : lists_short n (length held) (length left) ≡ false) (clear fresh : List Block) (m : ℕ) where
  abbrev holds : List Block
  holds = held_blocks (head_view d subs rows [] [])

  abbrev leaves : List Block → List Block
  leaves now = all_leavers code ws now (take n held)

  module _ (many : m ≡ length holds) (few : m ≤ 512) (put : fresh ≡ sets clear 0 holds) (long : length clear ≡ 512) where
    fresh-is : take m fresh ≡ holds
    fresh-is = ap (take m) put ∙ first_of m holds clear (omega (arith, many, few, long)) many

    pub accounted : (k : ℕ) (held' left' : List Block) → k ≡ length (leaves (take m fresh)) → k ≤ n + 1 → left' ≡ sets left 0 (leaves (take m fresh)) → held' ≡ take m fresh ++ drop m held → AccountKept d subs rows code ws n held held' left left' m k
    accounted k held' left' c b l h =
        let g = long-lists n (length held) (length left) s in
        let e : k ≡ length (leaves holds) = c ∙ ap (λ (x : List Block). length (leaves x)) fresh-is in
        record {
          held-count = many;
          left-count = e;
          holds = h ∙ ap₂ (λ (l : List Block) (j : ℕ). l ++ drop j held) fresh-is many;
          leaves = l ∙ ap (λ (x : List Block). sets left 0 (leaves x)) fresh-is ∙ put_first (leaves holds) left (omega (arith, g.left-long, g.few, e, b));
          held-few = few;
          left-few = omega (arith, g.few, b);
        }
