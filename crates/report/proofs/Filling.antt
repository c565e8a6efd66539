-- Elements put into a lent list one after another, and the blocks of rows. Assumes nothing.
use mathlib.Core.Path.{◌≡◌, refl, sym, ap, ap₂, ◌∙◌}
use mathlib.Core.Bool.{Bool, true, false}
use mathlib.Core.List.{List, [], ◌∷◌, ◌++◌, map, map-append}
use Prim.Native.Nat.{ℕ, suc, ◌+◌, ◌≤◌, ◌<◌}
use native.Mathlib.Nat.{add-zero}
use native.Mathlib.Numerals.{add-one}
use native.Mathlib.Omega.{arith}
use lib.ListN.{length, take, drop, get_or, set, length-map, length-append, length-drop, get_or-map}
use lib.Seq.{sets, slice, drop-cons, drop-drop, drop-length, get_or-take, get_or-drop, length-take-le}
use mir.Val.{bool_byte}
use Rattle.words.specs.Pick.{whether◌then◌else◌}
use Rattle.entry.specs.Entry.{entry_of}
use Rattle.definition.specs.Types.{queue, Entry}
use Rattle.definition.specs.Consumer.{is_browser}
use Rattle.definition.specs.Calls.{flying, taken}
use Rattle.definition.specs.Words.{at}
use Rattle.definition.specs.Layout.{Row, flag, sub_at, each_sub, subs_at}
use Rattle.definition.proofs.Stored.{flying-rows}
use Rattle.subrows.proofs.Subs.{browses}
use Rattle.subrows.proofs.Tests.{part-turn, part_end}
use Rattle.fates.specs.Blocks.{Block, block_at}
use Rattle.report.specs.Report.{row_block}

module _ {A : Type 0} where
  -- some, and then others
  pub sets-append : (p q l : List A) (i : ℕ) → sets l i (p ++ q) ≡ sets (sets l i p) (i + length p) q
  sets-append [] q l i = ap (λ (k : ℕ). sets l k q) (sym (add-zero i))
  sets-append (a ∷ p) q l i =
      let e : suc i + length p ≡ i + suc (length p) = omega arith in
      sets-append p q (set l i a) (suc i) ∙ ap (λ (k : ℕ). sets (sets (set l i a) (suc i) p) k q) e

  -- one more of a list m, whose first i are put: what is left to put makes g
  module _ (m : List A) (z : A) (k i : ℕ) (out g : List A) (e : sets out k (drop i m) ≡ g) where
    pub put-turn : (j : ℕ) (x : A) → i < length m → j ≡ suc k → x ≡ get_or m i z → sets (set out k x) j (drop (i + 1) m) ≡ g
    put-turn j x h q p =
        ap₂ (λ (a : ℕ) (y : A). sets (set out k y) a (drop (i + 1) m)) q p
        ∙ ap (λ (a : ℕ). sets (set out k (get_or m i z)) (suc k) (drop a m)) (add-one i)
        ∙ sym (ap (sets out k) (drop-cons m i z h))
        ∙ e

    pub put-end : i ≡ length m → out ≡ g
    put-end q = sym (ap (sets out k) (ap (λ (a : ℕ). drop a m) q ∙ drop-length m)) ∙ e

  -- some of them at once
  pub put-part : (p r out next g : List A) (at k j : ℕ) → next ≡ sets out at p → j ≡ at + k → k ≡ length p → sets out at (p ++ r) ≡ g → sets next j r ≡ g
  put-part p r out next g at k j e q n h =
      ap₂ (λ (l : List A) (a : ℕ). sets l a r) e (q ∙ ap (λ (a : ℕ). at + a) n) ∙ sym (sets-append p r out at) ∙ h

-- ---- rows

-- a mark as a word
pub mark-word : (b : Bool) → bool_byte b ≡ (whether b then 1 else 0)
mark-word true = refl
mark-word false = refl

pub rows-blocks : (place : ℕ) (l : List Row) → map (row_block place) l ≡ map (block_at place) (map entry_of l)
rows-blocks place [] = refl
rows-blocks place (w ∷ l) = ap (λ (m : List Block). row_block place w ∷ m) (rows-blocks place l)

module _ (place : ℕ) (rows : List Row) (from n : ℕ) (b : from + n ≤ length rows) where
  pub gathered-many : length (map (row_block place) (take n (drop from rows))) ≡ n
  gathered-many = length-map (take n (drop from rows)) (row_block place) ∙ length-take-le n (drop from rows) (omega (arith, length-drop from rows))

  pub gathered-at : (i : ℕ) → i < n → row_block place (get_or rows (from + i) []) ≡ get_or (map (row_block place) (take n (drop from rows))) i (row_block place [])
  gathered-at i h = sym (get_or-map (row_block place) (take n (drop from rows)) i [] ∙ ap (row_block place) (get_or-take n (drop from rows) i [] h ∙ get_or-drop from rows i []))

-- ---- what is in flight, from consumer i on

taken_here : (w : Row) (rows : List Row) (base : ℕ) (h : List Row) → let s = sub_at queue w (take (at 14 w) (drop base rows)) h in (whether is_browser s then [] else flying s) ≡ map entry_of (take (whether flag (at 6 w) then 0 else at 14 w) (drop base rows))
unfolding is_browser sub_at
taken_here w rows base h =
    ap₂ (λ (b : Bool) (l : List Entry). whether b then [] else l) (browses (flag (at 6 w)) (map entry_of h)) (flying-rows (take (at 14 w) (drop base rows)))
    ∙ pick (flag (at 6 w))
  where
    pick : (b : Bool) → (whether b then [] else map entry_of (take (at 14 w) (drop base rows))) ≡ map entry_of (take (whether b then 0 else at 14 w) (drop base rows))
    pick true = refl
    pick false = refl

module _ (subs : List Row) (i n : ℕ) (b : n ≤ length subs) (rows : List Row) (base : ℕ) where
  pub taken-turn : i < n → let w = get_or subs i [] in taken (subs_at queue (slice i n subs) (drop base rows))
      ≡ map entry_of (take (whether flag (at 6 w) then 0 else at 14 w) (drop base rows)) ++ taken (subs_at queue (slice (i + 1) n subs) (drop (base + (at 14 w + at 15 w)) rows))
  unfolding each_sub
  taken-turn h =
      let w = get_or subs i [] in
      let d : drop (at 15 w) (drop (at 14 w) (drop base rows)) ≡ drop (base + (at 14 w + at 15 w)) rows =
      drop-drop (at 15 w) (at 14 w) (drop base rows) ∙ drop-drop (at 14 w + at 15 w) base rows in
      ap (λ (l : List Row). taken (subs_at queue l (drop base rows))) (part-turn subs i n [] h b)
      ∙ ap₂ (λ (l : List Entry) (r : List Row). l ++ taken (subs_at queue (slice (i + 1) n subs) r)) (taken_here w rows base (take (at 15 w) (drop (at 14 w) (drop base rows)))) d

  pub taken-end : i ≡ n → taken (subs_at queue (slice i n subs) (drop base rows)) ≡ []
  unfolding each_sub
  taken-end q = ap (λ (l : List Row). taken (subs_at queue l (drop base rows))) (part_end subs i n q)

  -- as blocks
  module _ (h : i < n) (k : ℕ) (q : k ≡ (whether flag (at 6 (get_or subs i [])) then 0 else at 14 (get_or subs i []))) where
    pub blocks-turn : let w = get_or subs i [] in map (block_at 1) (taken (subs_at queue (slice i n subs) (drop base rows)))
        ≡ map (row_block 1) (take k (drop base rows)) ++ map (block_at 1) (taken (subs_at queue (slice (i + 1) n subs) (drop (base + (at 14 w + at 15 w)) rows)))
    blocks-turn =
        let w = get_or subs i [] in
        let r = taken (subs_at queue (slice (i + 1) n subs) (drop (base + (at 14 w + at 15 w)) rows)) in
        ap (map (block_at 1)) (taken-turn h)
        ∙ map-append (block_at 1) (map entry_of (take (whether flag (at 6 w) then 0 else at 14 w) (drop base rows))) r
        ∙ ap (λ (l : List Block). l ++ map (block_at 1) r) (ap (λ (j : ℕ). map (block_at 1) (map entry_of (take j (drop base rows)))) (sym q) ∙ sym (rows-blocks 1 (take k (drop base rows))))

    pub taken-many : base + k ≤ length rows → let w = get_or subs i [] in length (taken (subs_at queue (slice i n subs) (drop base rows)))
        ≡ k + length (taken (subs_at queue (slice (i + 1) n subs) (drop (base + (at 14 w + at 15 w)) rows)))
    taken-many f =
        let w = get_or subs i [] in
        let l = taken (subs_at queue (slice i n subs) (drop base rows)) in
        let r = taken (subs_at queue (slice (i + 1) n subs) (drop (base + (at 14 w + at 15 w)) rows)) in
        sym (length-map l (block_at 1))
        ∙ ap length blocks-turn
        ∙ length-append (map (row_block 1) (take k (drop base rows))) (map (block_at 1) r)
        ∙ ap₂ ◌+◌ (gathered-many 1 rows base k f) (length-map r (block_at 1))
