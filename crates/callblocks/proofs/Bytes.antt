-- Numbers put byte by byte, and words one after the other. Assumes nothing.
use Prim.Native.Nat.{ℕ, zero, suc, ◌+◌, ◌-◌, ◌*◌, ◌<◌, ◌≤◌, ◌/◌, ◌%◌}
use native.Mathlib.Numerals.{add-one}
use native.Mathlib.Omega.{arith}
use mathlib.Core.Path.{◌≡◌, refl, ap, sym, ◌∙◌}
use mathlib.Core.List.{List, [], ◌∷◌, ◌++◌, append-nil, append_assoc}
use lib.ListN.{length, get_or, take, drop, set, length-append}
use lib.Seq.{take_all, sets, sets-eq, drop-drop, take-suc, take-suc-set}
use borrow.Rule.Slice.PartMut.{put_mid}
use Rattle.callblocks.specs.Packed.{low_bytes, word_bytes}

pub bytes-length : (k n : ℕ) → length (low_bytes k n) ≡ k
unfolding low_bytes
bytes-length zero n = refl
bytes-length (suc k) n = ap suc (bytes-length k (n / 256))

-- a byte more of a number, of which the bytes so far stand in front
pub byte-next : (xs all : List ℕ) (j k n : ℕ) → j < k → k ≡ length xs → take j xs ++ low_bytes (k - j) n ≡ all → take (j + 1) (set xs j (n % 256)) ++ low_bytes (k - (j + 1)) (n / 256) ≡ all
unfolding low_bytes
byte-next xs all j k n h e f =
    let d : k - j ≡ suc (k - (j + 1)) = omega arith in
    let g : take j xs ++ (n % 256 ∷ low_bytes (k - (j + 1)) (n / 256)) ≡ all = rw d at f in
    let b : j < length xs = omega arith in
    rw (add-one j, take-suc-set xs j (n % 256) b, append_assoc) (rw (add-one j) at g)

-- no byte more
pub byte-end : (xs all : List ℕ) (j k n : ℕ) → k ≤ j → k ≡ length xs → take j xs ++ low_bytes (k - j) n ≡ all → xs ≡ all
unfolding low_bytes
byte-end xs all j k n h e f =
    let d : k - j ≡ 0 = omega arith in
    let g : take j xs ++ [] ≡ all = rw d at f in
    sym (append-nil (take j xs) ∙ take_all j xs (omega arith)) ∙ g

-- a part of a list, overwritten
pub part-put : {part ys : List ℕ} (l : List ℕ) (at k : ℕ) → ys ≡ part → k ≡ length part → at + k ≤ length l → put_mid at k l ys ≡ sets l at part
part-put {part} {ys} l at k e h f =
    let d : drop k (drop at l) ≡ drop (at + length part) l = drop-drop k at l ∙ ap (λ (n : ℕ). drop (at + n) l) h in
    rw (e, d) (sym (sets-eq part l at (omega arith) ∙ append_assoc (take at l) part (drop (at + length part) l)))

-- ---- words

pub words-length : (ws : List ℕ) → length (word_bytes ws) ≡ 8 * length ws
unfolding word_bytes
words-length [] = refl
words-length (w ∷ ws) = omega (arith, length-append (low_bytes 8 w) (word_bytes ws), bytes-length 8 w, words-length ws)

-- one word more
snoc : (ws : List ℕ) (x : ℕ) → word_bytes (ws ++ (x ∷ [])) ≡ word_bytes ws ++ low_bytes 8 x
unfolding word_bytes
snoc [] x = append-nil (low_bytes 8 x)
snoc (w ∷ ws) x = ap (λ (l : List ℕ). low_bytes 8 w ++ l) (snoc ws x) ∙ sym (append_assoc (low_bytes 8 w) (word_bytes ws) (low_bytes 8 x))

pub one_word : (ws : List ℕ) (k : ℕ) → k < length ws → word_bytes (take (k + 1) ws) ≡ word_bytes (take k ws) ++ low_bytes 8 (get_or ws k 0)
one_word ws k h = rw (add-one k, take-suc ws k 0 h) (snoc (take k ws) (get_or ws k 0))

pub no_word : (ws : List ℕ) → word_bytes (take 0 ws) ≡ []
unfolding word_bytes
no_word ws = refl
