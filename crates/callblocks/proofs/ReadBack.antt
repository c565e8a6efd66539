-- What is put into a block is read back: each call, the count, and the check. Assumes nothing.
use Prim.Native.Nat.{ℕ, zero, suc, ◌+◌, ◌*◌, ◌≤◌, ◌<◌, ◌/◌, ◌%◌, ◌^◌}
use native.Mathlib.Nat.{add-zero}
use native.Mathlib.Omega.{arith}
use mathlib.Core.Path.{◌≡◌, refl, ap, sym, ◌∙◌}
use mathlib.Core.List.{List, [], ◌∷◌, ◌++◌}
use mathlib.Core.Bool.{◌&&◌}
use borrow.Author.Tests.{le-leb, eq-eqb, ltb-true, ltb-false}
use lib.Dec.{leb, ltb}
use Rattle.words.specs.Pick.{whether◌then◌else◌}
use Rattle.words.proofs.Tests.{by-test}
use lib.ListN.{length, get_or, take, set, length-append, get_or-append}
use lib.Seq.{sets, length-sets, get_or-append-add, length-take-le}
use Rattle.calls.specs.declared.Call.{Call}
use Rattle.calls.specs.Calls.{new_call, Words}
use Rattle.callfile.specs.Blocks.{number_at, word_at, words_at, check_from, check, good, calls_in, call_at, no_such_call}
use Rattle.callfile.proofs.Checks.{part_small}
use Rattle.callfile.proofs.Sets.{sets-before, sets-after, sets-in, take-sets}
use Rattle.callblocks.specs.Packed.{low_bytes, word_bytes, call_bytes, with_call, with_count, with_check, sealed}
use Rattle.callblocks.proofs.Bytes.{bytes-length, words-length}

-- a list has some bytes from a place on
abbrev Holds : List ℕ → ℕ → List ℕ → Type 0
Holds l at bs = (j : ℕ) → j < length bs → get_or l (at + j) 0 ≡ get_or bs j 0

first_part : (l : List ℕ) (at : ℕ) (a b : List ℕ) → Holds l at (a ++ b) → Holds l at a
first_part l at a b h j k = h j (omega (arith, length-append a b)) ∙ get_or-append a b 0 j k

second-part : (l : List ℕ) (at : ℕ) (a b : List ℕ) → Holds l at (a ++ b) → Holds l (at + length a) b
second-part l at a b h j k =
    let e : at + length a + j ≡ at + (length a + j) = omega arith in
    rw e (h (length a + j) (omega (arith, length-append a b)) ∙ get_or-append-add a b j 0)

-- ---- numbers

number-of : (n : ℕ) → n < 2 ^ 32 → n % 256 + 256 * (n / 256 % 256) + 65536 * (n / 256 / 256 % 256) + 16777216 * (n / 256 / 256 / 256 % 256) ≡ n
number-of n h = omega arith

number_read : (l : List ℕ) (at n : ℕ) → n < 2 ^ 32 → Holds l at (low_bytes 4 n) → number_at at l ≡ n
unfolding number_at low_bytes
number_read l at n h g =
    let a : get_or l at 0 ≡ n % 256 = ap (λ (k : ℕ). get_or l k 0) (sym (add-zero at)) ∙ g 0 (omega arith) in
    omega (arith, number-of n h, a, g 1 (omega arith), g 2 (omega arith), g 3 (omega arith))

halves : (w : ℕ) → w % 256 + 256 * (w / 256 % 256) + 65536 * (w / 256 / 256 % 256) + 16777216 * (w / 256 / 256 / 256 % 256) + 2 ^ 32 * (w / 256 / 256 / 256 / 256) ≡ w
halves w = omega arith

word_read : (l : List ℕ) (at w : ℕ) → w < 2 ^ 64 → Holds l at (low_bytes 8 w) → word_at at l ≡ w
unfolding word_at number_at low_bytes
word_read l at w h g =
    let q = w / 256 / 256 / 256 / 256 in
    let a : get_or l at 0 ≡ w % 256 = ap (λ (k : ℕ). get_or l k 0) (sym (add-zero at)) ∙ g 0 (omega arith) in
    let e5 : at + 4 + 1 ≡ at + 5 = omega arith in
    let e6 : at + 4 + 2 ≡ at + 6 = omega arith in
    let e7 : at + 4 + 3 ≡ at + 7 = omega arith in
    let b5 : get_or l (at + 4 + 1) 0 ≡ q / 256 % 256 = ap (λ (k : ℕ). get_or l k 0) e5 ∙ g 5 (omega arith) in
    let b6 : get_or l (at + 4 + 2) 0 ≡ q / 256 / 256 % 256 = ap (λ (k : ℕ). get_or l k 0) e6 ∙ g 6 (omega arith) in
    let b7 : get_or l (at + 4 + 3) 0 ≡ q / 256 / 256 / 256 % 256 = ap (λ (k : ℕ). get_or l k 0) e7 ∙ g 7 (omega arith) in
    omega (arith, halves w, number-of q (omega arith), a, g 1 (omega arith), g 2 (omega arith), g 3 (omega arith), g 4 (omega arith), b5, b6, b7)

-- ---- words and calls

read_words : ℕ → ℕ → List ℕ → List ℕ
read_words zero at l = []
read_words (suc n) at l = word_at at l ∷ read_words n (at + 8) l

words-read : (ws l : List ℕ) (at : ℕ) → ((k : ℕ) → get_or ws k 0 < 2 ^ 64) → Holds l at (word_bytes ws) → read_words (length ws) at l ≡ ws
unfolding read_words word_bytes
words-read [] l at f h = refl
words-read (w ∷ ws) l at f h =
    let a : word_at at l ≡ w = word_read l at w (f 0) (first_part l at (low_bytes 8 w) (word_bytes ws) h) in
    let g : Holds l (at + 8) (word_bytes ws) = rw (bytes-length 8 w) at (second-part l at (low_bytes 8 w) (word_bytes ws) h) in
    let b : read_words (length ws) (at + 8) l ≡ ws = words-read ws l (at + 8) (λ k. f (suc k)) g in
    λ i. a i ∷ b i

eight : (at : ℕ) (l : List ℕ) → words_at at l ≡ read_words 8 (at + 8) l
unfolding read_words
eight at l =
    let e2 : at + 16 ≡ at + 8 + 8 = omega arith in
    let e3 : at + 24 ≡ at + 8 + 8 + 8 = omega arith in
    let e4 : at + 32 ≡ at + 8 + 8 + 8 + 8 = omega arith in
    let e5 : at + 40 ≡ at + 8 + 8 + 8 + 8 + 8 = omega arith in
    let e6 : at + 48 ≡ at + 8 + 8 + 8 + 8 + 8 + 8 = omega arith in
    let e7 : at + 56 ≡ at + 8 + 8 + 8 + 8 + 8 + 8 + 8 = omega arith in
    let e8 : at + 64 ≡ at + 8 + 8 + 8 + 8 + 8 + 8 + 8 + 8 = omega arith in
    λ i. word_at (at + 8) l ∷ word_at (e2 i) l ∷ word_at (e3 i) l ∷ word_at (e4 i) l ∷ word_at (e5 i) l ∷ word_at (e6 i) l ∷ word_at (e7 i) l ∷ word_at (e8 i) l ∷ []

-- a call that was put is read back
module _ (k : ℕ) (c : Call) (l : List ℕ) (long : 512 ≤ length l) (low : k ≤ 6) (code : c.code < 2 ^ 64) (words : Words c.words) where
  pub call_back : call_at k (with_call k c l) ≡ c
  unfolding call_at with_call call_bytes word_bytes
  call_back =
      let b = sets l (k * 72) (low_bytes 8 c.code ++ word_bytes c.words) in
      let n : length (low_bytes 8 c.code ++ word_bytes c.words) ≡ 72 = omega (arith, length-append (low_bytes 8 c.code) (word_bytes c.words), bytes-length 8 c.code, words-length c.words, words.eight) in
      let m : 512 ≤ length b = omega (arith, length-sets l (k * 72) (low_bytes 8 c.code ++ word_bytes c.words)) in
      let h : Holds b (k * 72) (low_bytes 8 c.code ++ word_bytes c.words) = λ j g. sets-in (low_bytes 8 c.code ++ word_bytes c.words) l (k * 72) j (omega arith) g in
      let x : word_at (k * 72) b ≡ c.code = word_read b (k * 72) c.code code (first_part b (k * 72) (low_bytes 8 c.code) (word_bytes c.words) h) in
      let g : Holds b (k * 72 + 8) (word_bytes c.words) = rw (bytes-length 8 c.code) at (second-part b (k * 72) (low_bytes 8 c.code) (word_bytes c.words) h) in
      let r : read_words 8 (k * 72 + 8) b ≡ c.words = rw words.eight at (words-read c.words b (k * 72 + 8) words.word g) in
      let y : words_at (k * 72) b ≡ c.words = eight (k * 72) b ∙ r in
      rw (le-leb 512 (length l) long, le-leb k 6 low, le-leb 512 (length b) m) (λ i. new_call (x i) (y i))

-- ---- calls whose bytes stay

module _ (l l' : List ℕ) (from to : ℕ) (same : (i : ℕ) → from ≤ i → i < to → get_or l i 0 ≡ get_or l' i 0) where
  same_word : (at : ℕ) → from ≤ at → at + 8 ≤ to → word_at at l ≡ word_at at l'
  unfolding word_at number_at
  same_word at h g =
      omega (arith, same at (omega arith) (omega arith), same (at + 1) (omega arith) (omega arith), same (at + 2) (omega arith) (omega arith), same (at + 3) (omega arith) (omega arith), same (at + 4) (omega arith) (omega arith), same (at + 4 + 1) (omega arith) (omega arith), same (at + 4 + 2) (omega arith) (omega arith), same (at + 4 + 3) (omega arith) (omega arith))

module _ (l l' : List ℕ) (j : ℕ) (alike : length l ≡ length l') (same : (i : ℕ) → j * 72 ≤ i → i < j * 72 + 72 → get_or l i 0 ≡ get_or l' i 0) where
  word-stays : (k : ℕ) → k ≤ 64 → word_at (j * 72 + k) l ≡ word_at (j * 72 + k) l'
  word-stays k h = same_word l l' (j * 72) (j * 72 + 72) same (j * 72 + k) (omega arith) (omega arith)

  same-call : call_at j l ≡ call_at j l'
  unfolding call_at
  same-call =
      let a : word_at (j * 72) l ≡ word_at (j * 72) l' = same_word l l' (j * 72) (j * 72 + 72) same (j * 72) (omega arith) (omega arith) in
      let ws : words_at (j * 72) l ≡ words_at (j * 72) l' =
      λ i. word-stays 8 (omega arith) i ∷ word-stays 16 (omega arith) i ∷ word-stays 24 (omega arith) i ∷ word-stays 32 (omega arith) i ∷ word-stays 40 (omega arith) i ∷ word-stays 48 (omega arith) i ∷ word-stays 56 (omega arith) i ∷ word-stays 64 (omega arith) i ∷ [] in
      λ i. whether leb 512 (alike i) && leb j 6 then new_call (a i) (ws i) else no_such_call

apart-bytes : (j k : ℕ) (vs l : List ℕ) → (j ≡ k → ⊥) → length vs ≡ 72 → (i : ℕ) → j * 72 ≤ i → i < j * 72 + 72 → get_or (sets l (k * 72) vs) i 0 ≡ get_or l i 0
apart-bytes j k vs l n m i a b = by-test (ltb j k)
    (λ t. sets-before vs l (k * 72) i (omega (arith, ltb-true j k t)))
    (λ t. let g : k < j = omega (arith, ltb-false j k t) in sets-after vs l (k * 72) i (omega arith))

-- putting a call leaves the others
pub other-calls : (j k : ℕ) (c : Call) (l : List ℕ) → (j ≡ k → ⊥) → length (call_bytes c) ≡ 72 → call_at j (with_call k c l) ≡ call_at j l
unfolding with_call
other-calls j k c l n m = by-test (leb 512 (length l) && leb k 6)
    (λ t. rw t (same-call (sets l (k * 72) (call_bytes c)) l j (length-sets l (k * 72) (call_bytes c)) (λ i a b. apart-bytes j k (call_bytes c) l n m i a b)))
    (λ t. rw t)

-- ---- the count and the check

module _ (n : ℕ) (l : List ℕ) (long : 512 ≤ length l) where
  body : (i : ℕ) → i < 504 → get_or (sealed n l) i 0 ≡ get_or l i 0
  unfolding sealed
  body i h = rw (le-leb 512 (length l) long) (sets-before (low_bytes 4 (check (with_count n l))) (with_count n l) 508 i (omega arith) ∙ sets-before (low_bytes 4 n) l 504 i h)

  sealed-length : length (sealed n l) ≡ length l
  unfolding sealed
  sealed-length = rw (le-leb 512 (length l) long) (length-sets (with_count n l) 508 (low_bytes 4 (check (with_count n l))) ∙ length-sets l 504 (low_bytes 4 n))

  -- sealing leaves the calls
  pub sealed-calls : (j : ℕ) → j ≤ 6 → call_at j (sealed n l) ≡ call_at j l
  sealed-calls j h = same-call (sealed n l) l j sealed-length (λ i a b. body i (omega arith))

-- all are bytes
abbrev pub Bytes : List ℕ → Type 0
Bytes l = (j : ℕ) → get_or l j 0 < 256

bytes-set : (l : List ℕ) (i a : ℕ) → Bytes l → a < 256 → Bytes (set l i a)
bytes-set [] i a f g j = f j
bytes-set (x ∷ l) zero a f g zero = g
bytes-set (x ∷ l) zero a f g (suc j) = f (suc j)
bytes-set (x ∷ l) (suc i) a f g zero = f 0
bytes-set (x ∷ l) (suc i) a f g (suc j) = bytes-set l i a (λ k. f (suc k)) g j

bytes-put : (k n : ℕ) (l : List ℕ) (i : ℕ) → Bytes l → Bytes (sets l i (low_bytes k n))
unfolding low_bytes
bytes-put zero n l i f = f
bytes-put (suc k) n l i f = bytes-put k (n / 256) (set l i (n % 256)) (suc i) (bytes-set l i (n % 256) f (omega arith))

bytes_take : (n : ℕ) (l : List ℕ) → Bytes l → Bytes (take n l)
bytes_take zero l f j = omega arith
bytes_take (suc n) [] f j = f j
bytes_take (suc n) (x ∷ l) f zero = f 0
bytes_take (suc n) (x ∷ l) f (suc j) = bytes_take n l (λ k. f (suc k)) j

check-small : (bs : List ℕ) (k : ℕ) → Bytes bs → k + length bs ≤ 508 → check_from k bs ≤ 129540 * length bs
unfolding check_from
check-small [] k f h = omega arith
check-small (b ∷ bs) k f h = omega (arith, part_small k b (omega arith) (f 0), check-small bs (k + 1) (λ j. f (suc j)) (omega arith))

-- a sealed block is a good one of so many calls
pub sealed-count : (n : ℕ) (l : List ℕ) → length l ≡ 512 → Bytes l → 1 ≤ n → n ≤ 7 → calls_in (sealed n l) 512 ≡ n
unfolding sealed calls_in good
sealed-count n l e f low high =
    let b = with_count n l in
    let s = check b in
    let lb : length b ≡ 512 = length-sets l 504 (low_bytes 4 n) ∙ e in
    let t : length (take 508 b) ≡ 508 = length-take-le 508 b (omega arith) in
    let small : s < 2 ^ 32 = omega (arith, check-small (take 508 b) 0 (bytes_take 508 b (bytes-put 4 n l 504 f)) (omega arith)) in
    let m : length (with_check b) ≡ 512 = length-sets b 508 (low_bytes 4 s) ∙ lb in
    let count : number_at 504 (with_check b) ≡ n = number_read (with_check b) 504 n (omega arith) (λ j h. sets-before (low_bytes 4 s) b 508 (504 + j) (omega (arith, bytes-length 4 n)) ∙ sets-in (low_bytes 4 n) l 504 j (omega (arith, bytes-length 4 n)) h) in
    let sum : number_at 508 (with_check b) ≡ s = number_read (with_check b) 508 s small (λ j h. sets-in (low_bytes 4 s) b 508 j (omega (arith, bytes-length 4 s)) h) in
    let same : check (with_check b) ≡ s = ap (check_from 0) (take-sets (low_bytes 4 s) b 508 508 (omega arith)) in
    rw (le-leb 512 (length l) (omega arith), le-leb 512 (length (with_check b)) (omega arith), count, sum, same, le-leb n 7 high, eq-eqb s s refl, le-leb 1 n low)
