-- What the code tests of a call's words is whether `decode` has a call: every 64-bit word is some number, so that identifiers, expirations,
-- timeouts and the like need no test, and a 32-bit number is one in the i32 range. Assumes nothing.
use Prim.Native.Nat.{ℕ, suc, ◌-◌, ◌<◌, ◌≤◌, ◌%◌, ◌^◌}
use native.Mathlib.Omega.{arith}
use mathlib.Core.Path.{◌≡◌, refl, sym, ap, ◌∙◌}
use mathlib.Core.Bool.{Bool, true, false, ◌&&◌, ◌||◌, and_assoc, and-true, or-false}
use mathlib.Core.List.{List}
use borrow.Author.Tests.{ltb-true, ltb-false, leb-true, leb-false, eqb-true, eqb-false, lt-ltb, le-ltb, le-leb, lt-leb}
use lib.Dec.{leb, ltb, eqb}
use lib.IntN.{ℤ}
use lib.Seq.{drop-length}
use Rattle.words.specs.Words.{signed, int, is_int}
use Rattle.words.proofs.Words.{int-signed}
use Rattle.entry.specs.Entry.{bit, with_redelivery}
use Rattle.definition.specs.Base.{is_some, all}
use Rattle.definition.specs.Calls.{word, signed_within, clock_ok, id_ok, optional, arguments_ok}
use Rattle.definition.specs.Words.{at, id_in, entry_in, present, unused_from, share_of, read, decode}
use Rattle.definition.proofs.Tests.{by-test, and_left, and_right}
use Rattle.calls.specs.Calls.{Words}
use Rattle.calls.specs.Ranges.{enqueues, joins, acks, timed, prefetches, clocked, sweeps}
use Rattle.calls.proofs.Decoded.{some-provided}

-- ---- words

-- the number that a word holds is an i64
pub within_signed : (w : ℕ) → w < 2 ^ 64 → signed_within (2 ^ 63) (signed w) ≡ true
within_signed w h = by-test (ltb w (2 ^ 63))
    (λ c. rw (c, c))
    (λ c.
    let k : 2 ^ 63 ≤ w = ltb-false w (2 ^ 63) c in
    rw (c, lt-ltb (2 ^ 64 - suc w) (2 ^ 63) (omega arith)))

-- and an i32 where the test says so
pub within-int : (w : ℕ) → w < 2 ^ 64 → signed_within (2 ^ 31) (signed w) ≡ is_int w
within-int w h = by-test (ltb w (2 ^ 63))
    (λ c.
    let k : w < 2 ^ 63 = ltb-true w (2 ^ 63) c in
    rw (c, lt-leb (2 ^ 64 - 2 ^ 31) w (omega arith)) (sym (or-false (ltb w (2 ^ 31)))))
    (λ c.
    let k : 2 ^ 63 ≤ w = ltb-false w (2 ^ 63) c in
    rw (c, le-ltb w (2 ^ 31) (omega arith)) (by-test (leb (2 ^ 64 - 2 ^ 31) w)
    (λ d. rw (d, lt-ltb (2 ^ 64 - suc w) (2 ^ 31) (omega (arith, leb-true (2 ^ 64 - 2 ^ 31) w d))))
    (λ d. rw (d, le-ltb (2 ^ 64 - suc w) (2 ^ 31) (omega (arith, leb-false (2 ^ 64 - 2 ^ 31) w d))))))

-- a share's word: 0 stands for 512
pub share-range : (w : ℕ) → (leb 1 (share_of w) && leb (share_of w) 512) ≡ leb w 512
share-range w = by-test (eqb w 0)
    (λ c. rw (c, eqb-true w 0 c))
    (λ c. rw (c, le-leb 1 w (omega (arith, eqb-false w 0 c))))

module _ (ws : List ℕ) (h : Words ws) where
  pub word_ok : (k : ℕ) → word (at k ws) ≡ true
  word_ok k = lt-ltb (at k ws) (2 ^ 64) (h.word k)

  pub signed-ok : (k : ℕ) → signed_within (2 ^ 63) (signed (at k ws)) ≡ true
  signed-ok k = within_signed (at k ws) (h.word k)

  pub id-ok : id_ok (id_in ws) ≡ true
  id-ok = λ i. word_ok 0 i && (signed-ok 1 i && signed-ok 2 i)

  present-ok : (b : Bool) (k : ℕ) → optional word (present b (at k ws)) ≡ true
  present-ok true k = word_ok k
  present-ok false k = refl

  type-ok : ltb (at 3 ws % 256) 256 ≡ true
  type-ok = lt-ltb (at 3 ws % 256) 256 (omega arith)

  int_ok : (k : ℕ) → signed_within (2 ^ 31) (signed (at k ws)) ≡ is_int (at k ws)
  int_ok k = within-int (at k ws) (h.word k)

  -- no word is left after eight
  all-used : unused_from 8 ws ≡ true
  all-used = ap (λ (n : ℕ). unused_from n ws) (sym h.eight) ∙ ap (all (eqb 0)) (drop-length ws)

  -- ---- codes

  pub enqueue-range : is_some (decode 1 ws) ≡ enqueues ws
  unfolding decode read arguments_ok enqueues
  enqueue-range = some-provided _ _
      ∙ (λ i. (leb (at 2 ws) 1 && all-used i) && ((leb 1 (at 0 ws) && (ltb (at 0 ws) (2 ^ 63) && (signed-ok 1 i && (word_ok 3 i && (word_ok 4 i && (int_ok 5 i && (ltb (at 7 ws) (2 ^ 32) && true))))))) && clock_ok (at 6 ws)))
      ∙ simp (and_assoc, and-true)

  pub join-range : is_some (decode 2 ws) ≡ joins ws
  unfolding decode read arguments_ok joins
  join-range = some-provided _ _
      ∙ (λ i. (leb (at 5 ws) 3 && unused_from 7 ws) && ((id-ok i && (int_ok 3 i && leb (at 4 ws) 64)) && clock_ok (at 6 ws)))
      ∙ simp and_assoc

  pub ack-range : is_some (decode 4 ws) ≡ acks ws
  unfolding decode read arguments_ok acks
  ack-range = some-provided _ _
      ∙ (λ i. (ltb (at 3 ws) 4096 && ((bit (at 3 ws) 9 || eqb (at 4 ws) 0) && ((bit (at 3 ws) 10 || eqb (at 5 ws) 0) && unused_from 7 ws))) && (id-ok i && ((type-ok i && (present-ok (bit (at 3 ws) 9) 4 i && present-ok (bit (at 3 ws) 10) 5 i)) && clock_ok (at 6 ws))))
      ∙ simp and_assoc

  timed-ok : (unused_from 5 ws && (id_ok (id_in ws) && (signed_within (2 ^ 63) (signed (at 3 ws)) && clock_ok (at 4 ws)))) ≡ timed ws
  unfolding timed
  timed-ok = λ i. unused_from 5 ws && (id-ok i && (signed-ok 3 i && clock_ok (at 4 ws)))

  pub leave-range : is_some (decode 3 ws) ≡ timed ws
  unfolding decode read arguments_ok
  leave-range = some-provided _ _ ∙ timed-ok

  pub pull-range : is_some (decode 5 ws) ≡ timed ws
  unfolding decode read arguments_ok
  pull-range = some-provided _ _ ∙ timed-ok

  pub prefetch-range : is_some (decode 7 ws) ≡ prefetches ws
  unfolding decode read arguments_ok prefetches
  prefetch-range = some-provided _ _ ∙ (λ i. unused_from 5 ws && (id-ok i && (int_ok 3 i && clock_ok (at 4 ws)))) ∙ simp and_assoc

  clocked-ok : (unused_from 4 ws && (id_ok (id_in ws) && clock_ok (at 3 ws))) ≡ clocked ws
  unfolding clocked
  clocked-ok = λ i. unused_from 4 ws && (id-ok i && clock_ok (at 3 ws))

  pub remove_range : is_some (decode 12 ws) ≡ clocked ws
  unfolding decode read arguments_ok
  remove_range = some-provided _ _ ∙ clocked-ok

  pub release-range : is_some (decode 15 ws) ≡ clocked ws
  unfolding decode read arguments_ok
  release-range = some-provided _ _ ∙ clocked-ok

  pub sweep-range : is_some (decode 9 ws) ≡ sweeps ws
  unfolding decode read arguments_ok sweeps
  sweep-range = some-provided _ _ ∙ simp and_assoc

  numbered-ok : (unused_from 4 ws && (id_ok (id_in ws) && word (at 3 ws))) ≡ unused_from 4 ws
  numbered-ok = (λ i. unused_from 4 ws && (id-ok i && word_ok 3 i)) ∙ and-true (unused_from 4 ws)

  pub timeout-range : is_some (decode 6 ws) ≡ unused_from 4 ws
  unfolding decode read arguments_ok
  timeout-range = some-provided _ _ ∙ numbered-ok

  pub duplicate-range : is_some (decode 13 ws) ≡ unused_from 4 ws
  unfolding decode read arguments_ok
  duplicate-range = some-provided _ _ ∙ numbered-ok

  pub clear-range : is_some (decode 10 ws) ≡ unused_from 0 ws
  unfolding decode read arguments_ok
  clear-range = some-provided _ _ ∙ and-true (unused_from 0 ws)

  named_ok : (unused_from 3 ws && id_ok (id_in ws)) ≡ unused_from 3 ws
  named_ok = (λ i. unused_from 3 ws && id-ok i) ∙ and-true (unused_from 3 ws)

  pub unmark-range : is_some (decode 8 ws) ≡ unused_from 3 ws
  unfolding decode read arguments_ok
  unmark-range = some-provided _ _ ∙ named_ok

  pub add-range : is_some (decode 11 ws) ≡ unused_from 3 ws
  unfolding decode read arguments_ok
  add-range = some-provided _ _ ∙ named_ok

  pub forget-range : is_some (decode 14 ws) ≡ unused_from 1 ws
  unfolding decode read arguments_ok
  forget-range = some-provided _ _ ∙ (λ i. unused_from 1 ws && word_ok 0 i) ∙ and-true (unused_from 1 ws)

-- ---- an entry

-- the redelivery of words in range is the whole number
pub entry_whole : (ws : List ℕ) → Words ws → is_some (decode 1 ws) ≡ true → with_redelivery (int (at 5 ws)) (entry_in ws) ≡ entry_in ws
unfolding enqueues
entry_whole ws h t =
    let known : Bool = leb (at 2 ws) 1 && leb 1 (at 0 ws) && ltb (at 0 ws) (2 ^ 63) in
    let q : (known && is_int (at 5 ws) && ltb (at 7 ws) (2 ^ 32)) ≡ true = and_left (known && is_int (at 5 ws) && ltb (at 7 ws) (2 ^ 32)) (clock_ok (at 6 ws)) (sym (enqueue-range ws h) ∙ t) in
    let p : (known && is_int (at 5 ws)) ≡ true = and_left (known && is_int (at 5 ws)) (ltb (at 7 ws) (2 ^ 32)) q in
    ap (λ (z : ℤ). with_redelivery z (entry_in ws)) (int-signed (at 5 ws) (h.word 5) (and_right known (is_int (at 5 ws)) p))

-- ---- an arm of the match on the code

pub arm : (code k : ℕ) (ws : List ℕ) (r b : Bool) → is_some (decode k ws) ≡ b → r ≡ b → code ≡ k → r ≡ is_some (decode code ws)
arm code k ws r b q p e = p ∙ sym q ∙ ap (λ (n : ℕ). is_some (decode n ws)) (sym e)
