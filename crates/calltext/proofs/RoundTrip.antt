-- A call that is written as a line of text is read back: the same word 0, which is its code and destination, and the same words. Assumes nothing.
use Rattle.std.proofs.Common.{Some}
use Rattle.std.specs.Prelude.{Ok}
use Prim.Native.Nat.{ℕ, zero, suc, ◌+◌, ◌*◌, ◌≤◌, ◌<◌, ◌^◌}
use native.Mathlib.Nat.{add-zero, zero-add, add-suc, suc-add}
use native.Mathlib.Numerals.{add-one}
use native.Mathlib.Omega.{arith}
use mathlib.Core.Path.{◌≡◌, refl, ap, sym, ◌∙◌}
use mathlib.Core.Bool.{true, false, ◌&&◌, and-eq-true_iff}
use mathlib.Core.List.{List, [], ◌∷◌, ◌++◌, append-nil, append_assoc}
use borrow.Author.Tests.{leb-true, ltb-true, ltb-false, eqb-true, eqb-false}
use lib.Dec.{leb, ltb, eqb}
use lib.ListN.{length, get_or, take, set, replicate, get_or-replicate, length-replicate, length-set}
use lib.Seq.{sets, take-suc, length-take-le, get_or-take, get_or-set_other, ext_get_or}
use Rattle.words.specs.Pick.{whether◌then◌else◌}
use Rattle.words.proofs.Tests.{by-test}
use Rattle.calls.specs.declared.Call.{Call}
use Rattle.calls.specs.Calls.{new_call, Words}
use Rattle.callfile.specs.Lines.{decimal, field, word_field, newline}
use Rattle.callfile.proofs.Sets.{sets-before, sets-after, sets-in}
use Rattle.textwords.specs.declared.Stop.TheVariants.{LineEnd}
use Rattle.textwords.specs.Text.{run, words_of, same_text}
use Rattle.textwords.proofs.Spaced.{solid, Solid, Solids, spaced, spaced-append, words-spaced, plain-spaced, line-ends}
use Rattle.calltext.specs.Names.{names, name_at, place_in, name_place, has_name, code_place, kind_at, minus_at}
use Rattle.calltext.specs.Lines.{call_of, gather_call, at_sign, small_number, destination_of, named_call, call_in, line_call}
use Rattle.calltext.specs.Shown.{shown_words, fields, shown_fields, code_field, shown_destination, destination_text, call_text}
use Rattle.calltext.proofs.Tables.{values, value, value-from}
use Rattle.calltext.proofs.Gathering.{gathered, one_number, by_code, by-raw, small, number-after, for-name, one-call, placed-call}
use Rattle.calltext.proofs.Showing.{named-low, place-known, code-known, destination-known, place-raw, code-raw, destination-raw, place-low, no-destination, some-destination}
use Rattle.calltext.proofs.Decimals.{word_text, field-text, text-read}

abbrev Fit : List ℕ → Type 0
Fit ws = (k : ℕ) → get_or ws k 0 < 2 ^ 64

-- ---- the words of the line

texts_of : ℕ → ℕ → List ℕ → List (List ℕ)
texts_of place k [] = []
texts_of place k (w ∷ ws) = word_text (minus_at place k) w ∷ texts_of place (suc k) ws

texts-append : (place k : ℕ) (a b : List ℕ) → texts_of place k (a ++ b) ≡ texts_of place k a ++ texts_of place (k + length a) b
unfolding texts_of
texts-append place k [] b = ap (λ (n : ℕ). texts_of place n b) (sym (add-zero k))
texts-append place k (w ∷ a) b =
    let e : suc k + length a ≡ k + suc (length a) = suc-add k (length a) ∙ sym (add-suc k (length a)) in
    ap (λ (l : List (List ℕ)). word_text (minus_at place k) w ∷ l) (texts-append place (suc k) a b ∙ ap (λ (n : ℕ). texts_of place (suc k) a ++ texts_of place n b) e)

one-text : (place k w : ℕ) → spaced (texts_of place k (w ∷ [])) ≡ word_field (minus_at place k) w
unfolding spaced texts_of
one-text place k w = ap (λ (l : List ℕ). 32 ∷ l) (append-nil (word_text (minus_at place k) w)) ∙ sym (field-text (minus_at place k) w)

fields-texts : (place : ℕ) (ws : List ℕ) (n : ℕ) → n ≤ length ws → fields place ws n ≡ spaced (texts_of place 0 (take n ws))
unfolding fields spaced texts_of
fields-texts place ws zero h = refl
fields-texts place ws (suc n) h =
    let x = get_or ws n 0 in
    let e : 0 + length (take n ws) ≡ n = zero-add (length (take n ws)) ∙ length-take-le n ws (omega arith) in
    let t : texts_of place 0 (take (suc n) ws) ≡ texts_of place 0 (take n ws) ++ texts_of place n (x ∷ []) = ap (texts_of place 0) (take-suc ws n 0 (omega arith)) ∙ texts-append place 0 (take n ws) (x ∷ []) ∙ ap (λ (k : ℕ). texts_of place 0 (take n ws) ++ texts_of place k (x ∷ [])) e in
    let before : spaced (texts_of place 0 (take n ws)) ≡ fields place ws n = sym (fields-texts place ws n (omega arith)) in
    sym (ap spaced t ∙ spaced-append (texts_of place 0 (take n ws)) (texts_of place n (x ∷ [])) ∙ (λ i. before i ++ one-text place n x i))

solids : (place k : ℕ) (ws : List ℕ) → Fit ws → Solids (texts_of place k ws)
unfolding texts_of
solids place k [] f = tt
solids place k (w ∷ ws) f = ((text-read (minus_at place k) w (f 0)).word, solids place (suc k) ws (λ j. f (suc j)))

-- their numbers go to the places from m on
gather-texts : (place k : ℕ) (ws : List ℕ) (m : ℕ) (nine : List ℕ) → m + length ws ≤ 9 → Fit ws → gather_call m nine (texts_of place k ws) ≡ Ok (Some (call_of (sets nine m ws)))
unfolding texts_of
gather-texts place k [] m nine h f = gathered m nine
gather-texts place k (w ∷ ws) m nine h f =
    let s = gather-texts place (suc k) ws (suc m) (set nine m w) (omega arith) (λ j. f (suc j)) in
    one_number m nine (word_text (minus_at place k) w) (texts_of place (suc k) ws) (λ e. omega arith) w (text-read (minus_at place k) w (f 0)).number ∙ rw (add-one m) s

-- ---- the words that are not written are 0

pub shown-within : (place : ℕ) (ws : List ℕ) (n : ℕ) → shown_words place ws n ≤ n
unfolding shown_words
shown-within place ws zero = omega arith
shown-within place ws (suc n) = by-test (eqb (kind_at place n) 0 && eqb (get_or ws n 0) 0)
    (λ t. rw t (omega (arith, shown-within place ws n)))
    (λ t. rw t (omega arith))

shown_rest : (place : ℕ) (ws : List ℕ) (n j : ℕ) → shown_words place ws n ≤ j → j < n → get_or ws j 0 ≡ 0
unfolding shown_words
shown_rest place ws zero j h k = absurd (omega arith)
shown_rest place ws (suc n) j h k = by-test (eqb (kind_at place n) 0 && eqb (get_or ws n 0) 0)
    (λ t.
    let z : get_or ws n 0 ≡ 0 = eqb-true (get_or ws n 0) 0 ((and-eq-true_iff (eqb (kind_at place n) 0) (eqb (get_or ws n 0) 0)).0 t).1 in
    let g : shown_words place ws n ≤ j = rw t at h in
    by-test (ltb j n)
    (λ u. shown_rest place ws n j g (ltb-true j n u))
    (λ u. let e : j ≡ n = omega (arith, ltb-false j n u) in ap (λ (i : ℕ). get_or ws i 0) e ∙ z))
    (λ t. let g : suc n ≤ j = rw t at h in absurd (omega arith))

-- ---- nine numbers

values_length : (f : ℕ → ℕ) (n i : ℕ) → length (values f i n) ≡ n
unfolding values
values_length f zero i = refl
values_length f (suc n) i = ap suc (values_length f n (suc i))

all-values : (ws : List ℕ) → ws ≡ values (λ (k : ℕ). get_or ws k 0) 0 (length ws)
all-values ws = ext_get_or 0 ws (values (λ (k : ℕ). get_or ws k 0) 0 (length ws)) (sym (values_length (λ (k : ℕ). get_or ws k 0) (length ws) 0)) (λ i h. sym (value-from (λ (k : ℕ). get_or ws k 0) 0 (length ws) 0 i h ∙ ap (λ (k : ℕ). get_or ws k 0) (zero-add i)))

module _ (code n : ℕ) (ws : List ℕ) (eight : length ws ≡ 8) (low : n ≤ 8) (rest : (j : ℕ) → n ≤ j → j < 8 → get_or ws j 0 ≡ 0) where
  nine : List ℕ
  nine = set (replicate 9 0) 0 code

  nine-length : length nine ≡ 9
  unfolding nine
  nine-length = length-set (replicate 9 0) 0 code ∙ length-replicate {A = ℕ} 9 0

  zero-at : (k : ℕ) → k < 8 → get_or nine (1 + k) 0 ≡ 0
  unfolding nine
  zero-at k h = get_or-set_other (replicate 9 0) 0 (1 + k) code 0 (λ e. omega arith) ∙ get_or-replicate 9 (1 + k) 0 0 (omega arith)

  word-at : (k : ℕ) → k < 8 → get_or (sets nine 1 (take n ws)) (1 + k) 0 ≡ get_or ws k 0
  word-at k h =
      let e : length (take n ws) ≡ n = length-take-le n ws (omega arith) in
      by-test (ltb k n)
      (λ t. sets-in (take n ws) nine 1 k (omega (arith, nine-length)) (omega (arith, ltb-true k n t)) ∙ get_or-take n ws k 0 (ltb-true k n t))
      (λ t. sets-after (take n ws) nine 1 (1 + k) (omega (arith, ltb-false k n t)) ∙ zero-at k h ∙ sym (rest k (ltb-false k n t) h))

  code_at : get_or (sets nine 1 (take n ws)) 0 0 ≡ code
  unfolding nine
  code_at = sets-before (take n ws) nine 1 0 (omega arith)

  eight-words : ws ≡ get_or ws 0 0 ∷ get_or ws 1 0 ∷ get_or ws 2 0 ∷ get_or ws 3 0 ∷ get_or ws 4 0 ∷ get_or ws 5 0 ∷ get_or ws 6 0 ∷ get_or ws 7 0 ∷ []
  unfolding values
  eight-words = all-values ws ∙ ap (values (λ (k : ℕ). get_or ws k 0) 0) eight

  nine-call : call_of (sets nine 1 (take n ws)) ≡ new_call code ws
  nine-call =
      let l : get_or (sets nine 1 (take n ws)) 1 0 ∷ get_or (sets nine 1 (take n ws)) 2 0 ∷ get_or (sets nine 1 (take n ws)) 3 0 ∷ get_or (sets nine 1 (take n ws)) 4 0 ∷ get_or (sets nine 1 (take n ws)) 5 0 ∷ get_or (sets nine 1 (take n ws)) 6 0 ∷ get_or (sets nine 1 (take n ws)) 7 0 ∷ get_or (sets nine 1 (take n ws)) 8 0 ∷ [] ≡ ws =
      (λ i. word-at 0 (omega arith) i ∷ word-at 1 (omega arith) i ∷ word-at 2 (omega arith) i ∷ word-at 3 (omega arith) i ∷ word-at 4 (omega arith) i ∷ word-at 5 (omega arith) i ∷ word-at 6 (omega arith) i ∷ word-at 7 (omega arith) i ∷ []) ∙ sym eight-words in
      λ i. new_call (code_at i) (l i)

-- ---- names

name-place : (k : ℕ) → k < 18 → name_place (name_at k) ≡ k
unfolding names name_place place_in values same_text
name-place k h =
    sym (value (λ (j : ℕ). name_place (name_at j)) 0 18 k (values (λ (j : ℕ). j) 0 18) refl h) ∙ value (λ (j : ℕ). j) 0 18 k (values (λ (j : ℕ). j) 0 18) refl h

name-solid : (k : ℕ) → k < 18 → Solid (name_at k)
unfolding names values solid
name-solid k h = (
  leb-true 1 (length (name_at k)) (sym (value (λ (j : ℕ). leb 1 (length (name_at j))) false 18 k (replicate 18 true) refl h) ∙ get_or-replicate 18 k true false h),
  sym (value (λ (j : ℕ). solid (name_at j)) false 18 k (replicate 18 true) refl h) ∙ get_or-replicate 18 k true false h,
)

-- none stands for a destination
name-plain : (k : ℕ) → k < 18 → at_sign (name_at k) ≡ false
unfolding names values
name-plain k h = sym (value (λ (j : ℕ). at_sign (name_at j)) true 18 k (replicate 18 false) refl h) ∙ get_or-replicate 18 k false true h

-- ---- destinations

destination-solid : (d : ℕ) → d < 2 ^ 56 → Solid (64 ∷ decimal d)
unfolding solid
destination-solid d h = (omega arith, (text-read false d (omega arith)).word.1)

destination-read : (d : ℕ) → d < 2 ^ 56 → destination_of (64 ∷ decimal d) ≡ Some d
destination-read d h = sym (number-after (64 ∷ decimal d)) ∙ ap small_number (text-read false d (omega arith)).number ∙ small d h

-- ---- the line

-- a call's text without the end of the line
unfoldable pub line_text : Call → List ℕ
line_text c = destination_text (shown_destination c.code) ++ (name_at (code_place c.code) ++ (code_field c.code ++ shown_fields (code_place c.code) c.words))

pub text-ends : (c : Call) → call_text c ≡ line_text c ++ newline
unfolding call_text line_text
text-ends c = simp append_assoc

read-line : (w : List ℕ) (ws : List (List ℕ)) → Solid w → Solids ws → line_call (w ++ spaced ws) ≡ call_in (w ∷ ws)
unfolding line_call
read-line w ws h s = ap (λ (t : List ℕ). call_in (words_of t)) (plain-spaced w ws h s) ∙ ap call_in (words-spaced w ws h s)

module _ (c : Call) (fits : c.code < 2 ^ 64) (words : Words c.words) where
  place : ℕ
  place = code_place c.code

  low : place < 18
  unfolding place
  low = place-low c.code

  destination : ℕ
  destination = shown_destination c.code

  destination-fits : destination < 2 ^ 56
  unfolding destination
  destination-fits = by-test (has_name c.code)
      (λ t. omega (arith, destination-known c.code t))
      (λ t. omega (arith, destination-raw c.code t))

  count : ℕ
  count = shown_words place c.words 8

  within : count ≤ 8
  unfolding count
  within = shown-within place c.words 8

  texts : List (List ℕ)
  texts = texts_of place 0 (take count c.words)

  fit-take : (n : ℕ) (l : List ℕ) → Fit l → Fit (take n l)
  fit-take zero l f k = omega arith
  fit-take (suc n) [] f k = f k
  fit-take (suc n) (x ∷ l) f zero = f 0
  fit-take (suc n) (x ∷ l) f (suc k) = fit-take n l (λ j. f (suc j)) k

  fit : Fit (take count c.words)
  fit = fit-take count c.words words.word

  gathers : gather_call 1 (set (replicate 9 0) 0 c.code) texts ≡ Ok (Some c)
  unfolding nine texts count
  gathers =
      let n = length-take-le count c.words (omega (arith, within, words.eight)) in
      gather-texts place 0 (take count c.words) 1 (set (replicate 9 0) 0 c.code) (omega (arith, n, within)) fit ∙ ap (λ (d : Call). Ok (Some d)) (nine-call c.code count c.words words.eight within (λ j a b. shown_rest place c.words 8 j a b))

  shown-text : shown_fields place c.words ≡ spaced texts
  unfolding texts count
  shown-text = fields-texts place c.words count (omega (arith, within, words.eight))

  -- the words after the name
  after : List (List ℕ)
  after = whether has_name c.code then texts else decimal c.code ∷ texts

  after-solid : Solids after
  unfolding after texts
  after-solid = by-test (has_name c.code)
      (λ t. rw t (solids place 0 (take count c.words) fit))
      (λ t. rw t ((text-read false c.code fits).word, solids place 0 (take count c.words) fit))

  after_text : code_field c.code ++ shown_fields place c.words ≡ spaced after
  unfolding after spaced
  after_text = by-test (has_name c.code)
      (λ t. rw t (rw (code-known c.code t) shown-text))
      (λ t. rw t (rw (code-raw c.code t) (ap (λ (l : List ℕ). field c.code ++ l) shown-text)))

  after-named : named_call destination place after ≡ Ok (Some c)
  unfolding destination place after
  after-named = by-test (has_name c.code)
      (λ t.
      let k : place < 17 = omega (arith, named-low c.code t, place-known c.code t) in
      let e : place + 256 * destination ≡ c.code = omega (arith, place-known c.code t, destination-known c.code t) in
      rw t (by_code destination place texts k ∙ ap (λ (w : ℕ). gather_call 1 (set (replicate 9 0) 0 w) texts) e ∙ gathers))
      (λ t.
      let p : place ≡ 17 = sym (place-raw c.code t) in
      rw t (by-raw destination place (decimal c.code ∷ texts) p ∙ one_number 0 (replicate 9 0) (decimal c.code) texts (λ e. omega arith) c.code (text-read false c.code fits).number ∙ gathers))

  -- a destination that is written stands before a call's name
  placed-named : (destination ≡ 0 → ⊥) → place ≡ 17 → ⊥
  unfolding destination place
  placed-named n e = by-test (has_name c.code)
      (λ t. omega (arith, named-low c.code t, place-known c.code t))
      (λ t. n (sym (destination-raw c.code t)))

  -- the words of the line
  first : List ℕ
  first = whether eqb destination 0 then name_at place else 64 ∷ decimal destination

  later : List (List ℕ)
  later = whether eqb destination 0 then after else name_at place ∷ after

  line-words : line_text c ≡ first ++ spaced later
  unfolding line_text destination place first later spaced
  line-words =
      let name : name_at place ++ (code_field c.code ++ shown_fields place c.words) ≡ name_at place ++ spaced after = ap (λ (l : List ℕ). name_at place ++ l) after_text in
      by-test (eqb destination 0)
      (λ t. rw t (rw (no-destination destination (eqb-true destination 0 t)) name))
      (λ t. rw t (rw (some-destination destination (eqb-false destination 0 t)) (ap (λ (l : List ℕ). 64 ∷ l) (append_assoc (decimal destination) (32 ∷ []) _ ∙ ap (λ (l : List ℕ). decimal destination ++ (32 ∷ l)) name))))

  first-solid : Solid first
  unfolding first
  first-solid = by-test (eqb destination 0) (λ t. rw t (name-solid place low)) (λ t. rw t (destination-solid destination destination-fits))

  later-solid : Solids later
  unfolding later
  later-solid = by-test (eqb destination 0) (λ t. rw t after-solid) (λ t. rw t (name-solid place low, after-solid))

  words-read : call_in (first ∷ later) ≡ Ok (Some c)
  unfolding first later
  words-read = by-test (eqb destination 0)
      (λ t.
      let z : destination ≡ 0 = eqb-true destination 0 t in
      rw t (one-call (name_at place) after (name-plain place low) ∙ (λ i. named_call (sym z i) (name-place place low i) after) ∙ after-named))
      (λ t.
      let n : name_place (name_at place) ≡ 17 → ⊥ = λ e. placed-named (eqb-false destination 0 t) (sym (name-place place low) ∙ e) in
      rw t (placed-call (64 ∷ decimal destination) (name_at place ∷ after) refl destination (destination-read destination destination-fits) ∙ for-name destination (name_at place) after n ∙ ap (λ (k : ℕ). named_call destination k after) (name-place place low) ∙ after-named))

  -- what is written is read
  pub line-back : line_call (line_text c) ≡ Ok (Some c)
  line-back = ap line_call line-words ∙ read-line first later first-solid later-solid ∙ words-read

  -- and the line ends where the call's text does
  pub line-end : (l : List ℕ) → run LineEnd (line_text c ++ (10 ∷ l)) ≡ length (line_text c)
  line-end l = rw line-words (line-ends first later l first-solid later-solid)
