-- A call's line, part by part. Assumes nothing.
use Prim.Native.Nat.{ℕ, zero, suc, ◌+◌, ◌-◌, ◌≤◌, ◌<◌, ◌/◌, ◌%◌}
use native.Mathlib.Numerals.{add-one}
use native.Mathlib.Omega.{arith}
use mathlib.Core.Path.{◌≡◌, refl, ap, ◌∙◌}
use mathlib.Core.Bool.{Bool, true, false}
use mathlib.Core.List.{List, [], ◌∷◌, ◌++◌}
use borrow.Author.Tests.{leb-true, eq-eqb, ne_eqb, eqb-true, eqb-false}
use lib.Dec.{eqb}
use lib.ListN.{length, get_or, set, length-append}
use lib.Seq.{sets, set-set, set_comm}
use Rattle.words.proofs.Tests.{by-test}
use Rattle.words.specs.Words.{signed}
use Rattle.callfile.specs.Lines.{decimal, field, word_field}
use Rattle.callfile.specs.Placed.{Puts}
use Rattle.calls.specs.declared.Call.{Call}
use Rattle.callfile.proofs.Digits.{word-length, signed-length}
use Rattle.callfile.proofs.Parts.{then}
use Rattle.calltext.specs.Names.{name_at, has_name, code_place, kind_at, minus_at}
use Rattle.calltext.specs.Shown.{shown_words, fields, code_field, shown_destination, destination_text, call_text}

-- ---- parts

pub field-length : (minus : Bool) (w : ℕ) → length (word_field minus w) ≤ 22
field-length true w = signed-length (signed w)
field-length false w = omega (arith, word-length w)

-- ---- names and codes

module _ (code : ℕ) where
  -- a code that has a name, for some destination
  module _ (t : has_name code ≡ true) where
    pub named-low : code % 256 < 17
    named-low = omega (arith, leb-true (code % 256) 16 t)

    pub place-known : code % 256 ≡ code_place code
    unfolding code_place
    place-known = rw t

    pub code-known : code_field code ≡ []
    unfolding code_field
    code-known = rw t

    pub destination-known : code / 256 ≡ shown_destination code
    unfolding shown_destination
    destination-known = rw t

  -- and one that has none
  module _ (t : has_name code ≡ false) where
    pub place-raw : 17 ≡ code_place code
    unfolding code_place
    place-raw = rw t

    pub code-raw : code_field code ≡ field code
    unfolding code_field
    code-raw = rw t

    pub destination-raw : 0 ≡ shown_destination code
    unfolding shown_destination
    destination-raw = rw t

  pub place-low : code_place code < 18
  place-low = by-test (has_name code)
      (λ t. omega (arith, named-low t, place-known t))
      (λ t. omega (arith, place-raw t))

  pub code-length : length (code_field code) ≤ 21
  code-length = by-test (has_name code)
      (λ t. rw (code-known t) (omega arith))
      (λ t. rw (code-raw t) (omega (arith, word-length code)))

-- ---- the destination

module _ (d : ℕ) where
  pub no-destination : d ≡ 0 → destination_text d ≡ []
  unfolding destination_text
  no-destination e = rw (eq-eqb d 0 e)

  pub some-destination : (d ≡ 0 → ⊥) → destination_text d ≡ 64 ∷ (decimal d ++ (32 ∷ []))
  unfolding destination_text
  some-destination n = rw (ne_eqb d 0 n)

  pub destination-length : length (destination_text d) ≤ 22
  destination-length = by-test (eqb d 0)
      (λ t. rw (no-destination (eqb-true d 0 t)) (omega arith))
      (λ t. rw (some-destination (eqb-false d 0 t)) (omega (arith, length-append (decimal d) (32 ∷ []), word-length d)))

-- a byte below those of a run of stores
set_below : (vs l : List ℕ) (i j y : ℕ) → j < i → set (sets l i vs) j y ≡ sets (set l j y) i vs
set_below [] l i j y h = refl
set_below (a ∷ vs) l i j y h = set_below vs (set l i a) (suc i) j y (omega arith) ∙ ap (λ (m : List ℕ). sets m (suc i) vs) (set_comm l i j a y (λ e. omega arith))

-- the first byte of a part becomes another
pub first_byte : {x y at r s : ℕ} {p l l₁ l₂ : List ℕ} → Puts (x ∷ p) at l r l₁ → Puts (y ∷ []) at l₁ s l₂ → Puts (y ∷ p) at l r l₂
first_byte {x} {y} {at} {r} {s} {p} {l} {l₁} {l₂} v w = record {
  text = w.text ∙ ap (λ (m : List ℕ). set m at y) v.text ∙ set_below p (set l at x) (suc at) at y (omega arith) ∙ ap (λ (m : List ℕ). sets m (suc at) p) (set-set l at x y);
  next = v.next;
  same = w.same ∙ v.same;
}

-- ---- words

module _ (place : ℕ) (ws : List ℕ) where
  pub shown-kind : (n : ℕ) → 0 < n → (kind_at place (n - 1) ≡ 0 → ⊥) → shown_words place ws n ≡ n
  unfolding shown_words
  shown-kind zero h k = absurd (omega arith)
  shown-kind (suc n) h k = let e : suc n - 1 ≡ n = omega arith in rw (ne_eqb (kind_at place n) 0 (rw e at k))

  pub shown-word : (n : ℕ) → 0 < n → kind_at place (n - 1) ≡ 0 → (get_or ws (n - 1) 0 ≡ 0 → ⊥) → shown_words place ws n ≡ n
  unfolding shown_words
  shown-word zero h k w = absurd (omega arith)
  shown-word (suc n) h k w = let e : suc n - 1 ≡ n = omega arith in rw (eq-eqb (kind_at place n) 0 (rw e at k), ne_eqb (get_or ws n 0) 0 (rw e at w))

  pub shown-less : (n : ℕ) → 0 < n → kind_at place (n - 1) ≡ 0 → get_or ws (n - 1) 0 ≡ 0 → shown_words place ws n ≡ shown_words place ws (n - 1)
  unfolding shown_words
  shown-less zero h k w = absurd (omega arith)
  shown-less (suc n) h k w = let e : suc n - 1 ≡ n = omega arith in rw (eq-eqb (kind_at place n) 0 (rw e at k), eq-eqb (get_or ws n 0) 0 (rw e at w), e)

  pub shown-none : (n : ℕ) → n ≡ 0 → n ≡ shown_words place ws n
  unfolding shown_words
  shown-none n e = rw e

  pub no_field : fields place ws 0 ≡ []
  unfolding fields
  no_field = refl

  pub one_field : (k : ℕ) → fields place ws (k + 1) ≡ fields place ws k ++ word_field (minus_at place k) (get_or ws k 0)
  unfolding fields
  one_field k = rw (add-one k)

-- ---- the whole line

module _ (c : Call) {place h n at a b d m r : ℕ} {l l₁ l₂ l₃ l₄ l₅ : List ℕ} where
  pub text-parts :
      place ≡ code_place c.code
      → h ≡ shown_destination c.code
      → n ≡ shown_words place c.words 8
      → Puts (destination_text h) at l m l₁
      → Puts (name_at place) m l₁ a l₂
      → Puts (code_field c.code) a l₂ b l₃
      → Puts (fields place c.words n) b l₃ d l₄
      → Puts (10 ∷ []) d l₄ r l₅
      → Puts (call_text c) at l r l₅
  unfolding call_text
  text-parts e g f v w x y z = then (rw g at v) (then (rw e at w) (then x (then (rw (f, e) at y) z)))
