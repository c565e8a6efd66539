-- Texts in lent buffers. Assumes nothing.
use Prim.Native.Nat.{ℕ, zero, suc, ◌+◌, ◌*◌, ◌≤◌, ◌<◌}
use native.Mathlib.Numerals.{add-one}
use native.Mathlib.Omega.{arith}
use mathlib.Core.Path.{◌≡◌, refl, ap, sym, ◌∙◌}
use mathlib.Core.Bool.{true, false}
use mathlib.Core.List.{List, [], ◌∷◌, ◌++◌, map, map-append}
use borrow.Author.Tests.{eq-eqb, ne_eqb, le-leb, lt-leb}
use lib.ListN.{length, get_or, take, length-append}
use lib.Seq.{take_all}
use Rattle.words.proofs.Lists.{take_next}
use Rattle.textwords.specs.Text.{has_mark}
use Rattle.calls.specs.declared.Call.{Call}
use Rattle.callfile.specs.Blocks.{calls_in, call_at}
use Rattle.callfile.specs.Lines.{word_field, newline, bad_line}
use Rattle.calltext.specs.declared.Fault.{Fault}
use Rattle.calltext.specs.declared.Fault.TheVariants.{UnknownCall, NotANumber, TooManyArguments, NotADestination, NoName}
use Rattle.calltext.specs.Names.{name_at, code_place, minus_at}
use Rattle.calltext.specs.Faults.{fault_word}
use Rattle.calltext.specs.Shown.{shown_words, fields, code_field, shown_destination, destination_text, call_text}
use Rattle.calltext.proofs.Tables.{short}
use Rattle.calltext.proofs.Showing.{field-length, place-low, code-length, destination-length}
use Rattle.calltext.proofs.RoundTrip.{shown-within}
use Rattle.texting.specs.Lines.{unknown_call, no_number, too_many, no_destination, no_name, complaint, said_fault, shown_byte, shown_word, mark_complaint, marked_line, wrong_with}
use Rattle.texting.specs.Shown.{call_texts, block_text}

-- ---- messages

module _ {f : Fault} where
  pub says_unknown : f ≡ UnknownCall → unknown_call ≡ complaint f
  unfolding complaint
  says_unknown e = rw e

  pub says_number : f ≡ NotANumber → no_number ≡ complaint f
  unfolding complaint
  says_number e = rw e

  pub says_many : f ≡ TooManyArguments → too_many ≡ complaint f
  unfolding complaint
  says_many e = rw e

  pub says_destination : f ≡ NotADestination → no_destination ≡ complaint f
  unfolding complaint
  says_destination e = rw e

  pub says_name : f ≡ NoName → no_name ≡ complaint f
  unfolding complaint
  says_name e = rw e

-- a byte that is shown as it is, or not
module _ (b : ℕ) where
  pub shown-low : b < 32 → 63 ≡ shown_byte b
  shown-low h = rw (lt-leb 32 b h)

  pub shown-high : 126 < b → 63 ≡ shown_byte b
  shown-high h = rw (le-leb 32 b (omega arith), lt-leb b 126 h)

  pub shown-plain : 32 ≤ b → b ≤ 126 → b ≡ shown_byte b
  shown-plain h k = rw (le-leb 32 b h, le-leb b 126 k)

-- one byte more
pub shown-next : (w : List ℕ) (i : ℕ) → i < length w → map shown_byte (take (i + 1) w) ≡ map shown_byte (take i w) ++ (shown_byte (get_or w i 0) ∷ [])
shown-next w i h = ap (map shown_byte) (take_next w i 0 h) ∙ map-append shown_byte (take i w) (get_or w i 0 ∷ [])

-- a word that is not cut, and one that is
module _ (w : List ℕ) where
  pub shown-whole : length w ≤ 40 → map shown_byte w ++ (10 ∷ []) ≡ shown_word w
  unfolding shown_word
  shown-whole h = rw (le-leb (length w) 40 h, take_all 40 w h)

  pub shown-cut : 40 < length w → map shown_byte (take 40 w) ++ (46 ∷ 46 ∷ 10 ∷ []) ≡ shown_word w
  unfolding shown_word
  shown-cut h = rw (lt-leb (length w) 40 h)

-- a byte order mark
module _ (n : ℕ) (line : List ℕ) where
  pub marked-later : (n ≡ 1 → ⊥) → false ≡ marked_line n line
  marked-later h = rw (ne_eqb n 1 h)

  pub marked-first : n ≡ 1 → has_mark line ≡ marked_line n line
  marked-first e = rw (eq-eqb n 1 e)

  pub wrong-mark : marked_line n line ≡ true → mark_complaint ≡ wrong_with n line
  unfolding wrong_with
  wrong-mark t = rw t

  pub wrong_word : marked_line n line ≡ false → complaint (said_fault line) ++ shown_word (fault_word line) ≡ wrong_with n line
  unfolding wrong_with
  wrong_word t = rw t

-- ---- the text of a call

fields-length : (place : ℕ) (ws : List ℕ) (n : ℕ) → length (fields place ws n) ≤ 22 * n
unfolding fields
fields-length place ws zero = omega arith
fields-length place ws (suc n) = omega (arith, length-append (fields place ws n) (word_field (minus_at place n) (get_or ws n 0)), fields-length place ws n, field-length (minus_at place n) (get_or ws n 0))

pub text-length : (c : Call) → length (call_text c) ≤ 512
unfolding call_text
text-length c =
    let place = code_place c.code in
    let n = shown_words place c.words 8 in
    let f = fields place c.words n in
    let d = code_field c.code in
    let h = shown_destination c.code in
    let rest = name_at place ++ (d ++ (f ++ newline)) in
    omega (arith, length-append (destination_text h) rest, length-append (name_at place) (d ++ (f ++ newline)), length-append d (f ++ newline), length-append f newline, destination-length h, short place (place-low c.code), code-length c.code, fields-length place c.words n, shown-within place c.words 8)

pub no-texts : (block : List ℕ) → call_texts 0 block ≡ []
unfolding call_texts
no-texts block = refl

pub one-text : (k : ℕ) (block : List ℕ) → call_texts (k + 1) block ≡ call_texts k block ++ call_text (call_at k block)
unfolding call_texts
one-text k block = rw (add-one k)

-- ---- the text of a block

module _ (n : ℕ) (block : List ℕ) (got k : ℕ) (e : k ≡ calls_in block got) where
  pub bad-block : k ≡ 0 → bad_line n ≡ block_text n block got
  unfolding block_text
  bad-block z = rw (eq-eqb (calls_in block got) 0 (sym e ∙ z))

  pub good-block : (k ≡ 0 → ⊥) → call_texts k block ≡ block_text n block got
  unfolding block_text
  good-block z = rw (ne_eqb (calls_in block got) 0 (λ f. z (e ∙ f)), e)
