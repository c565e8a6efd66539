-- The word at fault of a line that is no call. Assumes nothing.
use Rattle.std.specs.Prelude.{Option, Some, None, ℕ, ◌+◌, ◌-◌, ◌≤◌, ◌≡◌, Bool, true, false, List, [], ◌∷◌, eqb, leb, length, take, drop}
use Rattle.words.specs.Pick.{whether◌then◌else◌}
use Rattle.textwords.specs.Text.{words_of, plain}
use Rattle.textwords.specs.Numbers.{number_of}
use Rattle.calltext.specs.declared.Part.{Part}
use Rattle.calltext.specs.Names.{RAW, name_place}
use Rattle.calltext.specs.Lines.{at_sign, destination_of}

abbrev pub is_number : Option ℕ → Bool
is_number None = false
is_number (Some v) = true

-- among words of which the first would be number n: the one too many, or the first that is no number
unfoldable pub fault_among : ℕ → List (List ℕ) → List ℕ
fault_among n [] = []
fault_among n (w ∷ ws) = whether leb 9 n then w else whether is_number (number_of w) then fault_among (n + 1) ws else w

-- or the name, where it is unknown
unfoldable pub fault_named : List ℕ → List (List ℕ) → List ℕ
fault_named w ws = whether leb (name_place w) 16 then fault_among 1 ws else whether eqb (name_place w) RAW then fault_among 0 ws else w

-- or the destination's number, where no call's name comes after it
unfoldable pub fault_after : List ℕ → List (List ℕ) → List ℕ
fault_after d [] = d
fault_after d (w ∷ ws) = whether eqb (name_place w) RAW then d else fault_named w ws

-- or where it is none
unfoldable pub fault_in : List (List ℕ) → List ℕ
fault_in [] = []
fault_in (w ∷ ws) = whether at_sign w then (whether is_number (destination_of w) then fault_after w ws else w) else fault_named w ws

unfoldable pub fault_word : List ℕ → List ℕ
fault_word line = fault_in (words_of (plain line))

-- a part of a text
abbrev pub word_in : List ℕ → Part → List ℕ
word_in text r = take (r.to - r.from) (drop r.from text)

-- where a word stands in a text
pub record FaultAt (word text : List ℕ) (r : Part) : Type 0 where
  pub order : r.from ≤ r.to
  pub within : r.to ≤ length text
  pub bytes : word_in text r ≡ word

-- where the first word from a place on stands: at the end of the text where there is none
pub record WordAt (from : ℕ) (text : List ℕ) (r : Part) : Type 0 where
  pub order : r.from ≤ r.to
  pub within : r.to ≤ length text
  pub none : r.from ≡ length text → words_of (drop from text) ≡ []
  pub some : (r.from ≡ length text → ⊥) → words_of (drop from text) ≡ word_in text r ∷ words_of (drop r.to text)
