-- A call as a line of text: its destination where it is not 0, its name, and its words as far as the call has any or a later one is not 0. Assumes
-- nothing.
use Rattle.std.specs.Prelude.{ℕ, zero, suc, ◌/◌, ◌&&◌, List, [], ◌∷◌, ◌++◌, eqb, get_or}
use Rattle.words.specs.Pick.{whether◌then◌else◌}
use Rattle.calls.specs.declared.Call.{Call}
use Rattle.callfile.specs.Lines.{decimal, field, word_field, newline}
use Rattle.calltext.specs.Names.{name_at, has_name, code_place, kind_at, minus_at}

-- how many of the first n words are written
unfoldable pub shown_words : ℕ → List ℕ → ℕ → ℕ
shown_words place ws zero = 0
shown_words place ws (suc n) = whether eqb (kind_at place n) 0 && eqb (get_or ws n 0) 0 then shown_words place ws n else suc n

-- the first n of them, each after a space
unfoldable pub fields : ℕ → List ℕ → ℕ → List ℕ
fields place ws zero = []
fields place ws (suc n) = fields place ws n ++ word_field (minus_at place n) (get_or ws n 0)

-- `raw` is followed by word 0
unfoldable pub code_field : ℕ → List ℕ
code_field word = whether has_name word then [] else field word

-- a name has its destination before it
unfoldable pub shown_destination : ℕ → ℕ
shown_destination word = whether has_name word then word / 256 else 0

-- where it is not 0: `@`, its number and a space
unfoldable pub destination_text : ℕ → List ℕ
destination_text d = whether eqb d 0 then [] else 64 ∷ (decimal d ++ (32 ∷ []))

abbrev pub shown_fields : ℕ → List ℕ → List ℕ
shown_fields place ws = fields place ws (shown_words place ws 8)

unfoldable pub call_text : Call → List ℕ
call_text c =
    destination_text (shown_destination c.code) ++ (name_at (code_place c.code) ++ (code_field c.code ++ (shown_fields (code_place c.code) c.words ++ newline)))
