-- What a program says of itself: a message begins with its name. Assumes nothing.
use Rattle.std.specs.Prelude.{ℕ, ◌≤◌, ◌≡◌, Bool, true, List, [], ◌∷◌, ◌++◌, eqb, length}
use Rattle.words.specs.Pick.{whether◌then◌else◌}
use Rattle.program.specs.declared.Looks.{Looks}
use Rattle.program.specs.declared.Looks.TheVariants.{Calls, Marked, Text, Other}

-- `NAME: TEXT`
abbrev pub headed : List ℕ → List ℕ → List ℕ
headed name text = name ++ (58 ∷ 32 ∷ text)

-- which bytes a system takes is open; `true` is answered only where there were so many to write
pub record Written (text : List ℕ) (n : ℕ) (done : Bool) : Type 0 where
  pub enough : done ≡ true → n ≤ length text

-- the input is a text that begins with a byte order mark: save it without one, and make a call file of it with textcalls
abbrev pub marked_hint : List ℕ
marked_hint = 116 ∷ 104 ∷ 101 ∷ 32 ∷ 105 ∷ 110 ∷ 112 ∷ 117 ∷ 116 ∷ 32 ∷ 105 ∷ 115 ∷ 32 ∷ 97 ∷ 32 ∷ 116 ∷ 101 ∷ 120 ∷ 116 ∷ 32 ∷ 116 ∷ 104 ∷ 97 ∷ 116 ∷ 32 ∷ 98 ∷ 101 ∷ 103 ∷ 105 ∷ 110 ∷ 115 ∷ 32 ∷ 119 ∷ 105 ∷ 116 ∷ 104 ∷ 32 ∷ 97 ∷ 32 ∷ 98 ∷ 121 ∷ 116 ∷ 101 ∷ 32 ∷ 111 ∷ 114 ∷ 100 ∷ 101 ∷ 114 ∷ 32 ∷ 109 ∷ 97 ∷ 114 ∷ 107 ∷ 58 ∷ 32 ∷ 115 ∷ 97 ∷ 118 ∷ 101 ∷ 32 ∷ 105 ∷ 116 ∷ 32 ∷ 119 ∷ 105 ∷ 116 ∷ 104 ∷ 111 ∷ 117 ∷ 116 ∷ 32 ∷ 111 ∷ 110 ∷ 101 ∷ 44 ∷ 32 ∷ 97 ∷ 110 ∷ 100 ∷ 32 ∷ 109 ∷ 97 ∷ 107 ∷ 101 ∷ 32 ∷ 97 ∷ 32 ∷ 99 ∷ 97 ∷ 108 ∷ 108 ∷ 32 ∷ 102 ∷ 105 ∷ 108 ∷ 101 ∷ 32 ∷ 111 ∷ 102 ∷ 32 ∷ 105 ∷ 116 ∷ 32 ∷ 119 ∷ 105 ∷ 116 ∷ 104 ∷ 32 ∷ 116 ∷ 101 ∷ 120 ∷ 116 ∷ 99 ∷ 97 ∷ 108 ∷ 108 ∷ 115 ∷ 10 ∷ []

-- the input is a text: make a call file of it with textcalls
abbrev pub text_hint : List ℕ
text_hint = 116 ∷ 104 ∷ 101 ∷ 32 ∷ 105 ∷ 110 ∷ 112 ∷ 117 ∷ 116 ∷ 32 ∷ 105 ∷ 115 ∷ 32 ∷ 97 ∷ 32 ∷ 116 ∷ 101 ∷ 120 ∷ 116 ∷ 58 ∷ 32 ∷ 109 ∷ 97 ∷ 107 ∷ 101 ∷ 32 ∷ 97 ∷ 32 ∷ 99 ∷ 97 ∷ 108 ∷ 108 ∷ 32 ∷ 102 ∷ 105 ∷ 108 ∷ 101 ∷ 32 ∷ 111 ∷ 102 ∷ 32 ∷ 105 ∷ 116 ∷ 32 ∷ 119 ∷ 105 ∷ 116 ∷ 104 ∷ 32 ∷ 116 ∷ 101 ∷ 120 ∷ 116 ∷ 99 ∷ 97 ∷ 108 ∷ 108 ∷ 115 ∷ 10 ∷ []

-- the input is no call file, or a damaged one
abbrev pub other_hint : List ℕ
other_hint = 116 ∷ 104 ∷ 101 ∷ 32 ∷ 105 ∷ 110 ∷ 112 ∷ 117 ∷ 116 ∷ 32 ∷ 105 ∷ 115 ∷ 32 ∷ 110 ∷ 111 ∷ 32 ∷ 99 ∷ 97 ∷ 108 ∷ 108 ∷ 32 ∷ 102 ∷ 105 ∷ 108 ∷ 101 ∷ 44 ∷ 32 ∷ 111 ∷ 114 ∷ 32 ∷ 97 ∷ 32 ∷ 100 ∷ 97 ∷ 109 ∷ 97 ∷ 103 ∷ 101 ∷ 100 ∷ 32 ∷ 111 ∷ 110 ∷ 101 ∷ 10 ∷ []

-- what is said of an input that begins with no block, by what it looks like
unfoldable pub hint_text : Looks → List ℕ
hint_text Calls = other_hint
hint_text Marked = marked_hint
hint_text Text = text_hint
hint_text Other = other_hint

-- the same by a number
unfoldable pub hint_by : ℕ → List ℕ
hint_by kind = whether eqb kind 1 then marked_hint else whether eqb kind 2 then text_hint else other_hint
