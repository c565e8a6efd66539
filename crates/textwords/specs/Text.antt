-- A line of text in words. Assumes nothing.
use Rattle.std.specs.Prelude.{ℕ, suc, Bool, true, false, not, ◌||◌, ◌&&◌, List, [], ◌∷◌, eqb, take}
use Rattle.words.specs.Pick.{whether◌then◌else◌}
use Rattle.textwords.specs.declared.Stop.{Stop}
use Rattle.textwords.specs.declared.Stop.TheVariants.{Blank, Word, Remark, LineEnd}

-- space, tab and carriage return part words
abbrev pub blank : ℕ → Bool
blank b = eqb b 32 || (eqb b 9 || eqb b 13)

-- what a scan stops at
abbrev pub stops : Stop → ℕ → Bool
stops Blank b = blank b
stops Word b = not (blank b)
stops Remark b = eqb b 35
stops LineEnd b = eqb b 10

-- how many bytes stand before the first such
unfoldable pub run : Stop → List ℕ → ℕ
run s [] = 0
run s (b ∷ bs) = whether stops s b then 0 else suc (run s bs)

-- a byte before the first of some words
abbrev pub onto : ℕ → List (List ℕ) → List (List ℕ)
onto b [] = (b ∷ []) ∷ []
onto b (w ∷ ws) = (b ∷ w) ∷ ws

-- parted at each blank
unfoldable pub pieces : List ℕ → List (List ℕ)
pieces [] = [] ∷ []
pieces (b ∷ bs) = whether blank b then [] ∷ pieces bs else onto b (pieces bs)

-- those that are not empty
unfoldable pub full : List (List ℕ) → List (List ℕ)
full [] = []
full ([] ∷ ws) = full ws
full ((b ∷ w) ∷ ws) = (b ∷ w) ∷ full ws

unfoldable pub words_of : List ℕ → List (List ℕ)
words_of text = full (pieces text)

-- a line before its remark
unfoldable pub plain : List ℕ → List ℕ
plain line = take (run Remark line) line

-- whether two texts are the same
unfoldable pub same_text : List ℕ → List ℕ → Bool
same_text [] [] = true
same_text [] (y ∷ ys) = false
same_text (x ∷ xs) [] = false
same_text (x ∷ xs) (y ∷ ys) = eqb x y && same_text xs ys

-- whether a text begins with the three bytes of a byte order mark
unfoldable pub has_mark : List ℕ → Bool
has_mark text = same_text (take 3 text) (239 ∷ 187 ∷ 191 ∷ [])
