-- The list that the loop of a page leaves turn by turn: its first lines are given, and the others stay.
--     given, filled    the first n lines, of a line for each place; the list with them
--     filled_none      with no line given the list is as it was
--     filled_more      a line that is put after i given lines is one more given line
--     length-filled    the list keeps its length
--     filled_is        the lines of a page's rows, given, are what the page writes
-- Assumes nothing.
use mathlib.Core.Path.{◌≡◌, refl, sym, ◌∙◌, ap}
use Prim.Native.Nat.{ℕ, zero, suc, ◌+◌, ◌<◌, ◌≤◌}
use native.Mathlib.Nat.{not-suc-le-zero, le_of_suc-le-suc}
use native.Mathlib.Numerals.{add-one}
use native.Mathlib.Omega.{arith}
use mathlib.Core.List.{List, [], ◌∷◌, ◌++◌, map, map-append}
use lib.ListN.{length, set, take, drop, get_or, length-append, length-drop}
use lib.Seq.{take-suc, get_or-drop}
use Rattle.definition.specs.Queries.{Line}
use Rattle.definition.specs.Layout.{Row}
use Rattle.queries.specs.declared.PageLine.{PageLine}
use Rattle.queries.specs.Pages.{row_line, page_line, page_line_at, written}

-- the first n lines, of a line for each place
unfoldable pub given : (ℕ → PageLine) → ℕ → List PageLine
given line zero = []
given line (suc n) = given line n ++ (line n ∷ [])

-- the list with its first n lines given, and the others as they were
abbrev pub filled : (ℕ → PageLine) → List PageLine → ℕ → List PageLine
filled line was n = given line n ++ drop n was

module _ {A : Type 0} where
  -- a store past xs is a store into what follows
  set_past : (xs zs : List A) (x : A) → set (xs ++ zs) (length xs) x ≡ xs ++ set zs 0 x
  set_past [] zs x = refl
  set_past (y ∷ xs) zs x = ap (λ (l : List A). y ∷ l) (set_past xs zs x)

  set_first : (ys : List A) (i : ℕ) (x : A) → i < length ys → set (drop i ys) 0 x ≡ x ∷ drop (suc i) ys
  set_first [] i x h = absurd (not-suc-le-zero h)
  set_first (y ∷ ys) zero x h = refl
  set_first (y ∷ ys) (suc i) x h = set_first ys i x (le_of_suc-le-suc h)

  after_one : (xs zs : List A) (x : A) → (xs ++ (x ∷ [])) ++ zs ≡ xs ++ (x ∷ zs)
  after_one [] zs x = refl
  after_one (y ∷ xs) zs x = ap (λ (l : List A). y ∷ l) (after_one xs zs x)

module _ (line : ℕ → PageLine) where
  length-given : (n : ℕ) → length (given line n) ≡ n
  unfolding given
  length-given zero = refl
  length-given (suc n) = length-append (given line n) (line n ∷ []) ∙ ap (λ (k : ℕ). k + 1) (length-given n) ∙ add-one n

  pub filled_none : (ys : List PageLine) → filled line ys 0 ≡ ys
  unfolding given
  filled_none ys = refl

  more : (ys : List PageLine) (i : ℕ) → i < length ys → set (filled line ys i) i (line i) ≡ filled line ys (suc i)
  unfolding given
  more ys i h =
      ap (λ (k : ℕ). set (filled line ys i) k (line i)) (sym (length-given i)) ∙ set_past (given line i) (drop i ys) (line i) ∙ ap (λ (l : List PageLine). given line i ++ l) (set_first ys i (line i) h)
      ∙ sym (after_one (given line i) (drop (suc i) ys) (line i))

  pub filled_more : (ys : List PageLine) (i : ℕ) → i < length ys → set (filled line ys i) i (line i) ≡ filled line ys (i + 1)
  filled_more ys i h = more ys i h ∙ ap (filled line ys) (sym (add-one i))

  pub length-filled : (ys : List PageLine) (n : ℕ) → n ≤ length ys → length (filled line ys n) ≡ length ys
  length-filled ys n h = omega (arith, length-append (given line n) (drop n ys), length-given n, length-drop n ys)

module _ (rows : List Row) (from : ℕ) where
  -- the lines of the n rows from `from` on
  listed : (n : ℕ) → from + n ≤ length rows → given (page_line_at rows from) n ≡ map page_line (map row_line (take n (drop from rows)))
  unfolding given page_line_at
  listed zero h = refl
  listed (suc n) h =
      let within : n < length (drop from rows) = omega (arith, length-drop from rows) in
      ap (λ (l : List PageLine). l ++ (page_line_at rows from n ∷ [])) (listed n (omega arith))
      ∙ sym (ap (λ (l : List Row). map page_line (map row_line l)) (take-suc (drop from rows) n [] within)
      ∙ ap (map page_line) (map-append row_line (take n (drop from rows)) (get_or (drop from rows) n [] ∷ []))
      ∙ map-append page_line (map row_line (take n (drop from rows))) (row_line (get_or (drop from rows) n []) ∷ [])
      ∙ ap (λ (w : Row). map page_line (map row_line (take n (drop from rows))) ++ (page_line (row_line w) ∷ [])) (get_or-drop from rows n []))

  pub filled_is : (lines : List Line) (ys : List PageLine) (n : ℕ) → from + n ≤ length rows → lines ≡ map row_line (take n (drop from rows)) → n ≡ length lines → filled (page_line_at rows from) ys n ≡ written lines ys
  filled_is lines ys n h is len = ap (λ (l : List PageLine). l ++ drop n ys) (listed n h ∙ ap (map page_line) (sym is)) ∙ ap (λ (k : ℕ). map page_line lines ++ drop k ys) len
