-- What became of dead letters: the rows that the code tells are those of the definition. Assumes nothing.
use mathlib.Core.Path.{◌≡◌, refl, sym, ap, ap₂, ◌∙◌}
use mathlib.Core.List.{List, [], ◌∷◌, ◌++◌, map}
use Prim.Native.Nat.{ℕ, zero, suc, ◌≤◌, ◌<◌, min}
use native.Mathlib.Nat.{zero-add}
use native.Mathlib.Omega.{arith}
use borrow.Author.Tests.{leb-true, leb-false}
use lib.Dec.{leb}
use lib.ListN.{length, take, drop, get_or, length-map, length-take, get_or-map, drop_of_length-le}
use lib.Seq.{paste, take_all, get_or-take, length-take-le}
use Rattle.entry.specs.Entry.{entry_of}
use Rattle.definition.specs.Calls.{seqs}
use Rattle.definition.specs.Words.{at}
use Rattle.definition.specs.Layout.{Row}
use Rattle.definition.proofs.Tests.{by-test}
use Rattle.definition_stationfates.specs.Told.{told_row, tell_each}
use Rattle.stationcalls.specs.Run.{letter_entries}
use Rattle.stationcalls.specs.All.{rows_told, numbers_got}
use Rattle.stationcalls.specs.Tells.{told_over}

-- ---- places of a list

any-default : {A : Type 0} (l : List A) (i : ℕ) (d e : A) → i < length l → get_or l i d ≡ get_or l i e
any-default [] i d e h = absurd (omega (arith, h))
any-default (x ∷ l) zero d e h = refl
any-default (x ∷ l) (suc i) d e h = any-default l i d e (omega (arith, h))

past_end : {A : Type 0} (l : List A) (i : ℕ) (d : A) → length l ≤ i → get_or l i d ≡ d
past_end [] i d h = refl
past_end (x ∷ l) zero d h = absurd (omega (arith, h))
past_end (x ∷ l) (suc i) d h = past_end l i d (omega (arith, h))

later : {A : Type 0} (l : List A) (i : ℕ) (d : A) → get_or (drop 1 l) i d ≡ get_or l (suc i) d
later [] i d = refl
later (x ∷ l) i d = refl

-- ---- one row

module _ (x : ℕ) (letters : List Row) (places : List ℕ) (many i : ℕ) where
  -- it has got a number
  pub told-known : i < many → many ≤ length places → x ∷ at 0 (get_or letters i []) ∷ get_or places i 0 ∷ [] ≡ x ∷ at i (numbers_got many letters) ∷ get_or (take many places) i 8 ∷ []
  told-known h g = ap₂ (λ (n p : ℕ). x ∷ n ∷ p ∷ []) number place
    where
      number : at 0 (get_or letters i []) ≡ at i (numbers_got many letters)
      number = ap (at 0) (sym (get_or-take many letters i [] h)) ∙ sym (get_or-map (at 0) (take many letters) i [])

      place : get_or places i 0 ≡ get_or (take many places) i 8
      place = any-default places i 0 8 (omega (arith, h, g)) ∙ sym (get_or-take many places i 8 h)

  -- none was left
  pub told-unknown : many ≤ i → x ∷ 0 ∷ 8 ∷ [] ≡ x ∷ at i (numbers_got many letters) ∷ get_or (take many places) i 8 ∷ []
  told-unknown h = ap₂ (λ (n p : ℕ). x ∷ n ∷ p ∷ [])
      (sym (past_end (numbers_got many letters) i 0 (omega (arith, h, length-map (take many letters) (at 0), length-take many letters))))
      (sym (past_end (take many places) i 8 (omega (arith, h, length-take many places))))

-- ---- all rows

pub rows-length : (ws : List Row) (ns ps : List ℕ) → length (rows_told ws ns ps) ≡ length ws
unfolding rows_told
rows-length [] ns ps = refl
rows-length (w ∷ ws) ns ps = ap suc (rows-length ws (drop 1 ns) (drop 1 ps))

row_at : (ws : List Row) (ns ps : List ℕ) (i : ℕ) → i < length ws → get_or (rows_told ws ns ps) i [] ≡ at 0 (get_or ws i []) ∷ at i ns ∷ get_or ps i 8 ∷ []
unfolding rows_told
row_at [] ns ps i h = absurd (omega (arith, h))
row_at (w ∷ ws) ns ps zero h = refl
row_at (w ∷ ws) ns ps (suc i) h = row_at ws (drop 1 ns) (drop 1 ps) i (omega (arith, h)) ∙ ap₂ (λ (n p : ℕ). at 0 (get_or ws i []) ∷ n ∷ p ∷ []) (later ns i 0) (later ps i 8)

pub row_of : (dead : List Row) (n : ℕ) (ns ps : List ℕ) (i : ℕ) → i < n → n ≤ length dead → at 0 (get_or dead i []) ∷ at i ns ∷ get_or ps i 8 ∷ [] ≡ get_or (rows_told (take n dead) ns ps) i []
row_of dead n ns ps i h g = ap (λ (w : Row). at 0 w ∷ at i ns ∷ get_or ps i 8 ∷ []) (sym (get_or-take n dead i [] h)) ∙ sym (row_at (take n dead) ns ps i (omega (arith, h, length-take-le n dead g)))

-- as far as the list goes
pub over-list : (told rows : List Row) (end : ℕ) → end ≡ min (length rows) (length told) → paste told 0 rows end ≡ told_over rows told
over-list told rows end e = by-test (leb (length rows) (length told)) (λ t. whole (leb-true (length rows) (length told) t)) (λ f. part (leb-false (length rows) (length told) f))
  where
    whole : length rows ≤ length told → paste told 0 rows end ≡ told_over rows told
    whole h =
        ap (λ (m : ℕ). paste told 0 rows m) all
        ∙ ap (λ (m : ℕ). take (length rows) rows ++ drop m told) (zero-add (length rows))
        ∙ ap (λ (l : List Row). l ++ drop (length rows) told) (take_all (length rows) rows (omega arith) ∙ sym (take_all (length told) rows h))
      where
        all : end ≡ length rows
        all = omega (arith, e, h)

    part : length told < length rows → paste told 0 rows end ≡ told_over rows told
    part h =
        ap (λ (m : ℕ). paste told 0 rows m) all
        ∙ ap (λ (l : List Row). take (length told) rows ++ l) (ap (λ (m : ℕ). drop m told) (zero-add (length told)) ∙ drop_of_length-le told {i = length told} (omega arith) ∙ sym (drop_of_length-le told {i = length rows} (omega (arith, h))))
      where
        all : end ≡ length told
        all = omega (arith, e, h)

-- ---- as the definition has them

pub rows_are : (ws : List Row) (ns ps : List ℕ) → rows_told ws ns ps ≡ map told_row (tell_each (map entry_of ws) ns ps)
unfolding rows_told entry_of
rows_are [] ns ps = refl
rows_are (w ∷ ws) ns ps = ap (λ (l : List Row). (at 0 w ∷ at 0 ns ∷ get_or ps 0 8 ∷ []) ∷ l) (rows_are ws (drop 1 ns) (drop 1 ps))

pub numbers-are : (ws : List Row) → map (at 0) ws ≡ seqs (letter_entries ws)
numbers-are [] = refl
numbers-are (w ∷ ws) = ap (λ (l : List ℕ). at 0 w ∷ l) (numbers-are ws)
