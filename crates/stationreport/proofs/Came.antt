-- The blocks that came to a place in a call: its own, and the letters that are stored there, one after another. Assumes nothing.
use Prim.Native.Nat.{ℕ, ◌+◌, ◌≤◌, ◌<◌}
use native.Mathlib.Nat.{zero-add}
use native.Mathlib.Omega.{arith}
use mathlib.Core.Path.{◌≡◌, sym, ap, ap₂, ◌∙◌}
use mathlib.Core.List.{List, [], ◌∷◌, ◌++◌, map, append-nil}
use mir.Val.{bool_byte}
use borrow.Author.Tests.{eq-eqb, ne_eqb}
use lib.Dec.{eqb}
use lib.ListN.{length, take, get_or, length-append}
use lib.Seq.{sets, slice}
use Rattle.definition.specs.Base.{whether◌then◌else◌, keep}
use Rattle.definition.specs.Words.{at}
use Rattle.definition.specs.Layout.{Row}
use Rattle.definition.proofs.Reorder.{keep-yes, keep-no}
use Rattle.subrows.proofs.Tests.{part-turn}
use Rattle.fates.specs.Blocks.{Block, comes}
use Rattle.report.specs.Report.{list_with}
use Rattle.report.proofs.Filling.{sets-append, mark-word}
use Rattle.report.proofs.Accounting.{put_first}
use Rattle.stationreport.specs.Gathering.{ListedFirst, stored_row, came_to}

-- the blocks of the letters that are stored at a place
abbrev pub stored_to : ℕ → List Row → List Block
stored_to j told = map stored_row (keep (λ t. eqb (at 2 t) j) told)

module _ (j number code : ℕ) (ws : List ℕ) where
  pub came-elsewhere : (number ≡ j → ⊥) → came_to j number code ws [] ≡ []
  unfolding came_to
  came-elsewhere h = rw (ne_eqb number j h)

  module _ (h : number ≡ j) where
    pub came-none : (code ≡ 1 → ⊥) → came_to j number code ws [] ≡ []
    unfolding came_to
    came-none n = rw (eq-eqb number j h, ne_eqb code 1 n)

    pub came-own : code ≡ 1 → came_to j number code ws [] ≡ (at 0 ws ∷ 0 ∷ bool_byte (eqb (at 2 ws) 1) ∷ []) ∷ []
    unfolding came_to
    came-own n = rw (eq-eqb number j h, eq-eqb code 1 n) (ap (λ (p : ℕ). (at 0 ws ∷ 0 ∷ p ∷ []) ∷ []) (sym (mark-word (eqb (at 2 ws) 1))))

  -- its own, and then letters
  pub came-then : (told : List Row) → came_to j number code ws told ≡ came_to j number code ws [] ++ stored_to j told
  unfolding came_to
  came-then told = ap (λ (l : List Block). l ++ stored_to j told) (sym (append-nil (whether eqb number j then comes code ws else [])))

  pub came-listed : (told : List Row) (n : ℕ) {list list₁ list₂ : List Block} {k₀ k : ℕ} → ListedFirst (came_to j number code ws []) 1 list k₀ list₁ → n + 1 ≤ length list → k ≤ k₀ + n
      → k ≡ k₀ + length (stored_to j (take n told)) → list₂ ≡ sets list₁ k₀ (stored_to j (take n told)) → ListedFirst (came_to j number code ws (take n told)) (n + 1) list k list₂
  came-listed told n {list} {list₁} {list₂} {k₀} {k} own room few many put =
      let letters = stored_to j (take n told) in
      let first = came_to j number code ws [] in
      let both : length (first ++ letters) ≡ k = length-append first letters ∙ omega (arith, own.count, many) in record {
        count = sym (ap length (came-then (take n told)) ∙ both);
        few = omega (arith, few, own.few);
        first = put
            ∙ ap₂ (λ (l : List Block) (m : ℕ). sets l m letters) (own.first ∙ sym (put_first first list (omega (arith, own.count, own.few, room)))) (own.count ∙ sym (zero-add (length first)))
            ∙ sym (sets-append first letters list 0)
            ∙ put_first (first ++ letters) list (omega (arith, both, few, own.few, room))
            ∙ ap (λ (l : List Block). list_with l list) (sym (came-then (take n told)));
      }

-- ---- the letters, from row i on

module _ (j : ℕ) (told : List Row) (i n : ℕ) (fits : n ≤ length told) (h : i < n) where
  pub stored_here : at 2 (get_or told i []) ≡ j → stored_to j (slice i n told) ≡ stored_row (get_or told i []) ∷ stored_to j (slice (i + 1) n told)
  stored_here e = ap (stored_to j) (part-turn told i n [] h fits) ∙ ap (map stored_row) (keep-yes (λ t. eqb (at 2 t) j) (get_or told i []) (slice (i + 1) n told) (eq-eqb (at 2 (get_or told i [])) j e))

  pub stored-elsewhere : (at 2 (get_or told i []) ≡ j → ⊥) → stored_to j (slice i n told) ≡ stored_to j (slice (i + 1) n told)
  stored-elsewhere e = ap (stored_to j) (part-turn told i n [] h fits) ∙ ap (map stored_row) (keep-no (λ t. eqb (at 2 t) j) (get_or told i []) (slice (i + 1) n told) (ne_eqb (at 2 (get_or told i [])) j e))
