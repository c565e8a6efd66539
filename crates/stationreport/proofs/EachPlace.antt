-- The rows of the places, changed one after another: what is left to change makes the whole. Assumes nothing.
use Prim.Native.Nat.{ℕ, suc, ◌+◌, ◌≤◌, ◌<◌}
use native.Mathlib.Nat.{add-zero}
use native.Mathlib.Numerals.{add-one}
use native.Mathlib.Omega.{arith}
use mathlib.Core.Path.{◌≡◌, refl, sym, ap, ap₂, ◌∙◌}
use mathlib.Core.Bool.{Bool, true, false, ◌||◌}
use mathlib.Core.List.{List, [], ◌∷◌, ◌++◌, map, append_assoc, append-nil}
use lib.Dec.{eqb}
use lib.ListN.{length, take, drop, get_or, set, replicate, drop_of_length-le}
use lib.Seq.{take-suc, drop-cons, take-suc-set, drop-set-lt, take_all, ext_get_or}
use Rattle.definition.specs.Base.{up_from}
use Rattle.definition.specs.Words.{at}
use Rattle.definition.specs.Layout.{Row}
use Rattle.definition.proofs.Tests.{if-true, if-false}
use Rattle.definition_station.proofs.Buffers.{at_place}
use Rattle.reportlines.specs.ReportLines.{none_gone, all_gone}
use Rattle.stationreport.specs.StationReporting.{each_place, gone_row, gone_by_words}
use Rattle.stationreport.specs.Gathering.{anew_row}

module _ (f : ℕ → Row → Row) where
  -- as many
  pub each-many : (j : ℕ) (gs : List Row) → length (each_place f j gs) ≡ length gs
  unfolding each_place
  each-many j [] = refl
  each-many j (g ∷ gs) = ap suc (each-many (suc j) gs)

  -- with the rows before place j as they are now
  abbrev pub each_from : ℕ → List Row → List Row
  each_from j gs = take j gs ++ each_place f j (drop j gs)

  module _ (j : ℕ) (gs : List Row) (h : j < length gs) where
    each_turn : (hs : List Row) → take (suc j) hs ≡ take j gs ++ f j (get_or gs j []) ∷ [] → drop (suc j) hs ≡ drop (suc j) gs → each_from (j + 1) hs ≡ each_from j gs
    unfolding each_place
    each_turn hs p q =
        ap (λ (m : ℕ). each_from m hs) (add-one j)
        ∙ ap₂ (λ (l m : List Row). l ++ each_place f (suc j) m) p q
        ∙ append_assoc (take j gs) (f j (get_or gs j []) ∷ []) (each_place f (suc j) (drop (suc j) gs))
        ∙ ap (λ (l : List Row). take j gs ++ each_place f j l) (sym (drop-cons gs j [] h))

    -- one is changed, or is so already
    pub each_set : (g : Row) → g ≡ f j (get_or gs j []) → each_from (j + 1) (set gs j g) ≡ each_from j gs
    each_set g e = each_turn (set gs j g) (take-suc-set gs j g h ∙ ap (λ (x : Row). take j gs ++ x ∷ []) e) (drop-set-lt (suc j) gs j g (omega arith))

    pub each_same : get_or gs j [] ≡ f j (get_or gs j []) → each_from (j + 1) gs ≡ each_from j gs
    each_same e = each_turn gs (take-suc gs j [] h ∙ ap (λ (x : Row). take j gs ++ x ∷ []) e) refl

  pub each_all : (j : ℕ) (gs : List Row) → length gs ≤ j → each_from j gs ≡ gs
  unfolding each_place
  each_all j gs h = ap₂ (λ (l m : List Row). l ++ each_place f j m) (take_all j gs h) (drop_of_length-le gs h) ∙ append-nil gs

-- ---- where an account begins anew

-- a row of five words is the counts that it says
five-words : (g : Row) → length g ≡ 5 → g ≡ gone_row (gone_by_words g)
five-words g e = ext_get_or 0 g (map (λ i. at i g) (up_from 0 5)) e (λ i h. sym (at_place (λ n. at n g) 0 0 5 i (omega (arith, h, e)) ∙ ap (λ (n : ℕ). at n g) (add-zero i)))

module _ (k : ℕ) (all : Bool) (j : ℕ) (g : Row) where
  pub anew-here : (all || eqb j k) ≡ true → replicate 5 0 ≡ anew_row k all j g
  unfolding all_gone
  anew-here e = ap gone_row (sym (if-true none_gone (gone_by_words g) e))

  pub anew-elsewhere : (all || eqb j k) ≡ false → length g ≡ 5 → g ≡ anew_row k all j g
  unfolding all_gone
  anew-elsewhere e h = five-words g h ∙ ap gone_row (sym (if-false none_gone (gone_by_words g) e))
