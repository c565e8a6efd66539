-- What the definition makes of a topic's consumers, one after the other. Assumes nothing.
use mathlib.Core.Path.{◌≡◌, refl, sym, ap, ◌∙◌}
use mathlib.Core.Bool.{false, ◌||◌}
use mathlib.Core.List.{List, [], ◌∷◌, ◌++◌, map-append}
use mathlib.Core.Option.{some}
use Prim.Native.Nat.{ℕ, zero, suc}
use lib.ListN.{length, drop}
use Rattle.definition.specs.Base.{nth, member}
use Rattle.definition.specs.Types.{Entry, Sub, Stats}
use Rattle.definition.specs.Consumer.{◌⊕◌}
use Rattle.definition.specs.Destination.{fan_out, fan_out_all}
use Rattle.definition.specs.Calls.{seqs, rows_of, consumer_rows}
use Rattle.definition.proofs.Tests.{or-no-left, or-no-right}
use Rattle.definition.proofs.Lists.{none-some, some_inj}
use Rattle.definition.proofs.Local.{zero-⊕, ⊕-zero, ⊕-assoc}
use Rattle.distinct.proofs.Laws.{member-append}

-- ---- one consumer more

module _ (now limit : ℕ) (e : Entry) where
  pub fan-length : (l : List Sub) → length (fan_out_all now limit e l).subs ≡ length l
  unfolding fan_out_all
  fan-length [] = refl
  fan-length (s ∷ l) = ap suc (fan-length l)

  pub fan-more : (l : List Sub) (s : Sub) → (fan_out_all now limit e (l ++ s ∷ [])).subs ≡ (fan_out_all now limit e l).subs ++ (fan_out now limit e s).sub ∷ []
  unfolding fan_out_all
  fan-more [] s = refl
  fan-more (x ∷ l) s = ap (λ (r : List Sub). (fan_out now limit e x).sub ∷ r) (fan-more l s)

  pub fan-counts : (l : List Sub) (s : Sub) → (fan_out_all now limit e (l ++ s ∷ [])).counts ≡ (fan_out_all now limit e l).counts ⊕ (fan_out now limit e s).counts
  unfolding fan_out_all
  fan-counts [] s = ⊕-zero (fan_out now limit e s).counts ∙ sym (zero-⊕ (fan_out now limit e s).counts)
  fan-counts (x ∷ l) s =
      ap (λ (r : Stats). (fan_out now limit e x).counts ⊕ r) (fan-counts l s) ∙ sym (⊕-assoc (fan_out now limit e x).counts (fan_out_all now limit e l).counts (fan_out now limit e s).counts)

-- what stands at a place begins the rest
pub nth-rest : (p r : List Sub) (s : Sub) → nth (length p) (p ++ r) ≡ some s → r ≡ s ∷ drop 1 r
nth-rest [] [] s h = absurd (none-some h)
nth-rest [] (x ∷ r) s h = ap (λ (y : Sub). y ∷ r) (some_inj h)
nth-rest (x ∷ p) r s h = nth-rest p r s h

-- ---- a number that no consumer has

module _ (q : ℕ) where
  apart : (s : Sub) (l : List Sub) → member q (seqs (consumer_rows (s ∷ l))) ≡ (member q (seqs (rows_of s)) || member q (seqs (consumer_rows l)))
  apart s l = ap (member q) (map-append (λ (e : Entry). e.seq) (rows_of s) (consumer_rows l)) ∙ member-append q (seqs (rows_of s)) (seqs (consumer_rows l))

  -- those from a place on have it neither, and the first of these has not
  pub absent-rest : (i : ℕ) (l : List Sub) → member q (seqs (consumer_rows l)) ≡ false → member q (seqs (consumer_rows (drop i l))) ≡ false
  absent-rest zero l h = h
  absent-rest (suc i) [] h = h
  absent-rest (suc i) (s ∷ l) h = absent-rest i l (or-no-right (member q (seqs (rows_of s))) _ (sym (apart s l) ∙ h))

  pub absent-first : (s : Sub) (l : List Sub) → member q (seqs (consumer_rows (s ∷ l))) ≡ false → member q (seqs (rows_of s)) ≡ false
  absent-first s l h = or-no-left (member q (seqs (rows_of s))) _ (sym (apart s l) ∙ h)
