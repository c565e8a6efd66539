-- The view of a station: place by place, and with one destination's parts changed. Assumes nothing.
use mathlib.Core.Path.{◌≡◌, refl, sym, ap, ◌∙◌}
use mathlib.Core.Bool.{true, false}
use mathlib.Core.List.{List, map}
use mathlib.Core.Option.{Option, none, some}
use Prim.Native.Nat.{ℕ, ◌≤◌, ◌<◌}
use native.Mathlib.Nat.{add-zero}
use borrow.Author.Tests.{eqb-true, eqb-false}
use lib.Dec.{eqb}
use lib.ListN.{get_or, set, length-set, get_or-eq_default}
use lib.Seq.{get_or-set_same, get_or-set_other, ext_get_or}
use Rattle.definition.specs.Base.{whether◌then◌else◌, up_from}
use Rattle.definition.specs.Types.{Dest}
use Rattle.definition.specs.Words.{at}
use Rattle.definition.specs.Layout.{Row, Buffers, flag, view}
use Rattle.definition.proofs.Tests.{by-test, if-true, if-false}
use Rattle.definition_station.specs.Types.{StationSlot, with_dest, slot_of, put_dest}
use Rattle.definition_station.specs.Layout.{StationBuffers, part, name_word, next_word, is_open, slot_at, station_view}
use Rattle.definition_station.proofs.Buffers.{at_place}
use Rattle.stationcalls.specs.Parts.{lent_all}
use Rattle.stationcalls.specs.Run.{shown_with}

-- the open destination at a place
abbrev pub shown_slot : StationBuffers → ℕ → StationSlot
shown_slot b k = record { dest = view (part k b); name = at (name_word k) b.own }

pub slots_at : (b : StationBuffers) (lost j : ℕ) → j < 8 → slot_of j (shown_with b lost) ≡ slot_at b j
unfolding station_view
slots_at b lost j h = at_place (slot_at b) none 0 8 j h ∙ ap (slot_at b) (add-zero j)

pub open-at : (b : StationBuffers) (lost j : ℕ) → j < 8 → is_open j b ≡ true → slot_of j (shown_with b lost) ≡ some (shown_slot b j)
unfolding slot_at
open-at b lost j h o = slots_at b lost j h ∙ if-true (some (shown_slot b j)) none o

pub closed_at : (b : StationBuffers) (lost j : ℕ) → j < 8 → is_open j b ≡ false → slot_of j (shown_with b lost) ≡ none
unfolding slot_at
closed_at b lost j h o = slots_at b lost j h ∙ if-false (some (shown_slot b j)) none o

pub none_above : (b : StationBuffers) (lost j : ℕ) → 8 ≤ j → slot_of j (shown_with b lost) ≡ none
unfolding station_view
none_above b lost j h = get_or-eq_default (map (slot_at b) (up_from 0 8)) none h

module _ (k : ℕ) (heads heads' : List ℕ) (subs subs' rows rows' : List Row) (own : List ℕ) where
  abbrev b : StationBuffers
  b = lent_all heads subs rows own

  abbrev b' : StationBuffers
  b' = lent_all heads' subs' rows' own

  slot_same : (j : ℕ) → part j b' ≡ part j b → slot_at b' j ≡ slot_at b j
  unfolding slot_at
  slot_same j e = ap (λ (p : Buffers). whether◌then◌else◌ {A = Option StationSlot} (flag (at j own)) (some (record { dest = view p; name = at (name_word j) own })) none) e

  -- one part of each buffer is changed: the view is the old one with that destination replaced
  pub view-put : (lost : ℕ) (t : Dest) → k < 8 → is_open k b ≡ true → view (part k b') ≡ t → ((j : ℕ) → j < 8 → (j ≡ k → ⊥) → part j b' ≡ part j b)
      → shown_with b' lost ≡ put_dest k (shown_slot b k) t (shown_with b lost)
  unfolding station_view
  view-put lost t h o e others = ap (λ (l : List (Option StationSlot)). record { slots = l; next = at next_word own; lost = lost }) slots
    where
      there : Option StationSlot
      there = some (with_dest t (shown_slot b k))

      each : (i : ℕ) → i < 8 → get_or (map (slot_at b') (up_from 0 8)) i none ≡ get_or (set (map (slot_at b) (up_from 0 8)) k there) i none
      each i g = by-test (eqb i k)
          (λ y. let same : i ≡ k = eqb-true i k y in
          ap (λ (n : ℕ). slot_of n (shown_with b' lost)) same ∙ open-at b' lost k h o ∙ ap (λ (u : Dest). some (record { dest = u; name = at (name_word k) own })) e
          ∙ sym (get_or-set_same (map (slot_at b) (up_from 0 8)) k there none h) ∙ ap (λ (n : ℕ). get_or (set (map (slot_at b) (up_from 0 8)) k there) n none) (sym same))
          (λ n. slots_at b' lost i g ∙ slot_same i (others i g (eqb-false i k n)) ∙ sym (slots_at b lost i g)
          ∙ sym (get_or-set_other (map (slot_at b) (up_from 0 8)) k i there none (eqb-false i k n)))

      slots : map (slot_at b') (up_from 0 8) ≡ set (map (slot_at b) (up_from 0 8)) k there
      slots = ext_get_or none (map (slot_at b') (up_from 0 8)) (set (map (slot_at b) (up_from 0 8)) k there) (sym (length-set (map (slot_at b) (up_from 0 8)) k there)) each

-- no part is changed
pub view-same : (heads heads' : List ℕ) (subs subs' rows rows' : List Row) (own : List ℕ) (lost : ℕ)
    → ((j : ℕ) → j < 8 → part j (lent_all heads' subs' rows' own) ≡ part j (lent_all heads subs rows own)) → shown_with (lent_all heads' subs' rows' own) lost ≡ shown_with (lent_all heads subs rows own) lost
unfolding station_view
view-same heads heads' subs subs' rows rows' own lost same = ap (λ (l : List (Option StationSlot)). record { slots = l; next = at next_word own; lost = lost })
    (ext_get_or none (map (slot_at (lent_all heads' subs' rows' own)) (up_from 0 8)) (map (slot_at (lent_all heads subs rows own)) (up_from 0 8)) refl
    (λ i g. slots_at (lent_all heads' subs' rows' own) lost i g ∙ slot_same 0 heads heads' subs subs' rows rows' own i (same i g) ∙ sym (slots_at (lent_all heads subs rows own) lost i g)))
