-- Where letters are stored, a turn at a time. Assumes nothing.
use mathlib.Core.Path.{◌≡◌, refl, sym, ap, ◌∙◌}
use mathlib.Core.Bool.{true, false}
use mathlib.Core.List.{List, [], ◌∷◌, ◌++◌, map}
use mathlib.Core.Option.{none, some}
use Prim.Native.Nat.{ℕ, zero, suc, ◌+◌, ◌-◌, ◌≤◌, ◌<◌}
use native.Mathlib.Numerals.{add-one}
use native.Mathlib.Omega.{arith}
use borrow.Author.Tests.{ne_eqb}
use lib.Dec.{eqb}
use lib.ListN.{length, take, drop, get_or, set, length-map}
use lib.Seq.{slice, slice-cons, slice_empty, drop-cons, length-take-le}
use Rattle.definition.specs.Types.{Entry}
use Rattle.definition.specs.Calls.{enqueuing, call}
use Rattle.definition.specs.Words.{entry_in}
use Rattle.definition.specs.Layout.{Row, view}
use Rattle.definition.proofs.Tests.{if-true, if-false}
use Rattle.definition_station.specs.Types.{StationSlot, Station, slot_of}
use Rattle.definition_station.specs.Letters.{whole, storing}
use Rattle.definition_stationfates.specs.Told.{place_stored, letter_place, letter_places}
use Rattle.definition_station.specs.Layout.{StationBuffers, part, is_open}
use Rattle.stationcalls.specs.Run.{shown_with, storing_on, place_on, places_on, last_of}
use Rattle.stationcalls.proofs.Filling.{Filling, none_filled, one-filled, all-filled}
use Rattle.stationcalls.proofs.Viewed.{shown_slot, open-at, closed_at, none_above}

-- ---- one letter

module _ (clock k : ℕ) (e : Entry) (s : Station) where
  place_none : (hops : ℕ) → slot_of k s ≡ none → letter_place hops clock k e s ≡ 8
  unfolding letter_place place_stored
  place_none zero p = refl
  place_none (suc hops) p = ap (place_stored (λ j. letter_place hops clock j e s) clock k e) p

  module _ (hops : ℕ) (x : StationSlot) (p : slot_of k s ≡ some x) where
    place-stores : (call whole (enqueuing e clock) x.dest).refusal ≡ 0 → letter_place (suc hops) clock k e s ≡ k
    unfolding letter_place place_stored
    place-stores q = ap (place_stored (λ j. letter_place hops clock j e s) clock k e) p ∙ if-true _ _ (ap (λ (n : ℕ). eqb n 0) q)

    place-passes : ((call whole (enqueuing e clock) x.dest).refusal ≡ 0 → ⊥) → letter_place (suc hops) clock k e s ≡ letter_place hops clock x.name e s
    unfolding letter_place place_stored
    place-passes q = ap (place_stored (λ j. letter_place hops clock j e s) clock k e) p ∙ if-false _ _ (ne_eqb (call whole (enqueuing e clock) x.dest).refusal 0 q)

-- ---- as the code goes

module _ (hops clock name : ℕ) (w : Row) (b : StationBuffers) (lost : ℕ) where
  -- the three ways to be lost
  pub place-hops : hops ≡ 0 → 8 ≡ place_on hops clock name w (shown_with b lost)
  unfolding letter_place
  place-hops e = sym (ap (λ (n : ℕ). place_on n clock name w (shown_with b lost)) e)

  pub place-name : 7 < name → 8 ≡ place_on hops clock name w (shown_with b lost)
  place-name h = sym (place_none clock name (entry_in w) (shown_with b lost) hops (none_above b lost name h))

  pub place-closed : name < 8 → is_open name b ≡ false → 8 ≡ place_on hops clock name w (shown_with b lost)
  place-closed h o = sym (place_none clock name (entry_in w) (shown_with b lost) hops (closed_at b lost name h o))

module _ (clock k : ℕ) (w : Row) (b : StationBuffers) (lost : ℕ) (h : k < 8) (o : is_open k b ≡ true) where
  pub place_here : (hops : ℕ) → (hops ≡ 0 → ⊥) → (call whole (enqueuing (entry_in w) clock) (view (part k b))).refusal ≡ 0 → k ≡ place_on hops clock k w (shown_with b lost)
  place_here zero ne z = absurd (ne refl)
  place_here (suc hops) ne z = sym (place-stores clock k (entry_in w) (shown_with b lost) hops (shown_slot b k) (open-at b lost k h o) z)

  -- it goes on: what running it alone says is where it is
  pub place-on : (hops : ℕ) (b' : StationBuffers) (p place : ℕ) → (hops ≡ 0 → ⊥) → ((call whole (enqueuing (entry_in w) clock) (view (part k b))).refusal ≡ 0 → ⊥) → shown_with b' lost ≡ shown_with b lost
      → place ≡ last_of p (places_on (hops - 1) clock (shown_slot b k).name (w ∷ []) (shown_with b' lost)) → place ≡ place_on hops clock k w (shown_with b lost)
  unfolding letter_places
  place-on zero b' p place ne z e q = absurd (ne refl)
  place-on (suc hops) b' p place ne z e q =
      q
      ∙ ap (λ (s : Station). place_on (suc hops - 1) clock (shown_slot b k).name w s) e
      ∙ ap (λ (n : ℕ). place_on n clock (shown_slot b k).name w (shown_with b lost)) one_less
      ∙ sym (place-passes clock k (entry_in w) (shown_with b lost) hops (shown_slot b k) (open-at b lost k h o) z)
    where
      one_less : suc hops - 1 ≡ hops
      one_less = omega (arith)

-- ---- the loop that runs some: where the last is

abbrev pub LastSofar : ℕ → ℕ → ℕ → List Row → ℕ → Station → ℕ → Station → ℕ → ℕ → Type 0
LastSofar hops clock name letters n s₀ place₀ s place i = last_of place (places_on hops clock name (slice i n letters) s) ≡ last_of place₀ (places_on hops clock name (take n letters) s₀)

module _ (hops clock name : ℕ) (letters : List Row) (n : ℕ) (s₀ : Station) (place₀ : ℕ) where
  pub last_turn : (s s' : Station) (place place' i : ℕ) (d : Row) → LastSofar hops clock name letters n s₀ place₀ s place i → i < n → n ≤ length letters
      → place' ≡ place_on hops clock name (get_or letters i d) s → s' ≡ (storing_on hops clock name (get_or letters i d) s).station
      → LastSofar hops clock name letters n s₀ place₀ s' place' (i + 1)
  unfolding letter_places
  last_turn s s' place place' i d l less long e f =
      ap (λ (m : ℕ). last_of place' (places_on hops clock name (slice m n letters) s')) (add-one i)
      ∙ ap (λ (x : ℕ). last_of x (places_on hops clock name (slice (suc i) n letters) s')) e
      ∙ ap (λ (u : Station). last_of (place_on hops clock name (get_or letters i d) s) (places_on hops clock name (slice (suc i) n letters) u)) f
      ∙ sym (ap (λ (ws : List Row). last_of place (places_on hops clock name ws s)) (slice-cons i n letters d less long))
      ∙ l

  pub last-all : (s : Station) (place i : ℕ) → LastSofar hops clock name letters n s₀ place₀ s place i → n ≤ i → i ≤ n → place ≡ last_of place₀ (places_on hops clock name (take n letters) s₀)
  unfolding letter_places
  last-all s place i l h g = sym (ap (λ (ws : List Row). last_of place (places_on hops clock name ws s)) nothing) ∙ l
    where
      at-end : i ≡ n
      at-end = omega (arith, h, g)

      nothing : slice i n letters ≡ []
      nothing = ap (λ (m : ℕ). slice m n letters) at-end ∙ slice_empty n letters

-- ---- and where each is

pub places-length : (hops clock k : ℕ) (es : List Entry) (s : Station) → length (letter_places hops clock k es s) ≡ length es
unfolding letter_places
places-length hops clock k [] s = refl
places-length hops clock k (e ∷ es) s = ap suc (places-length hops clock k es (storing hops clock k e s).station)

-- the places of the first n letters: those that are found stand first in the list, and those to come are told by what is left
pub record PlacesSofar (hops clock name : ℕ) (letters : List Row) (n : ℕ) (s₀ : Station) (places₀ : List ℕ) (s : Station) (places : List ℕ) (i : ℕ) : Type 0 where
  pub to-come : drop i (places_on hops clock name (take n letters) s₀) ≡ places_on hops clock name (slice i n letters) s
  pub found : Filling places₀ (places_on hops clock name (take n letters) s₀) n places i

module _ (hops clock name : ℕ) (letters : List Row) (n : ℕ) (s₀ : Station) (places₀ : List ℕ) (long : n ≤ length letters) (room : n ≤ length places₀) where
  abbrev all : List ℕ
  all = places_on hops clock name (take n letters) s₀

  as_many : length all ≡ n
  as_many = places-length hops clock name (map entry_in (take n letters)) s₀ ∙ length-map (take n letters) entry_in ∙ length-take-le n letters long

  pub no-places : PlacesSofar hops clock name letters n s₀ places₀ s₀ places₀ 0
  no-places = record { to-come = refl; found = none_filled places₀ all n (omega (arith, as_many)) room }

  pub one_place : (s s' : Station) (places : List ℕ) (place i : ℕ) (d : Row) → PlacesSofar hops clock name letters n s₀ places₀ s places i → i < n
      → place ≡ place_on hops clock name (get_or letters i d) s → s' ≡ (storing_on hops clock name (get_or letters i d) s).station
      → PlacesSofar hops clock name letters n s₀ places₀ s' (set places i place) (i + 1)
  unfolding letter_places
  one_place s s' places place i d l less e f = record {
    to-come = ap (λ (m : ℕ). drop m all) (add-one i) ∙ tails (sym there ∙ l.to-come ∙ cut) ∙ ap (λ (u : Station). places_on hops clock name (slice (suc i) n letters) u) (sym f) ∙ ap (λ (m : ℕ). places_on hops clock name (slice m n letters) s') (sym (add-one i));
    found = one-filled places₀ all n places i place 0 l.found less (e ∙ sym (heads (sym there ∙ l.to-come ∙ cut)));
  }
    where
      there : drop i all ≡ get_or all i 0 ∷ drop (suc i) all
      there = drop-cons all i 0 (omega (arith, less, as_many))

      cut : places_on hops clock name (slice i n letters) s ≡ place_on hops clock name (get_or letters i d) s ∷ places_on hops clock name (slice (suc i) n letters) (storing_on hops clock name (get_or letters i d) s).station
      cut = ap (λ (ws : List Row). places_on hops clock name ws s) (slice-cons i n letters d less long)

      heads : {x y : ℕ} {xs ys : List ℕ} → x ∷ xs ≡ y ∷ ys → x ≡ y
      heads {x} h = ap (λ (q : List ℕ). get_or q 0 x) h

      tails : {x y : ℕ} {xs ys : List ℕ} → x ∷ xs ≡ y ∷ ys → xs ≡ ys
      tails h = ap (λ (q : List ℕ). drop 1 q) h

  pub all-places : (s : Station) (places : List ℕ) (i : ℕ) → PlacesSofar hops clock name letters n s₀ places₀ s places i → n ≤ i → places ≡ all ++ drop n places₀
  all-places s places i l h = all-filled places₀ all n places i l.found h as_many
