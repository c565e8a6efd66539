-- What becomes of one dead letter: it is lost, or one destination gets it. Assumes nothing.
use Prim.Native.Nat.{ℕ, zero, suc, ◌<◌}
use native.Mathlib.Omega.{arith}
use mathlib.Core.Path.{◌≡◌, refl, ◌∙◌}
use mathlib.Core.List.{List, [], ◌∷◌}
use mathlib.Core.Option.{Option, none, some}
use lib.Dec.{eqb}
use borrow.Author.Tests.{eqb-true}
use Rattle.definition.specs.Types.{Entry}
use Rattle.definition.specs.Calls.{enqueuing, call}
use Rattle.definition.proofs.Tests.{by-test}
use Rattle.definition_station.specs.Types.{StationSlot, Station, slot_of, put_dest, losing_letter, RanLetters}
use Rattle.definition_station.specs.Letters.{whole, each, stored_at, storing, running}
use Rattle.definition_station.proofs.Places.{Facts, place_in, losing-facts}
use Rattle.definition_station.proofs.Sound.{stored-facts}
use Rattle.definition_stationfates.specs.Books.{Gets, gets_call, stored_gets, letter_gets}
use Rattle.definition_stationfates.specs.Told.{place_stored, letter_place}

-- the place that is told, the calls that destinations get, and the station after it
pub data Went (now : ℕ) (e : Entry) (s : Station) : ℕ → List Gets → Station → Type 0 where
  lost : Went now e s 8 [] (losing_letter s)
  kept : (k : ℕ) (x : StationSlot) → slot_of k s ≡ some x → (call whole (enqueuing e now) x.dest).refusal ≡ 0
      → Went now e s k (gets_call k (enqueuing e now) x.dest ∷ []) (put_dest k x (call whole (enqueuing e now) x.dest).dest s)

stored-went : (on : ℕ → Station → RanLetters) (gets : ℕ → List Gets) (goes : ℕ → ℕ) (now k : ℕ) (e : Entry) (s : Station) → ((i : ℕ) → Went now e s (goes i) (gets i) (on i s).station)
    → (o : Option StationSlot) → slot_of k s ≡ o → Went now e s (place_stored goes now k e o) (stored_gets gets now k e o) (stored_at on now k e s o).station
unfolding place_stored stored_gets stored_at
stored-went on gets goes now k e s h none q = lost
stored-went on gets goes now k e s h (some x) q = by-test (eqb (call whole (enqueuing e now) x.dest).refusal 0)
    (λ c. rw c (kept k x q (eqb-true (call whole (enqueuing e now) x.dest).refusal 0 c)))
    (λ c. rw c (h x.name))

pub letter-went : (hops now k : ℕ) (e : Entry) (s : Station) → Went now e s (letter_place hops now k e s) (letter_gets hops now k e s) (storing hops now k e s).station
unfolding letter_place letter_gets storing
letter-went zero now k e s = lost
letter-went (suc hops) now k e s = stored-went (λ i u. each (storing hops now i) (e ∷ []) u) (λ i. letter_gets hops now i e s) (λ i. letter_place hops now i e s) now k e s (λ i. letter-went hops now i e s) (slot_of k s) refl

-- a sound station is sound after it, and what is kept is at one of the eight places
pub went-facts : (now : ℕ) (e : Entry) (s : Station) (p : ℕ) (g : List Gets) (u : Station) → Went now e s p g u → Facts s → Facts u
went-facts now e s p g u lost f = losing-facts s f
went-facts now e s p g u (kept k x q h) f = stored-facts k x e now s q h f

pub kept_low : (k : ℕ) (x : StationSlot) (s : Station) → Facts s → slot_of k s ≡ some x → k < 8
kept_low k x s f q = omega (arith, f.eight, place_in k s x q)

-- it takes no number, and gives none back
went-next : (now : ℕ) (e : Entry) (s : Station) (p : ℕ) (g : List Gets) (u : Station) → Went now e s p g u → u.next ≡ s.next
went-next now e s p g u lost = refl
went-next now e s p g u (kept k x q h) = refl

pub running-next : (hops now k : ℕ) (es : List Entry) (s : Station) → (running hops now k es s).station.next ≡ s.next
unfolding running
running-next hops now k [] s = refl
running-next hops now k (e ∷ es) s = running-next hops now k es (storing hops now k e s).station ∙ went-next now e s _ _ _ (letter-went hops now k e s)
