-- Storing one dead letter and running some: the two call each other, and what each step keeps, all keep. Assumes nothing.
use Prim.Native.Nat.{ℕ, zero, suc, ◌<◌, ◌^◌}
use mathlib.Core.Path.{◌≡◌, refl}
use mathlib.Core.List.{List, [], ◌∷◌, ◌++◌}
use mathlib.Core.Option.{Option, none, some}
use lib.Dec.{ltb, eqb}
use borrow.Author.Tests.{ltb-true, eqb-true}
use Rattle.definition.specs.Types.{Entry}
use Rattle.definition.specs.Calls.{enqueuing, call}
use Rattle.definition.proofs.Tests.{by-if, by-test}
use Rattle.definition_station.specs.Types.{StationSlot, Station, slot_of, put_dest, took_number, losing_letter, StationEvent, sent_at, RanLetters}
use Rattle.definition_station.specs.Letters.{number_letters, whole, each, stored_at, storing, running}

-- ---- the two call each other

pub storing-passes : (hops now k : ℕ) (e : Entry) (s : Station) → storing (suc hops) now k e s ≡ stored_at (λ j u. running hops now j (e ∷ []) u) now k e s (slot_of k s)
unfolding storing running
storing-passes hops now k e s = refl

pub running-stores : (hops now k : ℕ) (e : Entry) (es : List Entry) (s : Station) →
    running hops now k (e ∷ es) s ≡ (let here = storing hops now k e s in let later = running hops now k es here.station in record { station = later.station; events = here.events ++ later.events })
unfolding running
running-stores hops now k e es s = refl

-- ---- what they keep

module _ (R : Station → Station → List StationEvent → Type 0)
    (rests : (s : Station) → R s s [])
    (thens : (s u v : Station) (a b : List StationEvent) → R s u a → R u v b → R s v (a ++ b))
    (loses : (s : Station) → R s (losing_letter s) [])
    (takes : (s : Station) → s.next < 2 ^ 63 → R s (took_number s) [])
    (stores : (k : ℕ) (x : StationSlot) (e : Entry) (now : ℕ) (s : Station) → slot_of k s ≡ some x → (call whole (enqueuing e now) x.dest).refusal ≡ 0 →
    R s (put_dest k x (call whole (enqueuing e now) x.dest).dest s) (sent_at k (call whole (enqueuing e now) x.dest).events)) where
  abbrev Keeps : Station → RanLetters → Type 0
  Keeps s r = R s r.station r.events

  each_keeps : (store : Entry → Station → RanLetters) → ((e : Entry) (s : Station) → Keeps s (store e s)) → (es : List Entry) (s : Station) → Keeps s (each store es s)
  each_keeps store h [] s = rests s
  each_keeps store h (e ∷ es) s = thens s (store e s).station (each store es (store e s).station).station (store e s).events (each store es (store e s).station).events (h e s) (each_keeps store h es (store e s).station)

  stored-keeps : (on : ℕ → Station → RanLetters) (now k : ℕ) (e : Entry) (s : Station) → ((j : ℕ) → Keeps s (on j s)) → (o : Option StationSlot) → slot_of k s ≡ o → Keeps s (stored_at on now k e s o)
  unfolding stored_at
  stored-keeps on now k e s h none q = loses s
  stored-keeps on now k e s h (some x) q = by-if (Keeps s) (eqb (call whole (enqueuing e now) x.dest).refusal 0) _ _
      (λ c. stores k x e now s q (eqb-true (call whole (enqueuing e now) x.dest).refusal 0 c))
      (λ c. h x.name)

  storing-keeps : (hops now k : ℕ) (e : Entry) (s : Station) → Keeps s (storing hops now k e s)
  unfolding storing
  storing-keeps zero now k e s = loses s
  storing-keeps (suc hops) now k e s = stored-keeps (λ j u. each (storing hops now j) (e ∷ []) u) now k e s (λ j. each_keeps (storing hops now j) (storing-keeps hops now j) (e ∷ []) s) (slot_of k s) refl

  pub running-keeps : (hops now k : ℕ) (es : List Entry) (s : Station) → Keeps s (running hops now k es s)
  unfolding running
  running-keeps hops now k es s = each_keeps (storing hops now k) (storing-keeps hops now k) es s

  pub number-keeps : (es : List Entry) (s : Station) → R s (number_letters es s).station []
  unfolding number_letters
  number-keeps [] s = rests s
  number-keeps (e ∷ es) s = by-test (ltb s.next (2 ^ 63))
      (λ c. rw c (thens s (took_number s) (number_letters es (took_number s)).station [] [] (takes s (ltb-true s.next (2 ^ 63) c)) (number-keeps es (took_number s))))
      (λ c. rw c (thens s (losing_letter s) (number_letters es (losing_letter s)).station [] [] (loses s) (number-keeps es (losing_letter s))))
