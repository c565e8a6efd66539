-- Places of a station: what stands at one after another is changed, and what a sound station's numbers are. Assumes nothing.
use Prim.Native.Nat.{ℕ, zero, suc, ◌+◌, ◌≤◌, ◌<◌, ◌^◌, suc-le-suc}
use native.Mathlib.Omega.{arith}
use native.Mathlib.Nat.{le_of_suc-le-suc}
use mathlib.Core.Path.{◌≡◌, refl, sym, ◌∙◌, ap, subst}
use mathlib.Core.Logic.{◌≢◌}
use mathlib.Core.Bool.{Bool, true}
use mathlib.Core.List.{List, [], ◌∷◌}
use mathlib.Core.Option.{Option, none, some}
use lib.Dec.{leb, ltb}
use lib.ListN.{length, get_or, set, length-set}
use lib.Seq.{get_or-set_same, get_or-set_other}
use borrow.Author.Tests.{leb-true, le-leb, ltb-true, lt-ltb, eqb-true, eq-eqb}
use Rattle.definition.specs.Base.{whether◌then◌else◌, all}
use Rattle.definition.specs.Calls.{sound}
use Rattle.definition.specs.Types.{Dest}
use Rattle.definition.proofs.Tests.{by-test, and_left, and_right, and_both}
use Rattle.definition.proofs.Lists.{none-some}
use Rattle.definition.proofs.Thin.{every-all, all-every}
use Rattle.definition_station.specs.Types.{StationSlot, with_dest, Station, slot_of, put_slot, put_dest, took_number, losing_letter}
use Rattle.definition_station.specs.Station.{slot_sound, station_tests, station_sound}

-- ---- lists

module _ {A : Type 0} (p : A → Bool) where
  pub all_set : (l : List A) (k : ℕ) (a : A) → all p l ≡ true → p a ≡ true → all p (set l k a) ≡ true
  all_set [] k a h q = refl
  all_set (b ∷ l) zero a h q = and_both (p a) _ q (and_right (p b) (all p l) h)
  all_set (b ∷ l) (suc k) a h q = and_both (p b) _ (and_left (p b) (all p l) h) (all_set l k a (and_right (p b) (all p l) h) q)

  pub all_get_d : (l : List A) (k : ℕ) (d : A) → all p l ≡ true → p d ≡ true → p (get_or l k d) ≡ true
  all_get_d [] k d h q = q
  all_get_d (b ∷ l) zero d h q = and_left (p b) (all p l) h
  all_get_d (b ∷ l) (suc k) d h q = all_get_d l k d (and_right (p b) (all p l) h) q

module _ {A : Type 0} where
  -- what stands at a place, put there again
  pub set_get_d : (l : List A) (k : ℕ) (d a : A) → get_or l k d ≡ a → k < length l → set l k a ≡ l
  set_get_d [] k d a e h = refl
  set_get_d (b ∷ l) zero d a e h = ap (λ (x : A). x ∷ l) (sym e)
  set_get_d (b ∷ l) (suc k) d a e h = ap (λ (x : List A). b ∷ x) (set_get_d l k d a e (le_of_suc-le-suc h))

  -- what is found stands within the list
  pub get_d-in : (l : List (Option A)) (k : ℕ) (a : A) → get_or l k none ≡ some a → k < length l
  get_d-in [] k a e = absurd (none-some e)
  get_d-in (b ∷ l) zero a e = omega arith
  get_d-in (b ∷ l) (suc k) a e = suc-le-suc (get_d-in l k a e)

-- ---- places

pub place_in : (k : ℕ) (s : Station) (x : StationSlot) → slot_of k s ≡ some x → k < length s.slots
place_in k s x e = get_d-in s.slots k x e

pub place-put : (k : ℕ) (s : Station) (x : StationSlot) (o : Option StationSlot) → slot_of k s ≡ some x → slot_of k (put_slot k o s) ≡ o
place-put k s x o e = get_or-set_same s.slots k o none (place_in k s x e)

pub place_other : (k j : ℕ) (s : Station) (o : Option StationSlot) → j ≢ k → slot_of j (put_slot k o s) ≡ slot_of j s
place_other k j s o h = get_or-set_other s.slots k j o none h

-- a destination put back as it was
pub put_same : (k : ℕ) (s : Station) (x : StationSlot) → slot_of k s ≡ some x → put_dest k x x.dest s ≡ s
put_same k s x e = let q = set_get_d s.slots k none (some x) e (place_in k s x e) in λ i. record { slots = q i; next = s.next; lost = s.lost }

-- ---- a sound station

pub record Facts (s : Station) : Type 0 where
  pub eight : length s.slots ≡ 8
  pub slots : all slot_sound s.slots ≡ true
  pub low : 1 ≤ s.next
  pub high : s.next ≤ 2 ^ 63
  pub few : s.lost < 2 ^ 63

pub facts : (s : Station) → station_sound s ≡ true → Facts s
unfolding station_sound
facts s e =
    let f = every-all (station_tests s) e in
    record { eight = eqb-true (length s.slots) 8 f.0; slots = f.1.0; low = leb-true 1 s.next f.1.1.0; high = leb-true s.next (2 ^ 63) f.1.1.1.0; few = ltb-true s.lost (2 ^ 63) f.1.1.1.1.0 }

pub from-facts : (s : Station) → Facts s → station_sound s ≡ true
unfolding station_sound
from-facts s f = all-every (station_tests s) (eq-eqb (length s.slots) 8 f.eight, (f.slots, (le-leb 1 s.next f.low, (le-leb s.next (2 ^ 63) f.high, (lt-ltb s.lost (2 ^ 63) f.few, tt)))))

-- what stands at an open place of it
pub slot-sound : (k : ℕ) (s : Station) (x : StationSlot) → Facts s → slot_of k s ≡ some x → (sound x.dest ≡ true) × (leb x.name 8 ≡ true)
slot-sound k s x f e =
    let h : slot_sound (some x) ≡ true = subst (λ (o : Option StationSlot). slot_sound o ≡ true) e (all_get_d slot_sound s.slots k none f.slots refl) in
    (and_left (sound x.dest) _ h, and_right (sound x.dest) _ h)

pub put-facts : (k : ℕ) (o : Option StationSlot) (s : Station) → Facts s → slot_sound o ≡ true → Facts (put_slot k o s)
put-facts k o s f h = record { eight = length-set s.slots k o ∙ f.eight; slots = all_set slot_sound s.slots k o f.slots h; low = f.low; high = f.high; few = f.few }

-- a sound destination in the place of one
pub dest-facts : (k : ℕ) (x : StationSlot) (t : Dest) (s : Station) → Facts s → slot_of k s ≡ some x → sound t ≡ true → Facts (put_dest k x t s)
dest-facts k x t s f e h = put-facts k (some (with_dest t x)) s f (and_both (sound t) _ h (slot-sound k s x f e).1)

pub took-facts : (s : Station) → Facts s → s.next < 2 ^ 63 → Facts (took_number s)
took-facts s f h = record { eight = f.eight; slots = f.slots; low = omega (arith, f.low); high = omega (arith, h); few = f.few }

lost-few : (n : ℕ) → n < 2 ^ 63 → (whether ltb (n + 1) (2 ^ 63) then n + 1 else n) < 2 ^ 63
lost-few n h = by-test (ltb (n + 1) (2 ^ 63)) (λ c. rw c (ltb-true (n + 1) (2 ^ 63) c)) (λ c. rw c h)

pub losing-facts : (s : Station) → Facts s → Facts (losing_letter s)
losing-facts s f = record { eight = f.eight; slots = f.slots; low = f.low; high = f.high; few = lost-few s.lost f.few }
