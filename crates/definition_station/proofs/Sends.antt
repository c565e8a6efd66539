-- No station call sends more than 4,872 events: 512 `x`, and for each of eight destinations at most 512 rows in flight and 32 finished browsers at
-- the end of the call. Assumes nothing.
use Prim.Native.Nat.{ℕ, zero, suc, ◌+◌, ◌*◌, ◌≤◌, ◌<◌}
use native.Mathlib.Omega.{arith}
use native.Mathlib.Nat.{le_of_suc-le-suc}
use mathlib.Core.Path.{◌≡◌, refl, sym, ◌∙◌, ap, subst⁻¹}
use mathlib.Core.Bool.{true, ◌||◌}
use mathlib.Core.List.{List, [], ◌∷◌, ◌++◌}
use mathlib.Core.Option.{Option, none, some}
use lib.Dec.{eqb}
use lib.ListN.{length, get_or, set, length-append, length-map}
use borrow.Author.Tests.{eqb-true, eqb-false}
use Rattle.definition.specs.Base.{all, empty}
use Rattle.definition.specs.Types.{queue, Id, Entry, Sub, Dest, Event}
use Rattle.definition.specs.Consumer.{Ack, ack_sub}
use Rattle.definition.specs.Destination.{due, Out, sub_of, count, put_sub, touch_idle, reserved_of, ack_reserved, ack_at, ack, is_id}
use Rattle.definition.specs.Calls.{sound, acknowledge, ask, Call, enqueuing, asking, perform, Result, call}
use Rattle.definition.specs.Words.{decode, call_step, step}
use Rattle.definition.proofs.Tests.{by-if, by-test, and_left, and_right}
use Rattle.definition.proofs.Made.{step_call, call-accepted}
use Rattle.definition.proofs.Kept.{accepted}
use Rattle.definition.proofs.Claims.{step-sends}
use Rattle.definition.proofs.Room.{counted, found-flights, ack-events}
use Rattle.definition.proofs.Sends as Own
use Rattle.definition_station.specs.Types.{StationSlot, with_dest, Station, slot_of, put_dest, took_number, losing_letter, StationEvent, sent_at}
use Rattle.definition_station.specs.Letters.{rejected, number_letters, whole, running, hops_max}
use Rattle.definition_station.specs.Station as Station
use Rattle.definition_station.specs.Station.{slot_sound, StationResult, carried, called, station_step}
use Rattle.definition_station.specs.Claims.{StationSends}
use Rattle.definition_station.proofs.Places.{Facts, facts, place_in, place-put}
use Rattle.definition_station.proofs.Letters as Letters
use Rattle.definition_station.proofs.Sound.{passed, opened, called-facts, number-facts, running-facts}
use Rattle.definition_station.proofs.Refusals.{station-kept}
use Rattle.definition_station.proofs.Grow.{weights, dispatch-grows, enqueuing-grows, sound-weights}
use Rattle.definition_station.proofs.Rejected.{by-rejected}

-- ---- what a station has in flight

abbrev slot_weight : Option StationSlot → ℕ
slot_weight none = 0
slot_weight (some x) = weights x.dest.subs

abbrev loads : List (Option StationSlot) → ℕ
loads [] = 0
loads (o ∷ l) = slot_weight o + loads l

loads-set : (l : List (Option StationSlot)) (k : ℕ) (o : Option StationSlot) → k < length l → loads (set l k o) + slot_weight (get_or l k none) ≡ loads l + slot_weight o
loads-set [] k o h = absurd (omega (arith, h))
loads-set (p ∷ l) zero o h = omega arith
loads-set (p ∷ l) (suc k) o h = omega (arith, loads-set l k o (le_of_suc-le-suc h))

loads-at : (l : List (Option StationSlot)) (k : ℕ) → slot_weight (get_or l k none) ≤ loads l
loads-at [] k = omega arith
loads-at (p ∷ l) zero = omega arith
loads-at (p ∷ l) (suc k) = omega (arith, loads-at l k)

few : (o : Option StationSlot) → slot_sound o ≡ true → slot_weight o ≤ 544
few none h = omega arith
few (some x) h = sound-weights x.dest (and_left (sound x.dest) _ h)

loads-few : (l : List (Option StationSlot)) → all slot_sound l ≡ true → loads l ≤ 544 * length l
loads-few [] h = omega arith
loads-few (o ∷ l) h = omega (arith, few o (and_left (slot_sound o) _ h), loads-few l (and_right (slot_sound o) _ h))

-- ---- dead letters: what is sent is more in flight

grown : Station → Station → List StationEvent → Type 0
grown s u es = length es + loads s.slots ≤ loads u.slots

sent-length : (k : ℕ) (es : List Event) → length (sent_at k es) ≡ length es
sent-length k es = length-map es (λ e. record { place = k; event = e })

stored_grows : (k : ℕ) (x : StationSlot) (e : Entry) (now : ℕ) (s : Station) → slot_of k s ≡ some x → (call whole (enqueuing e now) x.dest).refusal ≡ 0 →
    grown s (put_dest k x (call whole (enqueuing e now) x.dest).dest s) (sent_at k (call whole (enqueuing e now) x.dest).events)
unfolding grown
stored_grows k x e now s q h =
    omega (
      arith,
      sent-length k (call whole (enqueuing e now) x.dest).events,
      enqueuing-grows whole e now x.dest,
      loads-set s.slots k (some (with_dest (call whole (enqueuing e now) x.dest).dest x)) (place_in k s x q),
      ap slot_weight q,
    )

grown-then : (s u v : Station) (a b : List StationEvent) → grown s u a → grown u v b → grown s v (a ++ b)
unfolding grown
grown-then s u v a b p q = omega (arith, p, q, length-append a b)

grown-same : (s u : Station) → u.slots ≡ s.slots → grown s u []
unfolding grown
grown-same s u e = omega (arith, ap loads e)

running-grows : (hops now k : ℕ) (es : List Entry) (s : Station) → grown s (running hops now k es s).station (running hops now k es s).events
running-grows = Letters.running-keeps grown (λ s. grown-same s s refl) grown-then (λ s. grown-same s (losing_letter s) refl) (λ s h. grown-same s (took_number s) refl) stored_grows

number-grows : (es : List Entry) (s : Station) → grown s (number_letters es s).station []
number-grows = Letters.number-keeps grown (λ s. grown-same s s refl) grown-then (λ s. grown-same s (losing_letter s) refl) (λ s h. grown-same s (took_number s) refl) stored_grows

-- ---- an acknowledgement: at most 512 `x`, and then what a dispatch sends

absent-ack : (now : ℕ) (i : Id) (a : Ack) (t : Dest) → sound t ≡ true → length (ack_at now i a t none).events ≤ 512 + weights (ack_at now i a t none).dest.subs
unfolding ack_at
absent-ack now i a t y = by-if (λ (r : Out). length r.events ≤ 512 + weights r.dest.subs) (a.transacted || empty (reserved_of i t)) _ _ (λ c. omega arith)
    (λ c. simp length-append (omega (arith, (counted t y).rows, (Own.took 0 0 queue 0 i a t a.last).events, dispatch-grows (touch_idle now (ack_reserved i a t a.last).dest).kind (due now (touch_idle now (ack_reserved i a t a.last).dest)) (touch_idle now (ack_reserved i a t a.last).dest))))

present-ack : (now : ℕ) (i : Id) (a : Ack) (s : Sub) (t : Dest) → sound t ≡ true → sub_of i t ≡ some s → length (ack_at now i a t (some s)).events ≤ 512 + weights (ack_at now i a t (some s)).dest.subs
unfolding ack_at
present-ack now i a s t y f =
    let u : Dest = touch_idle now (count (ack_sub a s).counts (put_sub i (ack_sub a s).sub t)) in
    simp length-append (omega (arith, (counted t y).rows, ack-events a s, found-flights (is_id i) t.subs s f, dispatch-grows u.kind (due now u) u))

ack-few : (now : ℕ) (i : Id) (a : Ack) (t : Dest) (o : Option Sub) → sound t ≡ true → sub_of i t ≡ o → length (ack_at now i a t o).events ≤ 512 + weights (ack_at now i a t o).dest.subs
ack-few now i a t none y f = absent-ack now i a t y
ack-few now i a t (some s) y f = present-ack now i a s t y f

ack-call : (now : ℕ) (i : Id) (a : Ack) (t : Dest) → (call whole (asking i (acknowledge a now)) t).refusal ≡ 0 → length (call whole (asking i (acknowledge a now)) t).events ≤ 512 + weights (call whole (asking i (acknowledge a now)) t).dest.subs
unfolding call perform ask ack
ack-call now i a t h =
    let z = call-accepted whole (asking i (acknowledge a now)) t h in
    rw z (ack-few now i a t (sub_of i t) (accepted whole (asking i (acknowledge a now)) t z).is-sound refl)

-- a call that makes a dead letter is one
makes : (t : Dest) (o : Option Call) → (call_step whole t o).refusal ≡ 0 → (rejected t o ≡ [] → ⊥) → length (call_step whole t o).events ≤ 512 + weights (call_step whole t o).dest.subs
unfolding call_step
makes t = by-rejected t (λ o l. (call_step whole t o).refusal ≡ 0 → (l ≡ [] → ⊥) → length (call_step whole t o).events ≤ 512 + weights (call_step whole t o).dest.subs) (λ o h n. absurd (n refl)) (λ i a now h n. ack-call now i a t h)

-- ---- the call

-- what the destination now has in flight is part of the station's
called-load : (k code : ℕ) (x : StationSlot) (t : Dest) (s : Station) → slot_of k s ≡ some x → weights t.subs ≤ loads (called k code x t s).slots
called-load k code x t s q =
    let e : weights t.subs ≤ loads (put_dest k x t s).slots = omega (arith, loads-at (put_dest k x t s).slots k, ap slot_weight (place-put k s x (some (with_dest t x)) q)) in
    by-if (λ (u : Station). weights t.subs ≤ loads u.slots) (eqb code 1) _ _ (λ c. e) (λ c. e)

-- what the call sends, the station after it, after the numbering and after the running
total : (k : ℕ) (es : List Event) (t : Dest) (u v w : Station) (a : List StationEvent) → length es ≤ 512 + weights t.subs → weights t.subs ≤ loads u.slots → grown u v [] → grown v w a → Facts w → length (sent_at k es ++ a) ≤ 4872
unfolding grown
total k es t u v w a m c n r g = omega (arith, m, c, n, r, length-append (sent_at k es) a, sent-length k es, loads-few w.slots g.slots, g.eight)

module _ (k code : ℕ) (ws : List ℕ) (x : StationSlot) (s : Station) (f : Facts s) (q : slot_of k s ≡ some x) (n : 1 ≤ code) (h : (step whole code (carried code ws s) x.dest).refusal ≡ 0) where
  abbrev own : Result
  own = step whole code (carried code ws s) x.dest

  -- by the dead letters: none, or some
  done-sends : (l : List Entry) (now : ℕ) → rejected x.dest (decode code (carried code ws s)) ≡ l → length (Station.accepted_at k code x own l now s).events ≤ 4872
  unfolding Station.accepted_at number_letters running
  done-sends [] now e = omega (arith, length-append (sent_at k own.events) [], sent-length k own.events, step-sends whole code (carried code ws s) x.dest)
  done-sends (a ∷ l) now e =
      let d : own ≡ call_step whole x.dest (decode code (carried code ws s)) = step_call whole code (carried code ws s) x.dest n in
      let m : length own.events ≤ 512 + weights own.dest.subs = subst⁻¹ (λ (r : Result). length r.events ≤ 512 + weights r.dest.subs) d (makes x.dest (decode code (carried code ws s)) (ap (λ (r : Result). r.refusal) (sym d) ∙ h) (λ z. clash (sym e ∙ z))) in
      total k own.events own.dest (called k code x own.dest s) (number_letters (a ∷ l) (called k code x own.dest s)).station _ _ m
      (called-load k code x own.dest s q)
      (number-grows (a ∷ l) (called k code x own.dest s))
      (running-grows hops_max now x.name (number_letters (a ∷ l) (called k code x own.dest s)).letters (number_letters (a ∷ l) (called k code x own.dest s)).station)
      (running-facts hops_max now x.name (number_letters (a ∷ l) (called k code x own.dest s)).letters (number_letters (a ∷ l) (called k code x own.dest s)).station (number-facts (a ∷ l) _ (called-facts k code ws x s f q h)))
    where
      clash : ◌≡◌ {A = List Entry} (a ∷ l) [] → ⊥
      clash z = let y : ◌≡◌ {A = ℕ} 0 1 = cc in omega arith

pub station-sends : StationSends
station-sends lent k code ws s = by-test (eqb (station_step lent k code ws s).refusal 0)
    (λ e. by-test (eqb code 0) (λ z. opens (eqb-true code 0 z) (eqb-true (station_step lent k code ws s).refusal 0 e)) (λ z. calls (omega (arith, eqb-false code 0 z)) (eqb-true (station_step lent k code ws s).refusal 0 e)))
    (λ e. omega (arith, ap (λ (r : StationResult). length r.events) (station-kept lent k code ws s (eqb-false (station_step lent k code ws s).refusal 0 e))))
  where
    opens : code ≡ 0 → (station_step lent k code ws s).refusal ≡ 0 → length (station_step lent k code ws s).events ≤ 4872
    opens z = subst⁻¹ (λ (c : ℕ). (station_step lent k c ws s).refusal ≡ 0 → length (station_step lent k c ws s).events ≤ 4872) z (λ e. omega (arith, ap (λ (r : StationResult). length r.events) (opened lent k ws s e).1))

    calls : 1 ≤ code → (station_step lent k code ws s).refusal ≡ 0 → length (station_step lent k code ws s).events ≤ 4872
    calls n e =
        let p = passed lent k code ws s n e in
        subst⁻¹ (λ (r : StationResult). length r.events ≤ 4872) p.result (done-sends k code ws p.slot s (facts s p.is-sound) p.there n p.own _ _ refl)
