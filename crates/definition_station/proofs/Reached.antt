-- A station as accepted calls left it is sound, and each of its open destinations is one that document 01's accepted calls leave. Assumes nothing.
use Prim.Native.Nat.{ℕ, zero, suc, ◌≤◌, ◌^◌}
use native.Mathlib.Omega.{arith}
use mathlib.Core.Path.{◌≡◌, refl, sym, ◌∙◌, ap, subst, subst⁻¹}
use mathlib.Core.Bool.{Bool, true, false, ◌||◌}
use mathlib.Core.List.{List, [], ◌∷◌}
use mathlib.Core.Option.{Option, none, some}
use lib.Dec.{leb, ltb, eqb}
use lib.IntN.{ℤ, pos, negsuc}
use lib.ListN.{get_or, set}
use borrow.Author.Tests.{eqb-true, eqb-false, eq-eqb, ltb-true, ne_eqb}
use mir.Syntax.{w64}
use mir.Val.{SFits, bool_byte}
use Rattle.words.specs.Words.{signed, unsigned}
use Rattle.words.proofs.Words.{signed-unsigned}
use Rattle.definition.specs.Types.{Entry, Dest}
use Rattle.definition.specs.Calls.{signed_within, entry_ok, Call, enqueuing, discarding, missing, arguments_ok, Result, call}
use Rattle.definition.specs.Words.{entry_in, provided, read, ranged_call, decode, open_words, opened_by, call_step, step}
use Rattle.definition.specs.Orders.{Reached, opening, calling}
use Rattle.definition.proofs.Tests.{by-if, by-test, if-true, and_left, and_right}
use Rattle.definition.proofs.Lists.{none-some, some_inj}
use Rattle.definition.proofs.Made.{step_call, call-accepted}
use Rattle.definition.proofs.Kept.{accepted}
use Rattle.definition_station.specs.Types.{StationSlot, with_dest, Station, slot_of, put_slot, put_dest, took_number, StationEvent, sent_at}
use Rattle.definition_station.specs.Letters.{number_letters, whole, running, hops_max}
use Rattle.definition_station.specs.Station as Station
use Rattle.definition_station.specs.Station.{StationLengths, station_sound, StationResult, opening_words, opened_slot, carried, called, station_step, station_uncoded}
use Rattle.definition_station.specs.Orders.{cleared_by, starting, going, discards, misses}
use Rattle.definition_station.specs.Claims.{ReachedStationSound, PlacesReached}
use Rattle.definition_station.proofs.Places.{place_other}
use Rattle.definition_station.proofs.Letters as Letters
use Rattle.definition_station.proofs.Uncoded.{counted, uncoded-leaves-sound}
use Rattle.definition_station.proofs.Sound.{passed, opened, open-left, open-keeps-sound, started-sound, station-leaves-sound}

-- ---- the words of a letter's enqueue

abbrev pub letter_words : Entry → ℕ → List ℕ
letter_words e now = e.seq ∷ unsigned e.expiration ∷ bool_byte e.persistent ∷ e.producer ∷ e.match_word ∷ unsigned e.redelivery ∷ now ∷ e.size ∷ []

fits : (n : ℕ) (z : ℤ) → n ≤ 2 ^ 63 → signed_within n z ≡ true → SFits w64 z
fits n (pos k) m h = record { sfits = omega (arith, ltb-true k n h) }
fits n (negsuc k) m h = record { sfits = omega (arith, ltb-true k n h) }

mark : (b : Bool) → (leb (bool_byte b) 1 ≡ true) × (eqb (bool_byte b) 1 ≡ b)
mark true = (refl, refl)
mark false = (refl, refl)

same-entry : (e : Entry) (now : ℕ) → entry_ok e ≡ true → entry_in (letter_words e now) ≡ e
same-entry e now h =
    let h1 = and_right (leb 1 e.seq) _ h in
    let h2 = and_right (ltb e.seq (2 ^ 63)) _ h1 in
    let h3 = and_right (signed_within (2 ^ 63) e.expiration) _ h2 in
    let h4 = and_right (ltb e.producer (2 ^ 64)) _ h3 in
    let h5 = and_right (ltb e.match_word (2 ^ 64)) _ h4 in
    let x : signed (unsigned e.expiration) ≡ e.expiration = signed-unsigned e.expiration (fits (2 ^ 63) e.expiration (omega arith) (and_left _ _ h2)) in
    let r : signed (unsigned e.redelivery) ≡ e.redelivery = signed-unsigned e.redelivery (fits (2 ^ 31) e.redelivery (omega arith) (and_left _ _ h5)) in
    let p : eqb (bool_byte e.persistent) 1 ≡ e.persistent = (mark e.persistent).1 in
    λ i. record { seq = e.seq; expiration = x i; persistent = p i; producer = e.producer; match_word = e.match_word; redelivery = r i; size = e.size }

letter-decodes : (e : Entry) (now : ℕ) → arguments_ok (enqueuing e now) ≡ true → entry_ok e ≡ true → decode 1 (letter_words e now) ≡ some (enqueuing e now)
unfolding decode read provided
letter-decodes e now a h =
    rw (mark e.persistent).0 (ap (λ (d : Entry). ranged_call (some (enqueuing d now))) (same-entry e now h) ∙ if-true (some (enqueuing e now)) none a)

-- a letter that is stored: the destination's own enqueue
args-entry : (e : Entry) (now : ℕ) → arguments_ok (enqueuing e now) ≡ true → entry_ok e ≡ true
unfolding arguments_ok
args-entry e now a = and_left (entry_ok e) _ a

pub stored-decodes : (e : Entry) (now : ℕ) (t : Dest) → (call whole (enqueuing e now) t).refusal ≡ 0 → decode 1 (letter_words e now) ≡ some (enqueuing e now)
stored-decodes e now t h =
    let a = (accepted whole (enqueuing e now) t (call-accepted whole (enqueuing e now) t h)).arguments in
    letter-decodes e now a (args-entry e now a)

stored-step : (e : Entry) (now : ℕ) (t : Dest) → (call whole (enqueuing e now) t).refusal ≡ 0 → step whole 1 (letter_words e now) t ≡ call whole (enqueuing e now) t
unfolding call_step
stored-step e now t h = step_call whole 1 (letter_words e now) t (omega arith) ∙ ap (call_step whole t) (stored-decodes e now t h)

stored-reached : (b : Bool) (e : Entry) (now : ℕ) (t : Dest) → Reached b t → (call whole (enqueuing e now) t).refusal ≡ 0 → Reached b (call whole (enqueuing e now) t).dest
stored-reached b e now t r h =
    let q = stored-step e now t h in
    subst (λ (x : Result). Reached b x.dest) q (calling whole 1 (letter_words e now) (omega arith) r (ap (λ (x : Result). x.refusal) q ∙ h))

-- ---- each place

-- each open destination is reached
abbrev Each : (ℕ → Bool) → Station → Type 0
Each b s = (j : ℕ) (x : StationSlot) → slot_of j s ≡ some x → Reached (b j) x.dest

pub put-found : (l : List (Option StationSlot)) (k : ℕ) (o : Option StationSlot) (y : StationSlot) → get_or (set l k o) k none ≡ some y → o ≡ some y
put-found [] k o y e = absurd (none-some e)
put-found (p ∷ l) zero o y e = e
put-found (p ∷ l) (suc k) o y e = put-found l k o y e

-- one place changed
put-each : (b : ℕ → Bool) (k : ℕ) (x : StationSlot) (s : Station) → ((j : ℕ) → eqb j k ≡ false → (y : StationSlot) → slot_of j s ≡ some y → Reached (b j) y.dest) → Reached (b k) x.dest → Each b (put_slot k (some x) s)
put-each b k x s others h j y e = by-test (eqb j k)
    (λ c.
    let q : j ≡ k = eqb-true j k c in
    let f : some x ≡ some y = put-found s.slots k (some x) y (ap (λ (n : ℕ). slot_of n (put_slot k (some x) s)) (sym q) ∙ e) in
    subst⁻¹ (λ (n : ℕ). Reached (b n) y.dest) q (subst (λ (z : StationSlot). Reached (b k) z.dest) (some_inj f) h))
    (λ c. others j c y (sym (place_other k j s (some x) (eqb-false j k c)) ∙ e))

module _ (b : ℕ → Bool) where
  keeps : Station → Station → List StationEvent → Type 0
  keeps s u es = Each b s → Each b u

  stores : (k : ℕ) (x : StationSlot) (e : Entry) (now : ℕ) (s : Station) → slot_of k s ≡ some x → (call whole (enqueuing e now) x.dest).refusal ≡ 0 →
      keeps s (put_dest k x (call whole (enqueuing e now) x.dest).dest s) (sent_at k (call whole (enqueuing e now) x.dest).events)
  unfolding keeps
  stores k x e now s q h r = put-each b k (with_dest (call whole (enqueuing e now) x.dest).dest x) s (λ j c y. r j y) (stored-reached (b k) e now x.dest (r k x q) h)

  running-reached : (hops now k : ℕ) (es : List Entry) (s : Station) → Each b s → Each b (running hops now k es s).station
  unfolding keeps
  running-reached = Letters.running-keeps keeps (λ s r. r) (λ s u v x y p q r. q (p r)) (λ s r. r) (λ s h r. r) stores

  number-reached : (es : List Entry) (s : Station) → Each b s → Each b (number_letters es s).station
  unfolding keeps
  number-reached = Letters.number-keeps keeps (λ s r. r) (λ s u v x y p q r. q (p r)) (λ s r. r) (λ s h r. r) stores

-- ---- each call

-- whether a clear is among the calls: of the place, and of another
cleared-here : (k code : ℕ) (b : ℕ → Bool) → eqb code 0 ≡ false → cleared_by k code b k ≡ (eqb code 10 || b k)
cleared-here k code b z = rw (eq-eqb k k refl, z)

cleared-open : (k : ℕ) (b : ℕ → Bool) → cleared_by k 0 b k ≡ false
cleared-open k b = rw (eq-eqb k k refl)

cleared-other : (j k code : ℕ) (b : ℕ → Bool) → eqb j k ≡ false → cleared_by k code b j ≡ b j
cleared-other j k code b c = rw c

others : (b : ℕ → Bool) (k code : ℕ) (s : Station) → Each b s → (j : ℕ) → eqb j k ≡ false → (y : StationSlot) → slot_of j s ≡ some y → Reached (cleared_by k code b j) y.dest
others b k code s r j c y e = subst⁻¹ (λ (v : Bool). Reached v y.dest) (cleared-other j k code b c) (r j y e)

opened-reached : (ws : List ℕ) → open_words ws ≡ true → Reached false (opened_by ws)
opened-reached ws h =
    let q = open-left ws (opened_by ws) h in
    subst (λ (r : Result). Reached false r.dest) q (opening whole ws (opened_by ws) (ap (λ (r : Result). r.refusal) q))

open-each : (b : ℕ → Bool) (lent : StationLengths) (k : ℕ) (ws : List ℕ) (s : Station) → (station_step lent k 0 ws s).refusal ≡ 0 → Each b s → Each (cleared_by k 0 b) (station_step lent k 0 ws s).station
open-each b lent k ws s h r =
    let o = opened lent k ws s h in
    let d : Reached (cleared_by k 0 b k) (opened_by (opening_words ws)) = subst⁻¹ (λ (v : Bool). Reached v (opened_by (opening_words ws))) (cleared-open k b) (opened-reached (opening_words ws) (and_left _ _ o.0)) in
    subst⁻¹ (λ (x : StationResult). Each (cleared_by k 0 b) x.station) o.1 (put-each (cleared_by k 0 b) k (opened_slot ws) s (others b k 0 s r) d)

call-each : (b : ℕ → Bool) (lent : StationLengths) (k code : ℕ) (ws : List ℕ) (s : Station) → 1 ≤ code → (station_step lent k code ws s).refusal ≡ 0 → Each b s → Each (cleared_by k code b) (station_step lent k code ws s).station
unfolding Station.accepted_at
call-each b lent k code ws s n h r =
    let p = passed lent k code ws s n h in
    let t : Dest = (step whole code (carried code ws s) p.slot.dest).dest in
    let z : eqb code 0 ≡ false = ne_eqb code 0 (λ e. omega (arith, n)) in
    let d : Reached (cleared_by k code b k) (step whole code (carried code ws s) p.slot.dest).dest = subst⁻¹ (λ (v : Bool). Reached v (step whole code (carried code ws s) p.slot.dest).dest) (cleared-here k code b z) (calling whole code (carried code ws s) n (r k p.slot p.there) p.own) in
    let u : Each (cleared_by k code b) (put_dest k p.slot t s) = put-each (cleared_by k code b) k (with_dest t p.slot) s (others b k code s r) d in
    let v : Each (cleared_by k code b) (called k code p.slot t s) = by-if (Each (cleared_by k code b)) (eqb code 1) (took_number (put_dest k p.slot t s)) (put_dest k p.slot t s) (λ c. u) (λ c. u) in
    subst⁻¹ (λ (x : StationResult). Each (cleared_by k code b) x.station) p.result
    (running-reached (cleared_by k code b) hops_max _ p.slot.name _ _ (number-reached (cleared_by k code b) _ _ v))

uncoded-each : (b : ℕ → Bool) (lent : StationLengths) (k : ℕ) (c : Call) (s : Station) → (station_uncoded lent k c s).refusal ≡ 0 → Each b s → ((t : Dest) → Reached (b k) t → (call whole c t).refusal ≡ 0 → Reached (b k) (call whole c t).dest) → Each (cleared_by k 1 b) (station_uncoded lent k c s).station
uncoded-each b lent k c s h r g =
    let p = counted lent k c s h in
    let d : Reached (cleared_by k 1 b k) (call whole c p.slot.dest).dest = subst⁻¹ (λ (v : Bool). Reached v (call whole c p.slot.dest).dest) (cleared-here k 1 b refl) (g p.slot.dest (r k p.slot p.there) p.own) in
    subst⁻¹ (Each (cleared_by k 1 b)) p.left (put-each (cleared_by k 1 b) k (with_dest (call whole c p.slot.dest).dest p.slot) s (others b k 1 s r) d)

pub places-reached : PlacesReached
places-reached b s (starting lent u h) = λ j x e. absurd (none-some (sym ((started-sound lent u h).none_open j) ∙ e))
places-reached b s (going {cleared = c} {s = u} lent k code ws r h) = by-test (eqb code 0)
    (λ z. opens (eqb-true code 0 z) (places-reached c u r) h)
    (λ z. call-each c lent k code ws u (omega (arith, eqb-false code 0 z)) h (places-reached c u r))
  where
    opens : code ≡ 0 → Each c u → (station_step lent k code ws u).refusal ≡ 0 → Each (cleared_by k code c) (station_step lent k code ws u).station
    opens z e = subst⁻¹ (λ (n : ℕ). (station_step lent k n ws u).refusal ≡ 0 → Each (cleared_by k n c) (station_step lent k n ws u).station) z (λ g. open-each c lent k ws u g e)
places-reached b s (discards {cleared = c} {s = u} lent k r h) = uncoded-each c lent k discarding u h (places-reached c u r) (λ t q e. Rattle.definition.specs.Orders.discards whole q e)
places-reached b s (misses {cleared = c} {s = u} lent k r h) = uncoded-each c lent k missing u h (places-reached c u r) (λ t q e. Rattle.definition.specs.Orders.misses whole q e)

pub reached-station-sound : ReachedStationSound
reached-station-sound b s (starting lent u h) = (started-sound lent u h).leaves-sound
reached-station-sound b s (going {cleared = c} {s = u} lent k code ws r h) = by-test (eqb code 0)
    (λ z. opens (eqb-true code 0 z) (reached-station-sound c u r) h)
    (λ z. station-leaves-sound lent k code ws u (omega (arith, eqb-false code 0 z)) h)
  where
    opens : code ≡ 0 → station_sound u ≡ true → (station_step lent k code ws u).refusal ≡ 0 → station_sound (station_step lent k code ws u).station ≡ true
    opens z y = subst⁻¹ (λ (n : ℕ). (station_step lent k n ws u).refusal ≡ 0 → station_sound (station_step lent k n ws u).station ≡ true) z (λ g. open-keeps-sound lent k ws u y g)
reached-station-sound b s (discards {s = u} lent k r h) = uncoded-leaves-sound lent k discarding u h
reached-station-sound b s (misses {s = u} lent k r h) = uncoded-leaves-sound lent k missing u h
