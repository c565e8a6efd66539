-- Accepted station calls leave a sound station. Assumes nothing.
use Prim.Native.Nat.{ℕ, zero, suc, ◌≤◌, ◌<◌, ◌^◌}
use native.Mathlib.Omega.{arith}
use mathlib.Core.Path.{◌≡◌, refl, sym, ◌∙◌, ap, subst, subst⁻¹}
use mathlib.Core.Bool.{Bool, true, false, not, ◌&&◌, true≢false}
use mathlib.Core.List.{List, [], ◌∷◌}
use mathlib.Core.Option.{Option, none, some}
use lib.Dec.{leb, eqb}
use lib.ListN.{get_or, drop, replicate}
use lib.Seq.{set-set}
use borrow.Author.Tests.{eqb-true, ltb-true, ne_eqb}
use Rattle.definition.specs.Base.{whether◌then◌else◌}
use Rattle.definition.specs.Types.{Entry, Dest}
use Rattle.definition.specs.Calls.{Lengths, state_short, short, sound, enqueuing, arguments_ok, entry_ok, Result, call}
use Rattle.definition.specs.Words.{at, open_words, opened_by, provided, ranged_call, read, decode, entry_in, open_step, call_step, step}
use Rattle.definition.proofs.Tests.{by-if, by-test, if-true, if-false, and_left, and_right, and_both}
use Rattle.definition.proofs.Made.{none-refused}
use Rattle.definition.proofs.Claims.{step-leaves-sound, call-leaves-sound}
use Rattle.definition_station.specs.Types.{StationSlot, Station, started, slot_of, put_slot, put_dest, StationEvent}
use Rattle.definition_station.specs.Letters.{rejected, clock_of, number_letters, whole, running, hops_max}
use Rattle.definition_station.specs.Station.{StationLengths, station_short, slot_sound, station_sound, StationResult, station_refused, station_start, opening_words, opens_right, opened_slot, open_at, carried, carries_number, called, accepted_at, call_on, station_call_at, not_there, station_step}
use Rattle.definition_station.specs.Claims.{Starts, StartedSound, StationLeavesSound, OpenLeavesSound}
use Rattle.definition_station.proofs.Places.{Facts, facts, from-facts, put-facts, dest-facts, took-facts, losing-facts}
use Rattle.definition_station.proofs.Letters as Letters

-- ---- an accepted call, taken apart

-- what an accepted call other than open has passed
pub record Passed (lent : StationLengths) (k code : ℕ) (ws : List ℕ) (s : Station) : Type 0 where
  pub is-sound : station_sound s ≡ true
  pub roomy : station_short lent ≡ false
  pub slot : StationSlot
  pub there : slot_of k s ≡ some slot
  pub free : carries_number code ws ≡ false
  pub own : (step whole code (carried code ws s) slot.dest).refusal ≡ 0
  pub result : station_step lent k code ws s ≡ accepted_at k code slot (step whole code (carried code ws s) slot.dest) (rejected slot.dest (decode code (carried code ws s))) (clock_of (decode code (carried code ws s))) s

-- by its two cases, an if that is accepted was not the refusal
pub past : (b : Bool) (n : ℕ) (s : Station) (r : StationResult) → (whether b then station_refused n s else r).refusal ≡ 0 → 1 ≤ n → (b ≡ false) × ((whether b then station_refused n s else r) ≡ r) × (r.refusal ≡ 0)
past true n s r h m = absurd (omega (arith, h, m))
past false n s r h m = (refl, refl, h)

on-passed : (k code : ℕ) (ws : List ℕ) (s : Station) (x : StationSlot) → (call_on k code ws s x).refusal ≡ 0 →
    (carries_number code ws ≡ false) × ((step whole code (carried code ws s) x.dest).refusal ≡ 0) × (call_on k code ws s x ≡ accepted_at k code x (step whole code (carried code ws s) x.dest) (rejected x.dest (decode code (carried code ws s))) (clock_of (decode code (carried code ws s))) s)
unfolding call_on
on-passed k code ws s x h =
    let p = past (carries_number code ws) 3 s _ h (omega arith) in
    by-test (eqb (step whole code (carried code ws s) x.dest).refusal 0)
    (λ c. (p.0, eqb-true _ 0 c, p.1 ∙ if-true _ (station_refused (step whole code (carried code ws s) x.dest).refusal s) c))
    (λ c. absurd (true≢false (sym (ap (λ (n : ℕ). eqb n 0) (sym (ap (λ (r : StationResult). r.refusal) (if-false _ (station_refused (step whole code (carried code ws s) x.dest).refusal s) c)) ∙ p.2)) ∙ c)))

at-passed : (lent : StationLengths) (k code : ℕ) (ws : List ℕ) (s : Station) (o : Option StationSlot) → station_sound s ≡ true → station_short lent ≡ false → slot_of k s ≡ o → station_step lent k code ws s ≡ station_call_at k code ws s o → (station_call_at k code ws s o).refusal ≡ 0 → Passed lent k code ws s
unfolding station_call_at
at-passed lent k code ws s none y r q e h = absurd (omega (arith, h))
at-passed lent k code ws s (some x) y r q e h =
    let p = on-passed k code ws s x h in
    record { is-sound = y; roomy = r; slot = x; there = q; free = p.0; own = p.1; result = e ∙ p.2 }

pub passed : (lent : StationLengths) (k code : ℕ) (ws : List ℕ) (s : Station) → 1 ≤ code → (station_step lent k code ws s).refusal ≡ 0 → Passed lent k code ws s
unfolding station_step
passed lent k code ws s n h =
    let a = past (station_short lent) 1 s _ h (omega arith) in
    let b = past (not_there k code s) 10 s _ a.2 (omega arith) in
    let c = past (not (eqb code 0) && not (station_sound s)) 2 s _ b.2 (omega arith) in
    let z : eqb code 0 ≡ false = ne_eqb code 0 (λ e. omega (arith, n)) in
    let w : station_step lent k code ws s ≡ station_call_at k code ws s (slot_of k s) = a.1 ∙ b.1 ∙ c.1 ∙ if-false (open_at k ws s) (station_call_at k code ws s (slot_of k s)) z in
    at-passed lent k code ws s (slot_of k s) (holds (station_sound s) z c.0) a.0 refl w (ap (λ (r : StationResult). r.refusal) (sym w) ∙ h)
  where
    holds : (y : Bool) → eqb code 0 ≡ false → (not (eqb code 0) && not y) ≡ false → y ≡ true
    holds true z q = refl
    holds false z q = absurd (true≢false (sym (ap (λ (v : Bool). not v && true) z) ∙ q))

-- an accepted enqueue has a sequence number
ranged : (ws : List ℕ) → arguments_ok (enqueuing (entry_in ws) (at 6 ws)) ≡ true → at 0 ws < 2 ^ 63
unfolding arguments_ok
ranged ws c = ltb-true (at 0 ws) (2 ^ 63) (and_left _ _ (and_right (leb 1 (at 0 ws)) _ (and_left (entry_ok (entry_in ws)) _ c)))

provided-seq : (lent : Lengths) (b : Bool) (ws : List ℕ) (t : Dest) → (call_step lent t (ranged_call (provided b (enqueuing (entry_in ws) (at 6 ws))))).refusal ≡ 0 → at 0 ws < 2 ^ 63
unfolding provided
provided-seq lent false ws t = λ h. absurd (none-refused lent t h)
provided-seq lent true ws t = by-test (arguments_ok (enqueuing (entry_in ws) (at 6 ws))) (λ c h. ranged ws c) (λ c. rw c (λ h. absurd (none-refused lent t h)))

pub enqueue-seq : (lent : Lengths) (ws : List ℕ) (t : Dest) → (step lent 1 ws t).refusal ≡ 0 → at 0 ws < 2 ^ 63
unfolding step decode read
enqueue-seq lent ws t h = provided-seq lent _ ws t h

-- ---- dead letters

kept : Station → Station → List StationEvent → Type 0
kept s u es = Facts s → Facts u

-- the enqueue of a letter leaves a sound destination
pub stored-facts : (k : ℕ) (x : StationSlot) (e : Entry) (now : ℕ) (s : Station) → slot_of k s ≡ some x → (call whole (enqueuing e now) x.dest).refusal ≡ 0 → Facts s → Facts (put_dest k x (call whole (enqueuing e now) x.dest).dest s)
stored-facts k x e now s q h f = dest-facts k x (call whole (enqueuing e now) x.dest).dest s f q (call-leaves-sound whole (enqueuing e now) x.dest h)

pub running-facts : (hops now k : ℕ) (es : List Entry) (s : Station) → Facts s → Facts (running hops now k es s).station
unfolding kept
running-facts = Letters.running-keeps kept (λ s f. f) (λ s u v a b p q f. q (p f)) (λ s f. losing-facts s f) (λ s h f. took-facts s f h) stored-facts

pub number-facts : (es : List Entry) (s : Station) → Facts s → Facts (number_letters es s).station
unfolding kept
number-facts = Letters.number-keeps kept (λ s f. f) (λ s u v a b p q f. q (p f)) (λ s f. losing-facts s f) (λ s h f. took-facts s f h) stored-facts

-- ---- the calls

pub called-facts : (k code : ℕ) (ws : List ℕ) (x : StationSlot) (s : Station) → Facts s → slot_of k s ≡ some x → (step whole code (carried code ws s) x.dest).refusal ≡ 0 → Facts (called k code x (step whole code (carried code ws s) x.dest).dest s)
called-facts k code ws x s f q h =
    let g : Facts (put_dest k x (step whole code (carried code ws s) x.dest).dest s) = dest-facts k x _ s f q (step-leaves-sound whole code (carried code ws s) x.dest h) in
    by-if Facts (eqb code 1) _ _ (λ c. took-facts _ g (taken c)) (λ c. g)
  where
    taken : eqb code 1 ≡ true → s.next < 2 ^ 63
    taken c =
        let w : carried code ws s ≡ s.next ∷ drop 1 ws = if-true (s.next ∷ drop 1 ws) ws c in
        enqueue-seq whole (s.next ∷ drop 1 ws) x.dest (ap (λ (n : ℕ). (step whole n (s.next ∷ drop 1 ws) x.dest).refusal) (sym (eqb-true code 1 c)) ∙ ap (λ (l : List ℕ). (step whole code l x.dest).refusal) (sym w) ∙ h)

pub station-leaves-sound : StationLeavesSound
unfolding accepted_at
station-leaves-sound lent k code ws s n h =
    let p = passed lent k code ws s n h in
    subst⁻¹ (λ (r : StationResult). station_sound r.station ≡ true) p.result (from-facts _ (running-facts hops_max _ p.slot.name _ _ (number-facts _ _ (called-facts k code ws p.slot s (facts s p.is-sound) p.there p.own))))

-- ---- open

-- the destination's own open
pub open-left : (ws : List ℕ) (t : Dest) → open_words ws ≡ true → step whole 0 ws t ≡ record { refusal = 0; answer = 0; events = []; dest = opened_by ws }
unfolding step open_step short state_short
open-left ws t e = rw e

opened-sound : (ws : List ℕ) → opens_right ws ≡ true → slot_sound (some (opened_slot ws)) ≡ true
opened-sound ws h =
    let o = open-left (opening_words ws) (opened_by (opening_words ws)) (and_left _ _ h) in
    and_both (sound (opened_by (opening_words ws))) _
    (subst (λ (r : Result). sound r.dest ≡ true) o (step-leaves-sound whole 0 (opening_words ws) (opened_by (opening_words ws)) (ap (λ (r : Result). r.refusal) o)))
    (and_right (open_words (opening_words ws)) _ h)

-- what an accepted open has passed
pub opened : (lent : StationLengths) (k : ℕ) (ws : List ℕ) (s : Station) → (station_step lent k 0 ws s).refusal ≡ 0 → (opens_right ws ≡ true) × (station_step lent k 0 ws s ≡ record { refusal = 0; answer = 0; events = []; station = put_slot k (some (opened_slot ws)) s })
unfolding station_step open_at
opened lent k ws s h =
    let a = past (station_short lent) 1 s _ h (omega arith) in
    let b = past (not_there k 0 s) 10 s _ a.2 (omega arith) in
    by-test (opens_right ws)
    (λ c. (c, a.1 ∙ b.1 ∙ if-true _ (station_refused 3 s) c))
    (λ c. absurd (omega (arith, sym (ap (λ (r : StationResult). r.refusal) (if-false _ (station_refused 3 s) c)) ∙ b.2)))

pub open-leaves-sound : OpenLeavesSound
open-leaves-sound lent k ws s y h =
    let o = opened lent k ws s h in
    let f = put-facts k (some (opened_slot ws)) (put_slot k none s) (facts (put_slot k none s) y) (opened-sound ws o.0) in
    let e : put_slot k (some (opened_slot ws)) (put_slot k none s) ≡ put_slot k (some (opened_slot ws)) s = let q = set-set s.slots k none (some (opened_slot ws)) in λ i. record { slots = q i; next = s.next; lost = s.lost } in
    subst⁻¹ (λ (r : StationResult). station_sound r.station ≡ true) o.1 (from-facts _ (subst Facts e f))

pub open-keeps-sound : (lent : StationLengths) (k : ℕ) (ws : List ℕ) (s : Station) → station_sound s ≡ true → (station_step lent k 0 ws s).refusal ≡ 0 → station_sound (station_step lent k 0 ws s).station ≡ true
open-keeps-sound lent k ws s y h = open-leaves-sound lent k ws s (from-facts _ (put-facts k none s (facts s y) refl)) h

no_slot : (n k : ℕ) → get_or {A = Option StationSlot} (replicate n none) k none ≡ none
no_slot zero k = refl
no_slot (suc n) zero = refl
no_slot (suc n) (suc k) = no_slot n k

starts : Starts started
unfolding station_sound
starts = record { leaves-sound = refl; none_open = λ k. no_slot 8 k; first = refl }

pub start_left : (lent : StationLengths) (s : Station) → (station_start lent s).refusal ≡ 0 → (station_start lent s).station ≡ started
unfolding station_start
start_left lent s = by-if (λ (r : StationResult). r.refusal ≡ 0 → r.station ≡ started) (station_short lent) _ _ (λ c h. absurd (omega (arith, h))) (λ c h. refl)

pub started-sound : StartedSound
started-sound lent s h = subst⁻¹ Starts (start_left lent s h) starts
