-- The two calls that have no code, on a station: refusals, soundness, sends. Assumes nothing.
use Prim.Native.Nat.{ℕ, ◌≤◌}
use native.Mathlib.Omega.{arith}
use mathlib.Core.Path.{◌≡◌, refl, sym, ◌∙◌, ap, subst⁻¹}
use mathlib.Core.Bool.{Bool, true, false, not, true≢false}
use mathlib.Core.Option.{Option, none, some}
use lib.Dec.{leb, ltb, eqb}
use lib.ListN.{length, length-map}
use borrow.Author.Tests.{eqb-true}
use Rattle.definition.specs.Base.{whether◌then◌else◌, all, is_some}
use Rattle.definition.specs.Types.{Dest}
use Rattle.definition.specs.Calls.{short, state_short, sound, Call, discarding, missing, arguments_ok, own_refusal, refusal, call}
use Rattle.definition.proofs.Tests.{by-if, by-test, or-no-right}
use Rattle.words.proofs.Places.{first_of, exact}
use Rattle.definition.proofs.Claims.{call-leaves-sound, call-sends}
use Rattle.definition_station.specs.Types.{StationSlot, Station, slot_of, put_dest, StationEvent, sent_at}
use Rattle.definition_station.specs.Letters.{whole}
use Rattle.definition_station.specs.Station.{StationLengths, station_short, station_sound, StationResult, station_refused, not_there, uncoded_at, station_uncoded}
use Rattle.definition_station.specs.Refusals.{uncoded_own, uncoded_station_places, StationRefuses, UncodedStationRefuses}
use Rattle.definition_station.specs.Claims.{UncodedLeavesSound, UncodedSends}
use Rattle.definition_station.proofs.Places.{facts, from-facts, slot-sound, dest-facts}
use Rattle.definition_station.proofs.Sound.{past}

-- what an accepted one has passed
pub record Counted (lent : StationLengths) (k : ℕ) (c : Call) (s : Station) : Type 0 where
  pub is-sound : station_sound s ≡ true
  pub slot : StationSlot
  pub there : slot_of k s ≡ some slot
  pub own : (call whole c slot.dest).refusal ≡ 0
  pub left : (station_uncoded lent k c s).station ≡ put_dest k slot (call whole c slot.dest).dest s

at-counted : (lent : StationLengths) (k : ℕ) (c : Call) (s : Station) (o : Option StationSlot) → station_sound s ≡ true → slot_of k s ≡ o → station_uncoded lent k c s ≡ uncoded_at k c s o → (uncoded_at k c s o).refusal ≡ 0 → Counted lent k c s
unfolding uncoded_at
at-counted lent k c s none y q e = λ h. absurd (omega (arith, h))
at-counted lent k c s (some x) y q e = by-test (eqb (call whole c x.dest).refusal 0)
    (λ d h. record { is-sound = y; slot = x; there = q; own = eqb-true _ 0 d; left = ap (λ (r : StationResult). r.station) e ∙ ap (λ (b : Bool). (whether b then record { refusal = 0; answer = (call whole c x.dest).answer; events = sent_at k (call whole c x.dest).events; station = put_dest k x (call whole c x.dest).dest s } else station_refused (call whole c x.dest).refusal s).station) d })
    (λ d h. absurd (true≢false (sym (ap (λ (n : ℕ). eqb n 0) (sym (ap (λ (b : Bool). (whether b then record { refusal = 0; answer = (call whole c x.dest).answer; events = sent_at k (call whole c x.dest).events; station = put_dest k x (call whole c x.dest).dest s } else station_refused (call whole c x.dest).refusal s).refusal) d) ∙ h)) ∙ d)))

pub counted : (lent : StationLengths) (k : ℕ) (c : Call) (s : Station) → (station_uncoded lent k c s).refusal ≡ 0 → Counted lent k c s
unfolding station_uncoded
counted lent k c s h =
    let a = past (station_short lent) 1 s _ h (omega arith) in
    let b = past (not_there k 1 s) 10 s _ a.2 (omega arith) in
    let d = past (not (station_sound s)) 2 s _ b.2 (omega arith) in
    let w : station_uncoded lent k c s ≡ uncoded_at k c s (slot_of k s) = a.1 ∙ b.1 ∙ d.1 in
    at-counted lent k c s (slot_of k s) (holds (station_sound s) d.0) refl w (ap (λ (r : StationResult). r.refusal) (sym w) ∙ h)
  where
    holds : (y : Bool) → not y ≡ false → y ≡ true
    holds true q = refl
    holds false q = absurd (true≢false q)

pub uncoded-leaves-sound : UncodedLeavesSound
uncoded-leaves-sound lent k c s h =
    let p = counted lent k c s h in
    subst⁻¹ (λ (u : Station). station_sound u ≡ true) p.left (from-facts _ (dest-facts k p.slot _ s (facts s p.is-sound) p.there (call-leaves-sound whole c p.slot.dest p.own)))

at-sends : (k : ℕ) (c : Call) (s : Station) (o : Option StationSlot) → length (uncoded_at k c s o).events ≤ 4872
unfolding uncoded_at
at-sends k c s none = omega arith
at-sends k c s (some x) = by-if (λ (r : StationResult). length r.events ≤ 4872) (eqb (call whole c x.dest).refusal 0) _ _ (λ e. omega (arith, length-map {B = StationEvent} (call whole c x.dest).events (λ v. record { place = k; event = v }), call-sends whole c x.dest)) (λ e. omega arith)

pub uncoded-sends : UncodedSends
unfolding station_uncoded
uncoded-sends lent k c s = by-if (λ (r : StationResult). length r.events ≤ 4872) (station_short lent) _ _ (λ e. omega arith) (λ e. by-if (λ (r : StationResult). length r.events ≤ 4872) (not_there k 1 s) _ _ (λ e. omega arith) (λ e. by-if (λ (r : StationResult). length r.events ≤ 4872) (not (station_sound s)) _ _ (λ e. omega arith) (λ e. at-sends k c s (slot_of k s))))

-- ---- refusals

own_first : (c : Call) (t : Dest) → arguments_ok c ≡ true → own_refusal t c ≡ 0 → sound t ≡ true → (call whole c t).refusal ≡ (whether eqb t.calls_used t.call_limit then 9 else 0)
unfolding call refusal short state_short
own_first c t a o y = by-test (eqb t.calls_used t.call_limit) (λ e. rw (y, a, e)) (λ e. rw (y, a, e, o))

at_first : (k : ℕ) (c : Call) (s : Station) (o : Option StationSlot) → slot_of k s ≡ o → not_there k 1 s ≡ false → station_sound s ≡ true → ((t : Dest) → (arguments_ok c ≡ true) × (own_refusal t c ≡ 0)) → (uncoded_at k c s o).refusal ≡ first_of (uncoded_own o)
unfolding uncoded_at
at_first k c s none q n y a = absurd (true≢false (ap (λ (o : Option StationSlot). not (is_some o)) (sym q) ∙ or-no-right (ltb 7 k) _ n))
at_first k c s (some x) q n y a =
    let f = own_first c x.dest (a x.dest).0 (a x.dest).1 (slot-sound k s x (facts s y) q).0 in
    by-if (λ (r : StationResult). r.refusal ≡ first_of (uncoded_own (some x))) (eqb (call whole c x.dest).refusal 0) _ _ (λ e. sym (eqb-true _ 0 e) ∙ f) (λ e. f)

pub uncoded-first : (lent : StationLengths) (k : ℕ) (c : Call) (s : Station) → ((t : Dest) → (arguments_ok c ≡ true) × (own_refusal t c ≡ 0)) → (station_uncoded lent k c s).refusal ≡ first_of (uncoded_station_places lent k s)
unfolding station_uncoded
uncoded-first lent k c s a = ifs (station_short lent) 1 s _ _ (λ p. ifs (not_there k 1 s) 10 s _ _ (λ b. ifs (not (station_sound s)) 2 s _ _ (λ d. at_first k c s (slot_of k s) refl b (holds (station_sound s) d) a)))
  where
    ifs : (b : Bool) (n : ℕ) (s : Station) (r : StationResult) (m : ℕ) → (b ≡ false → r.refusal ≡ m) → (whether b then station_refused n s else r).refusal ≡ (whether b then n else m)
    ifs true n s r m h = refl
    ifs false n s r m h = h refl

    holds : (y : Bool) → not y ≡ false → y ≡ true
    holds true q = refl
    holds false q = absurd (true≢false q)

abbrev Kept : Station → StationResult → Type 0
Kept s r = (r.refusal ≡ 0 → ⊥) → r ≡ station_refused r.refusal s

at-kept : (k : ℕ) (c : Call) (s : Station) (o : Option StationSlot) → Kept s (uncoded_at k c s o)
unfolding uncoded_at
at-kept k c s none = λ n. refl
at-kept k c s (some x) = by-if (Kept s) (eqb (call whole c x.dest).refusal 0) _ _ (λ d n. absurd (n refl)) (λ d n. refl)

pub uncoded-kept : (lent : StationLengths) (k : ℕ) (c : Call) (s : Station) → Kept s (station_uncoded lent k c s)
unfolding station_uncoded
uncoded-kept lent k c s = by-if (Kept s) (station_short lent) _ _ (λ e n. refl) (λ e. by-if (Kept s) (not_there k 1 s) _ _ (λ e n. refl) (λ e. by-if (Kept s) (not (station_sound s)) _ _ (λ e n. refl) (λ e. at-kept k c s (slot_of k s))))

pub numbered : (o : Option StationSlot) → all (λ p. leb 1 p.number) (uncoded_own o) ≡ true
numbered none = refl
numbered (some x) = refl

refuses : (lent : StationLengths) (k : ℕ) (c : Call) (s : Station) → ((t : Dest) → (arguments_ok c ≡ true) × (own_refusal t c ≡ 0)) → StationRefuses (station_uncoded lent k c s) (uncoded_station_places lent k s) s
refuses lent k c s a =
    let e = uncoded-kept lent k c s in
    record {
      exact = exact (station_uncoded lent k c s).refusal (uncoded_station_places lent k s) (numbered (slot_of k s)) (uncoded-first lent k c s a);
      answer = λ n. ap (λ (x : StationResult). x.answer) (e n);
      events = λ n. ap (λ (x : StationResult). x.events) (e n);
      station = λ n. ap (λ (x : StationResult). x.station) (e n);
    }

pub uncoded-station-refuses : UncodedStationRefuses
unfolding arguments_ok own_refusal
uncoded-station-refuses lent k s = (refuses lent k discarding s (λ t. (refl, refl)), refuses lent k missing s (λ t. (refl, refl)))
