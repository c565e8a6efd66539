-- After a call a destination shows what it showed, or has used more calls, unless it was opened. Assumes nothing.
use mathlib.Core.Path.{◌≡◌, refl, sym, ap, ◌∙◌, subst⁻¹}
use mathlib.Core.List.{List}
use mathlib.Core.Logic.{◌≢◌}
use mathlib.Core.Option.{Option, none, some}
use Prim.Native.Nat.{ℕ, ◌+◌, ◌≤◌, ◌<◌}
use native.Mathlib.Omega.{arith}
use borrow.Author.Tests.{eqb-true, eqb-false}
use lib.Dec.{eqb}
use Rattle.definition.specs.Types.{Entry, Dest}
use Rattle.definition.specs.Calls.{Lengths, Result, Call, enqueuing, call}
use Rattle.definition.specs.Words.{decode, call_step, step}
use Rattle.definition.proofs.Tests.{by-test, by-if}
use Rattle.definition.proofs.Made.{none-refused, step_call}
use Rattle.definition_station.specs.Types.{StationSlot, with_dest, Station, slot_of, put_dest, StationEvent}
use Rattle.definition_station.specs.Letters.{rejected, number_letters, whole, running, hops_max}
use Rattle.definition_station.specs.Station.{StationLengths, StationResult, opened_slot, carried, called, accepted_at, station_step}
use Rattle.definition_station.proofs.Letters as Letters
use Rattle.definition_station.proofs.Places.{place-put, place_other}
use Rattle.definition_station.proofs.Refusals.{station-kept}
use Rattle.definition_station.proofs.Sound.{passed, opened}
use Rattle.stationcalls.proofs.Cycle.{call-counts}

-- ---- one destination

coded-counts : (lent : Lengths) (t : Dest) (o : Option Call) → (call_step lent t o).refusal ≡ 0 → (call_step lent t o).dest.calls_used ≡ t.calls_used + 1
unfolding call_step
coded-counts lent t none h = absurd (none-refused lent t h)
coded-counts lent t (some c) h = call-counts lent c t h

step_counts : (lent : Lengths) (code : ℕ) (ws : List ℕ) (t : Dest) → 1 ≤ code → (step lent code ws t).refusal ≡ 0 → (step lent code ws t).dest.calls_used ≡ t.calls_used + 1
step_counts lent code ws t n h =
    let e = step_call lent code ws t n in
    ap (λ (r : Result). r.dest.calls_used) e ∙ coded-counts lent t (decode code ws) (sym (ap (λ (r : Result). r.refusal) e) ∙ h)

-- ---- a station

-- the calls that an open destination has used
abbrev pub used_by : Option StationSlot → ℕ
used_by none = 0
used_by (some x) = x.dest.calls_used

pub record Onward (j : ℕ) (s u : Station) : Type 0 where
  pub never-fewer : used_by (slot_of j s) ≤ used_by (slot_of j u)
  pub as_it_was : used_by (slot_of j u) ≡ used_by (slot_of j s) → slot_of j u ≡ slot_of j s

module _ (j : ℕ) where
  pub onward-same : (s u : Station) → slot_of j u ≡ slot_of j s → Onward j s u
  onward-same s u e = record { never-fewer = let n = ap used_by e in omega arith; as_it_was = λ _. e }

  pub onward-on : (s u v : Station) → Onward j s u → Onward j u v → Onward j s v
  onward-on s u v p q = record {
    never-fewer = omega (arith, p.never-fewer, q.never-fewer);
    as_it_was = λ e. q.as_it_was (omega (arith, e, p.never-fewer, q.never-fewer)) ∙ p.as_it_was (omega (arith, e, p.never-fewer, q.never-fewer));
  }

  kept : Station → Station → List StationEvent → Type 0
  kept s u es = Onward j s u

  stored-onward : (k : ℕ) (x : StationSlot) (e : Entry) (now : ℕ) (s : Station) → slot_of k s ≡ some x → (call whole (enqueuing e now) x.dest).refusal ≡ 0 → Onward j s (put_dest k x (call whole (enqueuing e now) x.dest).dest s)
  stored-onward k x e now s q h = by-test (eqb j k)
      (λ y. subst⁻¹ (λ (i : ℕ). Onward i s after) (eqb-true j k y) here)
      (λ n. onward-same s after (place_other k j s (some (with_dest t x)) (eqb-false j k n)))
    where
      t : Dest
      t = (call whole (enqueuing e now) x.dest).dest

      after : Station
      after = put_dest k x t s

      more : used_by (slot_of k after) ≡ used_by (slot_of k s) + 1
      more = ap used_by (place-put k s x (some (with_dest t x)) q) ∙ call-counts whole (enqueuing e now) x.dest h ∙ ap (λ (o : Option StationSlot). used_by o + 1) (sym q)

      here : Onward k s after
      here = record { never-fewer = omega (arith, more); as_it_was = λ e. absurd (omega (arith, more, e)) }

  running-onward : (hops now k : ℕ) (es : List Entry) (s : Station) → Onward j s (running hops now k es s).station
  unfolding kept
  running-onward = Letters.running-keeps kept (λ s. onward-same s s refl) (λ s u v a b p q. onward-on s u v p q) (λ s. onward-same s _ refl) (λ s h. onward-same s _ refl) stored-onward

  number-onward : (es : List Entry) (s : Station) → Onward j s (number_letters es s).station
  unfolding kept
  number-onward = Letters.number-keeps kept (λ s. onward-same s s refl) (λ s u v a b p q. onward-on s u v p q) (λ s. onward-same s _ refl) (λ s h. onward-same s _ refl) stored-onward

  called-onward : (k code : ℕ) (x : StationSlot) (t : Dest) (s : Station) → j ≢ k → Onward j s (called k code x t s)
  called-onward k code x t s ne = let e = place_other k j s (some (with_dest t x)) ne in by-if (Onward j s) (eqb code 1) _ _ (λ c. onward-same s _ e) (λ c. onward-same s _ e)

  module _ (lent : StationLengths) (k code : ℕ) (ws : List ℕ) (s : Station) (ne : j ≢ k) where
    abbrev r : StationResult
    r = station_step lent k code ws s

    opened-onward : code ≡ 0 → r.refusal ≡ 0 → Onward j s r.station
    opened-onward e h =
        subst⁻¹ (λ (c : ℕ). Onward j s (station_step lent k c ws s).station) e
        (onward-same s _ (ap (λ (r : StationResult). slot_of j r.station) (opened lent k ws s (ap (λ (c : ℕ). (station_step lent k c ws s).refusal) (sym e) ∙ h)).1 ∙ place_other k j s (some (opened_slot ws)) ne))

    accepted-onward : 1 ≤ code → r.refusal ≡ 0 → Onward j s r.station
    unfolding accepted_at
    accepted-onward n h =
        let p = passed lent k code ws s n h in
        subst⁻¹ (λ (r : StationResult). Onward j s r.station) p.result
        (onward-on s _ _ (called-onward k code p.slot _ s ne) (onward-on _ _ _ (number-onward _ _) (running-onward hops_max _ p.slot.name _ _)))

    pub step-onward : Onward j s r.station
    step-onward = by-test (eqb r.refusal 0)
        (λ y. by-test (eqb code 0)
        (λ c. opened-onward (eqb-true code 0 c) (eqb-true r.refusal 0 y))
        (λ c. let z = eqb-false code 0 c in accepted-onward (omega arith) (eqb-true r.refusal 0 y)))
        (λ y. onward-same s _ (ap (λ (r : StationResult). slot_of j r.station) (station-kept lent k code ws s (eqb-false r.refusal 0 y))))

-- the one that an accepted call is made on has used more
module _ (lent : StationLengths) (k code : ℕ) (ws : List ℕ) (s : Station) (n : 1 ≤ code) (h : (station_step lent k code ws s).refusal ≡ 0) where
  pub step-more : used_by (slot_of k s) < used_by (slot_of k (station_step lent k code ws s).station)
  unfolding accepted_at
  step-more =
      let p = passed lent k code ws s n h in
      let t : Dest = (step whole code (carried code ws s) p.slot.dest).dest in
      let u : Station = called k code p.slot t s in
      let m : Station = (number_letters (rejected p.slot.dest (decode code (carried code ws s))) u).station in
      let v : Onward k u (station_step lent k code ws s).station = subst⁻¹ (λ (r : StationResult). Onward k u r.station) p.result (onward-on k u m _ (number-onward k _ u) (running-onward k hops_max _ p.slot.name _ m)) in
      let after : used_by (slot_of k u) ≡ t.calls_used = ap used_by (put-here p.slot t p.there) in
      omega (arith, v.never-fewer, after, step_counts whole code (carried code ws s) p.slot.dest n p.own, ap used_by p.there)
    where
      put-here : (x : StationSlot) (t : Dest) → slot_of k s ≡ some x → slot_of k (called k code x t s) ≡ some (with_dest t x)
      put-here x t e = let q = place-put k s x (some (with_dest t x)) e in by-if (λ (u : Station). slot_of k u ≡ some (with_dest t x)) (eqb code 1) _ _ (λ c. q) (λ c. q)
