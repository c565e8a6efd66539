-- Each station call is refused exactly by its table's places, and then changes nothing. Assumes nothing.
use Prim.Native.Nat.{ℕ}
use mathlib.Core.Path.{◌≡◌, refl, sym, ◌∙◌, ap, subst⁻¹}
use mathlib.Core.Bool.{Bool, true, false, not, ◌&&◌, true≢false}
use mathlib.Core.List.{List, [], ◌∷◌}
use mathlib.Core.Option.{Option, none, some}
use lib.Dec.{leb, ltb, eqb}
use borrow.Author.Tests.{eqb-true}
use Rattle.definition.specs.Base.{whether◌then◌else◌, all, is_some}
use Rattle.definition.specs.Calls.{short, state_short, sound}
use Rattle.definition.specs.Words.{step}
use Rattle.definition.specs.Refusals.{◌when◌, arguments_right}
use Rattle.definition.proofs.Tests.{by-if, by-test, if-false, or-no-right}
use Rattle.words.proofs.Places.{first_of, exact}
use Rattle.definition.proofs.Refusals.{step-first}
use Rattle.definition_station.specs.Types.{StationSlot, Station, slot_of}
use Rattle.definition_station.specs.Letters.{whole}
use Rattle.definition_station.specs.Station.{StationLengths, station_short, station_sound, StationResult, station_refused, station_start, opens_right, open_at, carried, carries_number, accepted_at, call_on, station_call_at, not_there, station_step}
use Rattle.definition_station.specs.Refusals.{station_arguments, own_places, station_places, StationStepRefuses, StartRefuses}
use Rattle.definition_station.proofs.Places.{facts, slot-sound}

-- ---- the number

-- no place of a destination's own refuses an open
open_own : (ws : List ℕ) (o : Option StationSlot) → first_of (own_places 0 ws o) ≡ 0
open_own ws none = refl
open_own ws (some x) = refl

open-first : (k : ℕ) (ws : List ℕ) (s : Station) (o : Option StationSlot) → (open_at k ws s).refusal ≡ first_of (3 when not (station_arguments 0 ws s) ∷ own_places 0 (carried 0 ws s) o)
unfolding open_at
open-first k ws s o = by-test (opens_right ws) (λ c. rw c (sym (open_own ws o))) (λ c. rw c)

-- the destination's own refusal, on its buffers lent whole
own_first : (code : ℕ) (ws : List ℕ) (x : StationSlot) → sound x.dest ≡ true → eqb code 0 ≡ false → (step whole code ws x.dest).refusal ≡ (whether not (arguments_right code ws) then 3 else first_of (own_places code ws (some x)))
unfolding short state_short
own_first code ws x y z = step-first whole code ws x.dest ∙ rw (y, z)

-- 3 of the station's own, and then the destination's
both_first : (c a : Bool) (r rest : ℕ) (s : Station) (done : StationResult) → done.refusal ≡ 0 → r ≡ (whether not a then 3 else rest) → (whether c then station_refused 3 s else whether eqb r 0 then done else station_refused r s).refusal ≡ (whether not (not c && a) then 3 else rest)
both_first true a r rest s done d e = refl
both_first false a r rest s done d e = by-if (λ (q : StationResult). q.refusal ≡ (whether not a then 3 else rest)) (eqb r 0) done (station_refused r s) (λ c. d ∙ sym (eqb-true r 0 c) ∙ e) (λ c. e)

on-first : (k code : ℕ) (ws : List ℕ) (s : Station) (x : StationSlot) → sound x.dest ≡ true → eqb code 0 ≡ false → (call_on k code ws s x).refusal ≡ first_of (3 when not (station_arguments code ws s) ∷ own_places code (carried code ws s) (some x))
unfolding call_on accepted_at
on-first k code ws s x y z = both_first (carries_number code ws) (arguments_right code (carried code ws s)) (step whole code (carried code ws s) x.dest).refusal (first_of (own_places code (carried code ws s) (some x))) s _ refl (own_first code (carried code ws s) x y z)
    ∙ ap (λ (b : Bool). whether not b then 3 else first_of (own_places code (carried code ws s) (some x))) (sym (if-false (opens_right ws) (not (carries_number code ws) && arguments_right code (carried code ws s)) z))

at_first : (k code : ℕ) (ws : List ℕ) (s : Station) (o : Option StationSlot) → slot_of k s ≡ o → not_there k code s ≡ false → station_sound s ≡ true → eqb code 0 ≡ false → (station_call_at k code ws s o).refusal ≡ first_of (3 when not (station_arguments code ws s) ∷ own_places code (carried code ws s) o)
unfolding station_call_at
at_first k code ws s none q n y z = absurd (true≢false (sym (ap (λ (b : Bool). not b && true) z) ∙ ap (λ (o : Option StationSlot). not (eqb code 0) && not (is_some o)) (sym q) ∙ or-no-right (ltb 7 k) _ n))
at_first k code ws s (some x) q n y z = on-first k code ws s x (slot-sound k s x (facts s y) q).0 z

pub station-first : (lent : StationLengths) (k code : ℕ) (ws : List ℕ) (s : Station) → (station_step lent k code ws s).refusal ≡ first_of (station_places lent k code ws s)
unfolding station_step
station-first lent k code ws s = ifs (station_short lent) 1 s _ _ (λ a. ifs (not_there k code s) 10 s _ _ (λ b. ifs (not (eqb code 0) && not (station_sound s)) 2 s _ _ (λ c. by-if (λ (r : StationResult). r.refusal ≡ rest) (eqb code 0) (open_at k ws s) (station_call_at k code ws s (slot_of k s))
    (λ z. opening (eqb-true code 0 z))
    (λ z. at_first k code ws s (slot_of k s) refl b (holds (station_sound s) z c) z))))
  where
    rest : ℕ
    rest = first_of (3 when not (station_arguments code ws s) ∷ own_places code (carried code ws s) (slot_of k s))

    ifs : (b : Bool) (n : ℕ) (s : Station) (r : StationResult) (m : ℕ) → (b ≡ false → r.refusal ≡ m) → (whether b then station_refused n s else r).refusal ≡ (whether b then n else m)
    ifs true n s r m h = refl
    ifs false n s r m h = h refl

    opening : code ≡ 0 → (open_at k ws s).refusal ≡ first_of (3 when not (station_arguments code ws s) ∷ own_places code (carried code ws s) (slot_of k s))
    opening e = subst⁻¹ (λ (n : ℕ). (open_at k ws s).refusal ≡ first_of (3 when not (station_arguments n ws s) ∷ own_places n (carried n ws s) (slot_of k s))) e (open-first k ws s (slot_of k s))

    holds : (y : Bool) → eqb code 0 ≡ false → (not (eqb code 0) && not y) ≡ false → y ≡ true
    holds true z q = refl
    holds false z q = absurd (true≢false (sym (ap (λ (v : Bool). not v && true) z) ∙ q))

-- ---- nothing changes

abbrev Kept : Station → StationResult → Type 0
Kept s r = (r.refusal ≡ 0 → ⊥) → r ≡ station_refused r.refusal s

at-kept : (k code : ℕ) (ws : List ℕ) (s : Station) (o : Option StationSlot) → Kept s (station_call_at k code ws s o)
unfolding station_call_at call_on accepted_at
at-kept k code ws s none = λ n. refl
at-kept k code ws s (some x) = by-if (Kept s) (carries_number code ws) _ _ (λ c n. refl) (λ c. by-if (Kept s) (eqb (step whole code (carried code ws s) x.dest).refusal 0) _ _ (λ d n. absurd (n refl)) (λ d n. refl))

pub station-kept : (lent : StationLengths) (k code : ℕ) (ws : List ℕ) (s : Station) → Kept s (station_step lent k code ws s)
unfolding station_step open_at
station-kept lent k code ws s = by-if (Kept s) (station_short lent) _ _ (λ c n. refl)
    (λ c. by-if (Kept s) (not_there k code s) _ _ (λ c n. refl)
    (λ c. by-if (Kept s) (not (eqb code 0) && not (station_sound s)) _ _ (λ c n. refl)
    (λ c. by-if (Kept s) (eqb code 0) _ _
    (λ z. by-if (Kept s) (opens_right ws) _ _ (λ d n. absurd (n refl)) (λ d n. refl))
    (λ z. at-kept k code ws s (slot_of k s)))))

pub numbered : (lent : StationLengths) (k code : ℕ) (ws : List ℕ) (s : Station) (o : Option StationSlot) → all (λ p. leb 1 p.number) (own_places code ws o) ≡ true
numbered lent k code ws s none = refl
numbered lent k code ws s (some x) = refl

pub station-refuses : StationStepRefuses
station-refuses lent k code ws s =
    let r = station_step lent k code ws s in
    let e = station-kept lent k code ws s in
    record {
      exact = exact r.refusal (station_places lent k code ws s) (numbered lent k code (carried code ws s) s (slot_of k s)) (station-first lent k code ws s);
      answer = λ n. ap (λ (x : StationResult). x.answer) (e n);
      events = λ n. ap (λ (x : StationResult). x.events) (e n);
      station = λ n. ap (λ (x : StationResult). x.station) (e n);
    }

pub start-refuses : StartRefuses
unfolding station_start
start-refuses lent s = by-test (station_short lent)
    (λ c. rw c (record { exact = exact 1 (1 when true ∷ []) refl refl; answer = λ n. refl; events = λ n. refl; station = λ n. refl }))
    (λ c. rw c (record { exact = exact 0 (1 when false ∷ []) refl refl; answer = λ n. refl; events = λ n. refl; station = λ n. absurd (n refl) }))
