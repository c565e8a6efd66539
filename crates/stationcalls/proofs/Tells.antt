-- What a call tells of its dead letters. Assumes nothing.
use mathlib.Core.Path.{◌≡◌, refl, sym, ap, ◌∙◌, subst⁻¹}
use mathlib.Core.Bool.{Bool, true, false, not, ◌||◌}
use mathlib.Core.List.{List, [], ◌∷◌, map}
use mathlib.Core.Option.{Option, none, some}
use Prim.Native.Nat.{ℕ, ◌≤◌, ◌<◌}
use native.Mathlib.Omega.{arith}
use borrow.Author.Tests.{eq-eqb, ne_eqb, eqb-true, eqb-false, ltb-true, ltb-false, not-true, not-false}
use lib.Dec.{eqb, ltb}
use lib.ListN.{length}
use Rattle.definition.specs.Types.{Dest}
use Rattle.definition.specs.Words.{at, decode}
use Rattle.definition.specs.Layout.{Row, flag}
use Rattle.definition.proofs.Tests.{by-test, if-true, if-false, and_left, or-no-left, or-no-right}
use Rattle.rejects.specs.Rejects.{rejecting}
use Rattle.rejects.proofs.Words.{none-rejected}
use Rattle.definition_station.specs.Types.{StationSlot, Station, slot_of}
use Rattle.definition_station.specs.Letters.{rejected}
use Rattle.definition_station.specs.Station.{station_short, StationResult, carried}
use Rattle.definition_stationfates.specs.Told.{told_row, told_at}
use Rattle.engine.specs.declared.Outcome.{Outcome}
use Rattle.engine.specs.Called.{outcome}
use Rattle.definition_station.specs.Layout.{StationBuffers, is_open, station_lengths_of, buffer_station_step}
use Rattle.definition_station.specs.Called.{StationCalled}
use Rattle.stationcalls.specs.declared.ToldOutcome.{ToldOutcome}
use Rattle.stationcalls.specs.Tells.{told_over, told_rows, told_quiet, StationTells}
use Rattle.stationcalls.proofs.Shape.{left-above, left-closed}
use Rattle.stationcalls.proofs.Steps.{enqueue-rejects-none}

-- no rows change nothing
none_over : (told : List Row) → told_over [] told ≡ told
none_over [] = refl
none_over (w ∷ told) = refl

module _ (q : StationResult) (rows told : List Row) where
  pub refused-tells : (q.refusal ≡ 0 → ⊥) → StationTells q rows told told 0
  refused-tells z = record { tells = sym (if-false _ _ (ne_eqb q.refusal 0 z)); many = sym (if-false _ _ (ne_eqb q.refusal 0 z)) }

  pub none-tells : rows ≡ [] → StationTells q rows told told 0
  none-tells e = by-test (eqb q.refusal 0)
      (λ t. record { tells = sym (if-true _ _ t ∙ ap (λ (l : List Row). told_over l told) e ∙ none_over told); many = sym (if-true _ _ t ∙ ap length e) })
      (λ f. refused-tells (eqb-false q.refusal 0 f))

  pub all_tell : (told' : List Row) (letters : ℕ) → q.refusal ≡ 0 → told' ≡ told_over rows told → letters ≡ length rows → StationTells q rows told told' letters
  all_tell told' letters z e m = record { tells = e ∙ sym (if-true _ _ (eq-eqb q.refusal 0 z)); many = m ∙ sym (if-true _ _ (eq-eqb q.refusal 0 z)) }

-- a call that does not reject has none
pub quiet-tells-none : (k code : ℕ) (ws : List ℕ) (s : Station) → rejecting code ws ≡ false → told_rows k code ws s ≡ []
unfolding told_at
quiet-tells-none k code ws s f = ap (map told_row) (by-slot (slot_of k s))
  where
    nil : (t : Dest) → rejected t (decode code (carried code ws s)) ≡ []
    nil t = by-test (eqb code 1)
        (λ e. ap (λ (n : ℕ). rejected t (decode n (carried code ws s))) (eqb-true code 1 e) ∙ enqueue-rejects-none t (carried code ws s))
        (λ e. ap (λ (w : List ℕ). rejected t (decode code w)) (if-false _ ws e) ∙ none-rejected code ws t f)

    by-slot : (o : Option StationSlot) → told_at k code ws s o ≡ []
    by-slot none = refl
    by-slot (some x) = rw (nil x.dest)

-- ---- as the code answers

module _ (q : StationResult) (k code : ℕ) (ws : List ℕ) (b b' : StationBuffers) (events events' rows told : List Row) where
  -- what a call with these rows leaves
  abbrev pub ToldCall : List Row → ToldOutcome → Type 0
  ToldCall told' r = StationCalled q k code ws b b' events events' r.refusal r.answer r.events × StationTells q rows told told' r.letters

  pub as_quiet : (o : Outcome) (r : ToldOutcome) → r ≡ told_quiet o → StationCalled q k code ws b b' events events' o.refusal o.answer o.events → StationTells q rows told told 0 → ToldCall told r
  as_quiet o r e x y = subst⁻¹ (ToldCall told) e (x, y)

  pub refused-quiet : (n : ℕ) (o : Outcome) (r : ToldOutcome) → r ≡ told_quiet o → o ≡ outcome n 0 0 → 1 ≤ n → StationCalled q k code ws b b' events events' o.refusal o.answer o.events → ToldCall told r
  refused-quiet n o r e f h x = as_quiet o r e x (refused-tells q rows told (λ z. omega (arith, h, z, x.refuses, ap (λ (t : Outcome). t.refusal) f)))

-- a destination that is not there
pub left-away : (b : StationBuffers) (events : List Row) (k code : ℕ) (ws : List ℕ) → station_short (station_lengths_of b (length events)) ≡ false → eqb code 0 ≡ false → (ltb 7 k || not (flag (at k b.own))) ≡ true
    → StationCalled (buffer_station_step b (length events) k code ws) k code ws b b events events 10 0 0
left-away b events k code ws s z e = by-test (ltb 7 k)
    (λ t. left-above b events k code ws s (ltb-true 7 k t))
    (λ f. left-closed b events k code ws s (omega (arith, ltb-false 7 k f)) z (not-true _ (sym (ap (λ (x : Bool). x || not (flag (at k b.own))) f) ∙ e)))

-- one that is there
pub there-is : (b : StationBuffers) (k : ℕ) → (ltb 7 k || not (flag (at k b.own))) ≡ false → (k < 8) × (is_open k b ≡ true)
there-is b k e = (omega (arith, ltb-false 7 k (or-no-left (ltb 7 k) _ e)), not-false (flag (at k b.own)) (or-no-right (ltb 7 k) _ e))

-- a call that rejects is an acknowledgement
pub rejecting-coded : (code : ℕ) (ws : List ℕ) → rejecting code ws ≡ true → eqb code 0 ≡ false
unfolding rejecting
rejecting-coded code ws y = ap (λ (n : ℕ). eqb n 0) (eqb-true code 4 (and_left (eqb code 4) _ y))
