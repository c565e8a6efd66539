-- A start as a call of a file. Assumes nothing.
use Prim.Native.Nat.{ℕ, ◌+◌, ◌-◌, ◌≤◌, ◌<◌}
use native.Mathlib.Omega.{arith}
use mathlib.Core.Path.{◌≡◌, refl, sym, ap, ◌∙◌, subst, subst⁻¹}
use mathlib.Core.Bool.{Bool, true, false, not, ◌&&◌, ◌||◌, true≢false}
use mathlib.Core.List.{List, [], ◌∷◌, ◌++◌, map}
use borrow.Author.Tests.{eqb-true, eqb-false, eq-eqb, ne_eqb, lt-ltb, le-ltb}
use lib.Dec.{eqb, ltb}
use lib.ListN.{length, set, drop, replicate, length-drop}
use Rattle.definition.specs.Base.{whether◌then◌else◌, up_from}
use Rattle.definition.specs.Layout.{Row}
use Rattle.definition.proofs.Tests.{by-if, by-test, if-true, if-false}
use Rattle.definition_station.specs.Types.{Station, started}
use Rattle.definition_station.specs.Station.{StationLengths, station_short, StationResult, station_refused, station_start}
use Rattle.definition_station.specs.Layout.{StationBuffers, part_formed, station_view, station_lengths_of, sent_words}
use Rattle.definition_station.specs.Called.{StationStarted, own_started, own_opened, own_called}
use Rattle.definition_station.proofs.Buffers.{start-shows, own-long}
use Rattle.calls.specs.declared.Call.{Call}
use Rattle.engine.specs.declared.Outcome.{Outcome}
use Rattle.engine.specs.Called.{outcome}
use Rattle.stationrun.specs.StationRuns.{LentStation, station_by, file_code, file_place, no_words, start_on, file_call, taken_by, fits_after, own_words_after, left_station, outcome_from, StationKeeps, FileCalled}

-- ---- its tests

module _ (b : StationBuffers) (events : List Row) (k : ℕ) (ws : List ℕ) where
  abbrev l : StationLengths
  l = station_lengths_of b (length events)

  abbrev q : StationResult
  q = start_on l k ws (station_view b)

  refused-so : (n : ℕ) → 1 ≤ n → q ≡ station_refused n (station_view b) → StationStarted q b b events events n
  refused-so n h e = record {
    refuses = sym (ap (λ (r : StationResult). r.refusal) e);
    heads = refl;
    subs = refl;
    rows = refl;
    sends = refl;
    own = λ z. absurd (omega (arith, h, z, ap (λ (r : StationResult). r.refusal) e));
    kept = λ _. refl;
  }

  pub as_short : station_short l ≡ true → StationStarted q b b events events 1
  unfolding start_on
  as_short s = refused-so 1 (omega arith) (if-true _ _ s)

  pub as-above : station_short l ≡ false → 7 < k → StationStarted q b b events events 10
  unfolding start_on
  as-above s h = refused-so 10 (omega arith) (if-false _ _ s ∙ if-true _ _ (lt-ltb 7 k h))

  module _ (s : station_short l ≡ false) (h : k ≤ 7) where
    within : q ≡ (whether eqb k 0 && no_words ws then station_start l (station_view b) else station_refused 3 (station_view b))
    unfolding start_on
    within = if-false _ _ s ∙ if-false _ _ (le-ltb 7 k h)

    pub as-numbered : (k ≡ 0 → ⊥) → StationStarted q b b events events 3
    as-numbered z = refused-so 3 (omega arith) (within ∙ if-false _ _ (ap (λ (t : Bool). t && no_words ws) (ne_eqb k 0 z)))

    pub as-worded : k ≡ 0 → no_words ws ≡ false → StationStarted q b b events events 3
    as-worded z w = refused-so 3 (omega arith) (within ∙ if-false _ _ (both (eqb k 0) w))
      where
        both : (t : Bool) → no_words ws ≡ false → (t && no_words ws) ≡ false
        both true e = e
        both false e = refl

    pub as-started : k ≡ 0 → no_words ws ≡ true → station_start l (station_view b) ≡ q
    as-started z w = sym (within ∙ if-true _ _ (ap (λ (t : Bool). t && no_words ws) (eq-eqb k 0 z) ∙ w))

  -- ---- what it gives

  abbrev Silent : StationResult → Type 0
  Silent r = (r.answer ≡ 0) × (r.events ≡ [])

  silent : Silent q
  unfolding start_on station_start
  silent = by-if Silent (station_short l) _ _ (λ _. (refl, refl))
      (λ _. by-if Silent (ltb 7 k) _ _ (λ _. (refl, refl))
      (λ _. by-if Silent (eqb k 0 && no_words ws) _ _ (λ _. by-if Silent (station_short l) _ _ (λ _. (refl, refl)) (λ _. (refl, refl)))
      (λ _. (refl, refl))))

  abbrev Done : StationResult → Type 0
  Done r = r.refusal ≡ 0 → (station_short l ≡ false) × (r.station ≡ started)

  done : Done q
  unfolding start_on station_start
  done = by-if Done (station_short l) _ _ (λ _ z. absurd (omega (arith, z)))
      (λ _. by-if Done (ltb 7 k) _ _ (λ _ z. absurd (omega (arith, z)))
      (λ _. by-if Done (eqb k 0 && no_words ws) _ _ (λ _. by-if Done (station_short l) _ _ (λ _ z. absurd (omega (arith, z))) (λ e _. (e, refl)))
      (λ _ z. absurd (omega (arith, z)))))

  abbrev Kept : StationResult → Type 0
  Kept r = (r.refusal ≡ 0 → ⊥) → r.station ≡ station_view b

  kept : Kept q
  unfolding start_on station_start
  kept = by-if Kept (station_short l) _ _ (λ _ _. refl)
      (λ _. by-if Kept (ltb 7 k) _ _ (λ _ _. refl)
      (λ _. by-if Kept (eqb k 0 && no_words ws) _ _ (λ _. by-if Kept (station_short l) _ _ (λ _ _. refl) (λ _ z. absurd (z refl)))
      (λ _ _. refl)))

-- ---- as a call of a file

module _ (c : Call) (b : StationBuffers) (events : List Row) (is-start : file_code c ≡ 16) where
  abbrev r : StationResult
  r = q b events (file_place c) c.words

  abbrev s : LentStation
  s = station_by b events

  abbrev b₁ : StationBuffers
  b₁ = record { heads = b.heads; subs = b.subs; rows = b.rows; own = own_started b.own }

  same-events : events ≡ map sent_words r.events ++ drop (length r.events) events
  same-events = sym (ap (λ (es : List _). map sent_words es ++ drop (length es) events) (silent b events (file_place c) c.words).1)

  not-open : eqb (file_code c) 0 ≡ false
  not-open = ne_eqb (file_code c) 0 (λ z. omega (arith, z, is-start))

  few : length r.events ≤ 4872
  few = omega (arith, ap length (silent b events (file_place c) c.words).1)

  fit : map (part_formed b₁) (up_from 0 8) ≡ replicate 8 true
  unfolding part_formed
  fit = refl

  module _ (z : taken_by r ≡ true) where
    d : (station_short (station_lengths_of b (length events)) ≡ false) × (r.station ≡ started)
    d = done b events (file_place c) c.words (eqb-true r.refusal 0 z)

    fits-so : map (part_formed b₁) (up_from 0 8) ≡ (whether taken_by r then fits_after c s.fits else s.fits)
    fits-so = fit ∙ sym (if-true (fits_after c s.fits) s.fits z ∙ if-false (set s.fits (file_place c) true) (replicate 8 true) not-open)

    own-so : own_started b.own ≡ (whether taken_by r then own_words_after c r s.own else s.own)
    own-so = sym (if-true (own_words_after c r s.own) s.own z ∙ if-true (own_started b.own) (whether eqb (file_code c) 0 then own_opened (file_place c) c.words b.own else own_called r.station b.own) (eq-eqb (file_code c) 16 is-start))

    starts : FileCalled r c b b₁ events events
    starts = record {
      few = few;
      shows = λ j. record {
        fits = fits-so j;
        station = ((start-shows b.heads b.subs b.rows b.own).0 ∙ sym d.1) j;
        own = own-so j;
        events = same-events j;
      };
      left = record {
        kept = λ f. absurd (true≢false (sym z ∙ f));
        past = record { heads-past = refl; subs-past = refl; rows-past = refl; heads-length = refl; subs-length = refl; rows-length = refl };
        own-length = omega (arith, own-long b (length events) d.0, length-drop 18 b.own);
        events-length = refl;
      };
    }

  refuses : taken_by r ≡ false → FileCalled r c b b events events
  refuses z = record {
    few = few;
    shows = λ j. record {
      fits = sym (if-false (fits_after c s.fits) s.fits z) j;
      station = sym (kept b events (file_place c) c.words (eqb-false r.refusal 0 z)) j;
      own = sym (if-false (own_words_after c r s.own) s.own z) j;
      events = same-events j;
    };
    left = record {
      kept = λ _. refl;
      past = record { heads-past = refl; subs-past = refl; rows-past = refl; heads-length = refl; subs-length = refl; rows-length = refl };
      own-length = refl;
      events-length = refl;
    };
  }

  pub start-called : {b' : StationBuffers} {n : ℕ} → StationStarted r b b' events events n
      → let f = file_call (station_lengths_of b (length events)) c s in FileCalled f c b b' events events × (outcome n 0 0 ≡ outcome_from f)
  unfolding file_call
  start-called {b'} {n} t = subst⁻¹ (λ (f : StationResult). FileCalled f c b b' events events × (outcome n 0 0 ≡ outcome_from f)) (if-true _ _ (eq-eqb (file_code c) 16 is-start)) (
    by-test (taken_by r)
        (λ z. subst⁻¹ (λ (x : StationBuffers). FileCalled r c b x events events) (λ j. record { heads = t.heads j; subs = t.subs j; rows = t.rows j; own = t.own (eqb-true r.refusal 0 z) j }) (starts z))
        (λ z. subst⁻¹ (λ (x : StationBuffers). FileCalled r c b x events events) (λ j. record { heads = t.heads j; subs = t.subs j; rows = t.rows j; own = t.kept (eqb-false r.refusal 0 z) j }) (refuses z)),
    (λ j. record { refusal = t.refuses j; answer = sym (silent b events (file_place c) c.words).0 j; events = sym (ap length (silent b events (file_place c) c.words).1) j }),
  )
