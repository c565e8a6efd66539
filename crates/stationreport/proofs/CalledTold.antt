-- A call of a file with what became of its dead letters: a start tells of none, and the rows of a station call stand all in a list of 512. Assumes nothing.
use Prim.Native.Nat.{ℕ, ◌≤◌}
use native.Mathlib.Omega.{arith}
use mathlib.Core.Path.{◌≡◌, refl, sym, ap, ap₂, ◌∙◌, subst, subst⁻¹}
use mathlib.Core.Bool.{Bool, true, false, not, ◌&&◌, true≢false}
use mathlib.Core.List.{List, [], ◌++◌, map}
use borrow.Author.Tests.{eqb-true, eqb-false, ne_eqb}
use lib.Dec.{eqb}
use lib.ListN.{length, take, drop, length-map, length-append, length-drop}
use lib.Seq.{take_all, take-append_seam}
use Rattle.definition.specs.Base.{whether◌then◌else◌}
use Rattle.definition.specs.Layout.{Row}
use Rattle.definition.proofs.Tests.{by-test, if-true, if-false, and_left, and_right, and_both}
use Rattle.definition_station.specs.Types.{Station}
use Rattle.definition_station.specs.Station.{StationLengths, station_short, station_sound, StationResult, not_there, station_step}
use Rattle.definition_station.specs.Layout.{StationBuffers, station_formed, station_view, sound_station, station_lengths_of, unformed, buffer_station_step, sent_words}
use Rattle.definition_station.specs.Called.{StationCalled}
use Rattle.definition_station.proofs.Sound.{past, passed}
use Rattle.definition_stationfates.specs.Told.{told_row, told_letters}
use Rattle.definition_stationfates.proofs.Told.{open-tells-none}
use Rattle.definition_stationblocks.proofs.Station.{told-few}
use Rattle.calls.specs.declared.Call.{Call}
use Rattle.engine.specs.Called.{outcome}
use Rattle.stationcalls.specs.declared.ToldOutcome.{ToldOutcome}
use Rattle.stationcalls.specs.Tells.{told_rows, told_over, told_quiet, StationTells}
use Rattle.stationrun.specs.StationRuns.{station_by, file_code, file_place, file_call, taken_by, outcome_from, FileCalled}
use Rattle.stationrun.proofs.Called.{on-buffers, station-called}
use Rattle.stationreport.specs.StationReporting.{is_work, told_in}
use Rattle.stationreport.specs.Gathering.{CallAndTold}
use Rattle.stationreport.proofs.Works.{work-taken, work-code, start-rests, rests-open}

-- ---- an accepted call other than open finds a sound station

found-sound : (b : StationBuffers) (events k code : ℕ) (ws : List ℕ) → 1 ≤ code → (buffer_station_step b events k code ws).refusal ≡ 0 → sound_station b ≡ true
unfolding buffer_station_step station_step sound_station
found-sound b events k code ws h z =
    let l : StationLengths = station_lengths_of b events in
    let v : Station = station_view b in
    let u = past (unformed b events k code) 2 v _ z (omega arith) in
    let a = past (station_short l) 1 v _ u.2 (omega arith) in
    let t = past (not_there k code v) 10 v _ a.2 (omega arith) in
    and_both (station_formed b) _ (fits (station_short l) (not_there k code v) (eqb code 0) (station_formed b) a.0 t.0 (ne_eqb code 0 (λ e. omega (arith, e, h))) u.0) (passed l k code ws v h u.2).is-sound
  where
    fits : (s t z f : Bool) → s ≡ false → t ≡ false → z ≡ false → (not s && (not t && (not z && not f))) ≡ false → f ≡ true
    fits s t z true p q r e = refl
    fits s t z false p q r e = absurd (true≢false (sym (rw (p, q, r)) ∙ e))

-- ---- a start

pub start-told : (c : Call) (b b' : StationBuffers) (events told : List Row) (n : ℕ) → file_code c ≡ 16 → length told ≡ 512
    → let f = file_call (station_lengths_of b (length events)) c (station_by b events) in FileCalled f c b b' events events × (outcome n 0 0 ≡ outcome_from f) → CallAndTold f c b b' events events told (told_quiet (outcome n 0 0))
unfolding told_in
start-told c b b' events told n e long p =
    let f : StationResult = file_call (station_lengths_of b (length events)) c (station_by b events) in
    let idle : is_work c f ≡ false = start-rests c f e in record {
      called = p.0;
      refusal = λ i. (p.1 i).refusal;
      sent = λ i. (p.1 i).events;
      told = sym (if-false _ [] idle);
      few = omega arith;
      told-length = long;
      found-sound = λ w. absurd (true≢false (sym w ∙ idle));
      left-sound = λ w. absurd (true≢false (sym w ∙ idle));
    }

-- ---- a station call

module _ (c : Call) (b b' : StationBuffers) (events events' told told' : List Row) (r : ToldOutcome) (not_start : file_code c ≡ 16 → ⊥) (long : length told ≡ 512)
    (t : StationCalled (buffer_station_step b (length events) (file_place c) (file_code c) c.words) (file_place c) (file_code c) c.words b b' events events' r.refusal r.answer r.events)
    (s : StationTells (buffer_station_step b (length events) (file_place c) (file_code c) c.words) (told_rows (file_place c) (file_code c) c.words (station_view b)) told told' r.letters)
  where
    abbrev x : StationResult
    x = buffer_station_step b (length events) (file_place c) (file_code c) c.words

    abbrev rows : List Row
    rows = told_rows (file_place c) (file_code c) c.words (station_view b)

    open_none : file_code c ≡ 0 → rows ≡ []
    open_none e = ap (λ (n : ℕ). told_rows (file_place c) n c.words (station_view b)) e ∙ ap (map told_row) (open-tells-none (file_place c) c.words (station_view b))

    module _ (z : taken_by x ≡ true) where
      view-sound : eqb (file_code c) 0 ≡ false → station_sound (station_view b) ≡ true
      unfolding sound_station
      view-sound e = and_right (station_formed b) _ (found-sound b (length events) (file_place c) (file_code c) c.words (omega (arith, eqb-false (file_code c) 0 e)) (eqb-true x.refusal 0 z))

      rows_few : length rows ≤ 512
      rows_few = by-test (eqb (file_code c) 0)
          (λ e. omega (arith, ap length (open_none (eqb-true (file_code c) 0 e))))
          (λ e. omega (arith, length-map (told_letters (file_place c) (file_code c) c.words (station_view b)) told_row, told-few (file_place c) (file_code c) c.words (station_view b) (view-sound e)))

      many : r.letters ≡ length rows
      many = s.many ∙ if-true (length rows) 0 z

      -- all of them stand first
      over : told' ≡ rows ++ drop (length rows) told
      over = s.tells ∙ if-true (told_over rows told) told z ∙ ap (λ (l : List Row). l ++ drop (length rows) told) (take_all (length told) rows (omega (arith, rows_few, long)))

      first : take r.letters told' ≡ rows
      first = ap₂ (λ (n : ℕ) (l : List Row). take n l) many over ∙ take-append_seam rows (drop (length rows) told)

    none_told : taken_by x ≡ false → r.letters ≡ 0
    none_told z = s.many ∙ if-false (length rows) 0 z

    told-so : take r.letters told' ≡ told_in c x (station_by b events)
    unfolding told_in
    told-so = by-test (is_work c x)
        (λ w. first (work-taken c x w) ∙ sym (if-true rows [] w))
        (λ w. by-test (taken_by x)
        (λ z. first z ∙ open_none (rests-open c x not_start z w))
        (λ z. ap (λ (n : ℕ). take n told') (none_told z)) ∙ sym (if-false rows [] w))

    length-so : length told' ≡ 512
    length-so = by-test (taken_by x)
        (λ z. ap length (over z) ∙ length-append rows (drop (length rows) told) ∙ omega (arith, rows_few z, long, length-drop (length rows) told))
        (λ z. ap length (s.tells ∙ if-false (told_over rows told) told z) ∙ long)

    -- by its definition
    step_is : file_call (station_lengths_of b (length events)) c (station_by b events) ≡ x
    unfolding file_call
    step_is = if-false _ _ (ne_eqb (file_code c) 16 not_start) ∙ on-buffers b events (file_place c) (file_code c) c.words

    answers : CallAndTold x c b b' events events' told' r
    answers = record {
      called = subst (λ (f : StationResult). FileCalled f c b b' events events') step_is (station-called c b b' events events' (outcome r.refusal r.answer r.events) not_start t).0;
      refusal = t.refuses;
      sent = t.sends.many ∙ length-map x.events sent_words;
      told = told-so;
      few = by-test (taken_by x) (λ z. omega (arith, many z, rows_few z)) (λ z. omega (arith, none_told z));
      told-length = length-so;
      found-sound = λ w. found-sound b (length events) (file_place c) (file_code c) c.words (work-code c x w) (eqb-true x.refusal 0 (work-taken c x w));
      left-sound = λ w. t.leaves-sound (eqb-true x.refusal 0 (work-taken c x w)) (work-code c x w);
    }

    pub station-told : CallAndTold (file_call (station_lengths_of b (length events)) c (station_by b events)) c b b' events events' told' r
    station-told = subst⁻¹ (λ (f : StationResult). CallAndTold f c b b' events events' told' r) step_is answers
