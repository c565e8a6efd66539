-- The lines of a call and the counts after it: an open and a start begin accounts anew, and nothing leaves; in a refused call all stays. Assumes nothing.
use Prim.Native.Nat.{ℕ, ◌+◌, ◌≤◌}
use native.Mathlib.Omega.{arith}
use mathlib.Core.Path.{◌≡◌, refl, sym, ap, ap₂, ◌∙◌, subst, subst⁻¹}
use mathlib.Core.Bool.{Bool, true, false, not, ◌&&◌, ◌||◌, true≢false}
use mathlib.Core.List.{List, [], ◌∷◌, map}
use borrow.Author.Tests.{eq-eqb, ne_eqb}
use lib.Dec.{eqb}
use lib.ListN.{length, take, drop}
use Rattle.definition.specs.Base.{whether◌then◌else◌}
use Rattle.definition.specs.Words.{at}
use Rattle.definition.specs.Layout.{Row}
use Rattle.definition.proofs.Tests.{by-test, if-true, if-false}
use Rattle.words.proofs.Tests.{eqb_comm}
use Rattle.fates.specs.Blocks.{Block}
use Rattle.definition_station.specs.Station.{station_short, StationResult}
use Rattle.definition_station.specs.Layout.{StationBuffers, station_view, sound_station, sent_words, station_lengths_of}
use Rattle.definition_station.proofs.Buffers.{events-long}
use Rattle.calls.specs.declared.Call.{Call}
use Rattle.callfile.specs.Placed.{Puts}
use Rattle.callfile.proofs.Parts.{then, none-put}
use Rattle.engine.specs.Called.{outcome}
use Rattle.reportlines.specs.ReportLines.{gone_after}
use Rattle.stationlines.specs.StationLines.{row_lines}
use Rattle.stationcalls.specs.declared.ToldOutcome.{ToldOutcome}
use Rattle.stationcalls.specs.Parts.{Within}
use Rattle.stationrun.specs.StationRuns.{LentStation, station_by, file_code, file_place, taken_by}
use Rattle.stationrun.proofs.Called.{first_rows}
use Rattle.stationrun.proofs.Ends.{longs}
use Rattle.stationreport.specs.StationReporting.{places_text, each_place, gone_row, gone_by_words, is_work, words_got, left_at, anew_at, counts_after, station_noted, head_text, first_lines, left_text, station_noted_lines, StationNotes}
use Rattle.stationreport.specs.Gathering.{HeldAll, left_from, counts_by, anew_row, counts_anew, begins_anew, rest_text, rest_counts, CallAndTold}
use Rattle.stationreport.proofs.Works.{is-work, refused-rests, anew-rests, none_left}
use Rattle.stationreport.proofs.Leaving.{left-text, left-counts}

-- ---- the rest, by the code

pub goes_on : (code : ℕ) → (code ≡ 16 → ⊥) → (code ≡ 0 → ⊥) → begins_anew code ≡ false
goes_on code n m = ap₂ (λ (s z : Bool). s || z) (ne_eqb code 16 n) (ne_eqb code 0 m)

module _ (code k : ℕ) (left : ℕ → List Block) (from : ℕ) (out : List ℕ) (gone : List Row) where
  abbrev Rest : ℕ → List ℕ → List Row → Type 0
  Rest r out' gone' = (Puts (rest_text code left) from out r out' × (r ≤ from + 1049600)) × (gone' ≡ rest_counts code k left gone)

  -- accounts begin anew
  rest-anew : {gone' : List Row} → begins_anew code ≡ true → gone' ≡ counts_anew k (eqb code 16) 0 gone → Rest from out gone'
  rest-anew e g = ((subst⁻¹ (λ (t : List ℕ). Puts t from out from out) (if-true [] (left_text left) e) (none-put from out), omega arith), g ∙ sym (if-true _ (counts_by left 0 gone) e))

  pub start-rest : {gone' : List Row} → code ≡ 16 → gone' ≡ counts_anew k true 0 gone → Rest from out gone'
  start-rest e g = rest-anew (ap (λ (s : Bool). s || eqb code 0) (eq-eqb code 16 e)) (g ∙ ap (λ (all : Bool). counts_anew k all 0 gone) (sym (eq-eqb code 16 e)))

  module _ (n : code ≡ 16 → ⊥) where
    pub open-rest : {gone' : List Row} → code ≡ 0 → gone' ≡ counts_anew k false 0 gone → Rest from out gone'
    open-rest e g = rest-anew (ap₂ (λ (s z : Bool). s || z) (ne_eqb code 16 n) (eq-eqb code 0 e)) (g ∙ ap (λ (all : Bool). counts_anew k all 0 gone) (sym (ne_eqb code 16 n)))

    -- or what left is put
    pub left-rest : {r : ℕ} {out' : List ℕ} {gone' : List Row} → (code ≡ 0 → ⊥) → Puts (left_text left) from out r out' × (r ≤ from + 1049600) → gone' ≡ counts_by left 0 gone → Rest r out' gone'
    left-rest {r} {out'} m p g =
        let e = goes_on code n m in
        ((subst⁻¹ (λ (t : List ℕ). Puts t from out r out') (if-false [] (left_text left) e) p.0, p.1), g ∙ sym (if-false (counts_anew k (eqb code 16) 0 gone) _ e))

-- ---- calls that are no work

module _ (c : Call) (q : StationResult) (s : LentStation) (w : is_work c q ≡ false) where
  none-text : left_text (λ j. left_at j c q s) ≡ []
  unfolding places_text row_lines
  none-text = λ i. left_text (λ j. none_left j c q s w i)

  anew-counts : begins_anew (file_code c) ≡ true → (gone : List Row) → counts_anew (file_place c) (eqb (file_code c) 16) 0 gone ≡ counts_after c q s 0 gone
  anew-counts e gone = λ i. each_place (λ j g. each j g i) 0 gone
    where
      anew : (a z x : Bool) → (a || z) ≡ true → (a || x) ≡ (a || (z && x))
      anew true z x e = refl
      anew false true x e = refl
      anew false false x e = absurd (true≢false (sym e))

      each : (j : ℕ) (g : Row) → anew_row (file_place c) (eqb (file_code c) 16) j g ≡ gone_row (gone_after (anew_at j c) (left_at j c q s) (gone_by_words g))
      each j g = ap₂ (λ (a : Bool) (bs : List Block). gone_row (gone_after a bs (gone_by_words g)))
          (ap (λ (x : Bool). eqb (file_code c) 16 || x) (eqb_comm j (file_place c)) ∙ anew (eqb (file_code c) 16) (eqb (file_code c) 0) (eqb (file_place c) j) e)
          (sym (none_left j c q s w))

-- ---- a call

-- the words that its destination gets
pub got-words : (c : Call) (b : StationBuffers) (events : List Row) {ws : List ℕ} → ws ≡ (whether eqb (file_code c) 1 then at 16 b.own ∷ drop 1 c.words else c.words) → ws ≡ words_got c (station_by b events)
unfolding station_view
got-words c b events e = e

module _ {q : StationResult} {c : Call} {b b' : StationBuffers} {events events' told' : List Row} {r : ToldOutcome} (called : CallAndTold q c b b' events events' told' r) where
  abbrev s : LentStation
  s = station_by b events

  taken-so : r.refusal ≡ 0 → taken_by q ≡ true
  taken-so z = eq-eqb q.refusal 0 (sym called.refusal ∙ z)

  -- what it leaves is long enough, and its rows stand in their lists
  module _ (long : station_short (station_lengths_of b (length events)) ≡ false) where
    pub long_after : Within 0 b'.heads b'.subs b'.rows × (20 ≤ length b'.own)
    long_after =
        let l = longs b events long in
        let past = called.called.left.past in (
          record { is-place = omega arith; heads-long = omega (arith, l.0.heads-long, past.heads-length); subs-long = omega (arith, l.0.subs-long, past.subs-length); rows_long = omega (arith, l.0.rows_long, past.rows-length) },
          omega (arith, l.1, called.called.left.own-length),
        )

    pub rows-after : (r.events ≤ 4872) × (r.events ≤ length events') × (r.letters ≤ 512) × (r.letters ≤ length told')
    rows-after =
        let few : r.events ≤ 4872 = omega (arith, called.sent, called.called.few) in
        (few, omega (arith, few, called.called.left.events-length, events-long b (length events) long), called.few, omega (arith, called.few, called.told-length))

  -- where it is work it leaves a sound station
  pub sound-after : r.refusal ≡ 0 → begins_anew (file_code c) ≡ false → sound_station b' ≡ true
  sound-after z e = called.left-sound (is-work c q (taken-so z) e)

  -- what left by the code, with the words that its destination got
  abbrev left : List Block → List ℕ → List ℕ → ℕ → List Block
  left lists counts words = left_from b' lists counts (take r.letters told') (file_place c) (file_code c) words

  module _ (index : ℕ) {ws : List ℕ} (got : ws ≡ words_got c s) {out out₁ : List ℕ} {n : ℕ}
      (head : Puts (head_text index (file_place c) (file_code c) ws r.refusal (station_by b' []) (take r.events events') (take r.letters told')) 0 out n out₁)
    where
      first : Puts (first_lines index c q s) 0 out n out₁
      unfolding head_text
      first = subst (λ (t : List ℕ). Puts t 0 out n out₁) (λ i. head_text index (file_place c) (file_code c) (got i) (called.refusal i) (called.called.shows i) (sent i) (called.told i)) head
        where
          sent : take r.events events' ≡ map sent_words q.events
          sent = first_rows called.called (outcome q.refusal q.answer r.events) (λ i. outcome q.refusal q.answer (called.sent i))

      -- refused
      pub refused-notes : (gone : List Row) → (r.refusal ≡ 0 → ⊥) → StationNotes q index c b b' events events' gone gone out out₁ n
      unfolding station_noted station_noted_lines
      refused-notes gone z = record {
        called = called.called;
        counts = sym (if-false (counts_after c q s 0 gone) gone refused);
        puts = (then) first (subst⁻¹ (λ (t : List ℕ). Puts t n out₁ n out₁) (none-text c q s (refused-rests c q refused)) (none-put n out₁));
      }
        where
          refused : taken_by q ≡ false
          refused = ne_eqb q.refusal 0 (λ e. z (called.refusal ∙ e))

      -- accepted
      module _ (z : r.refusal ≡ 0) (lists : List Block) (counts : List ℕ) (gathered : HeldAll b lists counts) (long : station_short (station_lengths_of b (length events)) ≡ false) (gone : List Row) (eight : length gone ≡ 8) where
        rest-so : {m : ℕ} {out₂ : List ℕ} {gone' : List Row} → Puts (rest_text (file_code c) (left lists counts (words_got c s))) n out₁ m out₂ → gone' ≡ rest_counts (file_code c) (file_place c) (left lists counts (words_got c s)) gone
            → Puts (left_text (λ j. left_at j c q s)) n out₁ m out₂ × (gone' ≡ counts_after c q s 0 gone)
        rest-so {m} {out₂} p g = by-test (begins_anew (file_code c))
            (λ e. let w = anew-rests c q e in (
              subst (λ (t : List ℕ). Puts t n out₁ m out₂) (if-true [] (left_text (left lists counts (words_got c s))) e ∙ sym (none-text c q s w)) p,
              g ∙ if-true _ (counts_by (left lists counts (words_got c s)) 0 gone) e ∙ anew-counts c q s w e gone,
            ))
            (λ e. let w = is-work c q (taken-so z) e in (
              subst (λ (t : List ℕ). Puts t n out₁ m out₂) (if-false [] (left_text (left lists counts (words_got c s))) e ∙ left-text called lists counts gathered (length events) long w) p,
              g ∙ if-false (counts_anew (file_place c) (eqb (file_code c) 16) 0 gone) _ e ∙ left-counts called lists counts gathered (length events) long w gone eight,
            ))

        pub accepted-notes : {m : ℕ} {out₂ : List ℕ} {gone' : List Row} → Puts (rest_text (file_code c) (left lists counts ws)) n out₁ m out₂ → gone' ≡ rest_counts (file_code c) (file_place c) (left lists counts ws) gone
            → StationNotes q index c b b' events events' gone gone' out out₂ m
        unfolding station_noted station_noted_lines
        accepted-notes {m} {out₂} p g =
            let x = rest-so (subst (λ (words : List ℕ). Puts (rest_text (file_code c) (left lists counts words)) n out₁ m out₂) got p) (g ∙ ap (λ (words : List ℕ). rest_counts (file_code c) (file_place c) (left lists counts words) gone) got) in record {
              called = called.called;
              counts = x.1 ∙ sym (if-true (counts_after c q s 0 gone) gone (taken-so z));
              puts = (then) first x.0;
            }
