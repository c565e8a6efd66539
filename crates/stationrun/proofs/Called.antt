-- A station call as a call of a file, and its lines. Assumes nothing.
use Prim.Native.Nat.{ℕ, zero, suc, ◌+◌, ◌*◌, ◌≤◌, ◌<◌}
use native.Mathlib.Nat.{add-zero}
use native.Mathlib.Omega.{arith}
use mathlib.Core.Path.{◌≡◌, refl, sym, ap, ap₂, ◌∙◌, subst, subst⁻¹}
use mathlib.Core.Bool.{Bool, true, false, not, ◌&&◌, ◌||◌}
use mathlib.Core.List.{List, [], ◌∷◌, ◌++◌, map}
use mathlib.Core.Option.{Option, none, some}
use borrow.Author.Tests.{eqb-true, eqb-false, eq-eqb, ne_eqb, ltb-true, ltb-false}
use lib.Dec.{eqb, ltb}
use lib.ListN.{length, set, take, drop, get_or, replicate, length-set, length-map, length-take, length-append, take-append-drop}
use lib.Seq.{get_or-set_same, get_or-set_other, ext_get_or, take-append_seam}
use Rattle.definition.specs.Base.{whether◌then◌else◌, all, every, up_from}
use Rattle.definition.specs.Calls.{sound}
use Rattle.definition.specs.Words.{at}
use Rattle.definition.specs.Layout.{Row, Buffers, flag, is_mark, view, formed, sound_buffers}
use Rattle.definition.proofs.Tests.{by-if, by-test, if-true, if-false, and_left, and_right}
use Rattle.definition_station.specs.Types.{StationSlot, Station, slot_of, StationEvent}
use Rattle.definition_station.specs.Station.{StationLengths, station_short, station_sound, StationResult, station_refused, opens_right, opened_slot, open_at, not_there, station_step}
use Rattle.definition_station.specs.Layout.{StationBuffers, part, name_word, is_open, part_formed, station_formed, station_view, sound_station, station_lengths_of, buffer_station_step, sent_words}
use Rattle.definition_station.specs.Called.{StationCalled, own_opened}
use Rattle.definition_station.proofs.Buffers.{at_place, own-long}
use Rattle.definition_station.proofs.Places.{place_other}
use Rattle.definition_station.proofs.Sends.{station-sends}
use Rattle.stationcalls.proofs.Shape.{left-short, left-above, opens-is}
use Rattle.calls.specs.declared.Call.{Call}
use Rattle.engine.specs.declared.Outcome.{Outcome}
use Rattle.engine.specs.Called.{outcome}
use Rattle.callfile.specs.Lines.{call_line}
use Rattle.callfile.specs.Placed.{Puts, PutLine}
use Rattle.callfile.proofs.Parts.{then, line-puts}
use Rattle.callfile.proofs.Texts.{call_length}
use Rattle.stationlines.specs.StationLines.{sent_words_line, sent_rows_text}
use Rattle.stationlines.proofs.Rows.{sent-length, rows-length, rows_few}
use Rattle.stationrun.specs.StationRuns.{LentStation, station_by, file_code, file_place, station_on, file_call, taken_by, fits_after, own_words_after, left_station, station_lines, outcome_from, StationKeeps, FileCalled}

abbrev eight : List ℕ
eight = up_from 0 8

all-trues : (p : ℕ → Bool) (l : List ℕ) → all p l ≡ true → map p l ≡ replicate (length l) true
all-trues p [] e = refl
all-trues p (x ∷ l) e = ap₂ (λ (h : Bool) (t : List Bool). h ∷ t) (and_left (p x) (all p l) e) (all-trues p l (and_right (p x) (all p l) e))

above : (n : ℕ) → eqb n 0 ≡ false → 1 ≤ n
above n e = by_zero n (eqb-false n 0 e)
  where
    by_zero : (m : ℕ) → (m ≡ 0 → ⊥) → 1 ≤ m
    by_zero zero g = absurd (g refl)
    by_zero (suc m) g = omega arith

-- one place is changed
one_set : (p p' : ℕ → Bool) (k : ℕ) → k < 8 → p' k ≡ true → ((j : ℕ) → j < 8 → (j ≡ k → ⊥) → p' j ≡ p j) → map p' eight ≡ set (map p eight) k true
one_set p p' k h e others = ext_get_or false (map p' eight) (set (map p eight) k true) (sym (length-set (map p eight) k true)) each
  where
    there : (f : ℕ → Bool) (i : ℕ) → i < 8 → get_or (map f eight) i false ≡ f i
    there f i g = at_place f false 0 8 i g ∙ ap f (add-zero i)

    each : (i : ℕ) → i < 8 → get_or (map p' eight) i false ≡ get_or (set (map p eight) k true) i false
    each i g = by-test (eqb i k)
        (λ y. let f = eqb-true i k y in there p' i g ∙ ap p' f ∙ e ∙ sym (get_or-set_same (map p eight) k true false h) ∙ ap (λ (n : ℕ). get_or (set (map p eight) k true) n false) (sym f))
        (λ y. let f = eqb-false i k y in there p' i g ∙ others i g f ∙ sym (there p i g) ∙ sym (get_or-set_other (map p eight) k i true false f))

-- ---- a call on lent buffers is a call on what they hold

pub on-buffers : (b : StationBuffers) (events : List Row) (k code : ℕ) (ws : List ℕ) → station_on (station_lengths_of b (length events)) k code ws (station_by b events) ≡ buffer_station_step b (length events) k code ws
unfolding station_on buffer_station_step station_formed
on-buffers b events k code ws = refl

sends : (b : StationBuffers) (n k code : ℕ) (ws : List ℕ) → length (buffer_station_step b n k code ws).events ≤ 4872
unfolding buffer_station_step
sends b n k code ws = by-if (λ (r : StationResult). length r.events ≤ 4872) (not (station_short (station_lengths_of b n)) && (not (not_there k code (station_view b)) && (not (eqb code 0) && not (station_formed b)))) (station_refused 2 (station_view b)) (station_step (station_lengths_of b n) k code ws (station_view b))
    (λ _. omega arith)
    (λ _. station-sends (station_lengths_of b n) k code ws (station_view b))

-- ---- an accepted open

module _ (b : StationBuffers) (events : List Row) (k code : ℕ) (ws : List ℕ) (zero-code : code ≡ 0) where
  abbrev v : Station
  v = station_view b

  abbrev q : StationResult
  q = buffer_station_step b (length events) k code ws

  long-so : q.refusal ≡ 0 → station_short (station_lengths_of b (length events)) ≡ false
  long-so z = by-test (station_short (station_lengths_of b (length events)))
      (λ e. absurd (omega (arith, z, (left-short b events k code ws e).refuses)))
      (λ e. e)

  place-so : q.refusal ≡ 0 → k < 8
  place-so z = by-test (ltb 7 k)
      (λ e. absurd (omega (arith, z, (left-above b events k code ws (long-so z) (ltb-true 7 k e)).refuses)))
      (λ e. omega (arith, ltb-false 7 k e))

  abbrev Others : StationResult → Type 0
  Others r = r.refusal ≡ 0 → (j : ℕ) → (j ≡ k → ⊥) → slot_of j r.station ≡ slot_of j v

  opens : Others (open_at k ws v)
  unfolding open_at
  opens = by-if Others (opens_right ws) _ _ (λ _ _ j n. place_other k j v (some (opened_slot ws)) n) (λ _ y. absurd (omega (arith, y)))

  others-so : q.refusal ≡ 0 → (j : ℕ) → (j ≡ k → ⊥) → slot_of j q.station ≡ slot_of j v
  others-so z = subst⁻¹ Others (opens-is b events k code ws (long-so z) (place-so z) (eq-eqb code 0 zero-code)) opens z

-- ---- what it leaves

module _ (b b' : StationBuffers) (events events' : List Row) (k code : ℕ) (ws : List ℕ) (refusal answer count : ℕ)
    (t : StationCalled (buffer_station_step b (length events) k code ws) k code ws b b' events events' refusal answer count)
  where
    abbrev r : StationResult
    r = buffer_station_step b (length events) k code ws

    module _ (z : r.refusal ≡ 0) (c : code ≡ 0) where
      h : k < 8
      h = place-so b events k code ws c z

      long : 20 ≤ length b.own
      long = own-long b (length events) (long-so b events k code ws c z)

      own_is : b'.own ≡ own_opened k ws b.own
      own_is = t.own-opened z c

      marked : at k b'.own ≡ 1
      marked = ap (at k) own_is ∙ get_or-set_other (set b.own k 1) (name_word k) k (at 6 ws) 0 (λ e. omega (arith, e)) ∙ get_or-set_same b.own k 1 0 (omega (arith, h, long))

      fits-here : formed (part k b') ≡ true
      unfolding sound_buffers
      fits-here = and_left (formed (part k b')) (sound (view (part k b'))) (t.opens-sound z c)

      here : part_formed b' k ≡ true
      unfolding part_formed
      here = ap₂ (λ (m : ℕ) (f : Bool). is_mark m && (not (flag m) || f)) marked fits-here

      others : (j : ℕ) → j < 8 → (j ≡ k → ⊥) → part_formed b' j ≡ part_formed b j
      unfolding part_formed
      others j g n =
          let word : at j b'.own ≡ at j b.own = ap (at j) own_is ∙ get_or-set_other (set b.own k 1) (name_word k) j (at 6 ws) 0 (λ e. omega (arith, e, g)) ∙ get_or-set_other b.own k j 1 0 n in
          ap₂ (λ (m : ℕ) (p : Buffers). is_mark m && (not (flag m) || formed p)) word (t.destinations.elsewhere j g n (others-so b events k code ws c z j n))

      open-fits : map (part_formed b') eight ≡ set (map (part_formed b) eight) k true
      open-fits = one_set (part_formed b) (part_formed b') k h here others

    call_fits : r.refusal ≡ 0 → 1 ≤ code → map (part_formed b') eight ≡ replicate 8 true
    unfolding sound_station station_formed
    call_fits z c = all-trues (part_formed b') eight (and_left (station_formed b') (station_sound (station_view b')) (t.leaves-sound z c))

    sent-events : events' ≡ map sent_words r.events ++ drop (length r.events) events
    sent-events =
        let n : count ≡ length r.events = t.sends.many ∙ length-map r.events sent_words in
        sym (take-append-drop count events') ∙ ap₂ (λ (x y : List Row). x ++ y) t.sends.first (t.sends.later ∙ ap (λ (m : ℕ). drop m events) n)

    own_same : r.refusal ≡ 0 → length b'.own ≡ length b.own
    own_same z = by-test (eqb code 0)
        (λ e. ap length (t.own-opened z (eqb-true code 0 e)) ∙ length-set (set b.own k 1) (name_word k) (at 6 ws) ∙ length-set b.own k 1)
        (λ e. ap length (t.own-called z (above code e)) ∙ length-set (set b.own 16 r.station.next) 17 r.station.lost ∙ length-set b.own 16 r.station.next)

-- ---- as a call of a file

module _ (c : Call) (b b' : StationBuffers) (events events' : List Row) (o : Outcome) (not_start : file_code c ≡ 16 → ⊥)
    (t : StationCalled (buffer_station_step b (length events) (file_place c) (file_code c) c.words) (file_place c) (file_code c) c.words b b' events events' o.refusal o.answer o.events)
  where
    abbrev x : StationResult
    x = buffer_station_step b (length events) (file_place c) (file_code c) c.words

    fits-so : map (part_formed b') eight ≡ (whether taken_by x then fits_after c (map (part_formed b) eight) else map (part_formed b) eight)
    fits-so = by-test (taken_by x)
        (λ z. let y = eqb-true x.refusal 0 z in by-test (eqb (file_code c) 0)
        (λ e. open-fits b b' events events' (file_place c) (file_code c) c.words o.refusal o.answer o.events t y (eqb-true (file_code c) 0 e) ∙ sym (if-true _ _ z ∙ if-true _ _ e))
        (λ e. call_fits b b' events events' (file_place c) (file_code c) c.words o.refusal o.answer o.events t y (above (file_code c) e) ∙ sym (if-true _ _ z ∙ if-false _ _ e)))
        (λ z. ap (λ (w : StationBuffers). map (part_formed w) eight) (t.kept (eqb-false x.refusal 0 z)).0 ∙ sym (if-false _ _ z))

    own-so : b'.own ≡ (whether taken_by x then own_words_after c x b.own else b.own)
    own-so = by-test (taken_by x)
        (λ z. let y = eqb-true x.refusal 0 z in by-test (eqb (file_code c) 0)
        (λ e. t.own-opened y (eqb-true (file_code c) 0 e) ∙ sym (if-true _ _ z ∙ if-false _ _ (ne_eqb (file_code c) 16 not_start) ∙ if-true _ _ e))
        (λ e. t.own-called y (above (file_code c) e) ∙ sym (if-true _ _ z ∙ if-false _ _ (ne_eqb (file_code c) 16 not_start) ∙ if-false _ _ e)))
        (λ z. ap (λ (w : StationBuffers). w.own) (t.kept (eqb-false x.refusal 0 z)).0 ∙ sym (if-false _ _ z))

    called : FileCalled x c b b' events events'
    called = record {
      few = sends b (length events) (file_place c) (file_code c) c.words;
      shows = λ j. record {
        fits = fits-so j;
        station = t.shows j;
        own = own-so j;
        events = sent-events b b' events events' (file_place c) (file_code c) c.words o.refusal o.answer o.events t j;
      };
      left = record {
        kept = λ f. (t.kept (eqb-false x.refusal 0 f)).0;
        past = t.destinations.past;
        own-length = by-test (taken_by x)
            (λ z. own_same b b' events events' (file_place c) (file_code c) c.words o.refusal o.answer o.events t (eqb-true x.refusal 0 z))
            (λ z. ap (λ (w : StationBuffers). length w.own) (t.kept (eqb-false x.refusal 0 z)).0);
        events-length = t.sends.events-length;
      };
    }

    pub station-called : let f = file_call (station_lengths_of b (length events)) c (station_by b events) in FileCalled f c b b' events events' × (o ≡ outcome_from f)
    unfolding file_call
    station-called = subst⁻¹ (λ (f : StationResult). FileCalled f c b b' events events' × (o ≡ outcome_from f)) (if-false _ _ (ne_eqb (file_code c) 16 not_start) ∙ on-buffers b events (file_place c) (file_code c) c.words)
        (called, (λ j. record { refusal = t.refuses j; answer = t.answers j; events = (t.sends.many ∙ length-map x.events sent_words) j }))

-- ---- its lines

pub text-length : (index : ℕ) (q : StationResult) → length q.events ≤ 4872 → length (station_lines index q) ≤ 623744
unfolding station_lines
text-length index q few = simp length-append (omega (arith, few, call_length index q.refusal q.answer, rows-length sent_words_line sent-length (map sent_words q.events), length-map q.events sent_words))

module _ {q : StationResult} {c : Call} {b b' : StationBuffers} {events events' : List Row} (f : FileCalled q c b b' events events') (o : Outcome) (told : o ≡ outcome_from q) where
  rows_are : events' ≡ map sent_words q.events ++ drop (length q.events) events
  rows_are = ap (λ (s : LentStation). s.events) f.shows

  pub first_rows : take o.events events' ≡ map sent_words q.events
  first_rows =
      ap₂ (λ (n : ℕ) (es : List Row). take n es) (ap (λ (x : Outcome). x.events) told ∙ sym (length-map q.events sent_words)) rows_are
      ∙ take-append_seam (map sent_words q.events) (drop (length q.events) events)

  module _ (index : ℕ) {at next : ℕ} {out out₁ : List ℕ} (room : at + 623872 ≤ length out) (line : PutLine 128 (call_line index o.refusal o.answer) at out next out₁) where
    first-line : Puts (call_line index o.refusal o.answer) at out next out₁
    first-line = line-puts (omega (arith, room)) (call_length index o.refusal o.answer) line

    room-left : next + (128 + 128 * o.events) ≤ length out₁
    room-left = omega (arith, room, f.few, ap (λ (x : Outcome). x.events) told, first-line.next, first-line.same, call_length index o.refusal o.answer)

    pub printed : {m : ℕ} {out₂ : List ℕ} → PutLine (128 + 128 * o.events) (sent_rows_text (take o.events events')) next out₁ m out₂ → Puts (station_lines index q) at out m out₂
    unfolding station_lines
    printed {m} {out₂} p = subst (λ (x : List ℕ). Puts x at out m out₂) (λ j. call_line index (told j).refusal (told j).answer ++ sent_rows_text (first_rows j))
        ((then) first-line (line-puts room-left (omega (arith, rows_few sent_words_line sent-length o.events events')) p))
