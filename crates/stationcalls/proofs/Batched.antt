-- Calls one after another on a sound station: what is done so far and what is left make the whole. Assumes nothing.
use mathlib.Core.Path.{◌≡◌, refl, sym, ap, ap₂, ◌∙◌, subst, subst⁻¹}
use mathlib.Core.Bool.{Bool, true, false, not, ◌&&◌, ◌||◌, true≢false}
use mathlib.Core.List.{List, [], ◌∷◌, ◌++◌, map, append_assoc, append-nil}
use mathlib.Core.Option.{some}
use Prim.Native.Nat.{ℕ, zero, suc, ◌+◌, ◌-◌, ◌≤◌, ◌<◌}
use native.Mathlib.Nat.{add-zero}
use native.Mathlib.Numerals.{add-one}
use native.Mathlib.Omega.{arith}
use borrow.Author.Tests.{eqb-true, eqb-false, not-true, ltb-true, ltb-false, lt-ltb, le-ltb}
use lib.Dec.{ltb, eqb}
use lib.ListN.{length, take, drop, get_or, set, length-map, length-take, length-drop, length-set}
use lib.Seq.{length-take-le, take_all, take-suc, drop-cons, drop-drop, take-add, take-suc-set, drop-set-lt, get_or-set_same, get_or-set_other}
use Rattle.definition.specs.Base.{all}
use Rattle.definition.specs.Words.{at}
use Rattle.definition.specs.Layout.{Row, Buffers, flag, is_mark, formed, sound_buffers}
use Rattle.definition.proofs.Tests.{by-test, by-if, and_left, and_right, and_both, if-true, if-false}
use Rattle.definition.proofs.Lists.{all_left, all_right}
use Rattle.calls.specs.declared.Call.{Call}
use Rattle.calls.specs.Calls.{new_call}
use Rattle.engine.specs.declared.Outcome.{Outcome}
use Rattle.engine.specs.declared.batch.Done.{Done}
use Rattle.engine.specs.Batch.{eight_words, refusing}
use Rattle.engine.proofs.Batched.{part_length, back-part}
use Rattle.definition_station.specs.Types.{Station, slot_of}
use Rattle.definition_station.specs.Station.{StationLengths, station_events, station_short, station_sound, StationResult, opened_slot, not_there, station_step}
use Rattle.definition_station.specs.Layout.{StationBuffers, part, station_view, part_formed, station_formed, sound_station, sent_words, station_lengths_of, buffer_station_step}
use Rattle.definition_station.specs.Called.{StationPast, StationCalled}
use Rattle.definition_station.proofs.Buffers.{all-at, all_from, heads-long, subs-long, rows_long, own-long}
use Rattle.definition_station.proofs.Places.{place_other}
use Rattle.definition_station.proofs.Sound.{opened, open-keeps-sound}
use Rattle.stationcalls.specs.Batch.{listed_code, listed_place, listed_step, own_listed, opens_not, StationBatch, station_undone, station_outcome, station_followed, fewer_events, station_batch, buffer_station_batch, StationBatched}
use Rattle.stationcalls.specs.Queried.{station_checked}
use Rattle.stationcalls.proofs.Queried.{checked-unsound, checked-sound, checked-long}
use Rattle.stationcalls.proofs.Shape.{left-above}
use Rattle.stationcalls.proofs.Onward.{used_by, Onward, onward-same, onward-on, step-onward, step-more}
use Rattle.std.specs.Prelude.{Result as Given, Ok, Err, is_err}
use Rattle.model.specs.declared.Refusal.{Refusal}
use Rattle.state.specs.Answers.{refusal_of}
use Rattle.state.proofs.Told.{numbered}

-- a test that is refused has a number above 0, and one that is not has 0
pub err-number : {T : Type 0} → (r : Given T Refusal) → is_err r ≡ true → refusal_of r ≡ 0 → ⊥
err-number (Ok x) e z = absurd (true≢false (sym e))
err-number (Err f) e z = absurd (omega (arith, z, numbered f))

pub ok-number : {T : Type 0} → (r : Given T Refusal) → is_err r ≡ false → refusal_of r ≡ 0
ok-number (Ok x) e = refl
ok-number (Err f) e = absurd (true≢false e)

-- ---- the definition, a call at a time

batch-short : (l : StationLengths) (n : ℕ) (ws : List Row) (s : Station) (own : List ℕ) → station_short l ≡ true → station_batch l n ws s own ≡ station_undone s own
unfolding station_batch
batch-short l n [] s own h = refl
batch-short l zero (w ∷ ws) s own h = refl
batch-short l (suc n) (w ∷ ws) s own h = rw h

batch-full : (l : StationLengths) (ws : List Row) (s : Station) (own : List ℕ) → station_batch l 0 ws s own ≡ station_undone s own
unfolding station_batch
batch-full l [] s own = refl
batch-full l (w ∷ ws) s own = refl

batch-over : (l : StationLengths) (n : ℕ) (ws : List Row) (s : Station) (own : List ℕ) → length ws ≡ 0 → station_batch l n ws s own ≡ station_undone s own
unfolding station_batch
batch-over l n [] s own h = refl
batch-over l n (w ∷ ws) s own h = absurd (omega arith)

batch-next : (l : StationLengths) (n : ℕ) (w : Row) (ws : List Row) (s : Station) (own : List ℕ) (r : StationResult) → station_short l ≡ false → r ≡ listed_step l w s
    → station_batch l (suc n) (w ∷ ws) s own ≡ station_followed r (station_batch (fewer_events (length r.events) l) n ws r.station (own_listed w r own))
unfolding station_batch
batch-next l n w ws s own r h e = rw h (sym (ap (λ (x : StationResult). station_followed x (station_batch (fewer_events (length x.events) l) n ws x.station (own_listed w x own))) e))

-- on a sound station the step of the definition is what `call` promises, so a batch is call after call
pub sound-station-step : (b : StationBuffers) (n k code : ℕ) (ws : List ℕ) → sound_station b ≡ true → buffer_station_step b n k code ws ≡ station_step (station_lengths_of b n) k code ws (station_view b)
unfolding buffer_station_step sound_station
sound-station-step b n k code ws y = if-false _ _ (never (station_short (station_lengths_of b n)) (not_there k code (station_view b)) (eqb code 0) (station_formed b) (and_left (station_formed b) _ y))
  where
    never : (s t z f : Bool) → f ≡ true → (not s && (not t && (not z && not f))) ≡ false
    never true t z f e = refl
    never false true z f e = refl
    never false false true f e = refl
    never false false false f e = ap not e

-- ---- lengths

-- an event list is short
few-short : (b : StationBuffers) (n : ℕ) → n < 4872 → station_short (station_lengths_of b n) ≡ true
unfolding station_short
few-short b n h = last (ltb (length b.heads) 66776) (ltb (length b.subs) 256) (ltb (length b.rows) 4096) (ltb (length b.own) 20) (ltb n 4872) (lt-ltb n 4872 h)
  where
    last : (p q r s t : Bool) → t ≡ true → (p || (q || (r || (s || t)))) ≡ true
    last true q r s t e = refl
    last false true r s t e = refl
    last false false true s t e = refl
    last false false false true t e = refl
    last false false false false t e = e

-- buffers as long as some that are not short
as_long : (b b' : StationBuffers) (m n : ℕ) → station_short (station_lengths_of b m) ≡ false → StationPast b b' → length b'.own ≡ length b.own → 4872 ≤ n → station_short (station_lengths_of b' n) ≡ false
unfolding station_short
as_long b b' m n e p o h = rw (
  le-ltb (length b'.heads) 66776 (omega (arith, heads-long b m e, p.heads-length)),
  le-ltb (length b'.subs) 256 (omega (arith, subs-long b m e, p.subs-length)),
  le-ltb (length b'.rows) 4096 (omega (arith, rows_long b m e, p.rows-length)),
  le-ltb (length b'.own) 20 (omega (arith, own-long b m e, o)),
  le-ltb n 4872 h,
)

past-none : (b : StationBuffers) → StationPast b b
past-none b = record { heads-past = refl; subs-past = refl; rows-past = refl; heads-length = refl; subs-length = refl; rows-length = refl }

-- ---- a call leaves a sound station

module _ (b : StationBuffers) (events : List Row) (k : ℕ) (ws : List ℕ) (y : sound_station b ≡ true) (long : station_short (station_lengths_of b (length events)) ≡ false) where
  abbrev opening : StationResult
  opening = buffer_station_step b (length events) k 0 ws

  module _ (b' : StationBuffers) (events' : List Row) (refusal answer count : ℕ) (by : StationCalled opening k 0 ws b b' events events' refusal answer count) (z : opening.refusal ≡ 0) where
    is-step : opening ≡ station_step (station_lengths_of b (length events)) k 0 ws (station_view b)
    is-step = sound-station-step b (length events) k 0 ws y

    accepted : (station_step (station_lengths_of b (length events)) k 0 ws (station_view b)).refusal ≡ 0
    accepted = ap (λ (r : StationResult). r.refusal) (sym is-step) ∙ z

    is-place : k < 8
    is-place = by-test (ltb 7 k) (λ t. absurd (omega (arith, z, (left-above b events k 0 ws long (ltb-true 7 k t)).refuses))) (λ t. omega (arith, ltb-false 7 k t))

    mark : at k b'.own ≡ 1
    mark =
        ap (at k) (by.own-opened z refl)
        ∙ get_or-set_other (set b.own k 1) (8 + k) k (at 6 ws) 0 (λ e. omega (arith, e))
        ∙ get_or-set_same b.own k 1 0 (omega (arith, is-place, own-long b (length events) long))

    other-mark : (j : ℕ) → j < 8 → (j ≡ k → ⊥) → at j b'.own ≡ at j b.own
    other-mark j h ne =
        ap (at j) (by.own-opened z refl)
        ∙ get_or-set_other (set b.own k 1) (8 + k) j (at 6 ws) 0 (λ e. omega (arith, e, h))
        ∙ get_or-set_other b.own k j 1 0 ne

    other-part : (j : ℕ) → j < 8 → (j ≡ k → ⊥) → part j b' ≡ part j b
    other-part j h ne = by.destinations.elsewhere j h ne
        (ap (λ (r : StationResult). slot_of j r.station) (is-step ∙ (opened (station_lengths_of b (length events)) k ws (station_view b) accepted).1) ∙ place_other k j (station_view b) (some (opened_slot ws)) ne)

    here-formed : part_formed b' k ≡ true
    unfolding part_formed sound_buffers
    here-formed = rw mark (and_left (formed (part k b')) _ (by.opens-sound z refl))

    each-formed : (j : ℕ) → j < 8 → part_formed b' j ≡ true
    unfolding part_formed sound_station station_formed
    each-formed j h = by-test (eqb j k)
        (λ e. subst⁻¹ (λ (i : ℕ). part_formed b' i ≡ true) (eqb-true j k e) here-formed)
        (λ n. let ne = eqb-false j k n in
        ap₂ (λ (w : ℕ) (p : Buffers). is_mark w && (not (flag w) || formed p)) (other-mark j h ne) (other-part j h ne)
        ∙ ap (part_formed b) (sym (add-zero j)) ∙ all-at (part_formed b) 0 8 j h (and_left (station_formed b) _ y))

    pub opened-sound : sound_station b' ≡ true
    unfolding sound_station station_formed
    opened-sound = and_both (station_formed b') _
        (all_from (part_formed b') 0 8 (λ j h. ap (part_formed b') (add-zero j) ∙ each-formed j h))
        (ap station_sound by.shows ∙ ap (λ (r : StationResult). station_sound r.station) is-step
        ∙ open-keeps-sound (station_lengths_of b (length events)) k ws (station_view b) (and_right (station_formed b) _ y) accepted)

-- an accepted call leaves it sound, an open too; a refused one leaves it as it was
called-sound : (b : StationBuffers) (events : List Row) (k code : ℕ) (ws : List ℕ) → sound_station b ≡ true → station_short (station_lengths_of b (length events)) ≡ false
    → (b' : StationBuffers) (events' : List Row) (refusal answer count : ℕ) → StationCalled (buffer_station_step b (length events) k code ws) k code ws b b' events events' refusal answer count
    → sound_station b' ≡ true
called-sound b events k code ws y long b' events' refusal answer count by =
    let q : StationResult = buffer_station_step b (length events) k code ws in
    by-test (eqb q.refusal 0)
    (λ z. let a : q.refusal ≡ 0 = eqb-true q.refusal 0 z in by-test (eqb code 0)
    (λ c. let e : code ≡ 0 = eqb-true code 0 c in
    opened-sound b events k ws y long b' events' refusal answer count
    (subst (λ (m : ℕ). StationCalled (buffer_station_step b (length events) k m ws) k m ws b b' events events' refusal answer count) e by)
    (ap (λ (m : ℕ). (buffer_station_step b (length events) k m ws).refusal) (sym e) ∙ a))
    (λ c. let ne = eqb-false code 0 c in by.leaves-sound a (omega arith)))
    (λ n. ap sound_station (by.kept (eqb-false q.refusal 0 n)).0 ∙ y)

-- ---- so far

-- what was done, and then the rest
abbrev joined : List Row → List Row → StationBatch → StationBatch
joined outcomes events q = record { outcomes = outcomes ++ q.outcomes; events = events ++ q.events; station = q.station; own = q.own }

joined-twice : (os es : List Row) (o : Row) (e : List Row) (q : StationBatch) → joined os es (record { outcomes = o ∷ q.outcomes; events = e ++ q.events; station = q.station; own = q.own }) ≡ joined (os ++ o ∷ []) (es ++ e) q
joined-twice os es o e q = sym (λ j. record { outcomes = append_assoc os (o ∷ []) q.outcomes j; events = append_assoc es e q.events j; station = q.station; own = q.own })

-- a destination that was not opened
pub record KeptAt (j : ℕ) (b₀ b : StationBuffers) : Type 0 where
  pub onward : Onward j (station_view b₀) (station_view b)
  pub part_same : slot_of j (station_view b) ≡ slot_of j (station_view b₀) → part j b ≡ part j b₀

-- i calls are done, and their events stand before `from`
pub record Sofar (ws : List Row) (b₀ : StationBuffers) (events₀ outcomes₀ : List Row) (b : StationBuffers) (events outcomes : List Row) (i from : ℕ) : Type 0 where
  pub places : i ≤ length outcomes
  pub room : from ≤ length events
  pub rest : station_batch (station_lengths_of b₀ (length events₀)) (length outcomes₀) ws (station_view b₀) b₀.own ≡ joined (take i outcomes) (take from events) (station_batch (station_lengths_of b (length events - from)) (length outcomes - i) (drop i ws) (station_view b) b.own)
  pub is-sound : sound_station b ≡ true
  pub untold : drop i outcomes ≡ drop i outcomes₀
  pub later : drop from events ≡ drop from events₀
  pub kept : all refusing (take i outcomes) ≡ true → b ≡ b₀
  pub elsewhere : (j : ℕ) → j < 8 → all (opens_not j) (take i ws) ≡ true → KeptAt j b₀ b
  pub past : StationPast b₀ b
  pub own-length : length b.own ≡ length b₀.own
  pub events-length : length events ≡ length events₀
  pub outcomes-length : length outcomes ≡ length outcomes₀

pub none_yet : (ws : List Row) (b : StationBuffers) (events outcomes : List Row) → sound_station b ≡ true → Sofar ws b events outcomes b events outcomes 0 0
none_yet ws b events outcomes y = record {
  places = omega arith;
  room = omega arith;
  rest = ap₂ (λ (n k : ℕ). station_batch (station_lengths_of b n) k ws (station_view b) b.own) (minus (length events)) (minus (length outcomes));
  is-sound = y;
  untold = refl;
  later = refl;
  kept = λ _. refl;
  elsewhere = λ j h e. record { onward = onward-same j (station_view b) (station_view b) refl; part_same = λ _. refl };
  past = past-none b;
  own-length = refl;
  events-length = refl;
  outcomes-length = refl;
}
  where
    minus : (n : ℕ) → n ≡ n - 0
    minus n = omega arith

module _ (ws : List Row) (b₀ : StationBuffers) (events₀ outcomes₀ : List Row) (b : StationBuffers) (events outcomes : List Row) (i from : ℕ) (s : Sofar ws b₀ events₀ outcomes₀ b events outcomes i from) where
  abbrev whole : StationBatch
  whole = station_batch (station_lengths_of b₀ (length events₀)) (length outcomes₀) ws (station_view b₀) b₀.own

  abbrev n : ℕ
  n = length events - from

  abbrev Ends : StationBatch → Type 0
  Ends q = StationBatched q ws b₀ b events₀ events outcomes₀ outcomes (record { calls = i; events = from })

  -- ---- it ends

  ended : station_batch (station_lengths_of b n) (length outcomes - i) (drop i ws) (station_view b) b.own ≡ station_undone (station_view b) b.own → Ends whole
  ended e =
      subst⁻¹ Ends (s.rest ∙ ap (joined (take i outcomes) (take from events)) e) (record {
        calls = sym (ap length (append-nil (take i outcomes)) ∙ length-take-le i outcomes s.places);
        count = sym (ap length (append-nil (take from events)) ∙ length-take-le from events s.room);
        told = sym (append-nil (take i outcomes));
        untold = s.untold;
        sent = sym (append-nil (take from events));
        later = s.later;
        shows = refl;
        own_is = refl;
        leaves-sound = λ _. s.is-sound;
        kept = λ h. s.kept (subst (λ (l : List Row). all refusing l ≡ true) (append-nil (take i outcomes)) h);
        elsewhere = λ j h e. (s.elsewhere j h e).part_same;
        past = s.past;
        events-length = s.events-length;
        outcomes-length = s.outcomes-length;
      })

  pub last-call : length ws ≤ i → Ends whole
  last-call h = ended (batch-over (station_lengths_of b n) (length outcomes - i) (drop i ws) (station_view b) b.own (omega (arith, length-drop i ws)))

  pub last-place : length outcomes ≤ i → Ends whole
  last-place h =
      let z : length outcomes - i ≡ 0 = omega arith in
      ended (ap (λ (k : ℕ). station_batch (station_lengths_of b n) k (drop i ws) (station_view b) b.own) z ∙ batch-full (station_lengths_of b n) (drop i ws) (station_view b) b.own)

  pub no_room : n < 4872 → Ends whole
  no_room h = ended (batch-short (station_lengths_of b n) (length outcomes - i) (drop i ws) (station_view b) b.own (few-short b n h))

  -- ---- one call more

  -- what is left has room where the state had, and 4,872 places are left
  pub still-roomy : station_short (station_lengths_of b₀ station_events) ≡ false → 4872 ≤ n → station_short (station_lengths_of b n) ≡ false
  still-roomy e h = as_long b₀ b station_events n e s.past s.own-length h

  module _ (w : Row) (x : Call) (named : x ≡ new_call (listed_code w) (eight_words w)) (b' : StationBuffers) (events' : List Row) (r : Outcome)
      (by : StationCalled (buffer_station_step b n (listed_place w) x.code x.words) (listed_place w) x.code x.words b b' (drop from events) (drop from events') r.refusal r.answer r.events)
      (front : take from events' ≡ take from events)
    where
      abbrev q : StationResult
      q = buffer_station_step b n (listed_place w) (listed_code w) (eight_words w)

      abbrev Leaves : StationResult → ℕ → List ℕ → Type 0
      Leaves a code l = StationCalled a (listed_place w) code l b b' (drop from events) (drop from events') r.refusal r.answer r.events

      called : Leaves q (listed_code w) (eight_words w)
      called = subst (λ (y : Call). Leaves (buffer_station_step b n (listed_place w) y.code y.words) y.code y.words) named by

      abbrev k : ℕ
      k = r.events

      same-events : length events' ≡ length events
      same-events = omega (arith, ap length front, length-take from events', length-take from events, called.sends.events-length, length-drop from events', length-drop from events, s.room)

      fit : from + k ≤ length events'
      fit =
          let m : length (take k (drop from events')) ≡ k = ap length called.sends.first ∙ sym called.sends.many in
          omega (arith, m, length-take k (drop from events'), length-drop from events', same-events, s.room)

      pub fit-entry : from + k ≤ length events₀
      fit-entry = omega (arith, fit, same-events, s.events-length)

      -- the own words after it
      own-after : b'.own ≡ own_listed w q b.own
      own-after = by-if (λ (l : List ℕ). b'.own ≡ l) (eqb q.refusal 0) _ _
          (λ z. let a = eqb-true q.refusal 0 z in by-if (λ (l : List ℕ). b'.own ≡ l) (eqb (listed_code w) 0) _ _
          (λ c. called.own-opened a (eqb-true (listed_code w) 0 c))
          (λ c. let ne = eqb-false (listed_code w) 0 c in called.own-called a (omega arith)))
          (λ z. ap (λ (t : StationBuffers). t.own) (called.kept (eqb-false q.refusal 0 z)).0)

      same-own : length b'.own ≡ length b.own
      same-own = ap length own-after ∙ by-if (λ (l : List ℕ). length l ≡ length b.own) (eqb q.refusal 0) _ _
          (λ z. by-if (λ (l : List ℕ). length l ≡ length b.own) (eqb (listed_code w) 0) _ _ (λ c. simp length-set) (λ c. simp length-set))
          (λ z. refl)

      module _ (more : i < length ws) (space : i < length outcomes) (roomy : station_short (station_lengths_of b n) ≡ false) (is : w ≡ get_or ws i []) (outcomes' : List Row)
          (told : outcomes' ≡ set outcomes i (r.refusal ∷ r.answer ∷ r.events ∷ []))
        where
          same-outcomes : length outcomes' ≡ length outcomes
          same-outcomes = ap length told ∙ simp length-set

          meant : q ≡ listed_step (station_lengths_of b n) w (station_view b)
          meant = sound-station-step b n (listed_place w) (listed_code w) (eight_words w) s.is-sound

          many : k ≡ length q.events
          many = called.sends.many ∙ length-map q.events sent_words

          lengths-are : fewer_events (length q.events) (station_lengths_of b n) ≡ station_lengths_of b' (length events' - (from + k))
          lengths-are =
              let e : length events' - (from + k) ≡ n - length q.events = omega (arith, many, same-events) in
              let p = called.destinations.past in
              sym (λ j. record { head = p.heads-length j; subs = p.subs-length j; rows = p.rows-length j; own = same-own j; events = e j })

          abbrev others : StationBatch
          others = station_batch (station_lengths_of b' (length events' - (from + k))) (length outcomes' - (i + 1)) (drop (i + 1) ws) (station_view b') b'.own

          left : station_batch (station_lengths_of b n) (length outcomes - i) (drop i ws) (station_view b) b.own ≡ station_followed q others
          left =
              let p : length outcomes - i ≡ suc (length outcomes' - (i + 1)) = omega (arith, same-outcomes) in
              let l : drop i ws ≡ w ∷ drop (i + 1) ws = rw add-one (drop-cons ws i [] more ∙ ap (λ (x : Row). x ∷ drop (suc i) ws) (sym is)) in
              ap₂ (λ (m : ℕ) (x : List Row). station_batch (station_lengths_of b n) m x (station_view b) b.own) p l
              ∙ batch-next (station_lengths_of b n) (length outcomes' - (i + 1)) w (drop (i + 1) ws) (station_view b) b.own q roomy meant
              ∙ ap₂ (λ (x : StationLengths) (t : Station). station_followed q (station_batch x (length outcomes' - (i + 1)) (drop (i + 1) ws) t (own_listed w q b.own))) lengths-are (sym called.shows)
              ∙ ap (λ (o : List ℕ). station_followed q (station_batch (station_lengths_of b' (length events' - (from + k))) (length outcomes' - (i + 1)) (drop (i + 1) ws) (station_view b') o)) (sym own-after)

          said : r.refusal ∷ r.answer ∷ k ∷ [] ≡ station_outcome q
          said = λ j. called.refuses j ∷ called.answers j ∷ many j ∷ []

          outcomes-are : take (i + 1) outcomes' ≡ take i outcomes ++ station_outcome q ∷ []
          outcomes-are = rw add-one (ap (take (suc i)) told ∙ take-suc-set outcomes i (r.refusal ∷ r.answer ∷ k ∷ []) space ∙ ap (λ (o : Row). take i outcomes ++ o ∷ []) said)

          events-are : take (from + k) events' ≡ take from events ++ map sent_words q.events
          events-are = take-add from k events' ∙ ap₂ (λ (x y : List Row). x ++ y) front called.sends.first

          kept-so : all refusing (take (i + 1) outcomes') ≡ true → b' ≡ b₀
          kept-so h =
              let f = subst (λ (l : List Row). all refusing l ≡ true) outcomes-are h in
              let g : refusing (station_outcome q) ≡ true = and_left (refusing (station_outcome q)) true (all_right refusing (take i outcomes) (station_outcome q ∷ []) f) in
              (called.kept (eqb-false q.refusal 0 (not-true (eqb q.refusal 0) g))).0 ∙ s.kept (all_left refusing (take i outcomes) (station_outcome q ∷ []) f)

          still-sound : sound_station b' ≡ true
          still-sound =
              let e : length (drop from events) ≡ n = length-drop from events in
              called-sound b (drop from events) (listed_place w) (listed_code w) (eight_words w) s.is-sound
              (subst⁻¹ (λ (m : ℕ). station_short (station_lengths_of b m) ≡ false) e roomy) b' (drop from events') r.refusal r.answer r.events
              (subst⁻¹ (λ (m : ℕ). Leaves (buffer_station_step b m (listed_place w) (listed_code w) (eight_words w)) (listed_code w) (eight_words w)) e called)

          -- a destination that this call, which is accepted, is not made on
          kept-other : (j : ℕ) → j < 8 → (j ≡ listed_place w → ⊥) → KeptAt j b₀ b → KeptAt j b₀ b'
          kept-other j g ne p = record {
            onward = onward-on j (station_view b₀) (station_view b) (station_view b') p.onward one;
            part_same = λ e. let first = was e in called.destinations.elsewhere j g ne (sym (ap (slot_of j) called.shows) ∙ e ∙ sym first) ∙ p.part_same first;
          }
            where
              one : Onward j (station_view b) (station_view b')
              one = subst⁻¹ (Onward j (station_view b)) (called.shows ∙ ap (λ (a : StationResult). a.station) meant) (step-onward j (station_lengths_of b n) (listed_place w) (listed_code w) (eight_words w) (station_view b) ne)

              was : slot_of j (station_view b') ≡ slot_of j (station_view b₀) → slot_of j (station_view b) ≡ slot_of j (station_view b₀)
              was e = p.onward.as_it_was (omega (arith, ap used_by e, p.onward.never-fewer, one.never-fewer))

          -- the one that it is made on has used more calls
          kept-called : 1 ≤ listed_code w → q.refusal ≡ 0 → KeptAt (listed_place w) b₀ b → KeptAt (listed_place w) b₀ b'
          kept-called c z p = record {
            onward = record { never-fewer = omega (arith, more-used, p.onward.never-fewer); as_it_was = λ e. absurd (omega (arith, e, more-used, p.onward.never-fewer)) };
            part_same = λ e. absurd (omega (arith, ap used_by e, more-used, p.onward.never-fewer));
          }
            where
              more-used : used_by (slot_of (listed_place w) (station_view b)) < used_by (slot_of (listed_place w) (station_view b'))
              more-used = subst⁻¹ (λ (t : Station). used_by (slot_of (listed_place w) (station_view b)) < used_by (slot_of (listed_place w) t)) (called.shows ∙ ap (λ (a : StationResult). a.station) meant)
                  (step-more (station_lengths_of b n) (listed_place w) (listed_code w) (eight_words w) (station_view b) c (ap (λ (a : StationResult). a.refusal) (sym meant) ∙ z))

          still_kept : (j : ℕ) → j < 8 → opens_not j w ≡ true → KeptAt j b₀ b → KeptAt j b₀ b'
          still_kept j g h p = by-test (eqb q.refusal 0)
              (λ z. by-test (eqb (listed_place w) j)
              (λ y. subst (λ (m : ℕ). KeptAt m b₀ b → KeptAt m b₀ b') (eqb-true (listed_place w) j y) (kept-called (coded y) (eqb-true q.refusal 0 z)) p)
              (λ y. kept-other j g (λ e. eqb-false (listed_place w) j y (sym e)) p))
              (λ z. subst⁻¹ (KeptAt j b₀) (called.kept (eqb-false q.refusal 0 z)).0 p)
            where
              last : (a c : Bool) → c ≡ true → not (a && c) ≡ true → a ≡ false
              last false c e f = refl
              last true c e f = absurd (true≢false (sym f ∙ ap not e))

              coded : eqb (listed_place w) j ≡ true → 1 ≤ listed_code w
              coded y = let ne = eqb-false (listed_code w) 0 (last (eqb (listed_code w) 0) (eqb (listed_place w) j) y h) in omega arith

          elsewhere-so : (j : ℕ) → j < 8 → all (opens_not j) (take (i + 1) ws) ≡ true → KeptAt j b₀ b'
          elsewhere-so j g h =
              let l : take (i + 1) ws ≡ take i ws ++ w ∷ [] = rw add-one (take-suc ws i [] more ∙ ap (λ (x : Row). take i ws ++ x ∷ []) (sym is)) in
              let f = subst (λ (l : List Row). all (opens_not j) l ≡ true) l h in
              still_kept j g (and_left (opens_not j w) true (all_right (opens_not j) (take i ws) (w ∷ []) f)) (s.elsewhere j g (all_left (opens_not j) (take i ws) (w ∷ []) f))

          pub one_more : Sofar ws b₀ events₀ outcomes₀ b' events' outcomes' (i + 1) (from + k)
          one_more = record {
            places = omega (arith, same-outcomes, space);
            room = fit;
            rest =
                s.rest
                ∙ ap (joined (take i outcomes) (take from events)) left
                ∙ joined-twice (take i outcomes) (take from events) (station_outcome q) (map sent_words q.events) others
                ∙ ap₂ (λ (os es : List Row). joined os es others) (sym outcomes-are) (sym events-are);
            is-sound = still-sound;
            untold =
                ap (drop (i + 1)) told
                ∙ drop-set-lt (i + 1) outcomes i (r.refusal ∷ r.answer ∷ k ∷ []) (omega arith)
                ∙ sym (drop-drop 1 i outcomes)
                ∙ ap (drop 1) s.untold
                ∙ drop-drop 1 i outcomes₀;
            later = sym (drop-drop k from events') ∙ called.sends.later ∙ ap (drop k) s.later ∙ drop-drop k from events₀;
            kept = kept-so;
            elsewhere = elsewhere-so;
            past = let p = called.destinations.past in record {
              heads-past = p.heads-past ∙ s.past.heads-past;
              subs-past = p.subs-past ∙ s.past.subs-past;
              rows-past = p.rows-past ∙ s.past.rows-past;
              heads-length = p.heads-length ∙ s.past.heads-length;
              subs-length = p.subs-length ∙ s.past.subs-length;
              rows-length = p.rows-length ∙ s.past.rows-length;
            };
            own-length = same-own ∙ s.own-length;
            events-length = same-events ∙ s.events-length;
            outcomes-length = same-outcomes ∙ s.outcomes-length;
          }

-- ---- on lent buffers, from their test on

pub checked-so : (b : StationBuffers) → station_checked b ≡ 0 → (station_short (station_lengths_of b station_events) ≡ false) × (sound_station b ≡ true)
checked-so b e = (long, by-test (sound_station b) (λ y. y) (λ u. absurd (omega (arith, e, checked-unsound b long u))))
  where
    long : station_short (station_lengths_of b station_events) ≡ false
    long = checked-long b e

module _ (b : StationBuffers) (events outcomes ws : List Row) where
  abbrev all-of-it : StationBatch
  all-of-it = buffer_station_batch b (length events) (length outcomes) ws

  nothing-done : all-of-it ≡ station_undone (station_view b) b.own → StationBatched all-of-it ws b b events events outcomes outcomes (record { calls = 0; events = 0 })
  nothing-done e = subst⁻¹ (λ (q : StationBatch). StationBatched q ws b b events events outcomes outcomes (record { calls = 0; events = 0 })) e (record {
    calls = refl;
    count = refl;
    told = refl;
    untold = refl;
    sent = refl;
    later = refl;
    shows = refl;
    own_is = refl;
    leaves-sound = λ y. y;
    kept = λ _. refl;
    elsewhere = λ j h e f. refl;
    past = past-none b;
    events-length = refl;
    outcomes-length = refl;
  })

  pub not-begun : (m : ℕ) → m ≡ station_checked b → (m ≡ 0 → ⊥) → StationBatched all-of-it ws b b events events outcomes outcomes (record { calls = 0; events = 0 })
  unfolding buffer_station_batch
  not-begun m e z = nothing-done (by-test (sound_station b)
      (λ y. if-true _ _ y ∙ batch-short (station_lengths_of b (length events)) (length outcomes) ws (station_view b) b.own (short-so y))
      (λ y. if-false _ _ y))
    where
      short-so : sound_station b ≡ true → station_short (station_lengths_of b (length events)) ≡ true
      short-so y = by-test (station_short (station_lengths_of b (length events))) (λ t. t)
          (λ f. absurd (z (e ∙ sym (checked-sound b (as_long b b (length events) station_events f (past-none b) refl (omega arith)) y))))

  pub begun : sound_station b ≡ true → (b' : StationBuffers) (events' outcomes' : List Row) (r : Done) → StationBatched (station_batch (station_lengths_of b (length events)) (length outcomes) ws (station_view b) b.own) ws b b' events events' outcomes outcomes' r
      → StationBatched all-of-it ws b b' events events' outcomes outcomes' r
  unfolding buffer_station_batch
  begun y b' events' outcomes' r p = subst⁻¹ (λ (q : StationBatch). StationBatched q ws b b' events events' outcomes outcomes' r) (if-true _ _ y) p

-- ---- a call that is lent a part of the event list

module _ (events : List Row) (from : ℕ) (fits : from ≤ length events) where
  abbrev lent-part : List Row
  lent-part = take (length events - from) (drop from events)

  pub part-called : (later : List Row) (b b' : StationBuffers) (k code : ℕ) (ws : List ℕ) (r : Outcome)
      → StationCalled (buffer_station_step b (length lent-part) k code ws) k code ws b b' lent-part later r.refusal r.answer r.events
      → StationCalled (buffer_station_step b (length events - from) k code ws) k code ws b b' (drop from events) (drop from (take from events ++ (later ++ drop (length events - from) (drop from events)))) r.refusal r.answer r.events
  part-called later b b' k code ws r p =
      let Left : ℕ → List Row → List Row → Type 0 = λ m before after. StationCalled (buffer_station_step b m k code ws) k code ws b b' before after r.refusal r.answer r.events in
      subst⁻¹ (Left (length events - from) (drop from events)) (back-part events from fits later)
      (subst (λ (l : List Row). Left (length events - from) l later) (take_all (length events - from) (drop from events) (omega (arith, length-drop from events)))
      (subst (λ (m : ℕ). Left m lent-part later) (part_length events from fits) p))
