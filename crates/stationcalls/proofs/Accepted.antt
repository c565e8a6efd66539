-- A call of an open destination, its dead letters, and what it leaves of the station. Assumes nothing.
use mathlib.Core.Path.{◌≡◌, refl, sym, ap, ◌∙◌, subst⁻¹}
use mathlib.Core.Bool.{Bool, true, false, not, ◌||◌}
use mathlib.Core.List.{List, [], ◌++◌, map, map-append, append-nil}
use mathlib.Core.Option.{Option}
use Prim.Native.Nat.{ℕ, ◌+◌, ◌≤◌, ◌<◌}
use native.Mathlib.Nat.{add-zero}
use native.Mathlib.Omega.{arith}
use borrow.Author.Tests.{eqb-true, eqb-false}
use lib.Dec.{eqb}
use lib.ListN.{length, take, set, length-append, length-map, length-set}
use lib.Seq.{set-set, get_or-set_same, get_or-set_other}
use Rattle.definition.specs.Base.{whether◌then◌else◌}
use Rattle.definition.specs.Types.{Entry, Event}
use Rattle.definition.specs.Calls.{sound, Result}
use Rattle.definition.specs.Words.{at, decode, step}
use Rattle.definition.specs.Layout.{Row, Buffers, flag, is_mark, view, formed, sound_buffers, buffer_step}
use Rattle.definition.proofs.Tests.{by-test, by-if, if-true, if-false, and_left, and_right, and_both}
use Rattle.definition.proofs.Lists.{agree-later, some_inj}
use Rattle.definition.proofs.Refusals.{buffer-refuses}
use Rattle.engine.specs.declared.Outcome.{Outcome}
use Rattle.definition_station.specs.Types.{StationSlot, Station, slot_of, put_dest, took_number, sent_at, RanLetters}
use Rattle.definition_station.specs.Letters.{rejected, clock_of, number_letters, whole, running, hops_max}
use Rattle.definition_station.specs.Station.{station_sound, StationResult, carried, called, accepted_at}
use Rattle.definition_station.specs.Layout.{StationBuffers, part, is_open, station_view, part_formed, station_formed, sound_station, sent_words, station_lengths_of, unformed, buffer_station_step}
use Rattle.definition_station.specs.Called.{own_called, StationCalled}
use Rattle.definition_station.proofs.Places.{Facts, facts, from-facts, set_get_d}
use Rattle.definition_station.proofs.Sound.{called-facts, number-facts, running-facts}
use Rattle.definition_station.proofs.Sends.{station-sends}
use Rattle.definition_station.proofs.Buffers.{heads-long, subs-long, rows_long, own-long, events-long, all-at, all_from, parts-are-sound}
use Rattle.stationcalls.specs.Parts.{lent_all, AllPast}
use Rattle.stationcalls.specs.Plain.{NamedAt}
use Rattle.stationcalls.specs.Run.{calls_at, Sounds, Roomy}
use Rattle.definition_stationfates.specs.Told.{told_row, told_at, told_letters}
use Rattle.stationcalls.specs.All.{all_run, LendsAll, RanAll, all_told}
use Rattle.stationcalls.specs.Step.{AskedAt, given_words}
use Rattle.stationcalls.proofs.Viewed.{shown_slot, open-at, view-put}
use Rattle.stationcalls.proofs.All.{set-names, slots-own}
use Rattle.stationcalls.proofs.Cycle.{past-none, past-on, onward-none}
use Rattle.stationcalls.proofs.Same.{as_it_was}
use Rattle.stationcalls.proofs.Shape.{refused-left, slot_is, refuses-too, Accepts, accepts, own_is, accepted-is}

-- ---- no dead letter

-- buffers with room for the own words, each open destination of which is sound
pub none-ran : (heads : List ℕ) (subs rows : List Row) (own : List ℕ) (events : List Row) (now name n : ℕ) → 20 ≤ length own → Sounds (lent_all heads subs rows own)
    → let b = lent_all heads subs rows own in RanAll (all_run now name [] (station_view b)) b b events events n n
unfolding number_letters running station_view
none-ran heads subs rows own events now name n h s = let b : StationBuffers = lent_all heads subs rows own in record {
  shows = refl;
  own_is = sym (ap (λ (l : List ℕ). set l 17 (at 17 own)) (set_get_d own 16 0 (at 16 own) refl (omega (arith, h))) ∙ set_get_d own 17 0 (at 17 own) refl (omega (arith, h)));
  count = sym (add-zero n);
  first = sym (append-nil (take n events));
  later = refl;
  events-length = refl;
  leaves-sound = s;
  past = past-none b;
  onward = λ j g. onward-none b j;
}

-- ---- the own words after a destination's call: an accepted enqueue has taken a number

abbrev pub own_after : ℕ → List ℕ → List ℕ
own_after code own = whether eqb code 1 then set own 16 (at 16 own + 1) else own

module _ (heads : List ℕ) (subs rows : List Row) (own : List ℕ) (events : List Row) (k code : ℕ) (ws : List ℕ) (a : AskedAt (lent_all heads subs rows own) k code (length events)) where
  abbrev b : StationBuffers
  b = lent_all heads subs rows own

  abbrev s : Station
  s = station_view b

  abbrev q : StationResult
  q = buffer_station_step b (length events) k code ws

  abbrev x : StationSlot
  x = shown_slot b k

  -- the destination's own call
  abbrev r : Result
  r = buffer_step (part k b) 545 code (given_words code ws s)

  abbrev letters : List Entry
  letters = rejected x.dest (decode code (carried code ws s))

  abbrev now : ℕ
  now = clock_of (decode code (carried code ws s))

  long₀ : 20 ≤ length own
  long₀ = own-long b (length events) a.long

  module _ (h₁ : List ℕ) (s₁ r₁ : List Row) (events₁ : List Row) (o : Outcome) (n : NamedAt r k b (lent_all h₁ s₁ r₁ own) events events₁ o) where
    abbrev b₁ : StationBuffers
    b₁ = lent_all h₁ s₁ r₁ own

    -- ---- refused

    pub dest-refused : (o.refusal ≡ 0 → ⊥) → StationCalled q k code ws b b₁ events events₁ o.refusal o.answer o.events
    dest-refused z =
        subst⁻¹ (λ (t : StationBuffers). StationCalled q k code ws b t events events₁ o.refusal o.answer o.events) (as_it_was b b₁ (heads-long b (length events) a.long) (subs-long b (length events) a.long) (rows_long b (length events) a.long) parts n.past refl)
        (subst⁻¹ (λ (l : List Row). StationCalled q k code ws b b events l o.refusal o.answer o.events) (n.kept bad).1
        (subst⁻¹ (λ (m : ℕ). StationCalled q k code ws b b events events m o.answer o.events) n.refusal
        (subst⁻¹ (λ (m : ℕ). StationCalled q k code ws b b events events r.refusal m o.events) (n.answer ∙ (buffer-refuses (part k b) 545 code (given_words code ws s)).answer bad)
        (subst⁻¹ (λ (m : ℕ). StationCalled q k code ws b b events events r.refusal 0 m) (n.count ∙ ap length ((buffer-refuses (part k b) 545 code (given_words code ws s)).events bad))
        (refused-left b events k code ws r.refusal (omega (arith, bad)) (refuses-too b events k code ws a bad))))))
      where
        bad : r.refusal ≡ 0 → ⊥
        bad e = z (n.refusal ∙ e)

        parts : (j : ℕ) → j < 8 → part j b₁ ≡ part j b
        parts j g = by-test (eqb j k)
            (λ e. subst⁻¹ (λ (i : ℕ). part i b₁ ≡ part i b) (eqb-true j k e) (n.kept bad).0)
            (λ e. n.elsewhere j g (eqb-false j k e))

    -- ---- accepted

    module _ (z : o.refusal ≡ 0) where
      done : r.refusal ≡ 0
      done = sym n.refusal ∙ z

      is : Accepts b events k code ws a
      is = accepts b events k code ws a done

      ours : r ≡ step whole code (carried code ws s) x.dest
      ours = own_is b events k code ws a is.part_sound is.free

      result : q ≡ accepted_at k code x (step whole code (carried code ws s) x.dest) letters now s
      result = accepted-is b events k code ws a is.part_sound is.free done

      after : Station
      after = called k code x (step whole code (carried code ws s) x.dest).dest s

      facts₀ : Facts s
      unfolding sound_station
      facts₀ = facts s (and_right (station_formed b) (station_sound s) is.station-sound)

      facts₁ : Facts after
      unfolding after
      facts₁ = called-facts k code ws x s facts₀ (slot_is b events k code ws a) (sym (ap (λ (t : Result). t.refusal) ours) ∙ done)

      -- each open destination is sound still
      sounds₁ : Sounds b₁
      sounds₁ = record {
        sounds = λ j g e. by-test (eqb j k)
            (λ y. subst⁻¹ (λ (i : ℕ). sound_buffers (part i b₁) ≡ true) (eqb-true j k y) (n.leaves-sound done))
            (λ y. ap sound_buffers (n.elsewhere j g (eqb-false j k y)) ∙ (parts-are-sound b (length events) j (shown_slot b j) a.long is.station-sound (open-at b 0 j g e)).0);
      }

      module _ (own₁ : List ℕ) (oe : own₁ ≡ own_after code own) where
        abbrev b₂ : StationBuffers
        b₂ = lent_all h₁ s₁ r₁ own₁

        long₁ : 20 ≤ length own₁
        long₁ = subst⁻¹ (λ (l : List ℕ). 20 ≤ length l) oe (by-if (λ (l : List ℕ). 20 ≤ length l) (eqb code 1) _ _ (λ e. omega (arith, length-set own 16 (at 16 own + 1), long₀)) (λ e. long₀))

        -- marks and names stay
        names₁ : (i : ℕ) → i < 16 → at i own₁ ≡ at i own
        names₁ i g = subst⁻¹ (λ (l : List ℕ). at i l ≡ at i own) oe (by-if (λ (l : List ℕ). at i l ≡ at i own) (eqb code 1) _ _ (λ e. set-names own 16 (at 16 own + 1) (omega arith) i g) (λ e. refl))

        put₁ : station_view b₁ ≡ put_dest k x (step whole code (carried code ws s) x.dest).dest s
        unfolding station_view
        put₁ = view-put k heads h₁ subs s₁ rows r₁ own (at 17 own) (step whole code (carried code ws s) x.dest).dest a.is-place a.opened (n.shows ∙ ap (λ (t : Result). t.dest) ours) n.elsewhere

        view₂ : station_view b₂ ≡ after
        unfolding after station_view
        view₂ = ap (λ (l : List ℕ). station_view (lent_all h₁ s₁ r₁ l)) oe ∙ by-test (eqb code 1)
            (λ e. ap (λ (l : List ℕ). station_view (lent_all h₁ s₁ r₁ l)) (if-true (set own 16 (at 16 own + 1)) own e) ∙ took ∙ ap took_number put₁ ∙ sym (if-true (took_number left) left e))
            (λ e. ap (λ (l : List ℕ). station_view (lent_all h₁ s₁ r₁ l)) (if-false (set own 16 (at 16 own + 1)) own e) ∙ put₁ ∙ sym (if-false (took_number left) left e))
          where
            left : Station
            left = put_dest k x (step whole code (carried code ws s) x.dest).dest s

            took : station_view (lent_all h₁ s₁ r₁ (set own 16 (at 16 own + 1))) ≡ took_number (station_view b₁)
            took = λ i. record {
              slots = slots-own h₁ s₁ r₁ own (set own 16 (at 16 own + 1)) (set-names own 16 (at 16 own + 1) (omega arith)) i;
              next = get_or-set_same own 16 (at 16 own + 1) 0 (omega (arith, long₀)) i;
              lost = get_or-set_other own 16 17 (at 16 own + 1) 0 (λ e. omega (arith, e)) i;
            }

        sounds₂ : Sounds b₂
        unfolding part
        sounds₂ = record { sounds = λ j g e. sounds₁.sounds j g (ap flag (sym (names₁ j (omega (arith, g)))) ∙ e) }

        facts₂ : Facts (station_view b₂)
        facts₂ = subst⁻¹ Facts view₂ facts₁

        -- what running dead letters asks
        pub lends : LendsAll b₂
        unfolding station_view
        lends = record {
          heads-long = omega (arith, n.past.heads-length, heads-long b (length events) a.long);
          subs-long = omega (arith, n.past.subs-length, subs-long b (length events) a.long);
          rows_long = omega (arith, n.past.rows-length, rows_long b (length events) a.long);
          own-long = long₁;
          next_low = facts₂.low;
          next-high = facts₂.high;
          sound = sounds₂;
        }

        -- what is run
        abbrev ran : RanLetters
        ran = all_run now (at (8 + k) own₁) letters (station_view b₂)

        ran-is : ran ≡ all_run now x.name letters after
        ran-is = ap (λ (m : ℕ). all_run now m letters (station_view b₂)) (names₁ (8 + k) (omega (arith, a.is-place))) ∙ ap (λ (t : Station). all_run now x.name letters t) view₂

        -- what is told of the letters
        pub told_is : map told_row (told_letters k code ws s) ≡ all_told now (at (8 + k) own₁) letters (station_view b₂)
        unfolding told_at after
        told_is =
            ap (λ (t : Option StationSlot). map told_row (told_at k code ws s t)) (slot_is b events k code ws a)
            ∙ sym (ap (λ (m : ℕ). all_told now m letters (station_view b₂)) (names₁ (8 + k) (omega (arith, a.is-place))) ∙ ap (λ (t : Station). all_told now x.name letters t) view₂)

        answer-is : q.answer ≡ r.answer
        unfolding accepted_at
        answer-is = ap (λ (t : StationResult). t.answer) result ∙ sym (ap (λ (t : Result). t.answer) ours)

        events-are : q.events ≡ sent_at k r.events ++ ran.events
        unfolding accepted_at after
        events-are = ap (λ (t : StationResult). t.events) result ∙ ap (λ (t : Result). sent_at k t.events ++ (all_run now x.name letters after).events) (sym ours) ∙ ap (λ (t : RanLetters). sent_at k r.events ++ t.events) (sym ran-is)

        station-is : q.station ≡ ran.station
        unfolding accepted_at after
        station-is = ap (λ (t : StationResult). t.station) result ∙ ap (λ (t : RanLetters). t.station) (sym ran-is)

        no-refusal : q.refusal ≡ 0
        unfolding accepted_at
        no-refusal = ap (λ (t : StationResult). t.refusal) result

        sent-length : length q.events ≡ length r.events + length ran.events
        sent-length = ap length events-are ∙ length-append (sent_at k r.events) ran.events ∙ ap (λ (m : ℕ). m + length ran.events) (length-map r.events (λ (e : Event). record { place = k; event = e }))

        few : length q.events ≤ 4872
        unfolding buffer_station_step
        few = by-if (λ (t : StationResult). length t.events ≤ 4872) (unformed b (length events) k code) _ _ (λ e. omega arith) (λ e. station-sends (station_lengths_of b (length events)) k code ws s)

        pub roomy : Roomy ran o.events events₁
        roomy = omega (arith, few, sent-length, n.count, n.events-length, events-long b (length events) a.long)

        module _ (h₂ : List ℕ) (s₂ r₂ : List Row) (own₂ : List ℕ) (events₂ : List Row) (sent : ℕ) (p : RanAll ran b₂ (lent_all h₂ s₂ r₂ own₂) events₁ events₂ o.events sent) where
          abbrev b₃ : StationBuffers
          b₃ = lent_all h₂ s₂ r₂ own₂

          shows₃ : station_view b₃ ≡ q.station
          shows₃ = p.shows ∙ sym station-is

          own₃ : own₂ ≡ own_called q.station own
          own₃ = p.own_is ∙ ap (λ (l : List ℕ). set (set l 16 ran.station.next) 17 ran.station.lost) oe ∙ over ∙ ap (λ (t : Station). own_called t own) (sym station-is)
            where
              over : set (set (own_after code own) 16 ran.station.next) 17 ran.station.lost ≡ own_called ran.station own
              over = by-if (λ (l : List ℕ). set (set l 16 ran.station.next) 17 ran.station.lost ≡ own_called ran.station own) (eqb code 1) _ _
                  (λ e. ap (λ (l : List ℕ). set l 17 ran.station.lost) (set-set own 16 (at 16 own + 1) ran.station.next)) (λ e. refl)

          names₃ : (i : ℕ) → i < 16 → at i own₂ ≡ at i own
          names₃ i g = ap (at i) own₃ ∙ set-names (set own 16 q.station.next) 17 q.station.lost (omega arith) i g ∙ set-names own 16 q.station.next (omega arith) i g

          facts₃ : Facts (station_view b₃)
          facts₃ = subst⁻¹ Facts p.shows (running-facts hops_max now (at (8 + k) own₁) _ _ (number-facts letters (station_view b₂) facts₂))

          formed₃ : station_formed b₃ ≡ true
          unfolding station_formed part_formed sound_station sound_buffers
          formed₃ = all_from (part_formed b₃) 0 8 (λ j g. let i : j + 0 ≡ j = omega arith in ap (part_formed b₃) i ∙ each j g)
            where
              marked : (j : ℕ) → j < 8 → is_mark (at j own) ≡ true
              marked j g = and_left (is_mark (at j own)) _ (ap (part_formed b) (omega arith) ∙ all-at (part_formed b) 0 8 j g (and_left (station_formed b) _ is.station-sound))

              when : (m f : Bool) → (m ≡ true → f ≡ true) → (not m || f) ≡ true
              when true f h = h refl
              when false f h = refl

              each : (j : ℕ) → j < 8 → part_formed b₃ j ≡ true
              each j g = and_both (is_mark (at j own₂)) _ (ap is_mark (names₃ j (omega (arith, g))) ∙ marked j g)
                  (when (is_open j b₃) (formed (part j b₃)) (λ e. and_left (formed (part j b₃)) (sound (view (part j b₃))) (p.leaves-sound.sounds j g e)))

          elsewhere₃ : (j : ℕ) → j < 8 → (j ≡ k → ⊥) → slot_of j q.station ≡ slot_of j s → part j b₃ ≡ part j b
          unfolding part
          elsewhere₃ j g ne e = by-test (is_open j b₂)
              (λ y. (p.onward j g).as_it_was (calls (open₃ y) (open₀ y)) ∙ n.elsewhere j g ne)
              (λ y. (p.onward j g).not-open y ∙ n.elsewhere j g ne)
            where
              open₀ : is_open j b₂ ≡ true → is_open j b ≡ true
              open₀ y = ap flag (sym (names₁ j (omega (arith, g)))) ∙ y

              open₃ : is_open j b₂ ≡ true → is_open j b₃ ≡ true
              open₃ y = ap flag (names₃ j (omega (arith, g))) ∙ open₀ y

              calls : is_open j b₃ ≡ true → is_open j b ≡ true → calls_at j b₃ ≡ calls_at j b₂
              calls u v =
                  ap (λ (t : StationSlot). t.dest.calls_used) (some_inj (sym (open-at b₃ 0 j g u) ∙ ap (slot_of j) shows₃ ∙ e ∙ open-at b 0 j g v))
                  ∙ sym (ap (λ (t : Buffers). (view t).calls_used) (n.elsewhere j g ne))

          past₃ : AllPast b b₃
          past₃ = past-on b b₂ b₃ (record { heads-past = n.past.heads-past; subs-past = n.past.subs-past; rows-past = n.past.rows-past; heads-length = n.past.heads-length; subs-length = n.past.subs-length; rows-length = n.past.rows-length }) p.past

          pub dest-accepted : StationCalled q k code ws b b₃ events events₂ 0 o.answer sent
          unfolding sound_station
          dest-accepted = record {
            refuses = sym no-refusal;
            answers = n.answer ∙ sym answer-is;
            sends = record {
              many = many₃ ∙ sym (length-map q.events sent_words);
              first = p.first ∙ ap (λ (l : List Row). l ++ map sent_words ran.events) n.sent ∙ sym (map-append sent_words (sent_at k r.events) ran.events) ∙ ap (map sent_words) (sym events-are);
              later = p.later ∙ agree-later o.events sent events₁ events (omega (arith, p.count)) n.later;
              events-length = p.events-length ∙ n.events-length;
            };
            shows = shows₃;
            leaves-sound = λ e c. and_both (station_formed b₃) _ formed₃ (from-facts (station_view b₃) facts₃);
            opens-sound = λ e c. absurd (never c);
            own-opened = λ e c. absurd (never c);
            own-called = λ e c. own₃;
            destinations = record {
              elsewhere = elsewhere₃;
              past = record { heads-past = past₃.heads-past; subs-past = past₃.subs-past; rows-past = past₃.rows-past; heads-length = past₃.heads-length; subs-length = past₃.subs-length; rows-length = past₃.rows-length };
            };
            kept = λ e. absurd (e no-refusal);
          }
            where
              never : code ≡ 0 → ⊥
              never = eqb-false code 0 a.coded

              many₃ : sent ≡ length q.events
              many₃ = omega (arith, p.count, sent-length, n.count)
