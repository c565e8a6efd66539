-- The two calls without a code, on a destination of a station. Assumes nothing.
use mathlib.Core.Path.{◌≡◌, refl, sym, ap, ◌∙◌, subst⁻¹}
use mathlib.Core.Bool.{Bool, true, false, not, ◌&&◌, ◌||◌, true≢false}
use mathlib.Core.List.{List, []}
use mathlib.Core.Option.{Option, some}
use Prim.Native.Nat.{ℕ, suc, ◌+◌, ◌≤◌, ◌<◌}
use native.Mathlib.Omega.{arith}
use borrow.Author.Tests.{not-true, not-false, eqb-true, eqb-false, ne_eqb, ltb-false, le-ltb}
use lib.Dec.{ltb, eqb}
use lib.ListN.{length, drop, set}
use Rattle.definition.specs.Base.{all, up_from, is_some}
use Rattle.definition.specs.Types.{Dest, Event}
use Rattle.definition.specs.Calls.{Lengths, short, state_short, sound, Result, refused, Call, discarding, missing, perform, refusal, call}
use Rattle.definition.specs.Words.{at}
use Rattle.definition.specs.Layout.{Row, Buffers, flag, view, formed, sound_buffers, lengths_of, buffer_call}
use Rattle.definition.proofs.Tests.{by-test, by-if, if-true, if-false, and_left, or-no-left, or-no-right}
use Rattle.engine.specs.declared.Outcome.{Outcome}
use Rattle.engine.proofs.Refusing.{call-refused}
use Rattle.definition_station.specs.Types.{StationSlot, Station, slot_of, put_dest, sent_at}
use Rattle.definition_station.specs.Letters.{whole}
use Rattle.definition_station.specs.Station.{station_short, station_sound, StationResult, station_refused, uncoded_at, not_there, station_uncoded}
use Rattle.definition_station.specs.Layout.{StationBuffers, part, is_open, station_view, station_formed, sound_station, station_lengths_of, buffer_station_uncoded}
use Rattle.definition_station.specs.Called.{own_called, StationCalled}
use Rattle.definition_station.proofs.Places.{set_get_d}
use Rattle.definition_station.proofs.Buffers.{part-lengths, heads-long, subs-long, rows_long, own-long, events-long, all-at, all_from, parts-are-sound}
use Rattle.stationcalls.specs.Parts.{lent_all, CalledAt}
use Rattle.stationcalls.specs.Own.{own_words_ok, part_ok, other_ok}
use Rattle.stationcalls.specs.Step.{AskedAt, barred_as}
use Rattle.stationcalls.proofs.Viewed.{shown_slot, open-at, closed_at, view-put}
use Rattle.stationcalls.proofs.Tested.{all_sound, own-bad, other-bad}
use Rattle.stationcalls.proofs.Same.{as_it_was}
use Rattle.stationcalls.proofs.Plain.{call_same, short-same}
use Rattle.stationcalls.proofs.Shape.{tree, tree-one, tree-ten, tree-two, tree-calls, left_as}

-- such a call sends nothing
abbrev Silent : Call → Type 0
Silent c = (t : Dest) → (perform t c).events ≡ []

call-silent : (l : Lengths) (c : Call) (t : Dest) → Silent c → (call l c t).events ≡ []
unfolding call
call-silent l c t h = by-if (λ (r : Result). r.events ≡ []) (eqb (refusal l c t) 0) _ _ (λ e. h t) (λ e. refl)

pub discarding-silent : Silent discarding
unfolding perform
discarding-silent t = refl

pub missing-silent : Silent missing
unfolding perform
missing-silent t = refl

-- a refused one answers 0
bare-answer : (p : Buffers) (n : ℕ) (c : Call) → ((buffer_call p n c).refusal ≡ 0 → ⊥) → (buffer_call p n c).answer ≡ 0
unfolding buffer_call call
bare-answer p n c = by-if (λ (r : Result). (r.refusal ≡ 0 → ⊥) → r.answer ≡ 0) (not (short (lengths_of p n)) && not (formed p)) _ _ (λ e h. refl)
    (λ e. by-if (λ (r : Result). (r.refusal ≡ 0 → ⊥) → r.answer ≡ 0) (eqb (refusal (lengths_of p n) c (view p)) 0) _ _ (λ f h. absurd (h refl)) (λ f h. refl))

bare-silent : (p : Buffers) (n : ℕ) (c : Call) → Silent c → (buffer_call p n c).events ≡ []
unfolding buffer_call
bare-silent p n c h = by-if (λ (r : Result). r.events ≡ []) (not (short (lengths_of p n)) && not (formed p)) _ _ (λ e. refl) (λ e. call-silent (lengths_of p n) c (view p) h)

module _ (p : Buffers) (n : ℕ) (c : Call) (roomy : short (lengths_of p n) ≡ false) where
  call-unsound : sound (view p) ≡ false → call (lengths_of p n) c (view p) ≡ refused 2 (view p)
  unfolding refusal
  call-unsound u = call-refused 1 (lengths_of p n) c (view p) (rw (roomy, u))

  bare-unsound : sound_buffers p ≡ false → buffer_call p n c ≡ refused 2 (view p)
  unfolding buffer_call sound_buffers
  bare-unsound u = by-test (formed p)
      (λ f. rw (roomy, f) (call-unsound (sym (ap (λ (x : Bool). x && sound (view p)) f) ∙ u)))
      (λ f. rw (roomy, f))

  bare-sound : sound_buffers p ≡ true → buffer_call p n c ≡ call (lengths_of p n) c (view p)
  unfolding buffer_call sound_buffers
  bare-sound y = let f : formed p ≡ true = and_left (formed p) (sound (view p)) y in rw (roomy, f)

module _ (heads : List ℕ) (subs rows : List Row) (own : List ℕ) (events : List Row) (k : ℕ) (c : Call) where
  abbrev b : StationBuffers
  b = lent_all heads subs rows own

  abbrev s : Station
  s = station_view b

  abbrev q : StationResult
  q = buffer_station_uncoded b (length events) k c

  abbrev is_short : Bool
  is_short = station_short (station_lengths_of b (length events))

  abbrev last : StationResult
  last = uncoded_at k c s (slot_of k s)

  shape : q ≡ tree is_short (not_there k 1 s) false (station_sound s) (station_formed b) (station_refused 1 s) (station_refused 10 s) (station_refused 2 s) last last
  unfolding buffer_station_uncoded station_uncoded
  shape = refl

  -- ---- refused before the destination is asked

  is_one : is_short ≡ true → q ≡ station_refused 1 s
  is_one h = shape ∙ tree-one is_short (not_there k 1 s) false (station_sound s) (station_formed b) (station_refused 1 s) (station_refused 10 s) (station_refused 2 s) last last h

  absent-is : (ltb 7 k || not (flag (at k own))) ≡ true → not_there k 1 s ≡ true
  absent-is h = by-test (ltb 7 k)
      (λ g. ap (λ (x : Bool). x || not (is_some (slot_of k s))) g)
      (λ g. ap (λ (x : Bool). x || not (is_some (slot_of k s))) g ∙ ap (λ (o : Option StationSlot). not (is_some o)) (closed_at b 0 k (less g) (closed g)))
    where
      less : ltb 7 k ≡ false → k < 8
      less g = omega (arith, ltb-false 7 k g)

      closed : ltb 7 k ≡ false → is_open k b ≡ false
      closed g = not-true (flag (at k own)) (sym (ap (λ (x : Bool). x || not (flag (at k own))) g) ∙ h)

  is-ten : is_short ≡ false → (ltb 7 k || not (flag (at k own))) ≡ true → q ≡ station_refused 10 s
  is-ten h g = shape ∙ tree-ten is_short (not_there k 1 s) false (station_sound s) (station_formed b) (station_refused 1 s) (station_refused 10 s) (station_refused 2 s) last last h (absent-is g)

  -- a place that is open
  record Open : Type 0 where
    is-place : k < 8
    opened : is_open k b ≡ true

  open_is : (ltb 7 k || not (flag (at k own))) ≡ false → Open
  open_is h = record { is-place = omega (arith, ltb-false 7 k (or-no-left (ltb 7 k) _ h)); opened = not-false (flag (at k own)) (or-no-right (ltb 7 k) _ h) }

  there : Open → not_there k 1 s ≡ false
  there o =
      ap (λ (x : Option StationSlot). ltb 7 k || not (is_some x)) (open-at b 0 k o.is-place o.opened)
      ∙ ap (λ (x : Bool). x || false) (le-ltb 7 k (omega (arith, o.is-place)))

  is-two : is_short ≡ false → Open → sound_station b ≡ false → q ≡ station_refused 2 s
  unfolding sound_station
  is-two h o u = shape ∙ tree-two is_short (not_there k 1 s) false (station_sound s) (station_formed b) (station_refused 1 s) (station_refused 10 s) (station_refused 2 s) last last h (there o) refl u

  -- what is tested, by each way out
  pub record Barred (n : ℕ) : Type 0 where
    pub refuses : (n ≡ 0 → ⊥) → q ≡ station_refused n s
    pub asks : n ≡ 0 → AskedAt b k 1 (length events)

  never : {A : Type 0} (n : ℕ) → suc n ≡ 0 → A
  never n e = absurd (omega (arith, e))

  barred-one : is_short ≡ true → Barred 1
  barred-one h = record { refuses = λ z. is_one h; asks = λ e. never 0 e }

  barred-ten : is_short ≡ false → (ltb 7 k || not (flag (at k own))) ≡ true → Barred 10
  barred-ten h g = record { refuses = λ z. is-ten h g; asks = λ e. never 9 e }

  barred-two : is_short ≡ false → Open → sound_station b ≡ false → Barred 2
  barred-two h o u = record { refuses = λ z. is-two h o u; asks = λ e. never 1 e }

  pub barred-is : Barred (barred_as b (length events) k)
  unfolding barred_as
  barred-is = by-if Barred is_short _ _ barred-one
      (λ h. by-if Barred (ltb 7 k || not (flag (at k own))) _ _ (barred-ten h)
      (λ g. by-if Barred (not (own_words_ok own)) _ _ (λ w. barred-two h (open_is g) (own-bad b k (not-true (own_words_ok own) w)))
      (λ w. by-if Barred (not (all (other_ok b k) (up_from 0 8))) _ _ (λ v. barred-two h (open_is g) (other-bad b k (not-true (all (other_ok b k) (up_from 0 8)) v)))
      (λ v. record {
        refuses = λ z. absurd (z refl);
        asks = λ e. record { long = h; is-place = (open_is g).is-place; opened = (open_is g).opened; own-ok = not-false (own_words_ok own) w; others = not-false (all (other_ok b k) (up_from 0 8)) v; coded = refl };
      }))))

  -- as the code tests it
  pub as_one : is_short ≡ true → 1 ≡ barred_as b (length events) k
  unfolding barred_as
  as_one h = rw h

  pub as-ten : is_short ≡ false → (ltb 7 k || not (flag (at k own))) ≡ true → 10 ≡ barred_as b (length events) k
  unfolding barred_as
  as-ten h g = rw (h, g)

  pub as_own : is_short ≡ false → (ltb 7 k || not (flag (at k own))) ≡ false → own_words_ok own ≡ false → 2 ≡ barred_as b (length events) k
  unfolding barred_as
  as_own h g w = rw (h, g, w)

  pub as-others : is_short ≡ false → (ltb 7 k || not (flag (at k own))) ≡ false → own_words_ok own ≡ true → all (other_ok b k) (up_from 0 8) ≡ false → 2 ≡ barred_as b (length events) k
  unfolding barred_as
  as-others h g w v = rw (h, g, w, v)

  pub as_none : is_short ≡ false → (ltb 7 k || not (flag (at k own))) ≡ false → own_words_ok own ≡ true → all (other_ok b k) (up_from 0 8) ≡ true → 0 ≡ barred_as b (length events) k
  unfolding barred_as
  as_none h g w v = rw (h, g, w, v)

  pub barred-left : (n : ℕ) → n ≡ barred_as b (length events) k → (n ≡ 0 → ⊥) → StationCalled q k 1 [] b b events events n 0 0
  barred-left n e z = left_as b events k 1 [] q n (omega (arith, z)) ((subst⁻¹ Barred e barred-is).refuses z)

  pub barred-asks : (n : ℕ) → n ≡ barred_as b (length events) k → n ≡ 0 → AskedAt b k 1 (length events)
  barred-asks n e z = (subst⁻¹ Barred e barred-is).asks z

  -- ---- the destination is asked

  module _ (a : AskedAt b k 1 (length events)) (silent : Silent c) where
    abbrev x : StationSlot
    x = shown_slot b k

    abbrev r : Result
    r = buffer_call (part k b) (length events) c

    spot : Open
    spot = record { is-place = a.is-place; opened = a.opened }

    slot_is : slot_of k s ≡ some x
    slot_is = open-at b 0 k a.is-place a.opened

    lengths : lengths_of (part k b) 545 ≡ whole
    lengths = part-lengths k b a.is-place (heads-long b (length events) a.long) (subs-long b (length events) a.long) (rows_long b (length events) a.long)

    many : 545 ≤ length events
    many = omega (arith, events-long b (length events) a.long)

    room : short (lengths_of (part k b) (length events)) ≡ short whole
    room = short-same (part k b) (length events) many ∙ ap short lengths

    roomy : short (lengths_of (part k b) (length events)) ≡ false
    unfolding short state_short
    roomy = room

    sound-all : sound_buffers (part k b) ≡ true → sound_station b ≡ true
    sound-all p = all_sound b k a.own-ok a.others p

    refuses-unsound : sound_buffers (part k b) ≡ false → (r.refusal ≡ 2) × (q ≡ station_refused 2 s)
    refuses-unsound u = (ap (λ (t : Result). t.refusal) (bare-unsound (part k b) (length events) c roomy u), is-two a.long spot unsound)
      where
        unsound : sound_station b ≡ false
        unsound = by-test (sound_station b) (λ y. absurd (true≢false (sym (parts-are-sound b (length events) k x a.long y slot_is).0 ∙ u))) (λ y. y)

    module _ (p : sound_buffers (part k b) ≡ true) where
      own-call : r ≡ call whole c x.dest
      own-call = bare-sound (part k b) (length events) c roomy p ∙ call_same (lengths_of (part k b) (length events)) whole c (view (part k b)) room

      on-it : q ≡ uncoded_at k c s (some x)
      unfolding sound_station
      on-it = shape ∙ tree-calls is_short (not_there k 1 s) false (station_sound s) (station_formed b) (station_refused 1 s) (station_refused 10 s) (station_refused 2 s) last last a.long (there spot) refl (sound-all p) ∙ ap (uncoded_at k c s) slot_is

      result : r.refusal ≡ 0 → q ≡ record { refusal = 0; answer = r.answer; events = sent_at k r.events; station = put_dest k x r.dest s }
      unfolding uncoded_at
      result z = on-it ∙ if-true _ _ (ap (λ (t : Result). eqb t.refusal 0) (sym own-call) ∙ ap (λ (m : ℕ). eqb m 0) z)
          ∙ ap (λ (t : Result). record { refusal = 0; answer = t.answer; events = sent_at k t.events; station = put_dest k x t.dest s }) (sym own-call)

      refusal_is : (r.refusal ≡ 0 → ⊥) → q ≡ station_refused r.refusal s
      unfolding uncoded_at
      refusal_is z = on-it ∙ if-false _ _ (ap (λ (t : Result). eqb t.refusal 0) (sym own-call) ∙ ne_eqb r.refusal 0 z) ∙ ap (λ (t : Result). station_refused t.refusal s) (sym own-call)

    refuses-too : (r.refusal ≡ 0 → ⊥) → q ≡ station_refused r.refusal s
    refuses-too z = by-test (sound_buffers (part k b))
        (λ p. refusal_is p z)
        (λ u. let e = refuses-unsound u in e.1 ∙ ap (λ (m : ℕ). station_refused m s) (sym e.0))

    is-sound : r.refusal ≡ 0 → sound_buffers (part k b) ≡ true
    is-sound z = by-test (sound_buffers (part k b)) (λ p. p) (λ u. absurd (omega (arith, z, (refuses-unsound u).0)))

    module _ (h₁ : List ℕ) (s₁ r₁ : List Row) (events₁ : List Row) (o : Outcome) (n : CalledAt r k b (lent_all h₁ s₁ r₁ own) events events₁ o) where
      abbrev b₁ : StationBuffers
      b₁ = lent_all h₁ s₁ r₁ own

      bare-refused : (r.refusal ≡ 0 → ⊥) → StationCalled q k 1 [] b b₁ events events₁ o.refusal o.answer o.events
      bare-refused z =
          subst⁻¹ (λ (t : StationBuffers). StationCalled q k 1 [] b t events events₁ o.refusal o.answer o.events) (as_it_was b b₁ (heads-long b (length events) a.long) (subs-long b (length events) a.long) (rows_long b (length events) a.long) parts n.past refl)
          (subst⁻¹ (λ (l : List Row). StationCalled q k 1 [] b b events l o.refusal o.answer o.events) (n.here.kept z).1
          (subst⁻¹ (λ (m : ℕ). StationCalled q k 1 [] b b events events m o.answer o.events) n.here.refusal
          (subst⁻¹ (λ (m : ℕ). StationCalled q k 1 [] b b events events r.refusal m o.events) (n.here.answer ∙ bare-answer (part k b) (length events) c z)
          (subst⁻¹ (λ (m : ℕ). StationCalled q k 1 [] b b events events r.refusal 0 m) (n.here.count ∙ ap length (bare-silent (part k b) (length events) c silent))
          (left_as b events k 1 [] q r.refusal (omega (arith, z)) (refuses-too z))))))
        where
          parts : (j : ℕ) → j < 8 → part j b₁ ≡ part j b
          parts j g = by-test (eqb j k)
              (λ y. subst⁻¹ (λ (i : ℕ). part i b₁ ≡ part i b) (eqb-true j k y) (n.here.kept z).0)
              (λ y. n.elsewhere j g (eqb-false j k y))

      module _ (z : r.refusal ≡ 0) where
        view₁ : station_view b₁ ≡ put_dest k x r.dest s
        unfolding station_view
        view₁ = view-put k heads h₁ subs s₁ rows r₁ own (at 17 own) r.dest a.is-place a.opened n.here.shows n.elsewhere

        others₁ : all (other_ok b₁ k) (up_from 0 8) ≡ true
        unfolding other_ok part_ok
        others₁ = all_from (other_ok b₁ k) 0 8 (λ j g. let i : j + 0 ≡ j = omega arith in ap (other_ok b₁ k) i ∙ each j g)
          where
            each : (j : ℕ) → j < 8 → other_ok b₁ k j ≡ true
            each j g = by-test (eqb j k)
                (λ y. ap (λ (t : Bool). t || part_ok b₁ j) y)
                (λ y. ap (λ (t : Buffers). eqb j k || (not (is_open j b) || sound_buffers t)) (n.elsewhere j g (eqb-false j k y)) ∙ ap (other_ok b k) (omega arith) ∙ all-at (other_ok b k) 0 8 j g a.others)

        sound₁ : sound_station b₁ ≡ true
        sound₁ = all_sound b₁ k a.own-ok others₁ (n.here.leaves-sound z)

        no-events : o.events ≡ 0
        no-events = n.here.count ∙ ap length (bare-silent (part k b) (length events) c silent)

        same-events : events₁ ≡ events
        same-events = sym (ap (λ (m : ℕ). drop m events₁) no-events) ∙ n.here.later ∙ ap (λ (m : ℕ). drop m events) no-events

        long₀ : 20 ≤ length own
        long₀ = own-long b (length events) a.long

        own₁ : own ≡ own_called (put_dest k x r.dest s) own
        unfolding station_view
        own₁ = sym (ap (λ (l : List ℕ). set l 17 (at 17 own)) (set_get_d own 16 0 (at 16 own) refl (omega (arith, long₀))) ∙ set_get_d own 17 0 (at 17 own) refl (omega (arith, long₀)))

        made : StationCalled (record { refusal = 0; answer = r.answer; events = []; station = put_dest k x r.dest s }) k 1 [] b b₁ events events₁ 0 r.answer 0
        made = record {
          refuses = refl;
          answers = refl;
          sends = record { many = refl; first = refl; later = same-events; events-length = n.here.past.events-length };
          shows = view₁;
          leaves-sound = λ e w. sound₁;
          opens-sound = λ e w. absurd (omega (arith, w));
          own-opened = λ e w. absurd (omega (arith, w));
          own-called = λ e w. own₁;
          destinations = record {
            elsewhere = λ j g ne e. n.elsewhere j g ne;
            past = record { heads-past = n.past.heads-past; subs-past = n.past.subs-past; rows-past = n.past.rows-past; heads-length = n.past.heads-length; subs-length = n.past.subs-length; rows-length = n.past.rows-length };
          };
          kept = λ e. absurd (e refl);
        }

        bare-accepted : StationCalled q k 1 [] b b₁ events events₁ o.refusal o.answer o.events
        bare-accepted =
            subst⁻¹ (λ (m : ℕ). StationCalled q k 1 [] b b₁ events events₁ m o.answer o.events) (n.here.refusal ∙ z)
            (subst⁻¹ (λ (m : ℕ). StationCalled q k 1 [] b b₁ events events₁ 0 m o.events) n.here.answer
            (subst⁻¹ (λ (m : ℕ). StationCalled q k 1 [] b b₁ events events₁ 0 r.answer m) no-events
            (subst⁻¹ (λ (t : StationResult). StationCalled t k 1 [] b b₁ events events₁ 0 r.answer 0) (result (is-sound z) z ∙ ap (λ (l : List Event). record { refusal = 0; answer = r.answer; events = sent_at k l; station = put_dest k x r.dest s }) (bare-silent (part k b) (length events) c silent)) made)))

      pub bare-called : StationCalled q k 1 [] b b₁ events events₁ o.refusal o.answer o.events
      bare-called = by-test (eqb r.refusal 0) (λ e. bare-accepted (eqb-true r.refusal 0 e)) (λ e. bare-refused (eqb-false r.refusal 0 e))
