-- What a station call on lent buffers gets, test by test in the order of checking; and what a refused one leaves. Assumes nothing.
use mathlib.Core.Path.{◌≡◌, refl, sym, ap, ◌∙◌, subst⁻¹}
use mathlib.Core.Bool.{Bool, true, false, not, ◌&&◌, ◌||◌, true≢false}
use mathlib.Core.List.{List, ◌∷◌}
use mathlib.Core.Option.{Option, none, some}
use Prim.Native.Nat.{ℕ, ◌≤◌, ◌<◌}
use native.Mathlib.Omega.{arith}
use borrow.Author.Tests.{not-true, not-false, eqb-true, ne_eqb, le-ltb, lt-ltb}
use lib.Dec.{ltb, eqb}
use lib.ListN.{length, drop}
use Rattle.definition.specs.Base.{whether◌then◌else◌, is_some}
use Rattle.definition.specs.Calls.{short, state_short, Result, refused, enqueuing, arguments_ok}
use Rattle.definition.specs.Words.{at, entry_in, provided, ranged_call, read, decode, step}
use Rattle.definition.specs.Layout.{Row, view, sound_buffers, lengths_of, buffer_step}
use Rattle.definition.proofs.Tests.{by-test, if-true, if-false, and_left, and_right}
use Rattle.engine.specs.declared.Outcome.{Outcome}
use Rattle.engine.specs.Called.{outcome}
use Rattle.engine.proofs.Refusing.{step-unsound, step-undecoded}
use Rattle.definition_station.specs.Types.{StationSlot, Station, slot_of}
use Rattle.definition_station.specs.Letters.{rejected, clock_of, whole}
use Rattle.definition_station.specs.Station.{station_short, station_sound, StationResult, station_refused, open_at, carried, carries_number, accepted_at, call_on, station_call_at, not_there, station_step}
use Rattle.definition_station.specs.Layout.{StationBuffers, part, is_open, station_view, station_formed, sound_station, station_lengths_of, buffer_station_step}
use Rattle.definition_station.specs.Called.{StationCalled}
use Rattle.definition_station.proofs.Buffers.{part-lengths, heads-long, subs-long, rows_long, parts-are-sound, part-is-called}
use Rattle.stationcalls.specs.Step.{AskedAt, given_words}
use Rattle.stationcalls.proofs.Viewed.{shown_slot, open-at, closed_at}
use Rattle.stationcalls.proofs.Tested.{all_sound}

-- ---- the tests

abbrev pub tree : {A : Type 0} → Bool → Bool → Bool → Bool → Bool → A → A → A → A → A → A
tree s t z y l one ten two opens calls =
    whether not s && (not t && (not z && not l)) then two
    else whether s then one
    else whether t then ten
    else whether not z && not y then two
    else whether z then opens
    else calls

module _ {A : Type 0} (s t z y l : Bool) (one ten two opens calls : A) where
  pub tree-one : s ≡ true → tree s t z y l one ten two opens calls ≡ one
  tree-one h = rw h

  pub tree-ten : s ≡ false → t ≡ true → tree s t z y l one ten two opens calls ≡ ten
  tree-ten h g = rw (h, g)

  tree_opens : s ≡ false → t ≡ false → z ≡ true → tree s t z y l one ten two opens calls ≡ opens
  tree_opens h g e = rw (h, g, e)

  pub tree-two : s ≡ false → t ≡ false → z ≡ false → (l && y) ≡ false → tree s t z y l one ten two opens calls ≡ two
  tree-two h g e f = rw (h, g, e) (either l y f)
    where
      either : (l y : Bool) → (l && y) ≡ false → (whether not l then two else whether not y then two else calls) ≡ two
      either false y f = refl
      either true false f = refl
      either true true f = absurd (true≢false f)

  pub tree-calls : s ≡ false → t ≡ false → z ≡ false → (l && y) ≡ true → tree s t z y l one ten two opens calls ≡ calls
  tree-calls h g e f = rw (h, g, e) (both l y f)
    where
      both : (l y : Bool) → (l && y) ≡ true → (whether not l then two else whether not y then two else calls) ≡ calls
      both true true f = refl
      both true false f = absurd (true≢false (sym f))
      both false y f = absurd (true≢false (sym f))

-- 0 is no sequence number
none-zero : (b : Bool) (ws : List ℕ) → at 0 ws ≡ 0 → ranged_call (provided b (enqueuing (entry_in ws) (at 6 ws))) ≡ none
unfolding provided arguments_ok
none-zero false ws e = refl
none-zero true ws e = rw e

undecoded : (ws : List ℕ) → at 0 ws ≡ 0 → decode 1 ws ≡ none
unfolding decode read
undecoded ws e = none-zero _ ws e

-- what is refused leaves all as it was
pub left_as : (b : StationBuffers) (events : List Row) (k code : ℕ) (ws : List ℕ) (q : StationResult) (n : ℕ) → 1 ≤ n → q ≡ station_refused n (station_view b) → StationCalled q k code ws b b events events n 0 0
left_as b events k code ws q n h e = subst⁻¹ (λ (r : StationResult). StationCalled r k code ws b b events events n 0 0) e (record {
  refuses = refl;
  answers = refl;
  sends = record { many = refl; first = refl; later = refl; events-length = refl };
  shows = refl;
  leaves-sound = λ z c. absurd (omega (arith, h, z));
  opens-sound = λ z c. absurd (omega (arith, h, z));
  own-opened = λ z c. absurd (omega (arith, h, z));
  own-called = λ z c. absurd (omega (arith, h, z));
  destinations = record { elsewhere = λ j g ne p. refl; past = record { heads-past = refl; subs-past = refl; rows-past = refl; heads-length = refl; subs-length = refl; rows-length = refl } };
  kept = λ z. (refl, refl);
})

-- as the code answers it
pub as-refused : (b : StationBuffers) (events : List Row) (k code : ℕ) (ws : List ℕ) (q : StationResult) (n : ℕ) (r : Outcome) → r ≡ outcome n 0 0 → StationCalled q k code ws b b events events n 0 0
    → StationCalled q k code ws b b events events r.refusal r.answer r.events
as-refused b events k code ws q n r e p = subst⁻¹ (λ (o : Outcome). StationCalled q k code ws b b events events o.refusal o.answer o.events) e p

module _ (b : StationBuffers) (events : List Row) (k code : ℕ) (ws : List ℕ) where
  abbrev s : Station
  s = station_view b

  abbrev q : StationResult
  q = buffer_station_step b (length events) k code ws

  abbrev is_short : Bool
  is_short = station_short (station_lengths_of b (length events))

  shape : q ≡ tree is_short (not_there k code s) (eqb code 0) (station_sound s) (station_formed b) (station_refused 1 s) (station_refused 10 s) (station_refused 2 s) (open_at k ws s) (station_call_at k code ws s (slot_of k s))
  unfolding buffer_station_step station_step
  shape = refl

  -- ---- a refused call

  pub refused-left : (n : ℕ) → 1 ≤ n → q ≡ station_refused n s → StationCalled q k code ws b b events events n 0 0
  refused-left n h e = left_as b events k code ws q n h e

  pub left-short : is_short ≡ true → StationCalled q k code ws b b events events 1 0 0
  left-short h = refused-left 1 (omega arith) (shape ∙ tree-one is_short (not_there k code s) (eqb code 0) (station_sound s) (station_formed b) (station_refused 1 s) (station_refused 10 s) (station_refused 2 s) (open_at k ws s) (station_call_at k code ws s (slot_of k s)) h)

  pub left-above : is_short ≡ false → 7 < k → StationCalled q k code ws b b events events 10 0 0
  left-above h g = refused-left 10 (omega arith) (shape ∙ tree-ten is_short (not_there k code s) (eqb code 0) (station_sound s) (station_formed b) (station_refused 1 s) (station_refused 10 s) (station_refused 2 s) (open_at k ws s) (station_call_at k code ws s (slot_of k s)) h (ap (λ (x : Bool). x || (not (eqb code 0) && not (is_some (slot_of k s)))) (above k g)))
    where
      above : (k : ℕ) → 7 < k → ltb 7 k ≡ true
      above k g = lt-ltb 7 k g

  pub left-closed : is_short ≡ false → k < 8 → eqb code 0 ≡ false → is_open k b ≡ false → StationCalled q k code ws b b events events 10 0 0
  left-closed h g z o = refused-left 10 (omega arith) (shape ∙ tree-ten is_short (not_there k code s) (eqb code 0) (station_sound s) (station_formed b) (station_refused 1 s) (station_refused 10 s) (station_refused 2 s) (open_at k ws s) (station_call_at k code ws s (slot_of k s)) h absent)
    where
      absent : not_there k code s ≡ true
      absent = ap (λ (x : Option StationSlot). ltb 7 k || (not (eqb code 0) && not (is_some x))) (closed_at b 0 k g o) ∙ rw z (or-true (ltb 7 k))
        where
          or-true : (x : Bool) → (x || true) ≡ true
          or-true true = refl
          or-true false = refl

  -- a place that is open is there
  there : k < 8 → is_open k b ≡ true → not_there k code s ≡ false
  there g o =
      ap (λ (x : Option StationSlot). ltb 7 k || (not (eqb code 0) && not (is_some x))) (open-at b 0 k g o)
      ∙ ap (λ (x : Bool). x || (not (eqb code 0) && false)) (le-ltb 7 k (omega (arith, g))) ∙ never (eqb code 0)
    where
      never : (z : Bool) → (not z && false) ≡ false
      never true = refl
      never false = refl

  unsound-is : is_short ≡ false → k < 8 → eqb code 0 ≡ false → is_open k b ≡ true → sound_station b ≡ false → q ≡ station_refused 2 s
  unfolding sound_station
  unsound-is h g z o u = shape ∙ tree-two is_short (not_there k code s) (eqb code 0) (station_sound s) (station_formed b) (station_refused 1 s) (station_refused 10 s) (station_refused 2 s) (open_at k ws s) (station_call_at k code ws s (slot_of k s)) h (there g o) z u

  pub left-unsound : is_short ≡ false → k < 8 → eqb code 0 ≡ false → is_open k b ≡ true → sound_station b ≡ false → StationCalled q k code ws b b events events 2 0 0
  left-unsound h g z o u = refused-left 2 (omega arith) (unsound-is h g z o u)

  -- an open
  pub opens-is : is_short ≡ false → k < 8 → eqb code 0 ≡ true → q ≡ open_at k ws s
  opens-is h g z = shape ∙ tree_opens is_short (not_there k code s) (eqb code 0) (station_sound s) (station_formed b) (station_refused 1 s) (station_refused 10 s) (station_refused 2 s) (open_at k ws s) (station_call_at k code ws s (slot_of k s)) h within z
    where
      within : not_there k code s ≡ false
      within = ap (λ (x : Bool). x || (not (eqb code 0) && not (is_some (slot_of k s)))) (le-ltb 7 k (omega (arith, g))) ∙ ap (λ (x : Bool). not x && not (is_some (slot_of k s))) z

  -- ---- a call of an open destination

  module _ (a : AskedAt b k code (length events)) where
    abbrev x : StationSlot
    x = shown_slot b k

    -- the words that the destination gets
    abbrev given : List ℕ
    given = given_words code ws s

    abbrev r : Result
    r = buffer_step (part k b) 545 code given

    pub slot_is : slot_of k s ≡ some x
    slot_is = open-at b 0 k a.is-place a.opened

    pub part_room : short (lengths_of (part k b) 545) ≡ false
    unfolding short state_short
    part_room = ap short (part-lengths k b a.is-place (heads-long b (length events) a.long) (subs-long b (length events) a.long) (rows_long b (length events) a.long))

    -- it is not sound itself
    pub part-unsound : sound_buffers (part k b) ≡ false → sound_station b ≡ false
    part-unsound u = by-test (sound_station b)
        (λ y. absurd (true≢false (sym (parts-are-sound b (length events) k x a.long y slot_is).0 ∙ u)))
        (λ n. n)

    refuses-unsound : sound_buffers (part k b) ≡ false → (r.refusal ≡ 2) × (q ≡ station_refused 2 s)
    refuses-unsound u = (ap (λ (p : Result). p.refusal) (step-unsound (part k b) 545 code given part_room a.coded u), unsound-is a.long a.is-place a.coded a.opened (part-unsound u))

    module _ (p : sound_buffers (part k b) ≡ true) where
      sound-is-true : sound_station b ≡ true
      sound-is-true = all_sound b k a.own-ok a.others p

      on-it : q ≡ call_on k code ws s x
      unfolding sound_station station_call_at
      on-it = shape ∙ tree-calls is_short (not_there k code s) (eqb code 0) (station_sound s) (station_formed b) (station_refused 1 s) (station_refused 10 s) (station_refused 2 s) (open_at k ws s) (station_call_at k code ws s (slot_of k s)) a.long (there a.is-place a.opened) a.coded sound-is-true ∙ ap (station_call_at k code ws s) slot_is

      called_is : (words : List ℕ) → buffer_step (part k b) 545 code words ≡ step whole code words x.dest
      called_is words = part-is-called b (length events) k x a.long sound-is-true slot_is code words

      -- it carries a number
      refuses-number : carries_number code ws ≡ true → (r.refusal ≡ 3) × (q ≡ station_refused 3 s)
      unfolding call_on
      refuses-number n = (ap (λ (o : Result). o.refusal) at_zero, on-it ∙ if-true _ _ n)
        where
          is_one : eqb code 1 ≡ true
          is_one = and_left (eqb code 1) _ n

          zero_word : at 0 given ≡ 0
          zero_word = ap (λ (l : List ℕ). at 0 l) (if-true _ ws is_one) ∙ if-false s.next 0 (not-true (eqb (at 0 ws) 0) (and_right (eqb code 1) _ n))

          at_zero : r ≡ refused 3 (view (part k b))
          at_zero = step-undecoded (part k b) 545 code given part_room a.coded p (ap (λ (m : ℕ). decode m given) (eqb-true code 1 is_one) ∙ undecoded given zero_word)

      module _ (n : carries_number code ws ≡ false) where
        given_is : given ≡ carried code ws s
        given_is = by-test (eqb code 1) (λ c. rw c (ap (λ (m : ℕ). m ∷ drop 1 ws) (if-true s.next 0 (free c)))) (λ c. rw c)
          where
            free : eqb code 1 ≡ true → eqb (at 0 ws) 0 ≡ true
            free c = not-false (eqb (at 0 ws) 0) (sym (ap (λ (x : Bool). x && not (eqb (at 0 ws) 0)) c) ∙ n)

        -- what the station means is the destination's own call
        pub own_is : r ≡ step whole code (carried code ws s) x.dest
        own_is = called_is given ∙ ap (λ (w : List ℕ). step whole code w x.dest) given_is

        pub accepted-is : r.refusal ≡ 0 → q ≡ accepted_at k code x (step whole code (carried code ws s) x.dest) (rejected x.dest (decode code (carried code ws s))) (clock_of (decode code (carried code ws s))) s
        unfolding call_on
        accepted-is z = on-it ∙ if-false _ _ n ∙ if-true _ _ (ap (λ (m : ℕ). eqb m 0) (sym (ap (λ (o : Result). o.refusal) own_is) ∙ z))

        refused-is : (r.refusal ≡ 0 → ⊥) → q ≡ station_refused r.refusal s
        unfolding call_on
        refused-is z = on-it ∙ if-false _ _ n ∙ if-false _ _ (ap (λ (m : ℕ). eqb m 0) (sym (ap (λ (o : Result). o.refusal) own_is)) ∙ ne_eqb r.refusal 0 z) ∙ ap (λ (m : ℕ). station_refused m s) (sym (ap (λ (o : Result). o.refusal) own_is))

    -- where the destination refuses, the station does, with the same number
    pub refuses-too : (r.refusal ≡ 0 → ⊥) → q ≡ station_refused r.refusal s
    refuses-too z = by-test (sound_buffers (part k b))
        (λ p. by-test (carries_number code ws)
        (λ n. let e = refuses-number p n in e.1 ∙ ap (λ (m : ℕ). station_refused m s) (sym e.0))
        (λ n. refused-is p n z))
        (λ u. let e = refuses-unsound u in e.1 ∙ ap (λ (m : ℕ). station_refused m s) (sym e.0))

    -- where it accepts, it is sound, and carries no number
    pub record Accepts : Type 0 where
      pub part_sound : sound_buffers (part k b) ≡ true
      pub station-sound : sound_station b ≡ true
      pub free : carries_number code ws ≡ false

    pub accepts : r.refusal ≡ 0 → Accepts
    accepts z = by-test (sound_buffers (part k b))
        (λ p. by-test (carries_number code ws)
        (λ n. absurd (omega (arith, z, (refuses-number p n).0)))
        (λ n. record { part_sound = p; station-sound = sound-is-true p; free = n }))
        (λ u. absurd (omega (arith, z, (refuses-unsound u).0)))
