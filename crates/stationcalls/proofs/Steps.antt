-- The three ways of a call of an open destination, as the code has them: without letters, an enqueue, and one that rejects. Assumes nothing.
use mathlib.Core.Path.{◌≡◌, refl, sym, ap, ◌∙◌, subst, subst⁻¹}
use mathlib.Core.Bool.{Bool, true, false}
use mathlib.Core.List.{List, [], ◌∷◌, map}
use Prim.Native.Nat.{ℕ, ◌+◌, ◌≤◌, ◌^◌}
use native.Mathlib.Omega.{arith}
use borrow.Author.Tests.{eqb-true, eqb-false, eq-eqb, leb-true}
use lib.Dec.{eqb, leb}
use lib.ListN.{length, drop, set}
use Rattle.definition.specs.Base.{whether◌then◌else◌, all, up_from}
use Rattle.definition.specs.Types.{Entry, Dest}
use Rattle.definition.specs.Calls.{enqueuing, arguments_ok}
use Rattle.definition.specs.Words.{at, entry_in, provided, ranged_call, read, decode}
use Rattle.definition.specs.Layout.{Row, view, buffer_step}
use Rattle.definition.proofs.Tests.{by-test, if-true, if-false, and_left, and_right}
use Rattle.calls.specs.declared.Call as Struct
use Rattle.calls.specs.Calls.{new_call}
use Rattle.engine.specs.declared.Outcome.{Outcome}
use Rattle.definition_station.specs.Types.{RanLetters}
use Rattle.definition_station.specs.Letters.{rejected, clock_of}
use Rattle.definition_station.specs.Station.{StationResult, carried}
use Rattle.definition_station.specs.Layout.{StationBuffers, part, station_view, buffer_station_step}
use Rattle.definition_station.specs.Called.{StationCalled}
use Rattle.definition_station.proofs.Buffers.{heads-long, subs-long, rows_long, own-long, events-long}
use Rattle.stationcalls.specs.Parts.{lent_all, Within}
use Rattle.stationcalls.specs.Own.{place_ok, given_ok, own_words_ok}
use Rattle.stationcalls.specs.Plain.{NamedAt}
use Rattle.stationcalls.specs.Run.{Roomy}
use Rattle.definition_stationfates.specs.Told.{told_row, told_letters}
use Rattle.stationcalls.specs.All.{all_run, LendsAll, RanAll, all_told}
use Rattle.stationcalls.specs.Step.{AskedAt, carried_words, given_words}
use Rattle.stationcalls.proofs.Accepted.{none-ran, own_after, dest-refused, lends, roomy, dest-accepted, told_is}

-- an enqueue rejects nothing
enqueued-none : (t : Dest) (b : Bool) (c : Entry) (now : ℕ) → rejected t (ranged_call (provided b (enqueuing c now))) ≡ []
unfolding provided rejected
enqueued-none t false c now = refl
enqueued-none t true c now = by-test (arguments_ok (enqueuing c now)) (λ e. rw e) (λ e. rw e)

pub enqueue-rejects-none : (t : Dest) (ws : List ℕ) → rejected t (decode 1 ws) ≡ []
unfolding decode read
enqueue-rejects-none t ws = enqueued-none t _ (entry_in ws) (at 6 ws)

-- the next number is in range
pub next-few : (own : List ℕ) → own_words_ok own ≡ true → at 16 own ≤ 2 ^ 63
unfolding own_words_ok given_ok
next-few own h = leb-true (at 16 own) (2 ^ 63) (and_left (leb (at 16 own) (2 ^ 63)) _ (and_right (leb 1 (at 16 own)) _ (and_right (all (place_ok own) (up_from 0 8)) _ h)))

-- the parts are there, and the list of events is long enough for a destination
pub asked-within : (heads : List ℕ) (subs rows : List Row) (own : List ℕ) (k code n : ℕ) → AskedAt (lent_all heads subs rows own) k code n → Within k heads subs rows × (545 ≤ n)
asked-within heads subs rows own k code n a =
    let b : StationBuffers = lent_all heads subs rows own in
    (record { is-place = a.is-place; heads-long = heads-long b n a.long; subs-long = subs-long b n a.long; rows_long = rows_long b n a.long }, omega (arith, events-long b n a.long))

pub asked-own : (heads : List ℕ) (subs rows : List Row) (own : List ℕ) (k code n : ℕ) → AskedAt (lent_all heads subs rows own) k code n → 20 ≤ length own
asked-own heads subs rows own k code n a = own-long (lent_all heads subs rows own) n a.long

-- eight words, one by one
pub words_are : (ws : List ℕ) → length ws ≡ 8 → drop 1 ws ≡ at 1 ws ∷ at 2 ws ∷ at 3 ws ∷ at 4 ws ∷ at 5 ws ∷ at 6 ws ∷ at 7 ws ∷ []
words_are [] e = absurd (omega (arith, e))
words_are (a ∷ []) e = absurd (omega (arith, e))
words_are (a ∷ b ∷ []) e = absurd (omega (arith, e))
words_are (a ∷ b ∷ c ∷ []) e = absurd (omega (arith, e))
words_are (a ∷ b ∷ c ∷ d ∷ []) e = absurd (omega (arith, e))
words_are (a ∷ b ∷ c ∷ d ∷ f ∷ []) e = absurd (omega (arith, e))
words_are (a ∷ b ∷ c ∷ d ∷ f ∷ g ∷ []) e = absurd (omega (arith, e))
words_are (a ∷ b ∷ c ∷ d ∷ f ∷ g ∷ h ∷ []) e = absurd (omega (arith, e))
words_are (a ∷ b ∷ c ∷ d ∷ f ∷ g ∷ h ∷ i ∷ []) e = refl
words_are (a ∷ b ∷ c ∷ d ∷ f ∷ g ∷ h ∷ i ∷ j ∷ l) e = absurd (omega (arith, e))

pub carried-words : (next n : ℕ) (ws : List ℕ) → n ≡ (whether eqb (at 0 ws) 0 then next else 0) → length ws ≡ 8 → n ∷ at 1 ws ∷ at 2 ws ∷ at 3 ws ∷ at 4 ws ∷ at 5 ws ∷ at 6 ws ∷ at 7 ws ∷ [] ≡ carried_words next ws
carried-words next n ws e l = ap (λ (w : List ℕ). n ∷ w) (sym (words_are ws l)) ∙ ap (λ (m : ℕ). m ∷ drop 1 ws) e

module _ (heads : List ℕ) (subs rows : List Row) (own : List ℕ) (events : List Row) (k code : ℕ) (ws : List ℕ) (a : AskedAt (lent_all heads subs rows own) k code (length events))
    (h₁ : List ℕ) (s₁ r₁ : List Row) (events₁ : List Row) (o : Outcome) where
  abbrev b : StationBuffers
  b = lent_all heads subs rows own

  abbrev q : StationResult
  q = buffer_station_step b (length events) k code ws

  abbrev Named : List ℕ → Type 0
  Named words = NamedAt (buffer_step (part k b) 545 code words) k b (lent_all h₁ s₁ r₁ own) events events₁ o

  abbrev letters : List Entry
  letters = rejected (view (part k b)) (decode code (carried code ws (station_view b)))

  abbrev now : ℕ
  now = clock_of (decode code (carried code ws (station_view b)))

  given-named : (words : List ℕ) → given_words code ws (station_view b) ≡ words → Named words → Named (given_words code ws (station_view b))
  given-named words e n = subst⁻¹ Named e n

  -- accepted, without letters
  without : (n : Named (given_words code ws (station_view b))) → letters ≡ [] → (z : o.refusal ≡ 0) (own₁ : List ℕ) → own₁ ≡ own_after code own → StationCalled q k code ws b (lent_all h₁ s₁ r₁ own₁) events events₁ 0 o.answer o.events
  without n nil z own₁ oe =
      let l = lends heads subs rows own events k code ws a h₁ s₁ r₁ events₁ o n z own₁ oe in
      dest-accepted heads subs rows own events k code ws a h₁ s₁ r₁ events₁ o n z own₁ oe h₁ s₁ r₁ own₁ events₁ o.events
      (subst⁻¹ (λ (es : List Entry). RanAll (all_run now (at (8 + k) own₁) es (station_view (lent_all h₁ s₁ r₁ own₁))) (lent_all h₁ s₁ r₁ own₁) (lent_all h₁ s₁ r₁ own₁) events₁ events₁ o.events o.events) nil
      (none-ran h₁ s₁ r₁ own₁ events₁ now (at (8 + k) own₁) o.events l.own-long l.sound))

  refused-too : (n : Named (given_words code ws (station_view b))) → (o.refusal ≡ 0 → ⊥) → StationCalled q k code ws b (lent_all h₁ s₁ r₁ own) events events₁ o.refusal o.answer o.events
  refused-too n z = dest-refused heads subs rows own events k code ws a h₁ s₁ r₁ events₁ o n z

  -- ---- a call that is no enqueue

  module _ (e : eqb code 1 ≡ false) (n : Named ws) where
    plain-given : given_words code ws (station_view b) ≡ ws
    plain-given = if-false (carried_words (station_view b).next ws) ws e

    plain_carried : carried code ws (station_view b) ≡ ws
    plain_carried = if-false ((station_view b).next ∷ drop 1 ws) ws e

    same-own : own ≡ own_after code own
    same-own = sym (if-false (set own 16 (at 16 own + 1)) own e)

    pub other-refused : (o.refusal ≡ 0 → ⊥) → StationCalled q k code ws b (lent_all h₁ s₁ r₁ own) events events₁ o.refusal o.answer o.events
    other-refused z = refused-too (given-named ws plain-given n) z

    pub none-called : rejected (view (part k b)) (decode code ws) ≡ [] → StationCalled q k code ws b (lent_all h₁ s₁ r₁ own) events events₁ o.refusal o.answer o.events
    none-called nil = by-test (eqb o.refusal 0)
        (λ t. let z = eqb-true o.refusal 0 t in
        subst⁻¹ (λ (m : ℕ). StationCalled q k code ws b (lent_all h₁ s₁ r₁ own) events events₁ m o.answer o.events) z
        (without (given-named ws plain-given n) (ap (λ (w : List ℕ). rejected (view (part k b)) (decode code w)) plain_carried ∙ nil) z own same-own))
        (λ t. other-refused (eqb-false o.refusal 0 t))

    pub quiet-called : ((t : Dest) → rejected t (decode code ws) ≡ []) → StationCalled q k code ws b (lent_all h₁ s₁ r₁ own) events events₁ o.refusal o.answer o.events
    quiet-called nil = none-called (nil (view (part k b)))

    -- dead letters that are run
    module _ (z : o.refusal ≡ 0) (es : List Entry) (clock : ℕ) (se : es ≡ rejected (view (part k b)) (decode code ws)) (ce : clock ≡ clock_of (decode code ws)) where
      letters-are : letters ≡ es
      letters-are = ap (λ (w : List ℕ). rejected (view (part k b)) (decode code w)) plain_carried ∙ sym se

      clock-is : now ≡ clock
      clock-is = ap (λ (w : List ℕ). clock_of (decode code w)) plain_carried ∙ sym ce

      abbrev after : StationBuffers
      after = lent_all h₁ s₁ r₁ own

      ran-is : all_run now (at (8 + k) own) letters (station_view after) ≡ all_run clock (at (8 + k) own) es (station_view after)
      ran-is = ap (λ (l : List Entry). all_run now (at (8 + k) own) l (station_view after)) letters-are ∙ ap (λ (m : ℕ). all_run m (at (8 + k) own) es (station_view after)) clock-is

      pub letters-lend : LendsAll after
      letters-lend = lends heads subs rows own events k code ws a h₁ s₁ r₁ events₁ o (given-named ws plain-given n) z own same-own

      pub letters-roomy : Roomy (all_run clock (at (8 + k) own) es (station_view after)) o.events events₁
      letters-roomy = subst (λ (t : RanLetters). Roomy t o.events events₁) ran-is (roomy heads subs rows own events k code ws a h₁ s₁ r₁ events₁ o (given-named ws plain-given n) z own same-own)

      pub letters-told : map told_row (told_letters k code ws (station_view b)) ≡ all_told clock (at (8 + k) own) es (station_view after)
      letters-told =
          told_is heads subs rows own events k code ws a h₁ s₁ r₁ events₁ o (given-named ws plain-given n) z own same-own
          ∙ ap (λ (l : List Entry). all_told now (at (8 + k) own) l (station_view after)) letters-are
          ∙ ap (λ (m : ℕ). all_told m (at (8 + k) own) es (station_view after)) clock-is

      pub letters-ran : (h₂ : List ℕ) (s₂ r₂ : List Row) (own₂ : List ℕ) (events₂ : List Row) (sent : ℕ) → RanAll (all_run clock (at (8 + k) own) es (station_view after)) after (lent_all h₂ s₂ r₂ own₂) events₁ events₂ o.events sent
          → StationCalled q k code ws b (lent_all h₂ s₂ r₂ own₂) events events₂ 0 o.answer sent
      letters-ran h₂ s₂ r₂ own₂ events₂ sent p = dest-accepted heads subs rows own events k code ws a h₁ s₁ r₁ events₁ o (given-named ws plain-given n) z own same-own h₂ s₂ r₂ own₂ events₂ sent
          (subst⁻¹ (λ (t : RanLetters). RanAll t after (lent_all h₂ s₂ r₂ own₂) events₁ events₂ o.events sent) ran-is p)

  -- ---- an enqueue

  module _ (e : code ≡ 1) (next : ℕ) (ne : next ≡ at 16 own) (g : Struct.Call) (ge : g ≡ new_call code (carried_words next ws))
      (n₀ : NamedAt (buffer_step (part k b) 545 g.code g.words) k b (lent_all h₁ s₁ r₁ own) events events₁ o) where
    n : Named (carried_words next ws)
    n = subst (λ (c : Struct.Call). NamedAt (buffer_step (part k b) 545 c.code c.words) k b (lent_all h₁ s₁ r₁ own) events events₁ o) ge n₀

    is_one : eqb code 1 ≡ true
    is_one = eq-eqb code 1 e

    enqueue-given : given_words code ws (station_view b) ≡ carried_words next ws
    unfolding station_view
    enqueue-given = if-true (carried_words (at 16 own) ws) ws is_one ∙ ap (λ (m : ℕ). carried_words m ws) (sym ne)

    pub enqueue-refused : (o.refusal ≡ 0 → ⊥) → StationCalled q k code ws b (lent_all h₁ s₁ r₁ own) events events₁ o.refusal o.answer o.events
    enqueue-refused z = refused-too (given-named (carried_words next ws) enqueue-given n) z

    pub enqueue-accepted : (z : o.refusal ≡ 0) (own₁ : List ℕ) → own₁ ≡ set own 16 (next + 1) → StationCalled q k code ws b (lent_all h₁ s₁ r₁ own₁) events events₁ o.refusal o.answer o.events
    enqueue-accepted z own₁ oe =
        subst⁻¹ (λ (m : ℕ). StationCalled q k code ws b (lent_all h₁ s₁ r₁ own₁) events events₁ m o.answer o.events) z
        (without (given-named (carried_words next ws) enqueue-given n)
        (ap (λ (c : ℕ). rejected (view (part k b)) (decode c (carried code ws (station_view b)))) e ∙ enqueue-rejects-none (view (part k b)) (carried code ws (station_view b)))
        z own₁ (oe ∙ ap (λ (m : ℕ). set own 16 (m + 1)) ne ∙ sym (if-true (set own 16 (at 16 own + 1)) own is_one)))
