-- An acknowledgement that rejects: what running its dead letters asks, and what the call then leaves. Assumes nothing.
use mathlib.Core.Path.{◌≡◌, refl, sym, ap, ◌∙◌, subst}
use mathlib.Core.Bool.{true, false}
use mathlib.Core.List.{List, [], ◌∷◌, map}
use mathlib.Core.Option.{Option, none, some}
use Prim.Native.Nat.{ℕ, suc, ◌+◌, ◌≤◌, ◌<◌}
use native.Mathlib.Omega.{arith}
use borrow.Author.Tests.{eqb-true}
use lib.Dec.{eqb}
use lib.ListN.{length, take, drop, length-map}
use lib.Seq.{length-take-le}
use Rattle.entry.specs.Entry.{entry_of}
use Rattle.definition.specs.Base.{all, is_some}
use Rattle.definition.specs.Types.{Entry}
use Rattle.definition.specs.Calls.{Call, asking, acknowledge, arguments_ok, id_ok, ack_ok, entry_ok, clock_ok, sound}
use Rattle.definition.specs.Words.{at, id_in, ack_in, ack_words, read, decode}
use Rattle.definition.specs.Layout.{Row, view, formed, sound_buffers, buffer_step}
use Rattle.definition.proofs.Tests.{if-false, and_left, and_right}
use Rattle.calls.proofs.Decoded.{Decoded, decoded}
use Rattle.state.proofs.Fitting.{not_short}
use Rattle.engine.specs.declared.Outcome.{Outcome}
use Rattle.engine.proofs.Refusing.{step-undecoded}
use Rattle.definition_station.specs.Letters.{rejected, clock_of}
use Rattle.definition_station.specs.Station.{StationResult}
use Rattle.definition_station.specs.Layout.{StationBuffers, part, station_view, buffer_station_step}
use Rattle.definition_station.specs.Called.{StationCalled}
use Rattle.rejects.specs.Rejects.{rejecting, buffer_rejected, Copied}
use Rattle.rejects.proofs.Copying.{copied-few}
use Rattle.rejects.proofs.Claims.{sound-rejected, rejected-ok}
use Rattle.stationcalls.specs.Parts.{lent_all}
use Rattle.stationcalls.specs.Plain.{NamedAt}
use Rattle.stationcalls.specs.Numbers.{dead_ok}
use Rattle.stationcalls.specs.Run.{Roomy}
use Rattle.definition_stationfates.specs.Told.{told_row, tell_each}
use Rattle.stationcalls.specs.All.{all_run, all_told, LendsAll, RanAll}
use Rattle.stationcalls.specs.Tells.{told_over, told_rows, StationTells}
use Rattle.stationcalls.specs.Step.{AskedAt, given_words}
use Rattle.stationcalls.proofs.Tested.{all-mapped}
use Rattle.stationcalls.proofs.Shape.{part_room, accepts}
use Rattle.stationcalls.proofs.Steps.{none-called, other-refused, letters-lend, letters-roomy, letters-told, letters-ran}
use Rattle.stationcalls.proofs.Tells.{all_tell, none-tells}

-- an acknowledgement
abbrev ack_call : List ℕ → Call
ack_call ws = asking (id_in ws) (acknowledge (ack_in ws) (at 6 ws))

four-decoded : (ws : List ℕ) → is_some (decode 4 ws) ≡ true → Decoded 4 ws (ack_words ws) (ack_call ws)
unfolding read
four-decoded ws t = decoded 4 ws (ack_words ws) (ack_call ws) refl t

clock-in : (ws : List ℕ) → arguments_ok (ack_call ws) ≡ true → clock_ok (at 6 ws) ≡ true
unfolding arguments_ok
clock-in ws h = and_right (ack_ok (ack_in ws)) (clock_ok (at 6 ws)) (and_right (id_ok (id_in ws)) _ h)

module _ (heads : List ℕ) (subs rows : List Row) (own : List ℕ) (events : List Row) (k code : ℕ) (ws : List ℕ) (a : AskedAt (lent_all heads subs rows own) k code (length events)) (y : rejecting code ws ≡ true)
    (h₁ : List ℕ) (s₁ r₁ : List Row) (events₁ : List Row) (o : Outcome) (n : NamedAt (buffer_step (part k (lent_all heads subs rows own)) 545 code ws) k (lent_all heads subs rows own) (lent_all h₁ s₁ r₁ own) events events₁ o) where
  abbrev b : StationBuffers
  b = lent_all heads subs rows own

  abbrev q : StationResult
  q = buffer_station_step b (length events) k code ws

  abbrev after : StationBuffers
  after = lent_all h₁ s₁ r₁ own

  is-four : code ≡ 4
  unfolding rejecting
  is-four = eqb-true code 4 (and_left (eqb code 4) _ y)

  not-one : eqb code 1 ≡ false
  not-one = ap (λ (m : ℕ). eqb m 1) is-four

  pub reject-refused : (o.refusal ≡ 0 → ⊥) → StationCalled q k code ws b after events events₁ o.refusal o.answer o.events
  reject-refused z = other-refused heads subs rows own events k code ws a h₁ s₁ r₁ events₁ o not-one n z

  module _ (dead dead' : List Row) (m : ℕ) (p : Copied (buffer_rejected (part k b) (length dead) code ws) m dead dead') (wide : length dead ≡ 512) (z : o.refusal ≡ 0) where
    given-same : given_words code ws (station_view b) ≡ ws
    given-same = if-false _ ws not-one

    done : (buffer_step (part k b) 545 code ws).refusal ≡ 0
    done = sym n.refusal ∙ z

    part_sound : sound_buffers (part k b) ≡ true
    part_sound = (accepts b events k code ws a (ap (λ (w : List ℕ). (buffer_step (part k b) 545 code w).refusal) given-same ∙ done)).part_sound

    sound-view : sound (view (part k b)) ≡ true
    unfolding sound_buffers
    sound-view = and_right (formed (part k b)) (sound (view (part k b))) part_sound

    is_call : is_some (decode code ws) ≡ true
    is_call = by (decode code ws) refl
      where
        by : (c : Option Call) → decode code ws ≡ c → is_some c ≡ true
        by (some c) e = refl
        by none e = absurd (omega (arith, done, ap (λ t. t.refusal) (step-undecoded (part k b) 545 code ws (part_room b events k code ws a) a.coded part_sound e)))

    is-ack : Decoded 4 ws (ack_words ws) (ack_call ws)
    is-ack = four-decoded ws (subst (λ (c : ℕ). is_some (decode c ws) ≡ true) is-four is_call)

    decode_is : decode code ws ≡ some (ack_call ws)
    decode_is = ap (λ (c : ℕ). decode c ws) is-four ∙ is-ack.call

    clock-is : at 6 ws ≡ clock_of (decode code ws)
    unfolding clock_of
    clock-is = sym (ap clock_of decode_is)

    entries-are : map entry_of (take m dead') ≡ rejected (view (part k b)) (decode code ws)
    entries-are = p.entries ∙ sound-rejected (part k b) (not_short (part k b) 545 (part_room b events k code ws a)) part_sound (length dead) code ws (omega (arith, wide))

    all-dead : all dead_ok (take m dead') ≡ true
    all-dead = sym (all-mapped entry_ok entry_of (take m dead')) ∙ ap (all entry_ok) entries-are ∙ rejected-ok (view (part k b)) sound-view (decode code ws)

    few : m ≤ length dead
    few = copied-few (buffer_rejected (part k b) (length dead) code ws) m dead dead' p

    pub reject-asks : LendsAll after × (m ≤ length dead') × (m ≤ 512) × (all dead_ok (take m dead') ≡ true) × (clock_ok (at 6 ws) ≡ true) × (k < 8) × Roomy (all_run (at 6 ws) (at (8 + k) own) (map entry_of (take m dead')) (station_view after)) o.events events₁
    reject-asks = (
      letters-lend heads subs rows own events k code ws a h₁ s₁ r₁ events₁ o not-one n z (map entry_of (take m dead')) (at 6 ws) entries-are clock-is,
      omega (arith, few, p.size),
      omega (arith, few, wide),
      all-dead,
      clock-in ws is-ack.arguments,
      a.is-place,
      letters-roomy heads subs rows own events k code ws a h₁ s₁ r₁ events₁ o not-one n z (map entry_of (take m dead')) (at 6 ws) entries-are clock-is,
    )

    pub reject-ran : (h₂ : List ℕ) (s₂ r₂ : List Row) (own₂ : List ℕ) (events₂ : List Row) (sent : ℕ) → RanAll (all_run (at 6 ws) (at (8 + k) own) (map entry_of (take m dead')) (station_view after)) after (lent_all h₂ s₂ r₂ own₂) events₁ events₂ o.events sent
        → StationCalled q k code ws b (lent_all h₂ s₂ r₂ own₂) events events₂ 0 o.answer sent
    reject-ran = letters-ran heads subs rows own events k code ws a h₁ s₁ r₁ events₁ o not-one n z (map entry_of (take m dead')) (at 6 ws) entries-are clock-is

    -- the rows of its letters, and how many they are
    rows_are : told_rows k code ws (station_view b) ≡ all_told (at 6 ws) (at (8 + k) own) (map entry_of (take m dead')) (station_view after)
    rows_are = letters-told heads subs rows own events k code ws a h₁ s₁ r₁ events₁ o not-one n z (map entry_of (take m dead')) (at 6 ws) entries-are clock-is

    pub reject-tells : (told told' : List Row) → q.refusal ≡ 0 → told' ≡ told_over (all_told (at 6 ws) (at (8 + k) own) (map entry_of (take m dead')) (station_view after)) told → StationTells q (told_rows k code ws (station_view b)) told told' m
    reject-tells told told' e t = all_tell q (told_rows k code ws (station_view b)) told told' m e (t ∙ ap (λ (l : List Row). told_over l told) (sym rows_are)) (sym (ap length rows_are ∙ told-length (map entry_of (take m dead')) ∙ length-map (take m dead') entry_of ∙ length-take-le m dead' (omega (arith, few, p.size))))
      where
        each-length : (es : List Entry) (ns ps : List ℕ) → length (tell_each es ns ps) ≡ length es
        each-length [] ns ps = refl
        each-length (x ∷ es) ns ps = ap suc (each-length es (drop 1 ns) (drop 1 ps))

        told-length : (es : List Entry) → length (all_told (at 6 ws) (at (8 + k) own) es (station_view after)) ≡ length es
        told-length es = length-map (tell_each es _ _) told_row ∙ each-length es _ _

    pub reject-tells-none : (told : List Row) → m ≡ 0 → StationTells q (told_rows k code ws (station_view b)) told told 0
    reject-tells-none told e = none-tells q (told_rows k code ws (station_view b)) told (rows_are ∙ ap (λ (c : ℕ). all_told (at 6 ws) (at (8 + k) own) (map entry_of (take c dead')) (station_view after)) e)

    pub reject-none : m ≡ 0 → StationCalled q k code ws b after events events₁ o.refusal o.answer o.events
    reject-none e = none-called heads subs rows own events k code ws a h₁ s₁ r₁ events₁ o not-one n (sym entries-are ∙ ap (λ (c : ℕ). map entry_of (take c dead')) e)
