-- What the definition of a call on lent buffers gives, test by test in the order of checking. Assumes nothing.
use mathlib.Core.Path.{◌≡◌, sym, ap, ◌∙◌}
use mathlib.Core.Bool.{Bool, true, false, ◌&&◌}
use mathlib.Core.List.{List, []}
use mathlib.Core.Option.{Option, none, some}
use Prim.Native.Nat.{ℕ, suc}
use lib.Dec.{eqb, eqb-suc-zero}
use Rattle.definition.specs.Base.{whether◌then◌else◌}
use Rattle.definition.specs.Types.{Dest}
use Rattle.definition.specs.Calls.{Lengths, short, sound, Call, Result, refused, used, arguments_ok, own_refusal, perform, refusal, call}
use Rattle.definition.specs.Words.{decode, open_words, opened_by, open_step, call_step, step}
use Rattle.definition.specs.Layout.{Buffers, view, formed, sound_buffers, lengths_of, buffer_step}
use Rattle.definition.proofs.Tests.{by-test, and_left, and_right}
use Rattle.definition.proofs.Kept.{call-sound}
use Rattle.definition.proofs.Claims.{step-leaves-sound}

-- an accepted call
abbrev pub done : Call → Dest → Result
done c t = record { refusal = 0; answer = (perform t c).answer; events = (perform t c).events; dest = used (perform t c).dest }

pub call-refused : (k : ℕ) (l : Lengths) (c : Call) (t : Dest) → refusal l c t ≡ suc k → call l c t ≡ refused (suc k) t
unfolding call
call-refused k l c t h = rw (h, eqb-suc-zero k)

pub call-done : (l : Lengths) (c : Call) (t : Dest) → refusal l c t ≡ 0 → call l c t ≡ done c t
unfolding call
call-done l c t h = rw h

open_plain : (l : Lengths) (ws : List ℕ) (t : Dest) → short l ≡ false → open_words ws ≡ true → step l 0 ws t ≡ record { refusal = 0; answer = 0; events = []; dest = opened_by ws }
unfolding step open_step
open_plain l ws t r o = rw (r, o)

module _ (b : Buffers) (events code : ℕ) (ws : List ℕ) where
  abbrev l : Lengths
  l = lengths_of b events

  abbrev t : Dest
  t = view b

  short-coded : (o : Option Call) → short l ≡ true → call_step l t o ≡ refused 1 t
  unfolding call_step refusal
  short-coded none h = rw h
  short-coded (some c) h = call-refused 0 l c t (rw h)

  pub step-short : short l ≡ true → buffer_step b events code ws ≡ refused 1 t
  unfolding buffer_step step open_step
  step-short h = by-test (eqb code 0) (λ e. rw (h, e)) (λ e. rw (h, e) (short-coded (decode code ws) h))

  module _ (roomy : short l ≡ false) where
    pub step-opens : eqb code 0 ≡ true → open_words ws ≡ true → buffer_step b events code ws ≡ record { refusal = 0; answer = 0; events = []; dest = opened_by ws }
    unfolding buffer_step step open_step
    step-opens h o = rw (roomy, h, o)

    -- and it is sound
    pub opens-sound : open_words ws ≡ true → sound (opened_by ws) ≡ true
    opens-sound o =
        let q = open_plain l ws t roomy o in
        sym (ap (λ (r : Result). sound r.dest) q) ∙ step-leaves-sound l 0 ws t (ap (λ (r : Result). r.refusal) q)

    pub step-unopened : eqb code 0 ≡ true → open_words ws ≡ false → buffer_step b events code ws ≡ refused 3 t
    unfolding buffer_step step open_step
    step-unopened h o = rw (roomy, h, o)

    module _ (coded : eqb code 0 ≡ false) where
      unsound-coded : (o : Option Call) → sound t ≡ false → call_step l t o ≡ refused 2 t
      unfolding call_step refusal
      unsound-coded none h = rw (roomy, h)
      unsound-coded (some c) h = call-refused 1 l c t (rw (roomy, h))

      pub step-unsound : sound_buffers b ≡ false → buffer_step b events code ws ≡ refused 2 t
      unfolding buffer_step step sound_buffers
      step-unsound h = by-test (formed b)
          (λ f. rw (roomy, coded, f) (unsound-coded (decode code ws) (rest f)))
          (λ f. rw (roomy, coded, f))
        where
          rest : formed b ≡ true → sound t ≡ false
          rest f = sym (ap (λ (x : Bool). x && sound (view b)) f) ∙ h

      module _ (s : sound_buffers b ≡ true) where
        is-formed : formed b ≡ true
        unfolding sound_buffers
        is-formed = and_left (formed b) (sound (view b)) s

        pub is-sound : sound t ≡ true
        unfolding sound_buffers
        is-sound = and_right (formed b) (sound (view b)) s

        coded-step : buffer_step b events code ws ≡ call_step l t (decode code ws)
        unfolding buffer_step step
        coded-step = rw (roomy, coded, is-formed)

        pub step-undecoded : decode code ws ≡ none → buffer_step b events code ws ≡ refused 3 t
        unfolding call_step
        step-undecoded h = coded-step ∙ ap (call_step l t) h ∙ rw (roomy, is-sound)

        module _ (c : Call) (decoded : decode code ws ≡ some c) (ok : arguments_ok c ≡ true) where
          called : buffer_step b events code ws ≡ call l c t
          unfolding call_step
          called = coded-step ∙ ap (call_step l t) decoded

          last-refusal : refusal l c t ≡ (whether eqb t.calls_used t.call_limit then 9 else own_refusal t c)
          unfolding refusal
          last-refusal = rw (roomy, is-sound, ok)

          pub step-spent : eqb t.calls_used t.call_limit ≡ true → buffer_step b events code ws ≡ refused 9 t
          step-spent h = called ∙ call-refused 8 l c t (last-refusal ∙ rw h)

          pub step-refused : (k : ℕ) → eqb t.calls_used t.call_limit ≡ false → own_refusal t c ≡ suc k → buffer_step b events code ws ≡ refused (suc k) t
          step-refused k h o = called ∙ call-refused k l c t (last-refusal ∙ rw h o)

          pub step-done : eqb t.calls_used t.call_limit ≡ false → own_refusal t c ≡ 0 → buffer_step b events code ws ≡ done c t
          step-done h o = called ∙ call-done l c t (last-refusal ∙ rw h o)

          -- and what it leaves is sound
          pub done-sound : eqb t.calls_used t.call_limit ≡ false → own_refusal t c ≡ 0 → sound (used (perform t c).dest) ≡ true
          done-sound h o =
              let z : refusal l c t ≡ 0 = last-refusal ∙ rw h o in
              sym (ap (λ (r : Result). sound r.dest) (call-done l c t z)) ∙ call-sound l c t z
