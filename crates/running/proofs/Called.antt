-- One call: its events have room, and its lines. Assumes nothing.
use Prim.Native.Nat.{ℕ, ◌+◌, ◌*◌, ◌≤◌}
use native.Mathlib.Omega.{arith}
use mathlib.Core.Path.{◌≡◌, refl, sym, ap, ap₂, ◌∙◌, subst}
use mathlib.Core.Bool.{Bool, not, ◌&&◌, ◌||◌}
use mathlib.Core.List.{List, ◌++◌, map}
use borrow.Author.Tests.{eqb-true, eqb-false}
use lib.Dec.{eqb}
use lib.ListN.{length, take, drop, length-append, take-append-drop}
use Rattle.definition.specs.Calls.{short, sound, Result, refused}
use Rattle.definition.specs.Words.{step}
use Rattle.definition.specs.Layout.{Row, Buffers, event_words, view, formed, sound_buffers, lengths_of, buffer_step}
use Rattle.definition.proofs.Tests.{by-test, by-if, and_left}
use Rattle.definition.proofs.Claims.{step-sends}
use Rattle.calls.specs.declared.Call.{Call}
use Rattle.engine.specs.declared.Outcome.{Outcome}
use Rattle.engine.specs.Called.{Called}
use Rattle.callfile.specs.Lines.{call_line, event_rows_text}
use Rattle.callfile.specs.Placed.{Puts, PutLine}
use Rattle.callfile.proofs.Parts.{then, line-puts}
use Rattle.callfile.proofs.Texts.{call_length, events-length, events-text, rows_few}
use Rattle.running.specs.Running.{call_lines, lent_by, accepted, step_on, left_by, outcome_of}
use Rattle.running.proofs.Ranges.{Fits}

-- a call on lent buffers is a call on what they hold
pub step_by : (b : Buffers) (events : List Row) (c : Call) → buffer_step b (length events) c.code c.words ≡ step_on (lengths_of b (length events)) c (lent_by b events)
unfolding buffer_step step_on
step_by b events c = refl

-- ---- its lines

pub sends : (b : Buffers) (n code : ℕ) (ws : List ℕ) → length (buffer_step b n code ws).events ≤ 545
unfolding buffer_step
sends b n code ws = by-if (λ (r : Result). length r.events ≤ 545) (not (short (lengths_of b n)) && (not (eqb code 0) && not (formed b))) (refused 2 (view b)) (step (lengths_of b n) code ws (view b))
    (λ _. omega arith)
    (λ _. step-sends (lengths_of b n) code ws (view b))

pub text-length : (index : ℕ) (q : Result) → length q.events ≤ 545 → length (call_lines index q) ≤ 69888
unfolding call_lines
text-length index q few = simp length-append (omega (arith, call_length index q.refusal q.answer, events-length q.events))

module _ {q : Result} {b b' : Buffers} {events events' : List Row} {r : Outcome} (called : Called q b b' events events' r) where
  pub as-told : Called q b b' events events' (outcome_of q)
  as-told = subst (λ (x : Outcome). Called q b b' events events' x) (λ j. record { refusal = called.refusal j; answer = called.answer j; events = called.count j }) called

  module _ (index : ℕ) {at next : ℕ} {out out₁ : List ℕ} (few : length q.events ≤ 545) (room : at + 69888 ≤ length out) (line : PutLine 128 (call_line index r.refusal r.answer) at out next out₁) where
    first-line : Puts (call_line index r.refusal r.answer) at out next out₁
    first-line = line-puts (omega (arith, room)) (call_length index r.refusal r.answer) line

    room-left : next + 128 * r.events ≤ length out₁
    room-left = omega (arith, room, few, called.count, first-line.next, first-line.same, call_length index r.refusal r.answer)

    pub printed : Fits q.events → {m : ℕ} {out₂ : List ℕ} → PutLine (128 * r.events) (event_rows_text (take r.events events')) next out₁ m out₂ → Puts (call_lines index q) at out m out₂
    unfolding call_lines
    printed f {m} {out₂} p = subst (λ (t : List ℕ). Puts t at out m out₂)
        ((λ j. call_line index (called.refusal j) (called.answer j) ++ event_rows_text (called.sent j)) ∙ ap (λ (t : List ℕ). call_line index q.refusal q.answer ++ t) (events-text q.events f))
        (then first-line (line-puts room-left (rows_few r.events events') p))

-- ---- what it leaves

module _ {q : Result} {b b' : Buffers} {events events' : List Row} (called : Called q b b' events events' (outcome_of q)) where
  still_formed : formed b' ≡ (accepted q || formed b)
  unfolding sound_buffers
  still_formed = by-test (accepted q)
      (λ e. and_left (formed b') (sound (view b')) (called.leaves-sound (eqb-true q.refusal 0 e)) ∙ sym (ap (λ (t : Bool). t || formed b) e))
      (λ e. ap formed (called.kept (eqb-false q.refusal 0 e)).0 ∙ sym (ap (λ (t : Bool). t || formed b) e))

  events-are : events' ≡ map event_words q.events ++ drop (length q.events) events
  events-are = sym (take-append-drop (length q.events) events') ∙ ap₂ (λ (x y : List Row). x ++ y) called.sent called.later

  pub leaves : lent_by b' events' ≡ left_by q (lent_by b events)
  leaves = λ j. record { formed = still_formed j; dest = called.shows j; events = events-are j }
