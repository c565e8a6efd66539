-- A letter is stored, goes on, or is lost: the definition a step at a time, and the call that the code makes. Assumes nothing.
use mathlib.Core.Path.{◌≡◌, refl, ap, ◌∙◌}
use mathlib.Core.Bool.{Bool, true, false, not, ◌&&◌}
use mathlib.Core.List.{List, [], ◌∷◌}
use mathlib.Core.Option.{none, some}
use Prim.Native.Nat.{ℕ, zero, suc, ◌≤◌, ◌<◌}
use borrow.Author.Tests.{ne_eqb}
use lib.Dec.{eqb}
use lib.ListN.{length}
use Rattle.definition.specs.Types.{Entry, Dest}
use Rattle.definition.specs.Calls.{Lengths, short, Result, enqueuing, call, sound}
use Rattle.definition.specs.Words.{entry_in, read, decode, call_step, step}
use Rattle.definition.specs.Layout.{Row, Buffers, view, formed, sound_buffers, lengths_of, buffer_step}
use Rattle.definition.proofs.Tests.{and_left, if-true, if-false}
use Rattle.calls.proofs.Decoded.{decoded}
use Rattle.definition_station.specs.Types.{StationSlot, Station, slot_of, put_dest, sent_at}
use Rattle.definition_station.specs.Letters.{whole, is_lost, stored_at, storing, running}
use Rattle.definition_station.specs.Layout.{StationBuffers, part}
use Rattle.definition_station.proofs.Buffers.{part-lengths}
use Rattle.stationcalls.specs.Run.{letter_call, letter_ok}

-- ---- the definition

module _ (clock k : ℕ) (e : Entry) (s : Station) where
  pub storing-none : (hops : ℕ) → slot_of k s ≡ none → storing hops clock k e s ≡ is_lost s
  unfolding storing stored_at running
  storing-none zero p = refl
  storing-none (suc hops) p = ap (stored_at (λ j u. running hops clock j (e ∷ []) u) clock k e s) p

  pub storing-zero : storing 0 clock k e s ≡ is_lost s
  unfolding storing
  storing-zero = refl

  module _ (hops : ℕ) (x : StationSlot) (p : slot_of k s ≡ some x) where
    abbrev r : Result
    r = call whole (enqueuing e clock) x.dest

    pub storing-stores : r.refusal ≡ 0 → storing (suc hops) clock k e s ≡ record { station = put_dest k x r.dest s; events = sent_at k r.events }
    unfolding storing stored_at running
    storing-stores q = ap (stored_at (λ j u. running hops clock j (e ∷ []) u) clock k e s) p ∙ if-true _ _ (ap (λ (n : ℕ). eqb n 0) q)

    pub storing-passes : (r.refusal ≡ 0 → ⊥) → storing (suc hops) clock k e s ≡ running hops clock x.name (e ∷ []) s
    unfolding storing stored_at running
    storing-passes q = ap (stored_at (λ j u. running hops clock j (e ∷ []) u) clock k e s) p ∙ if-false _ _ (ne_eqb r.refusal 0 q)

-- ---- the call

formed-step : (p : Buffers) (ws : List ℕ) → sound_buffers p ≡ true → buffer_step p 545 1 ws ≡ step (lengths_of p 545) 1 ws (view p)
unfolding buffer_step sound_buffers
formed-step p ws q = unformed p ws (and_left (formed p) (sound (view p)) q)
  where
    unformed : (p : Buffers) (ws : List ℕ) → formed p ≡ true → buffer_step p 545 1 ws ≡ step (lengths_of p 545) 1 ws (view p)
    unformed p ws f = if-false _ _ (never (not (short (lengths_of p 545))) (formed p) f)
      where
        never : (x y : Bool) → y ≡ true → (x && (not (eqb 1 0) && not y)) ≡ false
        never true y f = rw f
        never false y f = refl

decoded-is : (clock : ℕ) (w : Row) → letter_ok clock w ≡ true → decode 1 (letter_call clock w) ≡ some (enqueuing (entry_in w) clock)
unfolding read
decoded-is clock w t = (decoded 1 (letter_call clock w) _ (enqueuing (entry_in w) clock) refl t).call

step_call : (clock : ℕ) (w : Row) (u : Dest) → letter_ok clock w ≡ true → step whole 1 (letter_call clock w) u ≡ call whole (enqueuing (entry_in w) clock) u
unfolding step call_step
step_call clock w u t = ap (call_step whole u) (decoded-is clock w t)

module _ (k : ℕ) (b : StationBuffers) (h : k < 8) (heads : 66776 ≤ length b.heads) (subs : 256 ≤ length b.subs) (rows : 4096 ≤ length b.rows) where
  -- on a sound part the code's call is the enqueue of the letter
  pub part-call : (clock : ℕ) (w : Row) → sound_buffers (part k b) ≡ true → letter_ok clock w ≡ true
      → buffer_step (part k b) 545 1 (letter_call clock w) ≡ call whole (enqueuing (entry_in w) clock) (view (part k b))
  part-call clock w s t = formed-step (part k b) (letter_call clock w) s ∙ ap (λ (l : Lengths). step l 1 (letter_call clock w) (view (part k b))) (part-lengths k b h heads subs rows) ∙ step_call clock w (view (part k b)) t
