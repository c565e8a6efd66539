-- Along the pieces of a file the library writes what a run of it prints. Assumes nothing.
use Prim.Native.Nat.{ℕ, ◌≤◌, ◌<◌}
use native.Mathlib.Omega.{arith}
use mathlib.Core.Path.{◌≡◌, refl, sym, ap, ◌∙◌, subst}
use mathlib.Core.Bool.{Bool, true, false, ◌&&◌}
use mathlib.Core.List.{List, ◌∷◌, ◌++◌}
use borrow.Author.Tests.{eq-eqb, lt-ltb, le-leb}
use lib.ListN.{length, take, drop, length-replicate, replicate}
use Rattle.definition.specs.Calls.{Lengths}
use Rattle.definition.specs.Layout.{Row, stats_at, view, lengths_of, layout_open}
use Rattle.callfile.specs.declared.Took.{Took}
use Rattle.callfile.specs.Lines.{counters_line}
use Rattle.callfile.specs.Cutting.{cut_blocks, along_blocks, Stage, take_piece, end_of_file, inARow}
use Rattle.callfile.proofs.Cutting.{from_stage, at-end}
use Rattle.running.specs.Running.{LentState, lent_by, Doing, run_call}
use Rattle.running.specs.Files.{RunState, work_block, run_lengths, stage_at, roomy, heeding, step_changed, Takes, TakesPiece, last_lines, Between, zero_state, at_start, run_file, Writes, last, ended, used-up, step, RunsAlong}
use Rattle.running.proofs.Blocks.{same-lengths}
use Rattle.running.proofs.Pieces.{put_first, small, ending, still-places, still-unfilled, along-step, over}
use Rattle.running.proofs.Pieces as Pieces

-- ---- between two calls

abbrev one : Doing LentState
one = run_call run_lengths

abbrev tail : LentState → List ℕ
tail s = counters_line s.dest.stats

-- the buffers are long enough, and the block is not whole
record Ready (m : Between) : Type 0 where
  pub lengths : lengths_of m.lent (length m.events) ≡ run_lengths
  pub places : length m.block ≡ 512
  pub unfilled : m.at.have < 512

abbrev shown : Between → LentState
shown m = lent_by m.lent m.events

abbrev stage : Between → Stage (RunState LentState)
stage m = stage_at m.at m.block (shown m)

-- the lines from here on, with these bytes to come
abbrev lines : Stage (RunState LentState) → List ℕ → List ℕ
lines g later = Pieces.lines one tail (from_stage (work_block one) g later)

-- ---- the end

ends_so : (m : Between) → Ready m → last_lines m.at false (stats_at m.lent.head) ≡ Pieces.lines one tail (end_of_file (work_block one) (stage m))
unfolding last_lines view
ends_so m h = ending one tail m.at m.block (shown m) h.places h.unfilled

-- ---- a step

module _ (m m' : Between) (piece : List ℕ) (from : ℕ) (out out' : List ℕ) (r : Took) (h : Ready m) (room : 489216 ≤ length out)
    (t : TakesPiece m.at piece from m.lent m'.lent m.events m'.events m.block m'.block out out' r) (next : m'.at ≡ r.reading)
  where
    abbrev rest : List ℕ
    rest = drop from piece

    abbrev At : Lengths → Bool → Type 0
    At l ok = Takes (take_piece (work_block (run_call l)) rest (heeding ok (stage m))) (step_changed (run_call l) rest (heeding ok (stage m))) (ok && m.at.goes_on) m.at rest from m.lent m'.lent m.events m'.events m.block m'.block out out' r

    ok : roomy 489216 m.at m.block out ≡ true
    ok = rw (eq-eqb (length m.block) 512 h.places, lt-ltb m.at.have 512 h.unfilled, le-leb 489216 (length out) room)

    took : At run_lengths true
    took = subst (λ (l : Lengths). At l true) h.lengths (subst (λ (x : Bool). At (lengths_of m.lent (length m.events)) x) ok t)

    ready : Ready m'
    ready = record {
      lengths = same-lengths took.left ∙ h.lengths;
      places = still-places one tail m.at m.block (shown m) h.places h.unfilled m'.at m'.block (shown m') piece from out out' r took.taken next took.shows;
      unfilled = still-unfilled one tail m.at m.block (shown m) h.places h.unfilled m'.at m'.block (shown m') piece from out out' r took.taken next took.shows;
    }

    steps : (later text : List ℕ) → text ≡ lines (stage m') (drop r.next piece ++ later) → take r.written out' ++ text ≡ lines (stage m) (rest ++ later)
    steps = along-step one tail m.at m.block (shown m) h.places h.unfilled m'.at m'.block (shown m') piece from out out' r took.taken next took.shows

-- ---- all pieces

along : (pieces : List (List ℕ)) (m : Between) (text : List ℕ) → Writes pieces m text → Ready m → text ≡ lines (stage m) (inARow pieces)
along pieces m text (last out out' r e room p) h =
    put_first 256 (last_lines m.at false (stats_at m.lent.head)) out room p ∙ ends_so m h
    ∙ sym (ap (λ (x : List (List ℕ)). lines (stage m) (inARow x)) e ∙ ap (Pieces.lines one tail) (at-end (work_block one) (stage m) (small one tail m.at m.block (shown m) h.places h.unfilled)))
along pieces m text (ended out out' r e room p) h =
    put_first 256 (last_lines m.at false (stats_at m.lent.head)) out room p ∙ ends_so m h ∙ over one tail (stage m) e (inARow pieces)
along pieces m text (used-up {pieces = ps} w) h = along ps m text w h
along pieces m text (step {rest = l} {pieces = ps} {m' = m'} {text = u} piece from out out' r e room t n w) h =
    steps m m' piece from out out' r h room t n (inARow ps) u (along (drop r.next piece ∷ ps) m' u w (ready m m' piece from out out' r h room t n))
    ∙ ap (λ (x : List ℕ). lines (stage m) (x ++ inARow ps)) (sym e)

-- ---- from buffers of zeros, which hold `zero_state`

pub zero-lent : lent_by at_start.lent at_start.events ≡ zero_state
unfolding layout_open at_start zero_state
zero-lent = refl

zero-ready : Ready at_start
unfolding at_start
zero-ready = record {
  lengths = λ j. record { head = length-replicate {A = ℕ} 8347 0 j; subs = length-replicate {A = Row} 32 (replicate 16 0) j; rows = length-replicate {A = Row} 512 (replicate 10 0) j; events = length-replicate {A = Row} 545 (replicate 6 0) j };
  places = length-replicate {A = ℕ} 512 0;
  unfilled = omega arith;
}

pub runs-along : RunsAlong
unfolding RunsAlong run_file from_stage at_start
runs-along pieces text w = along pieces at_start text w zero-ready ∙ ap (λ (s : LentState). Pieces.lines one tail (along_blocks (work_block one) (cut_blocks (inARow pieces)) 0 (record { index = 0; lent = s }))) zero-lent
