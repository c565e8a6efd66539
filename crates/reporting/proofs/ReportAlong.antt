-- Along the pieces of a file the library writes what a report of it prints. Assumes nothing.
use Prim.Native.Nat.{ℕ, ◌≤◌, ◌<◌}
use native.Mathlib.Omega.{arith}
use mathlib.Core.Path.{◌≡◌, sym, ap, ◌∙◌, subst, subst⁻¹}
use mathlib.Core.Bool.{Bool, true, false, ◌&&◌}
use mathlib.Core.List.{List, ◌∷◌, ◌++◌}
use borrow.Author.Tests.{eq-eqb, lt-ltb, le-leb}
use lib.ListN.{length, take, drop, length-replicate, replicate}
use Rattle.definition.specs.Calls.{Lengths}
use Rattle.definition.specs.Layout.{Row, stats_at, view, lengths_of}
use Rattle.definition.proofs.Tests.{if-true}
use Rattle.fates.specs.Blocks.{Block}
use Rattle.callfile.specs.Cutting.{cut_blocks, along_blocks, Stage, take_piece, end_of_file, inARow}
use Rattle.callfile.proofs.Cutting.{from_stage, at-end}
use Rattle.running.specs.Running.{LentState, Doing}
use Rattle.running.specs.Files.{RunState, work_block, run_lengths, at_start, stage_at, heeding, step_changed}
use Rattle.running.proofs.Blocks.{same-lengths}
use Rattle.running.proofs.Pieces.{put_first, small, ending, still-places, still-unfilled, along-step, over}
use Rattle.running.proofs.Pieces as Pieces
use Rattle.running.proofs.Along.{zero-lent}
use Rattle.reporting.specs.declared.Kept.{Kept}
use Rattle.reporting.specs.declared.Heard.{Heard}
use Rattle.reporting.specs.Reporting.{Noting, report_call, noting_by}
use Rattle.reporting.specs.ReportFiles.{none_kept, zero_noting, tail_lines, report_file, roomy_lists, Reports, ReportsPiece, last_report, Midway, at_first, WritesReport, all_read, read-on, next-piece, one-step, ReportsAlong}

-- ---- between two calls

abbrev one : Doing Noting
one = report_call run_lengths

abbrev tail : Noting → List ℕ
tail s = tail_lines s.held s.kept s.lent.dest.stats

-- the buffers are long enough, the block is not whole, and at most 512 blocks are held
record Ready (m : Midway) : Type 0 where
  pub lengths : lengths_of m.lent (length m.events) ≡ run_lengths
  pub places : length m.block ≡ 512
  pub unfilled : m.at.have < 512
  pub list : length m.held ≡ 512
  pub few : m.kept.count ≤ 512

abbrev shown : Midway → Noting
shown m = noting_by m.lent m.events m.held m.kept

abbrev stage : Midway → Stage (RunState Noting)
stage m = stage_at m.at m.block (shown m)

-- the lines from here on, with these bytes to come
abbrev lines : Stage (RunState Noting) → List ℕ → List ℕ
lines g later = Pieces.lines one tail (from_stage (work_block one) g later)

-- ---- the end

ends_so : (m : Midway) → Ready m → last_report m.at false m.held m.kept (stats_at m.lent.head) ≡ Pieces.lines one tail (end_of_file (work_block one) (stage m))
unfolding last_report view
ends_so m h = if-true _ _ (le-leb m.kept.count 512 h.few) ∙ ending one tail m.at m.block (shown m) h.places h.unfilled

-- ---- a step

module _ (m m' : Midway) (piece : List ℕ) (from : ℕ) (out out' : List ℕ) (r : Heard) (h : Ready m) (room : 949760 ≤ length out)
    (t : ReportsPiece m.at piece from m.lent m'.lent m.events m'.events m.held m'.held m.kept m.block m'.block out out' r) (next : m'.at ≡ r.took.reading) (keeps : m'.kept ≡ r.kept)
  where
    abbrev rest : List ℕ
    rest = drop from piece

    abbrev At : Lengths → Bool → Type 0
    At l ok = Reports (take_piece (work_block (report_call l)) rest (heeding ok (stage m))) (step_changed (report_call l) rest (heeding ok (stage m))) (ok && m.at.goes_on) m.at rest from m.lent m'.lent m.events m'.events m.held m'.held m.kept m.block m'.block out out' r

    ok : roomy_lists m.at m.block out m.held m.kept ≡ true
    ok = rw (eq-eqb (length m.block) 512 h.places, lt-ltb m.at.have 512 h.unfilled, le-leb 949760 (length out) room, h.list, le-leb m.kept.count 512 h.few)

    took : At run_lengths true
    took = subst (λ (l : Lengths). At l true) h.lengths (subst (λ (x : Bool). At (lengths_of m.lent (length m.events)) x) ok t)

    shows : shown m' ≡ (take_piece (work_block one) rest (stage m)).stage.state.lent
    shows = ap (λ (k : Kept). noting_by m'.lent m'.events m'.held k) keeps ∙ took.shows

    ready : Ready m'
    ready = record {
      lengths = same-lengths took.left ∙ h.lengths;
      places = still-places one tail m.at m.block (shown m) h.places h.unfilled m'.at m'.block (shown m') piece from out out' r.took took.taken next shows;
      unfilled = still-unfilled one tail m.at m.block (shown m) h.places h.unfilled m'.at m'.block (shown m') piece from out out' r.took took.taken next shows;
      list = took.same ∙ h.list;
      few = subst⁻¹ (λ (k : Kept). k.count ≤ 512) keeps (took.few h.few);
    }

    steps : (later text : List ℕ) → text ≡ lines (stage m') (drop r.took.next piece ++ later) → take r.took.written out' ++ text ≡ lines (stage m) (rest ++ later)
    steps = along-step one tail m.at m.block (shown m) h.places h.unfilled m'.at m'.block (shown m') piece from out out' r.took took.taken next shows

-- ---- all pieces

along : (pieces : List (List ℕ)) (m : Midway) (text : List ℕ) → WritesReport pieces m text → Ready m → text ≡ lines (stage m) (inARow pieces)
along pieces m text (all_read out out' r e room p) h =
    put_first 33280 (last_report m.at false m.held m.kept (stats_at m.lent.head)) out room p ∙ ends_so m h
    ∙ sym (ap (λ (x : List (List ℕ)). lines (stage m) (inARow x)) e ∙ ap (Pieces.lines one tail) (at-end (work_block one) (stage m) (small one tail m.at m.block (shown m) h.places h.unfilled)))
along pieces m text (read-on out out' r e room p) h =
    put_first 33280 (last_report m.at false m.held m.kept (stats_at m.lent.head)) out room p ∙ ends_so m h ∙ over one tail (stage m) e (inARow pieces)
along pieces m text (next-piece {pieces = ps} w) h = along ps m text w h
along pieces m text (one-step {rest = l} {pieces = ps} {m' = m'} {text = u} piece from out out' r e room t n k w) h =
    steps m m' piece from out out' r h room t n k (inARow ps) u (along (drop r.took.next piece ∷ ps) m' u w (ready m m' piece from out out' r h room t n k))
    ∙ ap (λ (x : List ℕ). lines (stage m) (x ++ inARow ps)) (sym e)

-- ---- from buffers of zeros, which hold `zero_noting`

zero-noting : shown at_first ≡ zero_noting
unfolding at_first zero_noting at_start
zero-noting = ap (λ (s : LentState). record { lent = s; held = replicate 512 (replicate 3 0); kept = none_kept }) zero-lent

zero-ready : Ready at_first
unfolding at_first
zero-ready = record {
  lengths = λ j. record { head = length-replicate {A = ℕ} 8347 0 j; subs = length-replicate {A = Row} 32 (replicate 16 0) j; rows = length-replicate {A = Row} 512 (replicate 10 0) j; events = length-replicate {A = Row} 545 (replicate 6 0) j };
  places = length-replicate {A = ℕ} 512 0;
  unfilled = omega arith;
  list = length-replicate {A = Block} 512 (replicate 3 0);
  few = omega arith;
}

pub reports-along : ReportsAlong
unfolding ReportsAlong report_file from_stage at_first
reports-along pieces text w = along pieces at_first text w zero-ready ∙ ap (λ (s : Noting). Pieces.lines one tail (along_blocks (work_block one) (cut_blocks (inARow pieces)) 0 (record { index = 0; lent = s }))) zero-noting
