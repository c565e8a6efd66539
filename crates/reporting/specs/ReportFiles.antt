-- What a whole report prints, from the bytes of a call file; and what the library's functions do along the pieces of one. Assumes nothing.
use Rattle.std.specs.Prelude.{ℕ, ◌≤◌, ◌≡◌, Bool, true, false, ◌&&◌, List, [], ◌∷◌, ◌++◌, leb, length, take, drop, replicate}
use Rattle.definition.specs.Base.{whether◌then◌else◌}
use Rattle.definition.specs.Types.{Stats}
use Rattle.definition.specs.Layout.{Row, Buffers, stats_at, lengths_of, zero_buffers}
use Rattle.fates.specs.Blocks.{Block}
use Rattle.callfile.specs.declared.Reading.{Reading}
use Rattle.callfile.specs.Lines.{counters_line}
use Rattle.callfile.specs.Placed.{PutLine}
use Rattle.callfile.specs.Cutting.{cut_blocks, along_blocks, StepTaken, take_piece, inARow}
use Rattle.reportlines.specs.ReportLines.{none_gone, blocks_text, totals_line}
use Rattle.running.specs.Running.{Left}
use Rattle.running.specs.Files.{RunState, work_block, run_lengths, zero_state, stage_at, roomy, heeding, step_changed, TookStep, rest_line}
use Rattle.reporting.specs.declared.Kept.{Kept}
use Rattle.reporting.specs.declared.Heard.{Heard}
use Rattle.reporting.specs.Reporting.{Noting, ways_of, report_call, noting_by}

-- ---- a whole file

-- nothing is held, and nothing is gone
abbrev pub none_kept : Kept
none_kept = record { count = 0; gone = none_gone }

-- before any open
unfoldable pub zero_noting : Noting
zero_noting = record { lent = zero_state; held = replicate 512 (replicate 3 0); kept = none_kept }

-- the blocks that are held, the totals of the eight places, and the counters
unfoldable pub tail_lines : List Block → Kept → Stats → List ℕ
tail_lines held k s = blocks_text (take k.count held) ++ (totals_line (ways_of (take k.count held)) k.gone ++ counters_line s)

-- the lines of its blocks, one after another, and last these
unfoldable pub report_file : List ℕ → List ℕ
report_file bytes = let d = along_blocks (work_block (report_call run_lengths)) (cut_blocks bytes) 0 (record { index = 0; lent = zero_noting }) in
    let s = d.state.lent in d.text ++ tail_lines s.held s.kept s.lent.dest.stats

-- ---- a step on a piece

-- `roomy`, and a list of 512 places or more, of which at most 512 are in use
abbrev pub roomy_lists : Reading → List ℕ → List ℕ → List Block → Kept → Bool
roomy_lists at block out held k = roomy 949760 at block out && (leb 512 (length held) && leb k.count 512)

-- what a step p leaves
pub record Reports (p : StepTaken (RunState Noting)) (changed goes : Bool) (at : Reading) (rest : List ℕ) (from : ℕ) (b b' : Buffers) (events events' : List Row) (held held' : List Block) (k : Kept) (block block' out out' : List ℕ) (r : Heard) : Type 0 where
  pub taken : TookStep Noting p goes at rest from block block' out out' r.took
  pub shows : noting_by b' events' held' r.kept ≡ p.stage.state.lent
  pub left : Left changed b b' events events'
  pub few : k.count ≤ 512 → r.kept.count ≤ 512
  pub same : length held' ≡ length held

-- on what is left of a piece from place `from` on
abbrev pub ReportsPiece : Reading → List ℕ → ℕ → Buffers → Buffers → List Row → List Row → List Block → List Block → Kept → List ℕ → List ℕ → List ℕ → List ℕ → Heard → Type 0
ReportsPiece at piece from b b' events events' held held' k block block' out out' r =
    let one = report_call (lengths_of b (length events)) in
    let g = heeding (roomy_lists at block out held k) (stage_at at block (noting_by b events held k)) in
    Reports (take_piece (work_block one) (drop from piece) g) (step_changed one (drop from piece) g) g.goes_on at (drop from piece) from b b' events events' held held' k block block' out out' r

-- ---- the end

-- the line of a block that is not whole, and the last ones; none where more than 512 blocks are said to be held
unfoldable pub last_report : Reading → Bool → List Block → Kept → Stats → List ℕ
last_report at failed held k s = whether leb k.count 512 then rest_line at failed ++ tail_lines held k s else []

-- ---- along pieces

-- what stands in the lent buffers between two calls of the library, and what it was last told
pub record Midway : Type 0 where
  pub at : Reading
  pub kept : Kept
  pub lent : Buffers
  pub events : List Row
  pub held : List Block
  pub block : List ℕ

-- before the first
unfoldable pub at_first : Midway
at_first = record {
  at = record { have = 0; number = 0; index = 0; goes_on = true };
  kept = none_kept;
  lent = zero_buffers;
  events = replicate 545 (replicate 6 0);
  held = replicate 512 (replicate 3 0);
  block = replicate 512 0;
}

abbrev pub ReportEnds : Midway → List ℕ → ℕ → List ℕ → Type 0
ReportEnds m out r out' = PutLine 33280 (last_report m.at false m.held m.kept (stats_at m.lent.head)) 0 out r out'

-- the bytes that the library has written at last, along what is left of a piece and the pieces after it: `report_piece` for each place that the one
-- before has left, into any text that has room, and `report_end` once no piece is left or reading has ended
pub data WritesReport : List (List ℕ) → Midway → List ℕ → Type 0 where
  all_read : {pieces : List (List ℕ)} {m : Midway} (out out' : List ℕ) (r : ℕ) → pieces ≡ [] → 33280 ≤ length out → ReportEnds m out r out' → WritesReport pieces m (take r out')
  read-on : {pieces : List (List ℕ)} {m : Midway} (out out' : List ℕ) (r : ℕ) → m.at.goes_on ≡ false → 33280 ≤ length out → ReportEnds m out r out' → WritesReport pieces m (take r out')
  next-piece : {pieces : List (List ℕ)} {m : Midway} {text : List ℕ} → WritesReport pieces m text → WritesReport ([] ∷ pieces) m text
  one-step : {rest : List ℕ} {pieces : List (List ℕ)} {m m' : Midway} {text : List ℕ} (piece : List ℕ) (from : ℕ) (out out' : List ℕ) (r : Heard)
      → rest ≡ drop from piece
      → 949760 ≤ length out
      → ReportsPiece m.at piece from m.lent m'.lent m.events m'.events m.held m'.held m.kept m.block m'.block out out' r
      → m'.at ≡ r.took.reading
      → m'.kept ≡ r.kept
      → WritesReport (drop r.took.next piece ∷ pieces) m' text
      → WritesReport (rest ∷ pieces) m (take r.took.written out' ++ text)

-- from buffers of zeros, wherever the file is cut, that is what a report of it prints
unfoldable pub ReportsAlong : Type 0
ReportsAlong = (pieces : List (List ℕ)) (text : List ℕ) → WritesReport pieces at_first text → text ≡ report_file (inARow pieces)
