-- What a report of a call file prints, a call at a time, and what it keeps between two calls. Assumes nothing.
use Rattle.std.specs.Prelude.{ℕ, ◌+◌, ◌≤◌, ◌≡◌, Bool, ◌&&◌, List, [], ◌++◌, eqb, length, take}
use Rattle.definition.specs.Base.{whether◌then◌else◌, tally}
use Rattle.definition.specs.Calls.{Lengths, Result}
use Rattle.definition.specs.Queries.{is_queue}
use Rattle.definition.specs.Layout.{Row, Buffers}
use Rattle.fates.specs.Blocks.{Block}
use Rattle.calls.specs.declared.Call.{Call}
use Rattle.callfile.specs.Lines.{events_text, event_rows_text}
use Rattle.callfile.specs.Placed.{Puts}
use Rattle.engine.specs.Called.{Called}
use Rattle.report.specs.Report.{is_at_place, holds_now, leaves_now, list_with}
use Rattle.reportlines.specs.declared.Ways.{Ways}
use Rattle.reportlines.specs.ReportLines.{turn_line, brought_line, blocks_text, gone_after}
use Rattle.running.specs.Running.{LentState, lent_by, accepted, step_on, left_by, outcome_of, Run, Doing, Left, Printed}
use Rattle.reporting.specs.declared.Kept.{Kept}
use Rattle.reporting.specs.declared.Noticed.{Noticed}
use Rattle.reporting.specs.declared.Reported.{Reported}

-- ---- a call

-- what a call finds: the state, the list of the blocks that are held, how many of its places are in use, and how many blocks are gone since the latest accepted open
pub record Noting : Type 0 where
  pub lent : LentState
  pub held : List Block
  pub kept : Kept

-- those that are held
abbrev pub held_of : Noting → List Block
held_of s = take s.kept.count s.held

-- how many are held in each way
abbrev pub ways_of : List Block → Ways
ways_of bs = record { waiting = tally (is_at_place 0) bs; flying = tally (is_at_place 1) bs; reserved = tally (is_at_place 2) bs }

-- what leaves in a call; in a refused one nothing
abbrev pub left_in : Call → Result → Noting → List Block
left_in c r s = whether accepted r then leaves_now r c s.kept.count s.held else []

-- the counts after it: an accepted open begins anew
abbrev pub kept_after : Call → Result → Noting → Kept
kept_after c r s = record {
  count = whether accepted r then length (holds_now r) else s.kept.count;
  gone = gone_after (eqb c.code 0 && accepted r) (left_in c r s) s.kept.gone;
}

-- what it leaves
unfoldable pub noted : Call → Result → Noting → Noting
noted c r s = record {
  lent = left_by r s.lent;
  held = whether accepted r then list_with (holds_now r) s.held else s.held;
  kept = kept_after c r s;
}

-- the lines of a call on what is held after it, what it sent in six words each, and what left
abbrev pub turn_text : ℕ → Call → ℕ → Bool → List Block → List Row → List Block → List ℕ
turn_text index c refusal on_queue held sent left =
    turn_line index c.code refusal (ways_of held) ++ (brought_line refusal c.code c.words on_queue ++ (event_rows_text sent ++ blocks_text left))

-- its lines: its own, what it brought, what it sent, what left
unfoldable pub noted_lines : ℕ → Call → Result → Noting → List ℕ
noted_lines index c r s =
    turn_line index c.code r.refusal (ways_of (held_of (noted c r s)))
    ++ (brought_line r.refusal c.code c.words (is_queue r.dest.kind) ++ (events_text r.events ++ blocks_text (left_in c r s)))

-- a report does this with each
unfoldable pub report_call : Lengths → Doing Noting
report_call l index c s = let r = step_on l c s.lent in record { text = noted_lines index c r s; changed = accepted r; lent = noted c r s }

-- ---- in lent buffers

abbrev pub noting_by : Buffers → List Row → List Block → Kept → Noting
noting_by b events held k = record { lent = lent_by b events; held = held; kept = k }

-- after a call: its lines are put, the buffers show what it leaves, and no more than 512 blocks are held
pub record CallTold (q : Result) (index : ℕ) (c : Call) (b b' : Buffers) (events events' : List Row) (held held' : List Block) (k : Kept) (at : ℕ) (out out' : List ℕ) (r : Noticed) : Type 0 where
  pub called : Called q b b' events events' (outcome_of q)
  pub puts : Puts (noted_lines index c q (noting_by b events held k)) at out r.next out'
  pub shows : noting_by b' events' held' r.kept ≡ noted c q (noting_by b events held k)
  pub short : r.next ≤ at + 102848
  pub few : r.kept.count ≤ 512
  pub same : length held' ≡ length held

-- after calls: the lines stand first in the text, and the answer, the state, the event list and the list of blocks are q's. Nothing else is open than `Left` of `running` says
pub record Tells (q : Run Noting) (b b' : Buffers) (events events' : List Row) (held held' : List Block) (out out' : List ℕ) (r : Reported) : Type 0 where
  pub printed : Printed Noting q out out' r.ran
  pub shows : noting_by b' events' held' r.kept ≡ q.lent
  pub left : Left q.changed b b' events events'
  pub few : r.kept.count ≤ 512
  pub same : length held' ≡ length held
