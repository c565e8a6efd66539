-- What a report of a station's call file prints, a call at a time, and what it keeps between two calls. Assumes nothing.
use Rattle.std.specs.Prelude.{ℕ, zero, suc, ◌≡◌, Bool, false, not, ◌&&◌, ◌||◌, List, [], ◌∷◌, ◌++◌, map, eqb, get_or}
use Rattle.std.proofs.Math.Option.{Option, none, some}
use Rattle.definition.specs.Base.{whether◌then◌else◌, member}
use Rattle.definition.specs.Calls.{sound}
use Rattle.definition.specs.Queries.{is_queue}
use Rattle.definition.specs.Words.{at}
use Rattle.definition.specs.Layout.{Row}
use Rattle.fates.specs.Blocks.{Block, account_of}
use Rattle.definition_station.specs.Types.{StationSlot, slot_of}
use Rattle.definition_station.specs.Station.{StationLengths, StationResult, carried}
use Rattle.definition_station.specs.Layout.{StationBuffers, sent_words}
use Rattle.definition_stationblocks.specs.StationBlocks.{blocks_gone, blocks_came}
use Rattle.calls.specs.declared.Call.{Call}
use Rattle.callfile.specs.Placed.{Puts}
use Rattle.reportlines.specs.declared.Gone.{Gone}
use Rattle.reportlines.specs.ReportLines.{gone_after}
use Rattle.reporting.specs.Reporting.{ways_of}
use Rattle.running.specs.Running.{Doing}
use Rattle.stationlines.specs.StationLines.{sent_rows_text}
use Rattle.stationreportlines.specs.StationReportLines.{station_turn_line, ways_line, brought_line_on, told_text, blocks_text_on}
use Rattle.stationcalls.specs.Tells.{told_rows}
use Rattle.stationrun.specs.StationRuns.{LentStation, station_by, file_code, file_place, file_call, taken_by, left_station, FileCalled}

-- ---- the eight places

-- the lines of n places from place j on
unfoldable pub places_text : (ℕ → List ℕ) → ℕ → ℕ → List ℕ
places_text line j zero = []
places_text line j (suc n) = line j ++ places_text line (suc j) n

-- the rows of the places from place j on, each as its place makes it
unfoldable pub each_place : (ℕ → Row → Row) → ℕ → List Row → List Row
each_place f j [] = []
each_place f j (g ∷ gs) = f j g ∷ each_place f (suc j) gs

-- what a place holds: nothing where it is not open, or is no sound destination
unfoldable pub place_held : Bool → Option StationSlot → List Block
place_held fits none = []
place_held fits (some x) = whether fits && sound x.dest then account_of x.dest else []

abbrev pub holds_at : ℕ → LentStation → List Block
holds_at j s = place_held (get_or s.fits j false) (slot_of j s.station)

abbrev pub slot_is_queue : Option StationSlot → Bool
slot_is_queue none = false
slot_is_queue (some x) = is_queue x.dest.kind

-- ---- a call

-- what a call finds: the station, and of each place how many blocks are gone since its latest accepted open, in five words
pub record StationNoting : Type 0 where
  pub lent : LentStation
  pub gone : List Row

abbrev pub gone_row : Gone → Row
gone_row g = g.dequeued ∷ g.expired ∷ g.discarded ∷ g.dead_lettered ∷ g.cleared ∷ []

abbrev pub gone_by_words : Row → Gone
gone_by_words w = record { dequeued = at 0 w; expired = at 1 w; discarded = at 2 w; dead_lettered = at 3 w; cleared = at 4 w }

-- an accepted call that is neither an open nor a start
abbrev pub is_work : Call → StationResult → Bool
is_work c r = taken_by r && (not (eqb (file_code c) 0) && not (eqb (file_code c) 16))

-- its words as its destination gets them: an enqueue has the number that the station gives it
abbrev pub words_got : Call → LentStation → List ℕ
words_got c s = carried (file_code c) c.words s.station

-- what became of its dead letters
unfoldable pub told_in : Call → StationResult → LentStation → List Row
told_in c r s = whether is_work c r then told_rows (file_place c) (file_code c) c.words s.station else []

-- what left a place in it: of the blocks that it held, and of those that came, those that it does not hold now
unfoldable pub slot_gone : ℕ → List ℕ → List Block → List Block → Option StationSlot → List Block
slot_gone code ws bs came none = []
slot_gone code ws bs came (some y) = blocks_gone code ws y.dest bs came

unfoldable pub left_at : ℕ → Call → StationResult → LentStation → List Block
left_at j c r s =
    whether is_work c r then slot_gone (file_code c) (words_got c s) (holds_at j s) (blocks_came j (file_place c) (file_code c) c.words s.station) (slot_of j r.station)
    else []

-- the counts after it: an accepted open begins its place's account anew, a start all
abbrev pub anew_at : ℕ → Call → Bool
anew_at j c = eqb (file_code c) 16 || (eqb (file_code c) 0 && eqb (file_place c) j)

abbrev pub counts_after : Call → StationResult → LentStation → ℕ → List Row → List Row
counts_after c r s = each_place (λ j g. gone_row (gone_after (anew_at j c) (left_at j c r s) (gone_by_words g)))

-- what it leaves: a refused one everything
unfoldable pub station_noted : Call → StationResult → StationNoting → StationNoting
station_noted c r s = record { lent = left_station c r s.lent; gone = whether taken_by r then counts_after c r s.lent 0 s.gone else s.gone }

-- ---- its lines

-- that of another queue at which letters were stored: what it holds now
abbrev pub other_line : ℕ → List Row → LentStation → ℕ → List ℕ
other_line k told u j = whether not (eqb j k) && (member j (map (at 2) told) && slot_is_queue (slot_of j u.station)) then ways_line j (ways_of (holds_at j u)) else []

-- its own line, the other queues, what it brought, what was sent in six words each, and what became of its dead letters; u is what it left
unfoldable pub head_text : ℕ → ℕ → ℕ → List ℕ → ℕ → LentStation → List Row → List Row → List ℕ
head_text index k code ws refusal u sent told =
    station_turn_line index k code refusal (ways_of (holds_at k u))
    ++ (places_text (other_line k told u) 0 8
    ++ (brought_line_on k refusal code ws (slot_is_queue (slot_of k u.station))
    ++ (sent_rows_text sent ++ told_text k told)))

abbrev pub first_lines : ℕ → Call → StationResult → LentStation → List ℕ
first_lines index c r s = head_text index (file_place c) (file_code c) (words_got c s) r.refusal (left_station c r s) (map sent_words r.events) (told_in c r s)

-- what left, place by place
abbrev pub left_text : (ℕ → List Block) → List ℕ
left_text left = places_text (λ j. blocks_text_on j (left j)) 0 8

unfoldable pub station_noted_lines : ℕ → Call → StationResult → LentStation → List ℕ
station_noted_lines index c r s = first_lines index c r s ++ left_text (λ j. left_at j c r s)

-- a report does this with each
unfoldable pub station_report_call : StationLengths → Doing StationNoting
station_report_call l index c s = let r = file_call l c s.lent in record { text = station_noted_lines index c r s.lent; changed = taken_by r; lent = station_noted c r s }

-- ---- in lent buffers

abbrev pub noted_by : StationBuffers → List Row → List Row → StationNoting
noted_by b events gone = record { lent = station_by b events; gone = gone }

-- after a call: its lines stand first in the text, and the buffers show what it leaves
pub record StationNotes (q : StationResult) (index : ℕ) (c : Call) (b b' : StationBuffers) (events events' gone gone' : List Row) (out out' : List ℕ) (r : ℕ) : Type 0 where
  pub called : FileCalled q c b b' events events'
  pub counts : gone' ≡ (station_noted c q (noted_by b events gone)).gone
  pub puts : Puts (station_noted_lines index c q (station_by b events)) 0 out r out'
