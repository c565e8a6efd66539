-- What a whole report of a station's call file prints, from the file's bytes; and what the library's functions do along the pieces of one. Assumes nothing.
use Rattle.std.specs.Prelude.{ℕ, ◌≡◌, Bool, false, not, ◌&&◌, List, [], ◌++◌, eqb, length, get_or, replicate}
use Rattle.std.proofs.Math.Option.{Option, none, some}
use Rattle.definition.specs.Base.{whether◌then◌else◌}
use Rattle.definition.specs.Layout.{Row}
use Rattle.fates.specs.Blocks.{Block}
use Rattle.definition_station.specs.Types.{StationSlot, slot_of}
use Rattle.definition_station.specs.Station.{StationLengths, station_short}
use Rattle.definition_station.specs.Layout.{StationBuffers, station_lengths_of}
use Rattle.callfile.specs.declared.Reading.{Reading}
use Rattle.callfile.specs.Placed.{PutLine}
use Rattle.callfile.specs.Cutting.{cut_blocks, along_blocks, inARow}
use Rattle.reportlines.specs.declared.Gone.{Gone}
use Rattle.reporting.specs.Reporting.{ways_of}
use Rattle.running.specs.Files.{work_block, rest_line}
use Rattle.stationlines.specs.StationLines.{counted_line, station_line}
use Rattle.stationreportlines.specs.StationReportLines.{blocks_text_on, totals_line_on}
use Rattle.stationrun.specs.declared.StationReading.{StationReading}
use Rattle.stationrun.specs.declared.StationTook.{StationTook}
use Rattle.stationrun.specs.CallSteps.{CallStep, CallStepped, TakesCallStep, WritesCalls}
use Rattle.stationrun.specs.StationRuns.{StationKeeps}
use Rattle.stationrun.specs.StationFiles.{station_bytes, zero_station, station_run_lengths, StationMidway, at_onset}
use Rattle.stationreport.specs.StationReporting.{places_text, holds_at, StationNoting, gone_by_words, station_report_call, noted_by}

-- ---- a whole file

-- an open place's at the end: the blocks that it holds, the totals of the eight places of a block, and the counters
unfoldable pub slot_tail : ℕ → List Block → Gone → Option StationSlot → List ℕ
slot_tail j bs g none = []
slot_tail j bs g (some x) = blocks_text_on j bs ++ (totals_line_on j (ways_of bs) g ++ counted_line j x.dest.stats)

abbrev pub place_tail : StationNoting → ℕ → List ℕ
place_tail s j = slot_tail j (holds_at j s.lent) (gone_by_words (get_or s.gone j [])) (slot_of j s.lent.station)

-- the last lines: each place's, and the station's own
unfoldable pub station_report_tail : StationNoting → List ℕ
station_report_tail s = places_text (place_tail s) 0 8 ++ station_line s.lent.station.next s.lent.station.lost 0 (station_bytes s.lent)

-- before a start
unfoldable pub zero_notes : StationNoting
zero_notes = record { lent = zero_station; gone = replicate 8 (replicate 5 0) }

-- the lines of its blocks, one after another, and the last ones
unfoldable pub station_report_file : List ℕ → List ℕ
station_report_file bytes = let d = along_blocks (work_block (station_report_call station_run_lengths)) (cut_blocks bytes) 0 (record { index = 0; lent = zero_notes }) in d.text ++ station_report_tail d.state.lent

-- ---- a step

-- what a report keeps of the lent buffers, by whether a call was accepted: what a run keeps, and the counts' places
abbrev pub ReportKeeps : StationBuffers → StationBuffers → List Row → List Row → List Row → List Row → Bool → Type 0
ReportKeeps b b' events events' gone gone' changed = StationKeeps changed b b' events events' × (length gone' ≡ length gone)

-- what a step p leaves: the answer, the text, the state, the event list and the counts
abbrev pub ReportStepped : CallStep StationNoting → Bool → StationReading → ℕ → StationBuffers → StationBuffers → List Row → List Row → List Row → List Row → List ℕ → List ℕ → StationTook → Type 0
ReportStepped p goes at from b b' events events' gone gone' out out' r = CallStepped StationNoting p goes at from (noted_by b' events' gone') (ReportKeeps b b' events events' gone gone') out out' r

-- the counts are those of eight places, and the lent buffers are long enough
abbrev pub report_fit : StationLengths → ℕ → Bool
report_fit l places = eqb places 8 && not (station_short l)

-- and the block, on what is left of a piece from place `from` on
abbrev pub ReportTakesStep : StationReading → List ℕ → ℕ → StationBuffers → StationBuffers → List Row → List Row → List Row → List Row → List ℕ → List ℕ → List ℕ → List ℕ → StationTook → Type 0
ReportTakesStep at piece from b b' events events' gone gone' block block' out out' r =
    let l = station_lengths_of b (length events) in
    TakesCallStep (station_report_call l) 1740800 (report_fit l (length gone)) at piece from (noted_by b events gone) (noted_by b' events' gone') (ReportKeeps b b' events events' gone gone') block block' out out' r

-- ---- the end

-- the line of a block that is not whole, and the last ones; none where the buffers are short
unfoldable pub last_station_report : StationLengths → Reading → Bool → StationNoting → List ℕ
last_station_report l at failed s = whether station_short l then [] else rest_line at failed ++ station_report_tail s

-- ---- along pieces

-- what stands in the lent buffers between two steps: as in a run, and the counts
pub record ReportMidway : Type 0 where
  pub run : StationMidway
  pub gone : List Row

-- before the first
unfoldable pub report_onset : ReportMidway
report_onset = record { run = at_onset; gone = replicate 8 (replicate 5 0) }

-- `report_station_step`
abbrev pub StationReportSteps : ReportMidway → ReportMidway → List ℕ → ℕ → List ℕ → List ℕ → StationTook → Type 0
StationReportSteps m m' piece from out out' r =
    ReportTakesStep m.run.at piece from m.run.lent m'.run.lent m.run.events m'.run.events m.gone m'.gone m.run.block m'.run.block out out' r

-- `report_station_end`, where no read has failed
abbrev pub StationReportEnds : ReportMidway → List ℕ → ℕ → List ℕ → Type 0
StationReportEnds m out r out' =
    PutLine 528640 (last_station_report (station_lengths_of m.run.lent (length m.run.events)) m.run.at.reading false (noted_by m.run.lent m.run.events m.gone)) 0 out r out'

-- the bytes that the library has written at last, along what is left of a piece and the pieces after it
abbrev pub WritesStationReport : List (List ℕ) → ReportMidway → List ℕ → Type 0
WritesStationReport = WritesCalls (λ m. m.run.at) 1740800 StationReportSteps 528640 StationReportEnds

-- from buffers of zeros, wherever the file is cut, that is what a report of it prints
unfoldable pub StationReportsAlong : Type 0
StationReportsAlong = (pieces : List (List ℕ)) (text : List ℕ) → WritesStationReport pieces report_onset text → text ≡ station_report_file (inARow pieces)
