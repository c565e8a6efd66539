-- Along the pieces of a file the library writes what a report of a station prints. Assumes nothing.
use Prim.Native.Nat.{ℕ, ◌≤◌}
use native.Mathlib.Omega.{arith}
use mathlib.Core.Path.{◌≡◌, refl, ap, ◌∙◌, subst}
use mathlib.Core.Bool.{Bool, true, false}
use mathlib.Core.List.{List, ◌++◌}
use borrow.Author.Tests.{eq-eqb}
use lib.ListN.{length, take, length-replicate, replicate}
use Rattle.definition.specs.Layout.{Row}
use Rattle.definition.proofs.Tests.{if-false}
use Rattle.definition_station.specs.Station.{StationLengths, station_short}
use Rattle.definition_station.specs.Layout.{station_lengths_of}
use Rattle.callfile.specs.Cutting.{cut_blocks, along_blocks, inARow}
use Rattle.running.specs.Running.{Doing}
use Rattle.running.specs.Files.{work_block, rest_line}
use Rattle.running.proofs.Pieces.{put_first}
use Rattle.running.proofs.Pieces as Pieces
use Rattle.stationrun.specs.declared.StationReading.{StationReading}
use Rattle.stationrun.specs.declared.StationTook.{StationTook}
use Rattle.stationrun.specs.StationRuns.{LentStation}
use Rattle.stationrun.specs.CallSteps.{TakesCallStep}
use Rattle.stationrun.specs.StationFiles.{station_run_lengths, at_onset}
use Rattle.stationrun.proofs.CallsWritten.{Fills, writes-file}
use Rattle.stationrun.proofs.Stepped.{lengths-stay}
use Rattle.stationrun.proofs.StationAlong.{zero-shown, zero-ready}
use Rattle.stationreport.specs.StationReporting.{StationNoting, station_report_call, noted_by}
use Rattle.stationreport.specs.StationReportFiles.{station_report_tail, zero_notes, station_report_file, report_fit, ReportKeeps, last_station_report, ReportMidway, report_onset, StationReportSteps, StationReportEnds, StationReportsAlong}

-- ---- between two steps

abbrev one : Doing StationNoting
one = station_report_call station_run_lengths

abbrev at : ReportMidway → StationReading
at m = m.run.at

abbrev block : ReportMidway → List ℕ
block m = m.run.block

abbrev shown : ReportMidway → StationNoting
shown m = noted_by m.run.lent m.run.events m.gone

abbrev lengths : ReportMidway → StationLengths
lengths m = station_lengths_of m.run.lent (length m.run.events)

-- the buffers are long enough, and the counts those of eight places
record Ready (m : ReportMidway) : Type 0 where
  pub long : lengths m ≡ station_run_lengths
  pub eight : length m.gone ≡ 8

abbrev Keeps : ReportMidway → ReportMidway → Bool → Type 0
Keeps m m' = ReportKeeps m.run.lent m'.run.lent m.run.events m'.run.events m.gone m'.gone

fit : (m : ReportMidway) → Ready m → report_fit station_run_lengths (length m.gone) ≡ true
unfolding station_short
fit m h = rw (eq-eqb (length m.gone) 8 h.eight)

abbrev Takes : ReportMidway → ReportMidway → List ℕ → ℕ → List ℕ → List ℕ → StationTook → StationLengths → Bool → Type 0
Takes m m' piece from out out' r l fits = TakesCallStep (station_report_call l) 1740800 fits (at m) piece from (shown m) (shown m') (Keeps m m') (block m) (block m') out out' r

does-step : (m m' : ReportMidway) (piece : List ℕ) (from : ℕ) (out out' : List ℕ) (r : StationTook) → Ready m → StationReportSteps m m' piece from out out' r → Takes m m' piece from out out' r station_run_lengths true
does-step m m' piece from out out' r h t =
    subst (Takes m m' piece from out out' r station_run_lengths) (fit m h)
    (subst (λ (l : StationLengths). Takes m m' piece from out out' r l (report_fit l (length m.gone))) h.long t)

stays : (m m' : ReportMidway) (changed : Bool) → Ready m → Keeps m m' changed → Ready m'
stays m m' changed h k = record { long = lengths-stay k.0 ∙ h.long; eight = k.1 ∙ h.eight }

does-end : (m : ReportMidway) (out out' : List ℕ) (r : ℕ) → Ready m → 528640 ≤ length out → StationReportEnds m out r out' → take r out' ≡ rest_line (at m).reading false ++ station_report_tail (shown m)
unfolding last_station_report station_short
does-end m out out' r h room p =
    put_first 528640 (last_station_report (lengths m) (at m).reading false (shown m)) out room p
    ∙ if-false _ _ (ap station_short h.long)

-- ---- from buffers of zeros, which hold `zero_notes`

zero-notes : shown report_onset ≡ zero_notes
unfolding report_onset zero_notes
zero-notes = ap (λ (s : LentStation). record { lent = s; gone = replicate 8 (replicate 5 0) }) zero-shown

onset-ready : Ready report_onset
unfolding report_onset
onset-ready = record { long = zero-ready; eight = length-replicate {A = Row} 8 (replicate 5 0) }

onset-fills : Fills one station_report_tail at block shown report_onset
unfolding report_onset at_onset
onset-fills = record { places = length-replicate {A = ℕ} 512 0; filled = omega arith }

pub station-reports-along : StationReportsAlong
unfolding StationReportsAlong station_report_file report_onset at_onset
station-reports-along pieces text w =
    writes-file one station_report_tail at block shown 1740800 StationReportSteps 528640 StationReportEnds Ready Keeps does-step stays does-end report_onset refl onset-ready onset-fills pieces text w
    ∙ ap (λ (s : StationNoting). Pieces.lines one station_report_tail (along_blocks (work_block one) (cut_blocks (inARow pieces)) 0 (record { index = 0; lent = s }))) zero-notes
