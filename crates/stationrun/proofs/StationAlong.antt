-- Along the pieces of a file the library writes what a run of a station prints. Assumes nothing.
use Prim.Native.Nat.{ℕ, ◌≤◌}
use native.Mathlib.Omega.{arith}
use mathlib.Core.Path.{◌≡◌, refl, ap, ◌∙◌, subst}
use mathlib.Core.Bool.{Bool, true, false}
use mathlib.Core.List.{List, ◌++◌}
use lib.ListN.{length, take, length-replicate, replicate}
use Rattle.definition.specs.Layout.{Row}
use Rattle.definition.proofs.Tests.{if-false}
use Rattle.definition_station.specs.Station.{StationLengths, station_short}
use Rattle.definition_station.specs.Layout.{station_lengths_of, slot_at, station_view, part_formed}
use Rattle.callfile.specs.Cutting.{cut_blocks, along_blocks, inARow}
use Rattle.running.specs.Running.{Doing}
use Rattle.running.specs.Files.{work_block, rest_line}
use Rattle.running.proofs.Pieces.{put_first}
use Rattle.running.proofs.Pieces as Pieces
use Rattle.stationrun.specs.declared.StationReading.{StationReading}
use Rattle.stationrun.specs.declared.StationTook.{StationTook}
use Rattle.stationrun.specs.StationRuns.{LentStation, station_by, station_call, StationKeeps}
use Rattle.stationrun.specs.CallSteps.{TakesCallStep}
use Rattle.stationrun.specs.StationFiles.{station_tail, zero_station, station_run_lengths, station_file, StationMidway, at_onset, last_station, StationSteps, StationEnds, StationRunsAlong}
use Rattle.stationrun.proofs.CallsWritten.{Fills, writes-file}
use Rattle.stationrun.proofs.Stepped.{lengths-stay}

-- ---- between two steps

abbrev one : Doing LentStation
one = station_call station_run_lengths

abbrev at : StationMidway → StationReading
at m = m.at

abbrev block : StationMidway → List ℕ
block m = m.block

abbrev shown : StationMidway → LentStation
shown m = station_by m.lent m.events

-- the buffers are long enough
abbrev Ready : StationMidway → Type 0
Ready m = station_lengths_of m.lent (length m.events) ≡ station_run_lengths

abbrev Keeps : StationMidway → StationMidway → Bool → Type 0
Keeps m m' changed = StationKeeps changed m.lent m'.lent m.events m'.events

does-step : (m m' : StationMidway) (piece : List ℕ) (from : ℕ) (out out' : List ℕ) (r : StationTook) → Ready m → StationSteps m m' piece from out out' r
    → TakesCallStep one 623872 true m.at piece from (shown m) (shown m') (Keeps m m') m.block m'.block out out' r
does-step m m' piece from out out' r h t = subst (λ (l : StationLengths). TakesCallStep (station_call l) 623872 true m.at piece from (shown m) (shown m') (Keeps m m') m.block m'.block out out' r) h t

stays : (m m' : StationMidway) (changed : Bool) → Ready m → Keeps m m' changed → Ready m'
stays m m' changed h k = lengths-stay k ∙ h

does-end : (m : StationMidway) (out out' : List ℕ) (r : ℕ) → Ready m → 1408 ≤ length out → StationEnds m out r out' → take r out' ≡ rest_line m.at.reading false ++ station_tail (shown m)
unfolding last_station station_short
does-end m out out' r h room p =
    put_first 1408 (last_station (station_lengths_of m.lent (length m.events)) m.at.reading false (shown m)) out room p
    ∙ if-false _ _ (ap station_short h)

-- ---- from buffers of zeros, which hold `zero_station`

pub zero-shown : shown at_onset ≡ zero_station
unfolding at_onset zero_station station_view slot_at part_formed
zero-shown = refl

pub zero-ready : Ready at_onset
unfolding at_onset
zero-ready = λ j. record { head = length-replicate {A = ℕ} 66776 0 j; subs = length-replicate {A = Row} 256 (replicate 16 0) j; rows = length-replicate {A = Row} 4096 (replicate 10 0) j; own = length-replicate {A = ℕ} 20 0 j; events = length-replicate {A = Row} 4872 (replicate 6 0) j }

zero-fills : Fills one station_tail at block shown at_onset
unfolding at_onset
zero-fills = record { places = length-replicate {A = ℕ} 512 0; filled = omega arith }

pub station-runs-along : StationRunsAlong
unfolding StationRunsAlong station_file at_onset
station-runs-along pieces text w =
    writes-file one station_tail at block shown 623872 StationSteps 1408 StationEnds Ready Keeps does-step stays does-end at_onset refl zero-ready zero-fills pieces text w
    ∙ ap (λ (s : LentStation). Pieces.lines one station_tail (along_blocks (work_block one) (cut_blocks (inARow pieces)) 0 (record { index = 0; lent = s }))) zero-shown
