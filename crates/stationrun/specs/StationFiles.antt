-- What a whole run of a station's call file prints, from the file's bytes; and what the library's functions do along the pieces of one. Assumes nothing.
use Rattle.std.specs.Prelude.{ℕ, suc, ◌+◌, ◌≡◌, Bool, true, false, ◌&&◌, List, [], ◌∷◌, ◌++◌, length, replicate}
use Rattle.std.proofs.Math.Option.{Option, none, some}
use Rattle.definition.specs.Base.{whether◌then◌else◌, every}
use Rattle.definition.specs.Layout.{Row}
use Rattle.definition.specs.Queries.{bytes_held}
use Rattle.definition_station.specs.Types.{StationSlot}
use Rattle.definition_station.specs.Station.{StationLengths, station_short, station_sound}
use Rattle.definition_station.specs.Layout.{StationBuffers, station_lengths_of}
use Rattle.callfile.specs.declared.Reading.{Reading}
use Rattle.callfile.specs.Placed.{PutLine}
use Rattle.callfile.specs.Cutting.{cut_blocks, along_blocks, inARow}
use Rattle.stationlines.specs.StationLines.{counted_line, station_line}
use Rattle.running.specs.Files.{work_block, rest_line}
use Rattle.stationrun.specs.declared.StationReading.{StationReading}
use Rattle.stationrun.specs.declared.StationTook.{StationTook}
use Rattle.stationrun.specs.CallSteps.{CallStep, CallStepped, TakesCallStep, none_read, WritesCalls}
use Rattle.stationrun.specs.StationRuns.{LentStation, station_by, station_call, StationKeeps}

-- ---- a whole file

-- the line of a place's counters, if it is open
abbrev pub slot_line : ℕ → Option StationSlot → List ℕ
slot_line k none = []
slot_line k (some x) = counted_line k x.dest.stats

-- those of all places, from a number on
unfoldable pub counted_lines : ℕ → List (Option StationSlot) → List ℕ
counted_lines k [] = []
counted_lines k (o ∷ l) = slot_line k o ++ counted_lines (suc k) l

-- the bytes that a place holds, and those of all together
abbrev pub slot_bytes : Option StationSlot → ℕ
slot_bytes none = 0
slot_bytes (some x) = bytes_held x.dest

abbrev pub slots_bytes : List (Option StationSlot) → ℕ
slots_bytes [] = 0
slots_bytes (o ∷ l) = slot_bytes o + slots_bytes l

-- where the station is sound, else 0
abbrev pub station_bytes : LentStation → ℕ
station_bytes s = whether every s.fits && station_sound s.station then slots_bytes s.station.slots else 0

-- of lent buffers; 0 where they are short
abbrev pub held_bytes : StationLengths → LentStation → ℕ
held_bytes l s = whether station_short l then 0 else station_bytes s

-- the last lines: the counters, then the station's own line, whose flag is 0 until limits come (document 02 §14)
unfoldable pub station_tail : LentStation → List ℕ
station_tail s = counted_lines 0 s.station.slots ++ station_line s.station.next s.station.lost 0 (station_bytes s)

-- before a start: buffers of zeros, in which none is open and the next number is none
unfoldable pub zero_station : LentStation
zero_station = record {
  fits = replicate 8 true;
  station = record { slots = replicate 8 none; next = 0; lost = 0 };
  own = replicate 20 0;
  events = replicate 4872 (replicate 6 0);
}

-- the lengths of the buffers that a run lends
abbrev pub station_run_lengths : StationLengths
station_run_lengths = record { head = 66776; subs = 256; rows = 4096; own = 20; events = 4872 }

-- the lines of its blocks, one after another, and the last ones
unfoldable pub station_file : List ℕ → List ℕ
station_file bytes = let d = along_blocks (work_block (station_call station_run_lengths)) (cut_blocks bytes) 0 (record { index = 0; lent = zero_station }) in d.text ++ station_tail d.state.lent

-- ---- a step

-- what a step p leaves: the answer, the text, the state and the event list
abbrev pub StationStepped : CallStep LentStation → Bool → StationReading → ℕ → StationBuffers → StationBuffers → List Row → List Row → List ℕ → List ℕ → StationTook → Type 0
StationStepped p goes at from b b' events events' out out' r = CallStepped LentStation p goes at from (station_by b' events') (λ changed. StationKeeps changed b b' events events') out out' r

-- and the block, on what is left of a piece from place `from` on
abbrev pub StationTakesStep : StationReading → List ℕ → ℕ → StationBuffers → StationBuffers → List Row → List Row → List ℕ → List ℕ → List ℕ → List ℕ → StationTook → Type 0
StationTakesStep at piece from b b' events events' block block' out out' r =
    TakesCallStep (station_call (station_lengths_of b (length events))) 623872 true at piece from (station_by b events) (station_by b' events') (λ changed. StationKeeps changed b b' events events') block block' out out' r

-- ---- the end

-- the line of a block that is not whole, and the last ones; none where the buffers are short
unfoldable pub last_station : StationLengths → Reading → Bool → LentStation → List ℕ
last_station l at failed s = whether station_short l then [] else rest_line at failed ++ station_tail s

-- ---- along pieces

-- what stands in the lent buffers between two steps
pub record StationMidway : Type 0 where
  pub at : StationReading
  pub lent : StationBuffers
  pub events : List Row
  pub block : List ℕ

-- before the first
unfoldable pub at_onset : StationMidway
at_onset = record {
  at = none_read;
  lent = record { heads = replicate 66776 0; subs = replicate 256 (replicate 16 0); rows = replicate 4096 (replicate 10 0); own = replicate 20 0 };
  events = replicate 4872 (replicate 6 0);
  block = replicate 512 0;
}

-- `run_station_step`
abbrev pub StationSteps : StationMidway → StationMidway → List ℕ → ℕ → List ℕ → List ℕ → StationTook → Type 0
StationSteps m m' piece from out out' r = StationTakesStep m.at piece from m.lent m'.lent m.events m'.events m.block m'.block out out' r

-- `run_station_end`, where no read has failed
abbrev pub StationEnds : StationMidway → List ℕ → ℕ → List ℕ → Type 0
StationEnds m out r out' = PutLine 1408 (last_station (station_lengths_of m.lent (length m.events)) m.at.reading false (station_by m.lent m.events)) 0 out r out'

-- the bytes that the library has written at last, along what is left of a piece and the pieces after it
abbrev pub WritesStation : List (List ℕ) → StationMidway → List ℕ → Type 0
WritesStation = WritesCalls (λ m. m.at) 623872 StationSteps 1408 StationEnds

-- from buffers of zeros, wherever the file is cut, that is what a run of it prints
unfoldable pub StationRunsAlong : Type 0
StationRunsAlong = (pieces : List (List ℕ)) (text : List ℕ) → WritesStation pieces at_onset text → text ≡ station_file (inARow pieces)
