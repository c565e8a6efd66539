-- A step of a station's run. Assumes nothing.
use Prim.Native.Nat.{ℕ, ◌≤◌, ◌<◌}
use native.Mathlib.Omega.{arith}
use mathlib.Core.Path.{◌≡◌, refl, sym, ap}
use mathlib.Core.Bool.{Bool, true, false}
use mathlib.Core.List.{List}
use lib.ListN.{length}
use Rattle.definition.specs.Layout.{Row}
use Rattle.definition_station.specs.Station.{StationLengths, StationResult}
use Rattle.definition_station.specs.Layout.{StationBuffers, station_lengths_of}
use Rattle.calls.specs.declared.Call.{Call}
use Rattle.callfile.specs.Blocks.{calls_in, call_at}
use Rattle.callfile.specs.Placed.{Puts}
use Rattle.running.specs.Running.{Turned}
use Rattle.stationrun.specs.declared.StationReading.{StationReading}
use Rattle.stationrun.specs.StationRuns.{LentStation, station_by, file_call, taken_by, station_lines, station_call, StationKeeps, FileCalled}
use Rattle.stationrun.specs.CallSteps.{next_call, reading_after, whole_at}
use Rattle.stationrun.specs.StationFiles.{StationStepped}
use Rattle.stationrun.proofs.Called.{text-length}
use Rattle.stationrun.proofs.CallSteps.{call-done}

-- nothing is done
pub keeps-all : (b : StationBuffers) (events : List Row) → StationKeeps false b b events events
keeps-all b events = record {
  kept = λ _. refl;
  past = record { heads-past = refl; subs-past = refl; rows-past = refl; heads-length = refl; subs-length = refl; rows-length = refl };
  own-length = refl;
  events-length = refl;
}

-- the lengths stay
pub lengths-stay : {a : Bool} {b b' : StationBuffers} {events events' : List Row} → StationKeeps a b b' events events' → station_lengths_of b' (length events') ≡ station_lengths_of b (length events)
lengths-stay x = λ j. record { head = x.past.heads-length j; subs = x.past.subs-length j; rows = x.past.rows-length j; own = x.own-length j; events = x.events-length j }

-- a call of a block that is whole
module _ (at : StationReading) (from : ℕ) (block : List ℕ) (b : StationBuffers) (events : List Row) (out : List ℕ) (fits : length block ≡ 512) (room : 623872 ≤ length out)
    (count : ℕ) (counted : count ≡ calls_in block (length block)) (there : at.run < count) (x : Call) (named : x ≡ call_at at.run block) (b' : StationBuffers) (events' : List Row)
  where
    abbrev l : StationLengths
    l = station_lengths_of b (length events)

    abbrev q : StationResult
    q = file_call l x (station_by b events)

    abbrev t : Turned LentStation
    t = record { text = station_lines at.reading.index q; changed = taken_by q; lent = station_by b' events' }

    does : FileCalled q x b b' events events' → station_call l at.reading.index x (station_by b events) ≡ t
    unfolding station_call
    does f = ap (λ (m : LentStation). record { text = station_lines at.reading.index q; changed = taken_by q; lent = m }) (sym f.shows)

    pub station-done : {n : ℕ} {out' : List ℕ} → FileCalled q x b b' events events' → Puts (station_lines at.reading.index q) 0 out n out' → {reading : StationReading} → reading ≡ reading_after at count
        → StationStepped (next_call (station_call l) at.run (whole_at at block (station_by b events))) true at from b b' events events' out out' (record { reading = reading; next = from; written = n })
    station-done f puts e =
        call-done (station_call l) at from block (station_by b events) out count counted (λ c. StationKeeps c b b' events events') there fits x named t (does f) puts (omega (arith, room, text-length at.reading.index q f.few)) e f.left
