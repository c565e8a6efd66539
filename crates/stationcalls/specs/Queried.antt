-- The query of a station's own numbers: it uses no call, is lent no event list and changes nothing. Assumes nothing.
use Rattle.std.specs.Prelude.{ℕ, eqb}
use Rattle.definition.specs.Base.{whether◌then◌else◌}
use Rattle.definition_station.specs.Station.{station_events, station_short}
use Rattle.definition_station.specs.Layout.{StationBuffers, station_view, sound_station, station_lengths_of}
use Rattle.stationcalls.specs.declared.OwnNumbers.{OwnNumbers}

-- what a query of a station meets first: 1 where a state buffer is short, 2 where the station is not sound, else 0
unfoldable pub station_checked : StationBuffers → ℕ
station_checked b = whether station_short (station_lengths_of b station_events) then 1 else whether sound_station b then 0 else 2

abbrev pub own_numbers : ℕ → ℕ → ℕ → OwnNumbers
own_numbers refusal next lost = record { refusal = refusal; next = next; lost = lost }

-- the next number and the lost count; 0 beside a refusal
unfoldable pub buffer_numbers : StationBuffers → OwnNumbers
buffer_numbers b =
    let n = station_checked b in
    whether eqb n 0 then own_numbers 0 (station_view b).next (station_view b).lost else own_numbers n 0 0
