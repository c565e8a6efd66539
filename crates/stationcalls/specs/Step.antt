-- What stands before an open destination is called, and the words that it gets. Assumes nothing.
use Rattle.std.specs.Prelude.{ℕ, ◌<◌, ◌≡◌, Bool, true, false, not, ◌&&◌, ◌||◌, List, ◌∷◌, ltb, eqb, drop}
use Rattle.definition.specs.Base.{whether◌then◌else◌, all, up_from}
use Rattle.definition.specs.Words.{at}
use Rattle.definition.specs.Layout.{flag}
use Rattle.definition_station.specs.Types.{Station}
use Rattle.definition_station.specs.Station.{station_short}
use Rattle.definition_station.specs.Layout.{StationBuffers, is_open, station_lengths_of}
use Rattle.stationcalls.specs.Own.{own_words_ok, other_ok}

-- refusals 1, 10 and 2 are passed, but that the called destination itself may not be sound: its own call says that
pub record AskedAt (b : StationBuffers) (k code events : ℕ) : Type 0 where
  pub long : station_short (station_lengths_of b events) ≡ false
  pub is-place : k < 8
  pub opened : is_open k b ≡ true
  pub own-ok : own_words_ok b.own ≡ true
  pub others : all (other_ok b k) (up_from 0 8) ≡ true
  pub coded : eqb code 0 ≡ false

-- whether refusal 2 stops a call before its destination is asked, of soundness the called destination apart: an open needs no sound state, and 10 comes before
unfoldable pub stops_as : StationBuffers → ℕ → ℕ → Bool
stops_as b k code =
    not (eqb code 0) && (not (ltb 7 k || not (flag (at k b.own))) && not (own_words_ok b.own && all (other_ok b k) (up_from 0 8)))

-- refusal 1 is passed, and that one
pub record Unstopped (b : StationBuffers) (k code events : ℕ) : Type 0 where
  pub long : station_short (station_lengths_of b events) ≡ false
  pub goes : stops_as b k code ≡ false

-- a direct enqueue's words as its destination gets them: the next number. One that carries a number gets 0, which is no sequence number
abbrev pub carried_words : ℕ → List ℕ → List ℕ
carried_words next ws = (whether eqb (at 0 ws) 0 then next else 0) ∷ drop 1 ws

-- the words of any call as its destination gets them
abbrev pub given_words : ℕ → List ℕ → Station → List ℕ
given_words code ws s = whether eqb code 1 then carried_words s.next ws else ws

-- why a call without a code is refused before its destination is asked, 0 where it is not: of soundness the called destination apart
unfoldable pub barred_as : StationBuffers → ℕ → ℕ → ℕ
barred_as b events k =
    whether station_short (station_lengths_of b events) then 1
    else whether ltb 7 k || not (flag (at k b.own)) then 10
    else whether not (own_words_ok b.own) then 2
    else whether not (all (other_ok b k) (up_from 0 8)) then 2
    else 0
