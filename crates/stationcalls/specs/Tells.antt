-- What a call tells of its dead letters, in a lent list. Assumes nothing.
use Rattle.std.specs.Prelude.{◌≡◌, List, ◌++◌, map, ℕ, eqb, length, take, drop}
use Rattle.definition.specs.Base.{whether◌then◌else◌}
use Rattle.definition.specs.Layout.{Row}
use Rattle.definition_station.specs.Types.{Station}
use Rattle.definition_station.specs.Station.{StationResult}
use Rattle.definition_stationfates.specs.Told.{told_row, told_letters}
use Rattle.engine.specs.declared.Outcome.{Outcome}
use Rattle.stationcalls.specs.declared.ToldOutcome.{ToldOutcome}

-- a row for each: the number that it had, the one that it got (0: none was left), and the destination where it is stored (8: it is lost)
abbrev pub told_rows : ℕ → ℕ → List ℕ → Station → List Row
told_rows k code ws s = map told_row (told_letters k code ws s)

-- rows put first in a list, as far as it goes
abbrev pub told_over : List Row → List Row → List Row
told_over rows told = take (length told) rows ++ drop (length rows) told

-- of an accepted call, as far as the list goes, and how many there are; a refused one tells none, and the list is as it was
pub record StationTells (q : StationResult) (rows told told' : List Row) (letters : ℕ) : Type 0 where
  pub tells : told' ≡ (whether eqb q.refusal 0 then told_over rows told else told)
  pub many : letters ≡ (whether eqb q.refusal 0 then length rows else 0)

-- an outcome without dead letters
abbrev pub told_quiet : Outcome → ToldOutcome
told_quiet r = record { refusal = r.refusal; answer = r.answer; events = r.events; letters = 0 }
