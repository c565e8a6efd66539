-- What the functions of a report leave, as the code goes: blocks gathered before a call, those that came, those that left, and the counts. Assumes nothing.
use Rattle.std.specs.Prelude.{ℕ, ◌+◌, ◌*◌, ◌≤◌, ◌<◌, ◌≡◌, Bool, true, false, ◌||◌, List, [], ◌∷◌, ◌++◌, map, eqb, length, take}
use Rattle.std.proofs.Math.Seq.{slice}
use Rattle.definition.specs.Base.{whether◌then◌else◌, keep}
use Rattle.definition.specs.Words.{at}
use Rattle.definition.specs.Layout.{Row}
use Rattle.fates.specs.Blocks.{Block, comes}
use Rattle.definition_station.specs.Types.{slot_of}
use Rattle.definition_station.specs.Station.{StationResult}
use Rattle.definition_station.specs.Layout.{StationBuffers, part, is_open, station_view, sound_station}
use Rattle.calls.specs.declared.Call.{Call}
use Rattle.report.specs.Report.{list_with, blocks_in}
use Rattle.reportlines.specs.ReportLines.{gone_after}
use Rattle.stationcalls.specs.declared.ToldOutcome.{ToldOutcome}
use Rattle.stationrun.specs.StationRuns.{station_by, FileCalled}
use Rattle.stationreport.specs.StationReporting.{each_place, gone_row, gone_by_words, is_work, told_in, slot_gone, left_text}

-- at most so many blocks, put first in a list: how many they are, and the list after it
pub record ListedFirst (l : List Block) (most : ℕ) (list : List Block) (r : ℕ) (list' : List Block) : Type 0 where
  pub count : r ≡ length l
  pub few : r ≤ most
  pub first : list' ≡ list_with l list

-- what the buffers of a place hold, by their counts
unfoldable pub part_blocks : StationBuffers → ℕ → List Block
part_blocks b k = whether is_open k b then blocks_in (part k b) 512 else []

-- of each place, in a list with 512 places for each: no place has more
pub record FewHeld (lists : List Block) (counts : List ℕ) : Type 0 where
  pub few : (j : ℕ) → j < 8 → at j counts ≤ 512
  pub lists_length : length lists ≡ 4096
  pub counts-length : length counts ≡ 8

pub record HeldAll (b : StationBuffers) (lists : List Block) (counts : List ℕ) : Type 0 where
  pub few-held : FewHeld lists counts
  pub blocks : (j : ℕ) → j < 8 → take (at j counts) (slice (j * 512) (j * 512 + 512) lists) ≡ part_blocks b j

-- a stored letter's block, by its row; and what came to a place
abbrev pub stored_row : Row → Block
stored_row t = at 1 t ∷ 0 ∷ 1 ∷ []

unfoldable pub came_to : ℕ → ℕ → ℕ → List ℕ → List Row → List Block
came_to j k code ws told = (whether eqb k j then comes code ws else []) ++ map stored_row (keep (λ t. eqb (at 2 t) j) told)

-- what left a place, by the buffers after the call
unfoldable pub part_gone : ℕ → ℕ → List ℕ → StationBuffers → List Block → List Block → List Block
part_gone j code ws b bs came = slot_gone code ws bs came (slot_of j (station_view b))

-- with what `HeldAll` gathered before the call, and the rows of its dead letters
abbrev pub left_from : StationBuffers → List Block → List ℕ → List Row → ℕ → ℕ → List ℕ → ℕ → List Block
left_from b lists counts told k code ws j = part_gone j code ws b (take (at j counts) (slice (j * 512) (j * 512 + 512) lists)) (came_to j k code ws told)

-- the counts of the places from j on, each with what left it
abbrev pub gone_row_by : (ℕ → List Block) → ℕ → Row → Row
gone_row_by left j g = gone_row (gone_after false (left j) (gone_by_words g))

abbrev pub counts_by : (ℕ → List Block) → ℕ → List Row → List Row
counts_by left = each_place (gone_row_by left)

-- and where an account begins anew
abbrev pub anew_row : ℕ → Bool → ℕ → Row → Row
anew_row k all j g = gone_row (gone_after (all || eqb j k) [] (gone_by_words g))

abbrev pub counts_anew : ℕ → Bool → ℕ → List Row → List Row
counts_anew k all = each_place (anew_row k all)

-- after an accepted call of this code: an open and a start begin accounts anew, and nothing leaves
abbrev pub begins_anew : ℕ → Bool
begins_anew code = eqb code 16 || eqb code 0

abbrev pub rest_text : ℕ → (ℕ → List Block) → List ℕ
rest_text code left = whether begins_anew code then [] else left_text left

abbrev pub rest_counts : ℕ → ℕ → (ℕ → List Block) → List Row → List Row
rest_counts code k left gone = whether begins_anew code then counts_anew k (eqb code 16) 0 gone else counts_by left 0 gone

-- after a call with its dead letters told: the answer; their rows stand first in a list of 512; and an accepted call that is neither an open nor a start finds and leaves a sound station
pub record CallAndTold (q : StationResult) (c : Call) (b b' : StationBuffers) (events events' told' : List Row) (r : ToldOutcome) : Type 0 where
  pub called : FileCalled q c b b' events events'
  pub refusal : r.refusal ≡ q.refusal
  pub sent : r.events ≡ length q.events
  pub told : take r.letters told' ≡ told_in c q (station_by b events)
  pub few : r.letters ≤ 512
  pub told-length : length told' ≡ 512
  pub found-sound : is_work c q ≡ true → sound_station b ≡ true
  pub left-sound : is_work c q ≡ true → sound_station b' ≡ true
