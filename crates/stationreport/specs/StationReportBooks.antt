-- What a report of a station's call file keeps along the calls are the books of its queues. Assumes nothing.
use Rattle.std.specs.Prelude.{ℕ, ◌≡◌, Bool, true, false, not, ◌&&◌, List, [], ◌∷◌, ◌++◌, map, eqb, length, get_or, replicate}
use Rattle.std.proofs.Math.Option.{some}
use Rattle.definition.specs.Base.{all, find, is_some}
use Rattle.definition.specs.Types.{queue}
use Rattle.definition.specs.Words.{at, kind_of}
use Rattle.fates.specs.Account.{Account}
use Rattle.fates.specs.Blocks.{held_blocks}
use Rattle.fates.specs.Books.{left_block}
use Rattle.definition_station.specs.Types.{StationSlot, slot_of}
use Rattle.definition_station.specs.Orders.{StationCall}
use Rattle.definition_stationfates.specs.Books.{Book, empty_book, Booked, opens_place, book_next, book_along, opens_queues}
use Rattle.calls.specs.declared.Call.{Call}
use Rattle.callfile.specs.Cutting.{cut_blocks, along_blocks}
use Rattle.reporting.specs.ReportBooks.{gone_to, file_calls}
use Rattle.running.specs.Running.{each_call}
use Rattle.running.specs.Files.{work_block}
use Rattle.stationrun.specs.StationRuns.{file_code, file_place, no_words, file_call}
use Rattle.stationrun.specs.StationFiles.{station_run_lengths}
use Rattle.stationreport.specs.StationReporting.{holds_at, StationNoting, gone_row, left_at, station_report_call}
use Rattle.stationreport.specs.StationReportFiles.{zero_notes}

-- ---- the books

-- a call of a file as a station's, with the lengths of the buffers that a report lends
abbrev pub as_station_call : Call → StationCall
as_station_call c = record { place = file_place c; code = file_code c; words = c.words; lengths = station_run_lengths }

-- a start that is accepted in such buffers, whatever they hold
abbrev pub starts_station : Call → Bool
starts_station c = eqb (file_code c) 16 && (eqb (file_place c) 0 && no_words c.words)

abbrev pub starts_none : List Call → Bool
starts_none l = all (λ c. not (starts_station c)) l

-- the station has this book of the queue j: all places fit, the blocks that the report finds there are those that it holds, and of those that left it has counted how many went to each place
pub record KeepsBook (j : ℕ) (s : StationNoting) (b : Book) : Type 0 where
  pub book : Booked j b s.lent.station
  pub fits : s.lent.fits ≡ replicate 8 true
  pub held : (x : StationSlot) → slot_of j s.lent.station ≡ some x → holds_at j s.lent ≡ held_blocks x.dest
  pub places : length s.gone ≡ 8
  pub gone : get_or s.gone j [] ≡ gone_row (gone_to (map left_block b.gone))

-- ---- along a file

-- what a report keeps after calls, from zeros on
abbrev pub station_kept_after : List Call → StationNoting
station_kept_after calls = (each_call (station_report_call station_run_lengths) calls 0 zero_notes).lent

-- and at the end of a file, of which `station_report_file` prints the last lines
abbrev pub station_kept_at_end : List ℕ → StationNoting
station_kept_at_end bytes = (along_blocks (work_block (station_report_call station_run_lengths)) (cut_blocks bytes) 0 (record { index = 0; lent = zero_notes })).state.lent

-- ---- the claims

-- of any call but an accepted start and an open of j, a refused one too: the blocks that it tells of j are those that its book gets, in order
abbrev pub CallTellsBook : Type 0
CallTellsBook =
    (j : ℕ) (c : Call) (s : StationNoting) (b : Book) → KeepsBook j s b → starts_station c ≡ false → opens_place j (as_station_call c) ≡ false
    → map left_block (book_next j (as_station_call c) s.lent.station b).gone ≡ map left_block b.gone ++ left_at j c (file_call station_run_lengths c s.lent) s.lent

-- of any calls, refused ones too, with no accepted start among them and j opened as a queue only
abbrev pub CallsKeepStationBooks : Type 0
CallsKeepStationBooks =
    (j : ℕ) (calls : List Call) (index : ℕ) (s : StationNoting) (b : Book) → KeepsBook j s b → starts_none calls ≡ true → opens_queues j (map as_station_call calls) ≡ true
    → KeepsBook j (each_call (station_report_call station_run_lengths) calls index s).lent (book_along j (map as_station_call calls) s.lent.station b)

-- of a file, from zeros on: after an accepted start, from an accepted open of j as a queue, with no accepted start later and j opened as a queue only; and that book is an account
abbrev pub FileKeepsStationBooks : Type 0
FileKeepsStationBooks =
    (bytes : List ℕ) (before after : List Call) (c : Call) → file_calls bytes ≡ before ++ c ∷ after
    → is_some (find starts_station before) ≡ true
    → file_code c ≡ 0 → kind_of (at 0 c.words) ≡ queue
    → let u = file_call station_run_lengths c (station_kept_after before).lent in u.refusal ≡ 0
    → starts_none after ≡ true
    → let j = file_place c in opens_queues j (map as_station_call after) ≡ true
    → let b = book_along j (map as_station_call after) u.station empty_book in
    KeepsBook j (station_kept_at_end bytes) b × ((x : StationSlot) × (slot_of j (station_kept_at_end bytes).lent.station ≡ some x) × Account b.accepted b.gone x.dest)
