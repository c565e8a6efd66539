-- The table of consumers, a row of sixteen words each: what the functions on its first n rows answer and leave. Assumes nothing.
use Rattle.std.specs.Prelude.{ℕ, suc, ◌+◌, ◌-◌, ◌^◌, min, Bool, ◌&&◌, List, [], ◌∷◌, ◌++◌, map, leb, ltb, length, take, drop, set, Option, Some, None}
use Rattle.std.proofs.Math.Seq.{slice}
use Rattle.words.specs.Pick.{whether◌then◌else◌}
use Rattle.entry.specs.declared.Entry.{Entry}
use Rattle.model.specs.declared.Id.{Id}
use Rattle.model.specs.Model.{same_id}
use Rattle.definition.specs.Words.{at}
use Rattle.definition.specs.Layout.{Row, flag, id_at, inflight_count, held_count}
use Rattle.consumers.specs.Consumers.{row_sub, accepts_of}

-- `position`: the first with that identifier, where the first of all stands at i
unfoldable pub position_from : ℕ → Id → List Row → Option ℕ
position_from i id [] = None
position_from i id (w ∷ ws) = whether same_id (id_at w) id then Some i else position_from (suc i) id ws

-- the row at a place taken out of the first n; the last of the n places keeps what it held
unfoldable pub taken_out : ℕ → ℕ → List Row → List Row
taken_out at n ws = take at ws ++ (slice (suc at) n ws ++ drop (n - 1) ws)

-- outside the first n, or where there are not so many, nothing is taken out
unfoldable pub sub_removed : ℕ → ℕ → List Row → List Row
sub_removed at n ws = whether leb n (length ws) && ltb at n then taken_out at n ws else ws

-- f put to each of the first n
unfoldable pub on_first : (Row → Row) → ℕ → List Row → List Row
on_first f n ws = map f (take n ws) ++ drop n ws

-- a row's sixteen words: the row itself, where it has sixteen
abbrev pub sixteen : Row → Row
sixteen w =
    at 0 w ∷ at 1 w ∷ at 2 w ∷ at 3 w ∷ at 4 w ∷ at 5 w ∷ at 6 w ∷ at 7 w ∷ at 8 w ∷ at 9 w ∷ at 10 w ∷ at 11 w ∷ at 12 w ∷ at 13 w ∷ at 14 w
    ∷ at 15 w ∷ []

-- the cursor back before a sequence number
unfoldable pub held_back_row : ℕ → Row → Row
held_back_row seq w = set (sixteen w) 9 (min (at 9 w) (seq - 1))

-- nothing freed, in flight or held
unfoldable pub cleared_row : Row → Row
cleared_row w = set (set (set (sixteen w) 13 0) 14 0) 15 0

-- whether it accepts an entry
abbrev pub takes_entry : Entry → Row → Bool
takes_entry e w = accepts_of (row_sub w) e

-- what it holds that is no snapshot of a queue, and that with what it has in flight
abbrev pub held_counted : Bool → Row → ℕ
held_counted queue w = whether queue && flag (at 6 w) then 0 else held_count w

abbrev pub kept_by : Bool → Row → ℕ
kept_by queue w = inflight_count w + held_counted queue w

unfoldable pub kept_rows : Bool → List Row → ℕ
kept_rows queue [] = 0
kept_rows queue (w ∷ ws) = kept_by queue w + kept_rows queue ws

-- freed within in flight, and numbers that can still rise
unfoldable pub fitting : Row → Bool
fitting w = leb (at 13 w) (at 14 w) && (leb (at 8 w) 72057594037927937 && leb (at 12 w) 72057594037927937)

-- its next delivery number can rise by a full table, and more
abbrev pub next_fits : Row → Bool
next_fits w = leb (at 8 w) (2 ^ 62)
