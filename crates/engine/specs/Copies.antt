-- The copy for one consumer of a topic: what goes of its rows, its numbers, and the rows. Assumes nothing.
use Rattle.std.specs.Prelude.{ℕ, ◌+◌, ◌-◌, List, eqb}
use Rattle.stats.specs.Counted.{with_expired_by, with_discarded_by}
use Rattle.entry.specs.Entry.{row_of, expired_row}
use Rattle.definition.specs.Base.{whether◌then◌else◌}
use Rattle.definition.specs.Types.{Entry}
use Rattle.definition.specs.Layout.{Row}
use Rattle.table.specs.Table.{place_of, insert_row, close_gap, remove_rows, removed_rows}
use Rattle.consumers.specs.declared.Sub.{Sub}
use Rattle.consumers.specs.Consumers.{accepts_of, with_held}
use Rattle.state.specs.declared.Head.{Head}
use Rattle.state.specs.State.{with_counters, with_used}
use Rattle.engine.specs.declared.fanning.Gone.{Gone}
use Rattle.engine.specs.declared.fanning.Copied.{Copied}

-- how many of n rows are over the limit; 0 is no limit
abbrev pub over_limit : ℕ → ℕ → ℕ
over_limit limit n = whether eqb limit 0 then 0 else n - limit

-- of n held rows at from, with so many in use, those over the limit go: all that have expired, and then the lowest numbers while they are over
unfoldable pub gone_of : ℕ → ℕ → ℕ → ℕ → ℕ → List Row → Gone
gone_of by limit from n used rows =
    let k = removed_rows (expired_row by) from (from + n) used rows in
    whether eqb (over_limit limit n) 0 then record { expired = 0; over = 0 } else record { expired = k; over = over_limit limit (n - k) }

unfoldable pub trimmed : ℕ → ℕ → ℕ → ℕ → ℕ → List Row → List Row
trimmed by limit from n used rows =
    let k = removed_rows (expired_row by) from (from + n) used rows in
    whether eqb (over_limit limit n) 0 then rows else close_gap from (over_limit limit (n - k)) (used - k) (remove_rows (expired_row by) from (from + n) used rows)

-- the row is put in by its number among the held ones
abbrev pub put_in : Entry → ℕ → Sub → ℕ → List Row → List Row
put_in e base s used rows = let from = base + s.inflight in insert_row (place_of from (from + s.held) e.seq rows) used (row_of e 0 0 0) rows

-- a consumer that does not accept the entry gets none
unfoldable pub copied : ℕ → ℕ → Entry → ℕ → Sub → ℕ → List Row → Copied
copied by limit e base s used rows =
    let g = gone_of by limit (base + s.inflight) (s.held + 1) (used + 1) (put_in e base s used rows) in
    let gone = g.expired + g.over in
    whether accepts_of s e then record { sub = with_held (s.held + 1 - gone) s; used = used + 1 - gone; expired = g.expired; over = g.over }
    else record { sub = s; used = used; expired = 0; over = 0 }

unfoldable pub copied_rows : ℕ → ℕ → Entry → ℕ → Sub → ℕ → List Row → List Row
copied_rows by limit e base s used rows = whether accepts_of s e then trimmed by limit (base + s.inflight) (s.held + 1) (used + 1) (put_in e base s used rows) else rows

-- a head with so many rows in use, and so many expired and discarded more
abbrev pub counted_by : ℕ → ℕ → ℕ → Head → Head
counted_by used expired over d = with_counters (with_discarded_by (with_expired_by d.stats expired) over) (with_used used d)
