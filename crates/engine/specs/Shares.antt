-- The rows of a producer connection, counted in the tables. Assumes nothing.
use Rattle.std.specs.Prelude.{ℕ, ◌+◌, Bool, List, [], ◌∷◌, eqb}
use Rattle.std.proofs.Math.Seq.{slice}
use Rattle.entry.specs.Entry.{entry_of}
use Rattle.definition.specs.Base.{whether◌then◌else◌, tally}
use Rattle.definition.specs.Types.{Entry}
use Rattle.definition.specs.Calls.{own_rows, rows_from, over_share}
use Rattle.definition.specs.Layout.{Row, inflight_count, held_count}
use Rattle.consumers.specs.declared.Sub.{Sub}
use Rattle.consumers.specs.Consumers.{row_sub}
use Rattle.state.specs.declared.Head.{Head}
use Rattle.state.specs.State.{head_view, kind_by}

-- a row whose entry came from this connection
abbrev pub came_from : ℕ → Row → Bool
came_from c w = eqb c (entry_of w).producer

-- how many of a consumer's rows, from its first on, belong to connections: all on a topic; on a queue those in flight, and none of a browser's
abbrev pub own_of : Bool → Sub → ℕ
own_of queue s = whether queue then (whether s.browser then 0 else s.inflight) else s.inflight + s.held

-- those of one connection, where the rows of these consumers begin at a place
unfoldable pub taken_from : Bool → ℕ → ℕ → List Row → List Row → ℕ
taken_from queue c base [] rows = 0
taken_from queue c base (w ∷ ws) rows = tally (came_from c) (slice base (base + own_of queue (row_sub w)) rows) + taken_from queue c (base + (inflight_count w + held_count w)) ws rows

-- and all of the destination's
abbrev pub held_from : ℕ → Head → List Row → List Row → ℕ
held_from c d subs rows = rows_from c (own_rows (head_view d subs rows [] []) (kind_by d.queue))

-- whether the entry goes over its connection's share
abbrev pub over_of : Entry → Head → List Row → List Row → Bool
over_of e d subs rows = over_share e (head_view d subs rows [] [])
