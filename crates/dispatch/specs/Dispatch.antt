-- What a dispatch promises besides the destination and the events that it leaves, when it does anything, and whether it can send anything.
-- Assumes nothing.
use Rattle.std.specs.Prelude.{◌≡◌, Bool, not, ◌&&◌, ◌||◌, List, ℕ, ◌+◌, ◌≤◌, ◌^◌, leb, ltb, eqb, length, take}
use Rattle.definition.specs.Base.{whether◌then◌else◌, all}
use Rattle.definition.specs.Layout.{Row}
use Rattle.consumers.specs.Consumers.{row_sub, credit_of}
use Rattle.state.specs.declared.Head.{Head}
use Rattle.state.specs.State.{due_by}
use Rattle.state.specs.Fits.{fits}
use Rattle.queues.specs.Scan.{scans}

-- as many consumers, and no more events than rows in use and a null for each consumer
abbrev pub Sent : Head → Head → Type 0
Sent d r = (r.consumers ≡ d.consumers) × (r.events ≤ d.events + d.used + d.consumers)

-- a consumer can be sent something: of a topic's, one that holds something and has credit; of a queue's, a browser, or where something waits
-- one that has credit
unfoldable pub can_go : ℕ → Bool → Row → Bool
can_go waiting queue w =
    whether queue then (row_sub w).browser || (not (eqb waiting 0) && credit_of (row_sub w)) else ltb 0 (row_sub w).held && credit_of (row_sub w)

-- one of the first n rows is such a one; no, where the table is shorter
abbrev pub one_of : (Row → Bool) → ℕ → List Row → Bool
one_of p n subs = leb n (length subs) && not (all (λ w. not (p w)) (take n subs))

-- one of the first n can, with so many waiting
unfoldable pub goes_out : ℕ → ℕ → Bool → List Row → Bool
goes_out n waiting queue subs = one_of (can_go waiting queue) n subs

-- one of the first n is a browser
unfoldable pub browses : ℕ → List Row → Bool
browses n subs = one_of (λ w. (row_sub w).browser) n subs

-- a queue's numbers fit the tables: with a browser all of them, without one those that the scan goes by
unfoldable pub queue_fits : ℕ → List Row → Head → ℕ → ℕ → Bool
queue_fits by subs d rows events = whether browses d.consumers subs then fits subs d rows events else scans by subs d rows events

-- a dispatch does what it means, with such a clock, on a table of consumers, with so many rows and events; elsewhere nothing happens
unfoldable pub dispatches : ℕ → List Row → Head → ℕ → ℕ → Bool
dispatches clock subs d rows events =
    leb clock (2 ^ 62) && (whether d.queue then queue_fits (due_by clock d) subs d rows events else fits subs d rows events)
