-- A consumer that joins: what is asked for, whether it may join, and what the numbers and the rows are after it. Assumes nothing.
use Rattle.std.specs.Prelude.{◌≡◌, Bool, true, false, not, ◌&&◌, ◌||◌, List, [], ◌∷◌, ◌++◌, ℕ, ◌+◌, ◌-◌, ◌≤◌, ◌^◌, eqb, leb, ltb, pos, length, take, drop, Option, Some, None}
use Rattle.std.proofs.Math.Seq.{slice}
use Rattle.stats.specs.Counted.{with_expired_by}
use Rattle.entry.specs.Entry.{expired, selects, entry_of}
use Rattle.model.specs.Model.{id_of}
use Rattle.definition.specs.Base.{whether◌then◌else◌, every, keep, tally}
use Rattle.definition.specs.Types.{Id, Audit}
use Rattle.definition.specs.Destination.{Spec, room}
use Rattle.definition.specs.Calls.{joining, own_refusal, snapshot_rows}
use Rattle.definition.specs.Layout.{Row}
use Rattle.table.specs.Table.{open_gap, compacted}
use Rattle.consumers.specs.declared.Sub.{Sub}
use Rattle.consumers.specs.Table.{position_from}
use Rattle.state.specs.declared.Head.{Head}
use Rattle.state.specs.State.{head_view, with_counters, with_used, with_waiting, with_consumers, not_idle, first_waiting, first_reserved, rows_free}
use Rattle.state.specs.Fits.{fits}
use Rattle.joins.specs.declared.SubSpec.{SubSpec}

-- SubSpec
abbrev pub spec_of : SubSpec → Spec
spec_of p = record { id = id_of p.conn p.session p.value; prefetch = p.prefetch; selector = p.selector; no_local = p.no_local; browser = p.browser }

-- Sub::new, with so many rows in its snapshot
abbrev pub new_of : SubSpec → ℕ → Sub
new_of p held = record { conn = p.conn; session = p.session; value = p.value; prefetch = room p.prefetch; selector = p.selector; next_dseq = 1; cursor = 0; pull = 0; generation = 0; freed = 0; inflight = 0; held = held; no_local = p.no_local; browser = p.browser; finished = false; pulling = false }

-- ---- waiting rows

-- its entry has expired
abbrev pub gone_at : ℕ → Row → Bool
gone_at by w = expired (pos by) (entry_of w)

-- the selector takes its entry
abbrev pub shown_by : ℕ → Row → Bool
shown_by selector w = selects (entry_of w).match_word selector

-- a snapshot gets it
abbrev pub snapped : ℕ → ℕ → Row → Bool
snapped by selector w = not (gone_at by w) && shown_by selector w

-- how many a snapshot gets of the waiting rows
abbrev pub snapshot_of : ℕ → SubSpec → Head → List Row → ℕ
snapshot_of by p d rows = whether p.browser then tally (snapped by p.selector) (slice (first_waiting d) d.used rows) else 0

-- copies of the rows from..to that a selector takes stand from a place on
unfoldable pub copied_from : ℕ → ℕ → ℕ → ℕ → List Row → List Row
copied_from at from to selector rs = take at rs ++ (keep (shown_by selector) (slice from to rs) ++ drop (at + tally (shown_by selector) (slice from to rs)) rs)

-- ---- whether it may join

abbrev pub is_found : Option ℕ → Bool
is_found (Some i) = true
is_found None = false

-- the refusal, with so many rows for its snapshot
abbrev pub join_refusal : SubSpec → List Row → Head → ℕ → ℕ
join_refusal p subs d k =
    whether is_found (position_from 0 (spec_of p).id (take d.consumers subs)) then 6
    else whether leb 32 d.consumers then 7
    else whether ltb (rows_free d) k then 5
    else 0

-- the refusal that the definition gives; 2 where a test fails
pub record Refused (test : Bool) (now : ℕ) (p : SubSpec) (d : Head) (subs rows : List Row) (r : ℕ) : Type 0 where
  pub exact : (producers : List Id) (audits : List Audit) → r ≡ (whether test then own_refusal (head_view d subs rows producers audits) (joining (spec_of p) now) else 2)

-- the clock is no later than 2^62, the numbers fit, nothing refuses it, nothing waits on a topic, and its snapshot and the events have room
unfoldable pub joins_when : ℕ → SubSpec → List Row → Head → List Row → ℕ → Bool
joins_when now p subs d rows events = every (
    leb now (2 ^ 62)
    ∷ fits subs d (length rows) events
    ∷ eqb (own_refusal (head_view d subs rows [] []) (joining (spec_of p) now)) 0
    ∷ (d.queue || eqb d.waiting 0)
    ∷ leb (d.events + (d.used + snapshot_rows now (spec_of p) (head_view d subs rows [] []))) 512
    ∷ [])

-- ---- what it leaves

-- the expired waiting rows are gone
abbrev pub purged_head : ℕ → Head → List Row → Head
purged_head by d rows =
    let gone = tally (gone_at by) (slice (first_waiting d) d.used rows) in
    with_counters (with_expired_by d.stats gone) (with_waiting (d.waiting - gone) (with_used (d.used - gone) d))

-- and k rows of a snapshot stand before the reserved ones
abbrev pub browsed_head : ℕ → ℕ → Head → List Row → Head
browsed_head by k d rows = let e = purged_head by d rows in with_used (e.used + k) e

-- the rows after the purge, and with a gap before the reserved ones
abbrev pub purged_rows : ℕ → Head → List Row → List Row
purged_rows by d rows = compacted (gone_at by) (first_waiting d) d.used rows

abbrev pub gapped_rows : ℕ → ℕ → Head → List Row → List Row
gapped_rows by k d rows = let e = purged_head by d rows in open_gap (first_reserved e) k e.used (purged_rows by d rows)

abbrev pub browsed_rows : ℕ → ℕ → ℕ → Head → List Row → List Row
browsed_rows by selector k d rows =
    let e = purged_head by d rows in
    let r = browsed_head by k d rows in
    copied_from (first_reserved e) (first_waiting r) r.used selector (gapped_rows by k d rows)

-- one consumer more, and no idle mark
abbrev pub with_one : Head → Head
with_one d = not_idle (with_consumers (d.consumers + 1) d)

abbrev pub joined_head : ℕ → SubSpec → ℕ → Head → List Row → Head
joined_head by p k d rows = whether p.browser then browsed_head by k (with_one d) rows else with_one d

abbrev pub joined_rows : ℕ → SubSpec → ℕ → Head → List Row → List Row
joined_rows by p k d rows = whether p.browser then browsed_rows by p.selector k d rows else rows

-- what a snapshot of k rows goes by
pub record Browses (by selector k : ℕ) (d : Head) (rows : List Row) : Type 0 where
  pub clock : by ≤ 2 ^ 62
  pub others : d.reserved + d.waiting ≤ d.used
  pub room : d.used + k ≤ length rows
  pub few : d.used + k ≤ 512
  pub taken : k ≡ tally (snapped by selector) (slice (first_waiting d) d.used rows)
