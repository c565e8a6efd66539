-- What a plan says of a query's answer, and where its lines stand among the rows. Assumes nothing.
use Rattle.std.specs.Prelude.{◌≡◌, List, map, ℕ, ◌≤◌, ◌&&◌, ltb, length, take, get_or}
use Rattle.definition.specs.Base.{whether◌then◌else◌}
use Rattle.definition.specs.Calls.{clock_ok}
use Rattle.definition.specs.Queries.{Line, line_of}
use Rattle.definition.specs.Layout.{Row}
use Rattle.outlook.specs.Outlook.{Outlook}
use Rattle.queries.specs.declared.PageLine.{PageLine}
use Rattle.queries.specs.Pages.{page_line}
use Rattle.outlooks.specs.declared.OutlookPlan.{OutlookPlan}
use Rattle.outlooks.specs.declared.Outlooked.{Outlooked}
use Rattle.outlooks.specs.Listing.{entry_at}

-- the line of the row at a place
abbrev pub outlook_line_at : List Row → ℕ → Line
outlook_line_at rows p = line_of (entry_at rows p)

-- as the struct holds it, of the row at place i of a plan
unfoldable pub plan_line : List Row → OutlookPlan → ℕ → PageLine
plan_line rows p i = page_line (outlook_line_at rows (get_or p.places i 0))

-- 3 where a reading is above 2^62, 17 where the earlier is above the later
unfoldable pub clocks_refusal : ℕ → ℕ → ℕ
clocks_refusal earlier later = whether clock_ok earlier && clock_ok later then (whether ltb later earlier then 17 else 0) else 3

-- beside a refusal: its places are open
pub record NoPlan (refused : ℕ) (r : OutlookPlan) : Type 0 where
  pub refusal : r.refusal ≡ refused
  pub sure : r.sure ≡ 0
  pub perhaps : r.perhaps ≡ 0
  pub alive : r.alive ≡ 0
  pub next : r.next ≡ 0
  pub count : r.count ≡ 0

-- its numbers are those of the answer, its rows in order those of the lines, and there is room. Open: what stands in its places past the lines; and which row stands for a
-- line that two rows have, which no sound queue has, as its numbers differ. No answer shows either
pub record OutlookPlanned (p : Outlook) (rows : List Row) (room : ℕ) (r : OutlookPlan) : Type 0 where
  pub refusal : r.refusal ≡ p.refusal
  pub sure : r.sure ≡ p.sure
  pub perhaps : r.perhaps ≡ p.perhaps
  pub alive : r.alive ≡ p.alive
  pub next : r.next ≡ p.next
  pub lines : p.lines ≡ map (outlook_line_at rows) (take r.count r.places)
  pub in-room : r.count ≤ room
  pub in-places : r.count ≤ length r.places

-- the answer as the struct holds it
abbrev pub as_outlooked : Outlook → Outlooked
as_outlooked o = record { refusal = o.refusal; sure = o.sure; perhaps = o.perhaps; alive = o.alive; next = o.next; count = length o.lines }
