-- A page of the definitions as a lent list of structs holds it, and where its lines stand among the rows. Assumes nothing.
use Rattle.std.specs.Prelude.{◌≡◌, List, [], ◌++◌, map, ℕ, ◌+◌, ◌≤◌, eqb, length, take, drop, get_or}
use Rattle.entry.specs.Entry.{entry_of}
use Rattle.definition.specs.Base.{whether◌then◌else◌}
use Rattle.definition.specs.Queries.{Line, line_of, Page}
use Rattle.definition.specs.Words.{at}
use Rattle.definition.specs.Layout.{Row, Buffers, used_subs, sub_rows}
use Rattle.queries.specs.declared.PagePlan.{PagePlan}
use Rattle.queries.specs.declared.Paged.{Paged}
use Rattle.queries.specs.declared.PageLine.{PageLine}

-- the line of a row
abbrev pub row_line : Row → Line
row_line w = line_of (entry_of w)

-- a line as the struct holds it: the same three numbers
abbrev pub page_line : Line → PageLine
page_line l = record { seq = l.seq; expiration = l.expiration; redelivery = l.redelivery }

-- the line of the row at place i after `from`; past the rows, zeros
unfoldable pub page_line_at : List Row → ℕ → ℕ → PageLine
page_line_at rows from i = page_line (row_line (get_or rows (from + i) []))

-- the first of the rows that wait on the queue
abbrev pub buffer_first_waiting : Buffers → ℕ
buffer_first_waiting b = sub_rows (used_subs b) + at 15 b.head

-- a page whose lines stand from this row on; where there is none, from 0
abbrev pub as_plan : ℕ → Page → PagePlan
as_plan from p = record {
  refusal = p.refusal;
  total = p.total;
  from = whether eqb (length p.lines) 0 then 0 else from;
  count = length p.lines;
}

-- the rows that a plan names are those of the page's lines, and there is room
pub record PagePlanned (p : Page) (rows : List Row) (room : ℕ) (r : PagePlan) : Type 0 where
  pub lines : p.lines ≡ map row_line (take r.count (drop r.from rows))
  pub in_rows : r.from + r.count ≤ length rows
  pub in-room : r.count ≤ room

abbrev pub as_paged : Page → Paged
as_paged p = record { refusal = p.refusal; total = p.total; count = length p.lines }

-- the lines in the first places of a lent list, and after them what was there
abbrev pub written : List Line → List PageLine → List PageLine
written lines was = map page_line lines ++ drop (length lines) was
