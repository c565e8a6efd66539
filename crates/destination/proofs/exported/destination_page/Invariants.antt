use mathlib.Core.Path.{◌≡◌}
use Prim.Native.Nat.{◌-◌, ◌≤◌}
use Rattle.queries.specs.Pages.{page_line_at}
use Rattle.queries.proofs.Filled.{filled}
use Rattle.destination.proofs.exported.destination_page.Given as goal

abbrev pub invariant-loop-i : goal.invariant-loop-i
invariant-loop-i l = (l.i ≤ l.p.count) × (l.lines ≡ filled (page_line_at l.rows l.p.from) l.initial.lines l.i)
