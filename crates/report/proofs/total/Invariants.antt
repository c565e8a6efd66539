use mathlib.Core.Path.{◌≡◌}
use Prim.Native.Nat.{◌+◌, ◌≤◌}
use lib.ListN.{drop, take}
use Rattle.definition.specs.Base.{tally}
use Rattle.report.specs.Report.{is_at_place}
use Rattle.report.proofs.total.Given as goal

abbrev pub invariant-loop-b : goal.invariant-loop-b
invariant-loop-b l = (l.count ≤ l.b-index) × (l.count + tally (is_at_place l.place) (drop l.b-index (take l.n l.blocks)) ≡ tally (is_at_place l.place) (take l.n l.blocks))
