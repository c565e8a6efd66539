use mathlib.Core.Path.{◌≡◌}
use lib.ListN.{length}
use Rattle.definition.specs.Layout.{lent}
use Rattle.reporting.proofs.Turns.{Said}
use Rattle.reporting.proofs.report_calls.Given as goal

abbrev pub invariant-loop-k : goal.invariant-loop-k
invariant-loop-k l = Said l.block l.count l.from (lent l.initial.head l.initial.subs l.initial.rows) l.initial.events l.initial.held l.initial.kept l.initial.out (lent l.head l.subs l.rows) l.events l.held l.kept l.out l.index l.at l.k × (length l.left ≡ length l.initial.left)
