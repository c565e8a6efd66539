use Rattle.std.proofs.Common.{◌≡◌}
use Rattle.consumers.specs.Table.{cleared_row, on_first}
use Rattle.consumers.proofs.clear.Given as goal

abbrev pub invariant-loop-w : goal.invariant-loop-w
invariant-loop-w l = l.w-items ≡ on_first cleared_row l.w-index l.initial.w-items
