use Rattle.std.proofs.Common.{◌≡◌}
use Rattle.consumers.specs.Table.{held_back_row, on_first}
use Rattle.consumers.proofs.hold_back.Given as goal

abbrev pub invariant-loop-w : goal.invariant-loop-w
invariant-loop-w l = l.w-items ≡ on_first (held_back_row l.seq) l.w-index l.initial.w-items
