use mathlib.Core.Path.{◌≡◌}
use Prim.Native.Nat.{◌+◌, ◌≤◌}
use lib.ListN.{drop, take}
use Rattle.definition.specs.Base.{tally}
use Rattle.consumers.specs.Table.{takes_entry}
use Rattle.consumers.proofs.accepting.Given as goal

abbrev pub invariant-loop-w : goal.invariant-loop-w
invariant-loop-w l = (l.count ≤ l.w-index) × (l.count + tally (takes_entry l.e) (drop l.w-index (take l.n l.subs)) ≡ tally (takes_entry l.e) (take l.n l.subs))
