use mathlib.Core.Path.{◌≡◌}
use Prim.Native.Nat.{◌≤◌}
use mathlib.Core.List.{map}
use lib.Seq.{slice}
use Rattle.entry.specs.Entry.{entry_of}
use Rattle.definition.specs.Destination.{soonest}
use Rattle.expiry.specs.Sweep.{next_of}
use Rattle.expiry.proofs.soonest.Given as goal

abbrev pub invariant-loop-i : goal.invariant-loop-i
invariant-loop-i l = (l.from ≤ l.i) × (next_of l.best ≡ soonest l.by (map entry_of (slice l.i l.to l.rows)))
