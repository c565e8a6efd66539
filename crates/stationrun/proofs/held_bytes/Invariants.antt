use mathlib.Core.Path.{◌≡◌}
use Prim.Native.Nat.{◌*◌, ◌≤◌}
use Rattle.stationcalls.specs.Parts.{lent_all}
use Rattle.stationrun.specs.StationFiles.{slots_bytes}
use Rattle.stationrun.proofs.Ends.{slots_to}
use Rattle.stationrun.proofs.held_bytes.Given as goal

abbrev pub invariant-loop-k : goal.invariant-loop-k
invariant-loop-k l = (l.bytes ≡ slots_bytes (slots_to (lent_all l.heads l.subs l.rows l.own) 0 l.k)) × (l.bytes ≤ 2199023255552 * l.k) × (l.k ≤ 8)
