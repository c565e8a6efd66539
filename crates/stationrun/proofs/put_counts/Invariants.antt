use Prim.Native.Nat.{◌+◌, ◌*◌, ◌≤◌}
use Rattle.callfile.specs.Placed.{Puts}
use Rattle.stationcalls.specs.Parts.{lent_all}
use Rattle.stationrun.specs.StationFiles.{counted_lines}
use Rattle.stationrun.proofs.Ends.{slots_to}
use Rattle.stationrun.proofs.put_counts.Given as goal

abbrev pub invariant-loop-k : goal.invariant-loop-k
invariant-loop-k l = Puts (counted_lines 0 (slots_to (lent_all l.heads l.subs l.rows l.own) 0 l.k)) l.from l.initial.out l.at l.out × (l.k ≤ 8) × (l.at ≤ l.from + 128 * l.k)
