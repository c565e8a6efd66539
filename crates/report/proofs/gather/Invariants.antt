use mathlib.Core.Path.{◌≡◌}
use mathlib.Core.List.{map}
use Prim.Native.Nat.{◌+◌, ◌≤◌}
use lib.ListN.{length, take, drop}
use lib.Seq.{sets}
use Rattle.report.specs.Report.{row_block}
use Rattle.report.proofs.gather.Given as goal

abbrev pub invariant-loop-i : goal.invariant-loop-i
invariant-loop-i l = (l.i ≤ l.n) × (length l.out ≡ length l.initial.out) × (sets l.out (l.start + l.i) (drop l.i (map (row_block l.place) (take l.n (drop l.from l.rows)))) ≡ sets l.initial.out l.start (map (row_block l.place) (take l.n (drop l.from l.rows))))
