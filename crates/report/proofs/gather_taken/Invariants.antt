use mathlib.Core.Path.{◌≡◌}
use mathlib.Core.List.{map}
use Prim.Native.Nat.{◌+◌, ◌≤◌}
use lib.ListN.{length, take, drop}
use lib.Seq.{sets, slice}
use Rattle.definition.specs.Types.{queue}
use Rattle.definition.specs.Calls.{taken}
use Rattle.definition.specs.Layout.{subs_at, sub_rows}
use Rattle.fates.specs.Blocks.{block_at}
use Rattle.report.proofs.gather_taken.Given as goal

abbrev pub invariant-loop-i : goal.invariant-loop-i
invariant-loop-i l = (l.i ≤ l.n) × (l.base + sub_rows (slice l.i l.n l.subs) ≡ sub_rows (take l.n l.subs)) × (l.end ≤ l.start + l.base) × (length l.out ≡ length l.initial.out) × (l.end + length (taken (subs_at queue (slice l.i l.n l.subs) (drop l.base l.rows))) ≡ l.start + length (taken (subs_at queue (take l.n l.subs) l.rows))) × (sets l.out l.end (map (block_at 1) (taken (subs_at queue (slice l.i l.n l.subs) (drop l.base l.rows)))) ≡ sets l.initial.out l.start (map (block_at 1) (taken (subs_at queue (take l.n l.subs) l.rows))))
