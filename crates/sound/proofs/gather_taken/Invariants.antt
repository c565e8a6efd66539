use mathlib.Core.Path.{◌≡◌}
use mathlib.Core.List.{◌++◌}
use Prim.Native.Nat.{◌+◌, ◌≤◌}
use lib.ListN.{length, take, drop}
use Rattle.definition.specs.Types.{queue}
use Rattle.definition.specs.Calls.{seqs, taken}
use Rattle.definition.specs.Layout.{subs_at, sub_rows}
use Rattle.sound.proofs.gather_taken.Given as goal

abbrev pub invariant-loop-w : goal.invariant-loop-w
invariant-loop-w l = (l.base + sub_rows (drop l.w-index l.subs) ≡ sub_rows l.subs) × (l.end ≤ l.start + l.base) × (length l.out ≡ length l.initial.out) × (take l.end l.out ++ seqs (taken (subs_at queue (drop l.w-index l.subs) (drop l.base l.rows))) ≡ take l.start l.initial.out ++ seqs (taken (subs_at queue l.subs l.rows)))
