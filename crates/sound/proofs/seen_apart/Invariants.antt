use mathlib.Core.Path.{◌≡◌}
use mathlib.Core.Bool.{true}
use mathlib.Core.List.{List, ◌++◌}
use Prim.Native.Nat.{ℕ, ◌+◌}
use lib.ListN.{length, drop}
use lib.Seq.{slice}
use Rattle.definition.specs.Types.{queue}
use Rattle.definition.specs.Calls.{seqs, taken}
use Rattle.definition.specs.Layout.{subs_at, sub_rows}
use Rattle.subrows.specs.Subrows.{seqs_at, reserved_at}
use Rattle.sound.specs.Sound.{marked_apart}
use Rattle.sound.proofs.seen_apart.Given as goal

abbrev pub invariant-loop-w : goal.invariant-loop-w
invariant-loop-w v = (v.base + sub_rows (drop v.w-index v.subs) ≡ sub_rows v.subs) × (length v.slots ≡ 256) × ((l : List ℕ) × ((l ++ seqs (taken (subs_at queue (drop v.w-index v.subs) (drop v.base v.rows))) ≡ seqs_at (reserved_at v.others v.reserved v.rows) ++ seqs (taken (subs_at queue v.subs v.rows))) × (marked_apart v.slots (seqs_at (slice v.first v.end v.rows)) l ≡ true)))
