use Prim.Native.Nat.{◌+◌, ◌*◌}
use mathlib.Core.Path.{◌≡◌}
use lib.ListN.{length, take}
use Rattle.callfile.specs.Placed.{Puts}
use Rattle.callblocks.specs.Packed.{word_bytes}
use Rattle.callblocks.proofs.put_words.Given as goal

abbrev pub invariant-loop-x : goal.invariant-loop-x
invariant-loop-x l = (length l.fn.w ≡ 8) × (l.next ≡ l.at + 8 * l.x-index) × Puts (word_bytes (take l.x-index l.fn.w)) l.at l.initial.block l.next l.block
