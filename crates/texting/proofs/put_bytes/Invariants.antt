use Prim.Native.Nat.{◌+◌}
use mathlib.Core.Path.{◌≡◌}
use mathlib.Core.List.{map}
use lib.ListN.{take}
use Rattle.callfile.specs.Placed.{Puts}
use Rattle.texting.specs.Lines.{shown_byte}
use Rattle.texting.proofs.put_bytes.Given as goal

abbrev pub invariant-loop-b : goal.invariant-loop-b
invariant-loop-b l = (l.next ≡ l.at + l.b-index) × Puts (map shown_byte (take l.b-index l.part)) l.at l.initial.out l.next l.out
