use Prim.Native.Nat.{◌*◌, ◌≤◌}
use Rattle.callfile.specs.Placed.{Puts}
use Rattle.texting.specs.Shown.{call_texts}
use Rattle.texting.proofs.put_calls.Given as goal

abbrev pub invariant-loop-k : goal.invariant-loop-k
invariant-loop-k l = (l.k ≤ l.count) × (l.at ≤ 512 * l.k) × Puts (call_texts l.k l.block) 0 l.initial.out l.at l.out
