use Prim.Native.Nat.{◌-◌, ◌≤◌}
use mathlib.Core.Path.{◌≡◌}
use lib.ListN.{length, drop}
use Rattle.textwords.specs.declared.Stop.TheVariants.{Word}
use Rattle.textwords.specs.Text.{run, words_of}
use Rattle.calltext.specs.Faults.{fault_among}
use Rattle.calltext.proofs.fault_from.Given as goal

abbrev pub invariant-loop-i : goal.invariant-loop-i
invariant-loop-i l = (l.i ≤ length l.text) × (run Word (drop l.i l.text) ≡ 0) × (l.n ≤ 9) × (fault_among l.n (words_of (drop l.i l.text)) ≡ fault_among l.first (words_of (drop l.from l.text)))

abbrev pub decreases-loop-i : goal.decreases-loop-i
decreases-loop-i l = length l.text - l.i
