use Prim.Native.Nat.{◌-◌, ◌≤◌}
use mathlib.Core.Path.{◌≡◌}
use lib.ListN.{length, drop}
use Rattle.textwords.specs.declared.Stop.TheVariants.{Word}
use Rattle.textwords.specs.Text.{run, words_of}
use Rattle.calltext.specs.Lines.{gather_call}
use Rattle.calltext.proofs.gather_from.Given as goal

abbrev pub invariant-loop-i : goal.invariant-loop-i
invariant-loop-i l = (l.i ≤ length l.text) × (run Word (drop l.i l.text) ≡ 0) × (l.n ≤ 9) × (length l.nine ≡ 9) × (gather_call l.n l.nine (words_of (drop l.i l.text)) ≡ gather_call l.first l.initial.nine (words_of (drop l.from l.text)))

abbrev pub decreases-loop-i : goal.decreases-loop-i
decreases-loop-i l = length l.text - l.i
