use Prim.Native.Nat.{◌-◌, ◌≤◌}
use mathlib.Core.Path.{◌≡◌}
use lib.ListN.{length, drop, replicate}
use Rattle.textwords.specs.declared.Stop.TheVariants.{Word}
use Rattle.textwords.specs.Text.{run, words_of}
use Rattle.layouttext.specs.Rows.{gather_row}
use Rattle.layouttext.proofs.row_in.Given as goal

abbrev pub invariant-loop-i : goal.invariant-loop-i
invariant-loop-i l = (l.i ≤ length l.text) × (run Word (drop l.i l.text) ≡ 0) × (l.n ≤ 3) × (length l.row ≡ 3) × (gather_row l.n l.row (words_of (drop l.i l.text)) ≡ gather_row 0 (replicate 3 0) (words_of l.text))

abbrev pub decreases-loop-i : goal.decreases-loop-i
decreases-loop-i l = length l.text - l.i
