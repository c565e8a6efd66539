use Prim.Native.Nat.{◌-◌, ◌≤◌}
use mathlib.Core.Path.{◌≡◌}
use mathlib.Core.List.{[]}
use lib.ListN.{length}
use Rattle.texting.specs.Lines.{lines_of}
use Rattle.layouttext.specs.Rows.{read_from}
use Rattle.layouttext.proofs.Lines.{state}
use Rattle.layouttext.proofs.read_rows.Given as goal

abbrev pub invariant-loop-at : goal.invariant-loop-at
invariant-loop-at l = (length l.rows ≡ length l.initial.rows) × (length l.lines ≡ length l.initial.lines) × (l.count ≤ 64) × (state l.rows l.lines l.count l.n l.at l.text ≡ read_from [] [] 1 (lines_of l.text))

abbrev pub decreases-loop-at : goal.decreases-loop-at
decreases-loop-at l = length l.text - l.at
