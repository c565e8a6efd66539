use Prim.Native.Nat.{◌-◌}
use mathlib.Core.Path.{◌≡◌}
use lib.ListN.{length, drop}
use Rattle.texting.specs.Lines.{lines_of}
use Rattle.texting.specs.Parts.{fill_from}
use Rattle.texting.proofs.take_lines.Given as goal

abbrev pub invariant-loop-at : goal.invariant-loop-at
invariant-loop-at l = (length l.block ≡ length l.initial.block) × (fill_from l.block l.count l.at (lines_of (drop l.at l.text)) ≡ fill_from l.initial.block l.k l.from (lines_of (drop l.from l.text)))

abbrev pub decreases-loop-at : goal.decreases-loop-at
decreases-loop-at l = length l.text - l.at
