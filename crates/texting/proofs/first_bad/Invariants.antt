use Prim.Native.Nat.{◌-◌}
use mathlib.Core.Path.{◌≡◌}
use lib.ListN.{length, drop}
use Rattle.texting.specs.Lines.{lines_of}
use Rattle.texting.specs.Parts.{first_bad}
use Rattle.texting.proofs.first_bad.Given as goal

abbrev pub invariant-loop-at : goal.invariant-loop-at
invariant-loop-at l = first_bad l.n l.at (lines_of (drop l.at l.text)) ≡ first_bad l.line l.from (lines_of (drop l.from l.text))

abbrev pub decreases-loop-at : goal.decreases-loop-at
decreases-loop-at l = length l.text - l.at
