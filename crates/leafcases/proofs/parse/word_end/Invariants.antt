use mathlib.Core.Path.{◌≡◌}
use Prim.Native.Nat.{◌+◌}
use lib.ListN.{drop}
use Rattle.leafcases.specs.Parse.{word_length}
use Rattle.leafcases.proofs.parse.word_end.Given as goal

abbrev pub invariant-loop-i : goal.invariant-loop-i
invariant-loop-i l = l.from + word_length (drop l.from l.s) ≡ l.i + word_length (drop l.i l.s)
