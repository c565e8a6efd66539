use mathlib.Core.Path.{◌≡◌}
use Prim.Native.Nat.{◌-◌}
use lib.ListN.{length}
use Rattle.leafcases.specs.Parse.{zeros, words_after, values_of}
use Rattle.leafcases.proofs.parse.values_from.Given as goal

abbrev pub invariant-loop-at : goal.invariant-loop-at
invariant-loop-at l =
    (values_of (words_after l.from l.s) zeros 0 ≡ values_of (words_after l.at l.s) l.values l.count) × (length l.values ≡ 9)

abbrev pub decreases-loop-at : goal.decreases-loop-at
decreases-loop-at l = length l.s - l.at
