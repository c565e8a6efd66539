use mathlib.Core.Path.{◌≡◌}
use lib.ListN.{drop}
use Rattle.leafcases.specs.Parse.{spelled_after}
use Rattle.leafcases.proofs.parse.digits_of.Given as goal

abbrev pub invariant-loop-byte : goal.invariant-loop-byte
invariant-loop-byte l = spelled_after 0 l.s ≡ spelled_after l.value (drop l.byte-index l.s)
