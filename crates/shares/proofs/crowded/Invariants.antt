use Rattle.std.proofs.Common.{take}
use Rattle.shares.proofs.Laws.{Counted}
use Rattle.shares.proofs.crowded.Given as goal

abbrev pub invariant-loop-x : goal.invariant-loop-x
invariant-loop-x l = Counted l.share l.counts (take l.x-index l.xs)
