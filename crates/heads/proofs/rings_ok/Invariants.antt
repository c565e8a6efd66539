use Rattle.std.proofs.Common.{◌≡◌, ◌+◌, ◌-◌, ◌*◌, drop}
use Rattle.definition.specs.Layout.{rings_formed}
use Rattle.heads.proofs.rings_ok.Given as goal

abbrev pub invariant-loop-k : goal.invariant-loop-k
invariant-loop-k l = rings_formed (l.n - l.k) (drop (113 + 1029 * l.k) l.head) ≡ rings_formed l.n (drop 113 l.head)
