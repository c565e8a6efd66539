use Rattle.running.proofs.Blocks.{Sofar}
use Rattle.definition.specs.Layout.{lent}
use Rattle.running.proofs.run_calls.Given as goal

abbrev pub invariant-loop-k : goal.invariant-loop-k
invariant-loop-k l =
    Sofar l.block l.count l.from (lent l.initial.head l.initial.subs l.initial.rows) l.initial.events l.initial.out (lent l.head l.subs l.rows) l.events l.out l.index l.at l.k
