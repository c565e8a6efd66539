use Prim.Native.Nat.{◌-◌, ◌+◌}
use Rattle.stationcalls.specs.Run.{shown_with}
use Rattle.stationcalls.specs.Parts.{lent_all}
use Rattle.stationcalls.proofs.Whither.{LastSofar}
use Rattle.stationcalls.proofs.Cycle.{Sofar}
use Rattle.stationcalls.proofs.letters.+run_store.Given as goal

abbrev pub invariant-run-loop-i : goal.invariant-run-loop-i
invariant-run-loop-i l =
    Sofar l.hops l.clock l.name l.letters l.n (lent_all l.initial.heads l.initial.subs l.initial.rows l.own) l.initial.events l.initial.ran.sent l.initial.ran.lost (lent_all l.heads l.subs l.rows l.own) l.events l.scratch l.ran.sent l.ran.lost l.i
    × LastSofar l.hops l.clock l.name l.letters l.n (shown_with (lent_all l.initial.heads l.initial.subs l.initial.rows l.own) l.initial.ran.lost) l.initial.ran.place (shown_with (lent_all l.heads l.subs l.rows l.own) l.ran.lost) l.ran.place l.i

abbrev pub decreases-run-loop-i : goal.decreases-run-loop-i
decreases-run-loop-i l =
    l.n - l.i

abbrev pub decreases-run : goal.decreases-run
decreases-run l = l.hops + l.hops + 1

abbrev pub decreases-store : goal.decreases-store
decreases-store l = l.hops + l.hops
