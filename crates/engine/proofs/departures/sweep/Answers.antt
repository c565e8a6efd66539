use Prim.Native.Nat.{◌^◌}
use borrow.Author.Tests.{le-leb}
use Rattle.definition.specs.Destination.{sweep_expired}
use Rattle.definition.specs.Calls.{sweeping}
use Rattle.definition.specs.Words.{at, decode}
use Rattle.definition.proofs.Tests.{and_both}
use Rattle.state.proofs.Ready.{ready-test}
use Rattle.expiry.specs.Expiry.{sweep_out}
use Rattle.state.specs.Answers.{told}
use Rattle.engine.proofs.Performed.{performs-by}
use Rattle.engine.proofs.Handled.{sweep-decoded, sweep-clock, sweep-most}
use Rattle.engine.proofs.Going.{performs-tested, own-sweep, sweep-is, sweep-out}
use Rattle.engine.proofs.departures.sweep.Goals as goal

pub returns : goal.returns
returns c =
    let a = c.args in
    let p = c.requires in
    let w = a.w in
    let k = c.sweep in
    performs-by (sweeping (at 0 w) (at 1 w)) a.d (told a.d k.result) a.subs.now a.rows.now a.events.now k.new.subs k.new.rows a.events.now (decode 9 w) (sweep-decoded w p.1).call
    (performs-tested (sweeping (at 0 w) (at 1 w)) a.d a.subs.now a.rows.now a.events.now k.new.subs k.new.rows a.events.now (own-sweep (at 0 w) (at 1 w)) (told a.d k.result) _
    (and_both _ _ (ready-test a.d a.subs.now a.rows.now a.events.now p.0) (and_both _ _ (le-leb (at 0 w) (2 ^ 62) (sweep-clock w p.1)) (le-leb (at 1 w) 512 (sweep-most w p.1))))
    (sweep_expired (at 0 w) (at 1 w)) (sweep_out (at 0 w) (at 1 w)) (sweep-is (at 0 w) (at 1 w)) (sweep-out (at 0 w) (at 1 w)) k.ensures.leaves_if k.ensures.sweep_answers)
