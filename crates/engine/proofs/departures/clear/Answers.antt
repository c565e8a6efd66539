use Rattle.definition.specs.Destination.{clear}
use Rattle.definition.specs.Calls.{clearing}
use Rattle.state.proofs.Ready.{ready-test}
use Rattle.expiry.specs.Expiry.{clear_out}
use Rattle.state.specs.Answers.{told}
use Rattle.engine.proofs.Going.{performs-tested, own-clear, clear-is, clear-out}
use Rattle.engine.proofs.departures.clear.Goals as goal

pub returns : goal.returns
returns c =
    let a = c.args in
    let p = c.requires in
    let k = c.clear in
    performs-tested clearing a.d a.subs.now a.rows.now a.events.now k.new.subs a.rows.now a.events.now own-clear (told a.d k.result) _ (ready-test a.d a.subs.now a.rows.now a.events.now p) clear clear_out clear-is clear-out k.ensures.leaves_if k.ensures.sweep_answers
