use mathlib.Core.Path.{refl, ap}
use native.Mathlib.Omega.{arith}
use Rattle.definition.specs.Destination.{unmarked}
use Rattle.definition.specs.Calls.{unmarking}
use Rattle.definition.specs.Words.{id_in, decode}
use Rattle.state.specs.State.{head_view}
use Rattle.state.specs.Leaves.{silent}
use Rattle.state.proofs.Leaves.{leaves-when}
use Rattle.state.proofs.Ready.{ready-test}
use Rattle.engine.proofs.Performed.{performs-as}
use Rattle.engine.proofs.Handled.{unmark-decoded}
use Rattle.engine.proofs.Going.{performs-done, own-unmark, unmark-is}
use Rattle.engine.proofs.departures.unmark.Goals as goal

pub returns : goal.returns
returns c =
    let a = c.args in
    let p = c.requires in
    let w = a.w in
    let k = c.unmark in
    let i = c.of_words-id in
    let f = silent (unmarked i.result) in
    let l = leaves-when _ _ f a.d a.d a.subs.now a.rows.now a.events.now a.subs.now k.new.rows a.events.now (ready-test a.d a.subs.now a.rows.now a.events.now p.0) k.ensures in
    performs-as (unmarking (id_in w)) a.d _ a.subs.now a.rows.now a.events.now a.subs.now k.new.rows a.events.now (decode 8 w) (unmarking i.result) (ap unmarking i.ensures) (unmark-decoded w p.1).call
    (performs-done (unmarking i.result) a.d a.subs.now a.rows.now a.events.now a.subs.now k.new.rows a.events.now (own-unmark i.result) 0 f _ a.d refl
    (λ ps us. unmark-is i.result (head_view a.d a.subs.now a.rows.now ps us))
    (l.0, omega (arith, p.0.none-sent)))
