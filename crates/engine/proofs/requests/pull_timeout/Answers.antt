use mathlib.Core.Path.{refl}
use native.Mathlib.Omega.{arith}
use Rattle.definition.specs.Destination.{pull_timeout}
use Rattle.definition.specs.Words.{at}
use Rattle.state.proofs.Leaves.{leaves-when}
use Rattle.state.proofs.Ready.{ready-test}
use Rattle.engine.proofs.Worded.{timeout-performs}
use Rattle.engine.proofs.requests.pull_timeout.Goals as goal

pub returns : goal.returns
returns c =
    let a = c.args in
    let p = c.requires in
    let w = a.w in
    let k = c.pull_timeout-head in
    let i = c.of_words-id in
    let l = leaves-when _ _ (pull_timeout i.result (at 3 w)) a.d k.result a.subs.now a.rows.now a.events.now k.new.subs a.rows.now k.new.events (ready-test a.d a.subs.now a.rows.now a.events.now p.0) k.ensures in
    timeout-performs w a.d k.result _ a.subs.now a.rows.now a.events.now k.new.subs a.rows.now k.new.events i.result i.ensures p.1 refl
    (l.0, omega (arith, l.1.few, p.0.none-sent))
