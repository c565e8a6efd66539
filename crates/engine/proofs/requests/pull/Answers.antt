use mathlib.Core.Path.{refl, sym, ap, ◌∙◌, subst⁻¹}
use mathlib.Core.Bool.{Bool, ◌&&◌}
use native.Mathlib.Omega.{arith}
use borrow.Author.Tests.{not-true, not-false}
use mir.Syntax.{w64}
use mir.ValLaws.{to_z-of_z}
use Rattle.state.specs.State.{head_view}
use Rattle.state.specs.Leaves.{silent}
use Rattle.state.proofs.Leaves.{leaves-when}
use Rattle.state.proofs.Ready.{ready-test, seen}
use Rattle.pulls.specs.Pulls.{pulls, registered}
use Rattle.state.specs.Answers.{Replied, told}
use Rattle.state.proofs.Told.{accepted-told}
use Rattle.engine.specs.Requests.{Pulled}
use Rattle.engine.proofs.Asks.{registered-keeps}
use Rattle.engine.proofs.Parts.{then-dispatch}
use Rattle.engine.proofs.Pulling.{pulled-rests, pulled-waits}
use Rattle.engine.proofs.requests.pull.Goals as goal

pub returns-then-not-register : goal.returns-then-not-register
returns-then-not-register c =
    let a = c.args in
    let p = c.requires in
    let g = c.register in
    let t = ready-test a.d a.subs.now a.rows.now a.events.now p.0 in
    let l = leaves-when _ _ (silent (registered a.id)) a.d a.d a.subs.now a.rows.now a.events.now g.new.subs a.rows.now a.events.now t g.ensures.leaves_if in
    pulled-rests a.clock a.id a.timeout a.d a.subs.now a.rows.now a.events.now p.0 _ g.new.subs refl
    (λ ps us. sym (g.ensures.pull_waits.exact ps us ∙ ap (λ (b : Bool). b && pulls a.id (head_view a.d a.subs.now a.rows.now ps us)) t) ∙ not-true _ c.if-not-register.true-raw)
    l.0

pub returns : goal.returns
returns c =
    let a = c.args in
    let p = c.requires in
    let g = c.register in
    let s = c.dispatch-sent in
    let k = c.answer_pull in
    let e = rw (to_z-of_z w64 a.timeout c.ranges.timeout) at k.ensures in
    let t = ready-test a.d a.subs.now a.rows.now a.events.now p.0 in
    let l = leaves-when _ _ (silent (registered a.id)) a.d a.d a.subs.now a.rows.now a.events.now g.new.subs a.rows.now a.events.now t g.ensures.leaves_if in
    let y = then-dispatch a.d a.subs.now a.rows.now a.events.now p.0 a.clock p.1 (silent (registered a.id)) a.d g.new.subs a.rows.now a.events.now l.0 (omega (arith, p.0.none-sent, p.0.stands.used))
    1 (omega arith) (registered-keeps a.clock a.id a.timeout (seen a.d a.subs.now a.rows.now a.events.now p.0)) s.result s.new.subs s.new.rows s.new.events s.ensures in
    let w =
    pulled-waits a.clock a.id a.timeout a.d a.subs.now a.rows.now a.events.now p.0
    (λ ps us. sym (g.ensures.pull_waits.exact ps us ∙ ap (λ (b : Bool). b && pulls a.id (head_view a.d a.subs.now a.rows.now ps us)) t) ∙ not-false _ c.if-not-register.false-raw)
    s.result s.new.subs s.new.rows s.new.events y.0 y.1 (told s.result k.result) k.new.subs k.new.events e.leaves_if e.pull_answers in
    subst⁻¹ (λ (x : Replied). Pulled a.clock a.id a.timeout a.d x a.subs.now a.rows.now a.events.now k.new.subs s.new.rows k.new.events) (accepted-told s.result a.d k.result w.refusal) w
