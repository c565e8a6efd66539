use mathlib.Core.Path.{◌≡◌, refl, sym, ◌∙◌}
use native.Mathlib.Omega.{arith}
use borrow.Author.Tests.{not-true, not-false}
use lib.ListN.{length}
use mir.Syntax.{w64}
use mir.Val.{to_z, of_z}
use mir.ValLaws.{to_z-of_z}
use Rattle.definition.specs.Calls.{leaving}
use Rattle.state.specs.State.{head_view}
use Rattle.state.specs.Leaves.{silent}
use Rattle.state.proofs.Leaves.{leaves-when}
use Rattle.state.proofs.Ready.{ready-test}
use Rattle.returns.specs.Returns.{departed}
use Rattle.returns.proofs.Answers.{bounds-fit}
use Rattle.engine.specs.Requests.{sent_on}
use Rattle.engine.proofs.Parts.{rest-sends, then-on}
use Rattle.engine.proofs.Going.{performs-done, own-leave, leave-present, leave-absent, left-keeps}
use Rattle.engine.proofs.departures.leave.Goals as goal

pub returns-then-not-is_present : goal.returns-then-not-is_present
returns-then-not-is_present c =
    let a = c.args in
    let p = c.requires in
    let h = not-true _ c.if-not-is_present.true-raw in
    performs-done (leaving a.id a.last a.clock) a.d a.subs.now a.rows.now a.events.now a.subs.now a.rows.now a.events.now (own-leave a.clock a.id a.last) 0 (silent (λ t. t)) _ a.d refl
    (λ ps us. leave-absent a.clock a.id a.last (head_view a.d a.subs.now a.rows.now ps us) (sym (c.is_present.ensures a.rows.now ps us) ∙ h))
    (rest-sends a.d a.subs.now a.rows.now a.events.now p.0 (silent (λ t. t)) (λ ps us. refl))

pub returns : goal.returns
returns c =
    let a = c.args in
    let p = c.requires in
    let h = not-false _ c.if-not-is_present.false-raw in
    let k = c.leave-left in
    let s = c.dispatch-head in
    let f = silent (departed a.clock a.id a.last) in
    let z : to_z w64 (of_z w64 a.last) ≡ a.last = to_z-of_z w64 a.last c.ranges.last in
    let t = bounds-fit a.clock a.subs.now a.d (length a.rows.now) (length a.events.now) (ready-test a.d a.subs.now a.rows.now a.events.now p.0) p.1 in
    let l = leaves-when _ _ f a.d k.result a.subs.now a.rows.now a.events.now k.new.subs k.new.rows a.events.now t (rw z at k.ensures) in
    performs-done (leaving a.id a.last a.clock) a.d a.subs.now a.rows.now a.events.now s.new.subs s.new.rows s.new.events (own-leave a.clock a.id a.last) 1 (sent_on a.clock f) _ s.result refl
    (λ ps us. leave-present a.clock a.id a.last (head_view a.d a.subs.now a.rows.now ps us) (sym (c.is_present.ensures a.rows.now ps us) ∙ h))
    (then-on a.d a.subs.now a.rows.now a.events.now p.0 a.clock p.1 f 512 (omega arith) (left-keeps a.clock a.id a.last)
    k.result k.new.subs k.new.rows a.events.now l.0 l.1
    c.touch_idle.result c.touch_idle.ensures s.result s.new.subs s.new.rows s.new.events s.ensures)
