use mathlib.Core.Path.{sym, ◌∙◌}
use native.Mathlib.Omega.{arith}
use borrow.Author.Tests.{not-true, not-false}
use lib.ListN.{length}
use Rattle.words.proofs.Tests.{or_left, or_right}
use Rattle.definition.specs.Base.{empty}
use Rattle.definition.specs.Types.{Dest}
use Rattle.definition.specs.Destination.{Out, reserved_of, ack_reserved, ack}
use Rattle.acks.specs.Acks.{ack_of}
use Rattle.reserved.proofs.Loops.{has-reserved-view}
use Rattle.state.specs.State.{head_view}
use Rattle.state.proofs.Leaves.{leaves-when}
use Rattle.state.proofs.Ready.{ready-test, ready-fits}
use Rattle.engine.specs.Requests.{sent_on}
use Rattle.engine.proofs.Asks.{ack-nothing, ack-reserved, reserved-keeps, neither}
use Rattle.engine.proofs.Parts.{rest-sends, sends-as, then-on}
use Rattle.engine.proofs.requests.ack_absent.Goals as goal

pub returns-then-a : goal.returns-then-a
returns-then-a c =
    let a = c.args in
    let p = c.requires in
    rest-sends a.d a.subs.now a.rows.now a.events.now p.0 (ack a.clock a.id (ack_of a.a))
    (λ ps us. ack-nothing a.clock a.id (ack_of a.a) (head_view a.d a.subs.now a.rows.now ps us) (p.2 ps us) (or_left a.a.transacted _ c.if-a.true))

pub returns-then-not-has_reserved : goal.returns-then-not-has_reserved
returns-then-not-has_reserved c =
    let a = c.args in
    let p = c.requires in
    let h = sym c.has_reserved.ensures ∙ not-true _ c.if-not-has_reserved.true-raw in
    let f = ready-fits a.d a.subs.now a.rows.now a.events.now p.0 in
    rest-sends a.d a.subs.now a.rows.now a.events.now p.0 (ack a.clock a.id (ack_of a.a))
    (λ ps us. ack-nothing a.clock a.id (ack_of a.a) (head_view a.d a.subs.now a.rows.now ps us) (p.2 ps us)
    (or_right a.a.transacted (empty (reserved_of a.id (head_view a.d a.subs.now a.rows.now ps us))) (not-false _ (sym (has-reserved-view a.subs.now a.rows.now a.d (length a.events.now) a.id ps us f) ∙ h))))

pub returns : goal.returns
returns c =
    let a = c.args in
    let p = c.requires in
    let h = sym c.has_reserved.ensures ∙ not-false _ c.if-not-has_reserved.false-raw in
    let f = ready-fits a.d a.subs.now a.rows.now a.events.now p.0 in
    let k = c.ack_reserved-taken in
    let s = c.dispatch in
    let g : Dest → Out = λ t. ack_reserved a.id (ack_of a.a) t (ack_of a.a).last in
    let l = leaves-when _ _ g a.d k.result a.subs.now a.rows.now a.events.now a.subs.now k.new.rows k.new.events (ready-test a.d a.subs.now a.rows.now a.events.now p.0) k.ensures in
    sends-as a.d s.result a.subs.now a.rows.now a.events.now s.new.subs s.new.rows s.new.events (sent_on a.clock g) (ack a.clock a.id (ack_of a.a))
    (λ ps us. sym (ack-reserved a.clock a.id (ack_of a.a) (head_view a.d a.subs.now a.rows.now ps us) (p.2 ps us)
    (neither a.a.transacted (empty (reserved_of a.id (head_view a.d a.subs.now a.rows.now ps us))) c.if-a.false (not-true _ (sym (has-reserved-view a.subs.now a.rows.now a.d (length a.events.now) a.id ps us f) ∙ h)))))
    (then-on a.d a.subs.now a.rows.now a.events.now p.0 a.clock p.1 g 512 (omega arith) (reserved-keeps a.clock a.id (ack_of a.a))
    k.result a.subs.now k.new.rows k.new.events l.0 l.1.room
    c.touch_idle.result c.touch_idle.ensures s.result s.new.subs s.new.rows s.new.events s.ensures)
