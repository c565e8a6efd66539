use mathlib.Core.Path.{sym, ◌∙◌}
use Rattle.definition.specs.Destination.{ack}
use Rattle.acks.specs.Acks.{ack_of, acked}
use Rattle.acks.proofs.Whole.{place-within}
use Rattle.returns.proofs.Answers.{present-yes, present-no}
use Rattle.state.specs.State.{head_view}
use Rattle.state.proofs.Ready.{ready-fits}
use Rattle.engine.specs.Requests.{sent_on}
use Rattle.engine.proofs.Asks as Asks
use Rattle.engine.proofs.Parts.{sends-as}
use Rattle.engine.proofs.requests.ack.Goals as goal

pub ack_present-requires : goal.ack_present-requires
ack_present-requires c =
    let a = c.args in
    let p = c.requires in
    (p.0, p.1, place-within a.subs.now a.rows.now a.events.now a.d (ready-fits a.d a.subs.now a.rows.now a.events.now p.0) a.id _ (sym c.position.ensures ∙ c.in-Some.is))

pub ack_absent-requires : goal.ack_absent-requires
ack_absent-requires c =
    let a = c.args in
    let p = c.requires in
    (p.0, p.1, λ ps us. sym (present-no a.id a.d a.subs.now (sym c.position.ensures ∙ c.in-None.is) a.rows.now ps us))

pub returns-in-Some : goal.returns-in-Some
returns-in-Some c =
    let a = c.args in
    let e = sym c.position.ensures ∙ c.in-Some.is in
    let k = c.ack_present in
    sends-as a.d k.result a.subs.now a.rows.now a.events.now k.new.subs k.new.rows k.new.events (sent_on a.clock (acked a.id (ack_of a.a))) (ack a.clock a.id (ack_of a.a))
    (λ ps us. sym (Asks.ack-present a.clock a.id (ack_of a.a) (head_view a.d a.subs.now a.rows.now ps us) (sym (present-yes a.id a.d a.subs.now _ e a.rows.now ps us))))
    (k.ensures a.id e)
