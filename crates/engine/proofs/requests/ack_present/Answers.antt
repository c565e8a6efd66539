use mathlib.Core.Path.{◌≡◌, sym, ◌∙◌}
use mathlib.Core.Bool.{false}
use native.Mathlib.Omega.{arith}
use borrow.Author.Tests.{not-true}
use Rattle.acks.specs.Acks.{ack_of, acked}
use Rattle.dispatch.specs.Dispatch.{goes_out}
use Rattle.dispatch.proofs.Idle.{goes-not}
use Rattle.state.proofs.Ready.{ready-fits}
use Rattle.engine.proofs.Asks.{acked-keeps}
use Rattle.engine.proofs.Parts.{then-on}
use Rattle.engine.proofs.requests.ack_present.Goals as goal

pub ack_at-requires : goal.ack_at-requires
ack_at-requires c =
    let a = c.args in
    let p = c.requires in
    (ready-fits a.d a.subs.now a.rows.now a.events.now p.0, p.2)

pub returns-then-not-goes : goal.returns-then-not-goes
returns-then-not-goes c =
    let a = c.args in
    let p = c.requires in
    let k = c.ack_at in
    let t = c.touch_idle-acked in
    let quiet : goes_out t.result.consumers t.result.waiting t.result.queue k.new.subs ≡ false = sym c.goes.ensures ∙ not-true _ c.if-not-goes.true-raw in
    λ id e.
    let l = k.ensures id e in
    then-on a.d a.subs.now a.rows.now a.events.now p.0 a.clock p.1 (acked id (ack_of a.a)) 513 (omega arith) (acked-keeps a.clock id (ack_of a.a))
    k.result k.new.subs k.new.rows k.new.events l.0 l.1.room t.result t.ensures t.result k.new.subs k.new.rows k.new.events
    (goes-not a.clock t.result k.new.subs k.new.rows k.new.events quiet)

pub returns : goal.returns
returns c =
    let a = c.args in
    let p = c.requires in
    let k = c.ack_at in
    let t = c.touch_idle-acked in
    let s = c.dispatch in
    λ id e.
    let l = k.ensures id e in
    then-on a.d a.subs.now a.rows.now a.events.now p.0 a.clock p.1 (acked id (ack_of a.a)) 513 (omega arith) (acked-keeps a.clock id (ack_of a.a))
    k.result k.new.subs k.new.rows k.new.events l.0 l.1.room t.result t.ensures s.result s.new.subs s.new.rows s.new.events s.ensures
