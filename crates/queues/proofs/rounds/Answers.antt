use mathlib.Core.Path.{◌≡◌, refl, sym, ap₂, ◌∙◌}
use mathlib.Core.Bool.{false}
use Prim.Native.Nat.{ℕ, ◌+◌, ◌%◌, ◌<◌}
use native.Mathlib.Omega.{arith}
use borrow.Author.Tests.{not-true}
use Rattle.queues.proofs.Visiting.{visited-not}
use Rattle.queues.proofs.Scanning.{seeking-start, seeking-on, place-within, going_start, going-empty, going-stop, going_less, going_on}
use Rattle.queues.proofs.rounds.Goals as goal

pub dispatch-init : goal.dispatch-init
dispatch-init c =
    let a = c.args in
    going_start a.by a.subs.now a.rows.now a.events.now a.before c.requires.0

pub loop-k-init : goal.loop-k-init
loop-k-init c =
    let a = c.args in
    let o = c.dispatch in
    seeking-start a.by o.subs o.rows o.events o.d o.invariant.scans

pub overflow_add-d : goal.overflow_add-d
overflow_add-d c =
    let l = c.loop-k in
    let x = l.invariant.scans.turn in
    let y = c.requires.0.consumers in
    omega arith

pub in_turn-i-requires : goal.in_turn-i-requires
in_turn-i-requires c = omega arith

pub loop-k-preserved-then-not-can_take : goal.loop-k-preserved-then-not-can_take
loop-k-preserved-then-not-can_take c =
    let a = c.args in
    let o = c.dispatch in
    let l = c.loop-k in
    let same : o.d.consumers ≡ a.before.consumers = o.invariant.onward.consumers in
    let less : l.k < o.d.consumers = omega (arith, c.loop-k-test.true) in
    let place : c.in_turn-i.result ≡ (o.d.turn + l.k) % o.d.consumers = c.in_turn-i.ensures ∙ ap₂ (λ (x n : ℕ). (x + l.k) % n) l.invariant.turn (sym same) in
    let within : (o.d.turn + l.k) % o.d.consumers < l.d.consumers = place-within a.by o.subs o.rows o.events o.d l.subs l.rows l.events l.d l.k l.invariant less in
    let no = sym c.can_take.ensures ∙ not-true _ c.if-not-can_take.true-raw in
    let v = visited-not a.by ((o.d.turn + l.k) % o.d.consumers) l.d l.subs l.rows l.events l.invariant.scans within (rw place at no) in
    seeking-on a.by o.subs o.rows o.events o.d l.subs l.rows l.events l.d l.k l.invariant less false l.d l.subs l.rows l.events v refl

pub visit-r-requires : goal.visit-r-requires
visit-r-requires c =
    let a = c.args in
    let o = c.dispatch in
    let l = c.loop-k in
    let same : o.d.consumers ≡ a.before.consumers = o.invariant.onward.consumers in
    let less : l.k < o.d.consumers = omega (arith, c.loop-k-test.true) in
    let place : c.in_turn-i.result ≡ (o.d.turn + l.k) % o.d.consumers = c.in_turn-i.ensures ∙ ap₂ (λ (x n : ℕ). (x + l.k) % n) l.invariant.turn (sym same) in
    let pre = c.requires in
    (l.invariant.scans, rw place (place-within a.by o.subs o.rows o.events o.d l.subs l.rows l.events l.d l.k l.invariant less), pre.1)

pub dispatch-smaller : goal.dispatch-smaller
dispatch-smaller c =
    let a = c.args in
    let o = c.dispatch in
    let l = c.loop-k in
    let same : o.d.consumers ≡ a.before.consumers = o.invariant.onward.consumers in
    let less : l.k < o.d.consumers = omega (arith, c.loop-k-test.true) in
    let place : c.in_turn-i.result ≡ (o.d.turn + l.k) % o.d.consumers = c.in_turn-i.ensures ∙ ap₂ (λ (x n : ℕ). (x + l.k) % n) l.invariant.turn (sym same) in
    let v = c.visit-r in
    let t = rw c.if-r.true at v.ensures in
    going_less a.by a.subs.now a.rows.now a.events.now a.before o.subs o.rows o.events o.d l.subs l.rows l.events l.d l.k o.invariant l.invariant less _ _ _ _ (rw place at t)

pub dispatch-preserved : goal.dispatch-preserved
dispatch-preserved c =
    let a = c.args in
    let o = c.dispatch in
    let l = c.loop-k in
    let same : o.d.consumers ≡ a.before.consumers = o.invariant.onward.consumers in
    let less : l.k < o.d.consumers = omega (arith, c.loop-k-test.true) in
    let place : c.in_turn-i.result ≡ (o.d.turn + l.k) % o.d.consumers = c.in_turn-i.ensures ∙ ap₂ (λ (x n : ℕ). (x + l.k) % n) l.invariant.turn (sym same) in
    let v = c.visit-r in
    let t = rw c.if-r.true at v.ensures in
    going_on a.by a.subs.now a.rows.now a.events.now a.before o.subs o.rows o.events o.d l.subs l.rows l.events l.d l.k o.invariant l.invariant less _ _ _ _ (rw place at t)

pub loop-k-preserved : goal.loop-k-preserved
loop-k-preserved c =
    let a = c.args in
    let o = c.dispatch in
    let l = c.loop-k in
    let same : o.d.consumers ≡ a.before.consumers = o.invariant.onward.consumers in
    let less : l.k < o.d.consumers = omega (arith, c.loop-k-test.true) in
    let place : c.in_turn-i.result ≡ (o.d.turn + l.k) % o.d.consumers = c.in_turn-i.ensures ∙ ap₂ (λ (x n : ℕ). (x + l.k) % n) l.invariant.turn (sym same) in
    let v = c.visit-r in
    let t = rw c.if-r.false at v.ensures in
    seeking-on a.by o.subs o.rows o.events o.d l.subs l.rows l.events l.d l.k l.invariant less _ _ _ _ _ (rw place at t) refl

pub returns-in-dispatch : goal.returns-in-dispatch
returns-in-dispatch c =
    let a = c.args in
    let o = c.dispatch in
    let l = c.loop-k in
    let same : o.d.consumers ≡ a.before.consumers = o.invariant.onward.consumers in
    let p = going-stop a.by a.subs.now a.rows.now a.events.now a.before o.subs o.rows o.events o.d l.subs l.rows l.events l.d l.k o.invariant l.invariant (omega (arith, c.loop-k-test.false)) in record { leaves = p.0; onward = p.1 }

pub returns : goal.returns
returns c =
    let a = c.args in
    let o = c.dispatch in
    let p = going-empty a.by a.subs.now a.rows.now a.events.now a.before o.subs o.rows o.events o.d o.invariant c.dispatch-test.false in record { leaves = p.0; onward = p.1 }
