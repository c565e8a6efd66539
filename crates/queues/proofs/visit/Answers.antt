use mathlib.Core.Path.{sym, ◌∙◌}
use Prim.Native.Nat.{◌-◌, ◌≤◌}
use native.Mathlib.Omega.{arith}
use borrow.Author.Tests.{not-true, not-false}
use Rattle.queues.proofs.Looking.{looks-end}
use Rattle.queues.proofs.Visiting.{visited-browser, visited-spent, visited-missed, visited-found, found-gives}
use Rattle.queues.proofs.visit.Goals as goal

pub returns-then-s : goal.returns-then-s
returns-then-s c =
    let a = c.args in
    let pre = c.requires in
    let s = c.load-s.ensures in
    let h = c.if-s.true in
    visited-browser a.by a.i a.d a.subs.now a.rows.now a.events.now pre.0 pre.1 (rw s at h)

pub returns-then-not-has_credit : goal.returns-then-not-has_credit
returns-then-not-has_credit c =
    let a = c.args in
    let pre = c.requires in
    let s = c.load-s.ensures in
    let h = c.if-s.false in
    let k = sym c.has_credit.ensures ∙ not-true _ c.if-not-has_credit.true-raw in
    visited-spent a.by a.i a.d a.subs.now a.rows.now a.events.now pre.0 pre.1 (rw s at h) (rw s at k)

pub look-l-requires : goal.look-l-requires
look-l-requires c =
    let a = c.args in
    let pre = c.requires in
    let f = c.first_waiting.ensures in
    let ok = pre.0 in
    (omega arith, omega arith, omega arith, pre.2)

pub after_look-seen-requires : goal.after_look-seen-requires
after_look-seen-requires c =
    let a = c.args in
    let pre = c.requires in
    let ok = pre.0 in
    let f = c.first_waiting.ensures in
    let l = c.look-l.result in
    let e : (c.first_waiting.result ≤ l.end) × (l.end ≤ a.d.used) = looks-end l.at a.by c.load-s.result c.first_waiting.result a.d.used a.rows.now c.look-l.new.rows l.end l.cursor c.look-l.ensures in
    let less : a.d.used - l.end ≤ a.d.waiting = omega arith in
    (e.1, less)

pub give-given-requires : goal.give-given-requires
give-given-requires c =
    let a = c.args in
    let pre = c.requires in
    let s = c.load-s.ensures in
    let l = c.look-l in
    let f = c.first_waiting.ensures in
    let closed = c.if-s.false in
    let credited = sym c.has_credit.ensures ∙ not-false _ c.if-not-has_credit.false-raw in
    let head = c.after_look-seen.ensures in
    let m = rw c.in-Some.is at l.ensures in
    rw (s, head) (found-gives a.by a.i a.d a.subs.now a.rows.now a.events.now pre.0 pre.1 (rw s at closed) (rw s at credited) _ _ _ (rw (s, f) at m))

pub returns-in-Some : goal.returns-in-Some
returns-in-Some c =
    let a = c.args in
    let pre = c.requires in
    let s = c.load-s.ensures in
    let l = c.look-l in
    let f = c.first_waiting.ensures in
    let closed = c.if-s.false in
    let credited = sym c.has_credit.ensures ∙ not-false _ c.if-not-has_credit.false-raw in
    let head = c.after_look-seen.ensures in
    let m = rw c.in-Some.is at l.ensures in
    let g = c.give-given.ensures in
    visited-found a.by a.i a.d a.subs.now a.rows.now a.events.now pre.0 pre.1 (rw s at closed) (rw s at credited) _ _ _ (rw (s, f) at m) _ _ _ _ (rw (s, head) at g)

pub returns : goal.returns
returns c =
    let a = c.args in
    let pre = c.requires in
    let s = c.load-s.ensures in
    let l = c.look-l in
    let f = c.first_waiting.ensures in
    let closed = c.if-s.false in
    let credited = sym c.has_credit.ensures ∙ not-false _ c.if-not-has_credit.false-raw in
    let head = c.after_look-seen.ensures in
    let m = rw c.in_default.is at l.ensures in
    let t = c.store.ensures in
    rw (head, rw s at t) (visited-missed a.by a.i a.d a.subs.now a.rows.now a.events.now pre.0 pre.1 (rw s at closed) (rw s at credited) _ _ _ (rw (s, f) at m))
