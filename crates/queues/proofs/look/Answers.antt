use mathlib.Core.Path.{sym, ◌∙◌}
use borrow.Author.Rules.{rules}
use mir.Syntax.{w64}
use mir.Val.{SFits}
use Rattle.queues.proofs.Looking.{looking-from, looking-none, looking-before, looking-late, looking-taken, looking-refused, by-clock}
use Rattle.queues.proofs.look.Goals as goal

pub loop-i-init : goal.loop-i-init
loop-i-init c =
    let a = c.args in
    let pre = c.requires in
    looking-from a.by a.s a.from a.to a.rows.now pre.0 pre.1 c.passed-i.result c.passed-i.ensures

pub loop-i-preserved-then-e-s : goal.loop-i-preserved-then-e-s
loop-i-preserved-then-e-s c =
    let l = c.loop-i in
    let a = c.args in
    let pre = c.requires in
    let e = c.entry_of-e in
    let h = c.if-e-s.true in
    looking-before a.by a.s a.from a.to a.rows.now pre.0 pre.1 l.rows l.end l.cursor l.i l.invariant c.loop-i-test.true (rw e.ensures at h)

pub loop-i-preserved-then-expired : goal.loop-i-preserved-then-expired
loop-i-preserved-then-expired c =
    let l = c.loop-i in
    let a = c.args in
    let pre = c.requires in
    let clock = c.signed_of-at in
    let e = c.entry_of-e in
    let f : SFits w64 clock.result = search rules in
    let over = sym (by-clock a.by clock.result e.result pre.3 f clock.ensures) ∙ sym c.expired.ensures ∙ c.if-expired.true in
    let h = c.if-e-s.false in
    rw c.close_gap.ensures (looking-late a.by a.s a.from a.to a.rows.now pre.0 pre.1 l.rows l.end l.cursor l.i l.invariant c.loop-i-test.true (rw e.ensures at h) (rw e.ensures at over))

pub returns-then-accepts : goal.returns-then-accepts
returns-then-accepts c =
    let l = c.loop-i in
    let a = c.args in
    let pre = c.requires in
    let clock = c.signed_of-at in
    let e = c.entry_of-e in
    let f : SFits w64 clock.result = search rules in
    let over = sym (by-clock a.by clock.result e.result pre.3 f clock.ensures) ∙ sym c.expired.ensures ∙ c.if-expired.false in
    let h = c.if-e-s.false in
    let yes = sym c.accepts.ensures ∙ c.if-accepts.true in
    looking-taken a.by a.s a.from a.to a.rows.now pre.0 pre.1 l.rows l.end l.cursor l.i l.invariant c.loop-i-test.true (rw e.ensures at h) (rw e.ensures at over) (rw e.ensures at yes)

pub loop-i-preserved : goal.loop-i-preserved
loop-i-preserved c =
    let l = c.loop-i in
    let a = c.args in
    let pre = c.requires in
    let clock = c.signed_of-at in
    let e = c.entry_of-e in
    let f : SFits w64 clock.result = search rules in
    let over = sym (by-clock a.by clock.result e.result pre.3 f clock.ensures) ∙ sym c.expired.ensures ∙ c.if-expired.false in
    let h = c.if-e-s.false in
    let no = sym c.accepts.ensures ∙ c.if-accepts.false in
    rw e.ensures (looking-refused a.by a.s a.from a.to a.rows.now pre.0 pre.1 l.rows l.end l.cursor l.i l.invariant c.loop-i-test.true (rw e.ensures at h) (rw e.ensures at over) (rw e.ensures at no))

pub returns : goal.returns
returns c =
    let l = c.loop-i in
    let a = c.args in
    let pre = c.requires in
    looking-none a.by a.s a.from a.to a.rows.now pre.0 pre.1 l.rows l.end l.cursor l.i l.invariant c.loop-i-test.false
