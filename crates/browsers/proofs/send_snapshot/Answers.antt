use mathlib.Core.Path.{◌≡◌, sym, ap, ◌∙◌}
use mathlib.Core.Bool.{true, false}
use mathlib.Core.List.{[]}
use Prim.Native.Nat.{◌+◌, ◌-◌, ◌<◌, ◌≤◌}
use native.Mathlib.Omega.{arith}
use borrow.Author.Tests.{not-true, not-false}
use borrow.Author.Rules.{rules}
use lib.IntN.{ℤ}
use lib.ListN.{length, get_or, set}
use mir.Syntax.{w32}
use mir.Val.{SFits}
use mir.ValLaws.{to_z-of_z}
use Rattle.words.proofs.Words.{signed-pos}
use Rattle.model.specs.Model.{id_of}
use Rattle.entry.specs.declared.Entry.{Entry}
use Rattle.entry.specs.Entry.{entry_of}
use Rattle.entry.proofs.Rows.{redelivery-fits}
use Rattle.definition.specs.Types.{message}
use Rattle.definition.specs.Layout.{event_words}
use Rattle.consumers.specs.declared.Sub.{Sub}
use Rattle.consumers.specs.Consumers.{credit_of, with_held}
use Rattle.consumers.proofs.Words.{sent_is}
use Rattle.state.proofs.Events.{pushed_room}
use Rattle.browsers.proofs.Sending.{sending-start, sending-lost, sending-sent, used-left}
use Rattle.browsers.proofs.send_snapshot.Goals as goal

pub loop-s-init : goal.loop-s-init
loop-s-init c = let a = c.args in sending-start a.by a.base a.rows.now a.events.now a.start a.before c.requires

pub returns-then-not-has_credit : goal.returns-then-not-has_credit
returns-then-not-has_credit c =
    let l = c.loop-s in
    let no : credit_of l.s ≡ false = sym c.has_credit.ensures ∙ not-true _ c.if-not-has_credit.true-raw in record { sending = l.invariant; sub_value = λ _. no }

pub drop_waiting-d-requires : goal.drop_waiting-d-requires
drop_waiting-d-requires c = let f = c.loop-s.invariant.fine in (omega (arith, f.rows), f.used, f.room)

pub overflow_sub-d : goal.overflow_sub-d
overflow_sub-d c =
    let l = c.loop-s in
    let a = c.args in
    used-left a.by a.base a.rows.now a.events.now a.start a.before l.rows l.events l.s l.d l.invariant _ _ c.loop-s-test.true c.drop_waiting-d.ensures.value

pub overflow_sub-s : goal.overflow_sub-s
overflow_sub-s c = c.loop-s-test.true

pub loop-s-smaller-then-expired_by : goal.loop-s-smaller-then-expired_by
loop-s-smaller-then-expired_by c =
    let h = c.loop-s-test.true in
    omega arith

pub loop-s-preserved-then-expired_by : goal.loop-s-preserved-then-expired_by
loop-s-preserved-then-expired_by c =
    let l = c.loop-s in
    let a = c.args in
    let some : 0 < l.s.held = c.loop-s-test.true in
    let yes : credit_of l.s ≡ true = sym c.has_credit.ensures ∙ not-false _ c.if-not-has_credit.false-raw in
    let over = sym c.expired_by.ensures ∙ c.if-expired_by.true in
    let out = c.drop_waiting-d.ensures in
    sending-lost a.by a.base a.rows.now a.events.now a.start a.before l.rows l.events l.s l.d l.invariant some yes _ _ _ _ c.entry_of-e.ensures out.value out.rows_after c.close_gap.ensures (rw (signed-pos a.by (omega (arith, l.invariant.fine.clock))) at over)

pub offset_bounds-rows-first-else-expired_by : goal.offset_bounds-rows-first-else-expired_by
offset_bounds-rows-first-else-expired_by c =
    let f = c.loop-s.invariant.fine in
    let h = c.loop-s-test.true in
    omega arith

pub bounds-rows-first : goal.bounds-rows-first
bounds-rows-first c =
    let f = c.loop-s.invariant.fine in
    let h = c.loop-s-test.true in
    search rules

pub overflow_sub-s-else-expired_by : goal.overflow_sub-s-else-expired_by
overflow_sub-s-else-expired_by c = c.loop-s-test.true

pub loop-s-smaller : goal.loop-s-smaller
loop-s-smaller c =
    let l = c.loop-s in
    let h : 0 < l.s.held = c.loop-s-test.true in
    let f = l.invariant.fine in
    let e : c.sent-s.result.held ≡ l.s.held - 1 = ap (λ (x : Sub). x.held) (c.sent-s.ensures ∙ sent_is (with_held (l.s.held - 1) l.s) (omega arith) (omega arith)) in
    omega arith

pub loop-s-preserved : goal.loop-s-preserved
loop-s-preserved c =
    let l = c.loop-s in
    let a = c.args in
    let f = l.invariant.fine in
    let some : 0 < l.s.held = c.loop-s-test.true in
    let yes : credit_of l.s ≡ true = sym c.has_credit.ensures ∙ not-false _ c.if-not-has_credit.false-raw in
    let fresh = sym c.expired_by.ensures ∙ c.if-expired_by.false in
    let e : Entry = c.entry_of-e.result in
    let is : e ≡ entry_of (get_or l.rows (a.base + l.s.inflight) []) = c.entry_of-e.ensures in
    let small : SFits w32 e.redelivery = rw is (redelivery-fits (get_or l.rows (a.base + l.s.inflight) [])) in
    let p = c.push_message-d in
    let room : l.d.events < length l.events = omega arith in
    let said = p.ensures.1 ∙ ap (λ (z : ℤ). set l.events l.d.events (event_words (message (id_of l.s.conn l.s.session l.s.value) e.seq z))) (to_z-of_z w32 e.redelivery small)
    ∙ ap (λ (x : Entry). set l.events l.d.events (event_words (message (id_of l.s.conn l.s.session l.s.value) x.seq x.redelivery))) is in
    sending-sent a.by a.base a.rows.now a.events.now a.start a.before l.rows l.events l.s l.d l.invariant some yes _ _ _ _ (c.sent-s.ensures ∙ sent_is (with_held (l.s.held - 1) l.s) (omega arith) (omega arith)) (p.ensures.0 ∙ pushed_room l.d (length l.events) room) said c.flown.ensures.value c.flown.ensures.row_len (rw (is, signed-pos a.by (omega (arith, f.clock))) at fresh)

pub returns : goal.returns
returns c =
    let l = c.loop-s in
    let none : l.s.held ≤ 0 = c.loop-s-test.false in record { sending = l.invariant; sub_value = λ h. absurd (omega (arith, h, none)) }
