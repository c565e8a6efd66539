use mathlib.Core.Path.{◌≡◌, refl, sym, ap, ◌∙◌}
use Prim.Native.Nat.{ℕ, ◌+◌, ◌≤◌}
use native.Mathlib.Omega.{arith}
use lib.ListN.{take}
use lib.Seq.{slice, take_all, length-take-le}
use Rattle.definition.specs.Layout.{sub_rows}
use Rattle.engine.specs.Storing.{holds}
use Rattle.engine.proofs.Used.{held-part, held_first, held-last, held-not-last}
use Rattle.engine.proofs.Order.{turn-within, turn-begins, turn-order}
use Rattle.engine.proofs.storing.is_fanned_out.Goals as goal
use Rattle.engine.proofs.storing.is_fanned_out.Goals.{After-has_seq, After-load-s}

within : (c : After-load-s) → let a = c.args in
    c.loop-i.base + c.load-s.result.inflight + c.load-s.result.held ≤ sub_rows (take a.n a.subs.now)
within c =
    let l = c.loop-i in
    let a = c.args in
    turn-within a.n a.subs.now a.rows.now c.requires l.i l.base c.load-s.result c.loop-i-test.true l.invariant.1 c.load-s.ensures

flying : (c : After-has_seq) → let l = c.loop-i in let a = c.args in
    c.has_seq.result ≡ holds a.seq (slice l.base (l.base + c.load-s.result.inflight) a.rows.now)
flying c =
    let a = c.args in
    c.has_seq.ensures ∙ held-part _ _ a.seq a.rows.now (omega arith) (omega (arith, within c.before.before.before, c.requires.rows_long))

pub loop-i-init : goal.loop-i-init
unfolding sub_rows
loop-i-init c = (omega arith, refl, refl)

pub overflow_add-from : goal.overflow_add-from
overflow_add-from c = omega (arith, within (goal.at.overflow_add-from c).After-load-s, c.requires.used)

pub overflow_add-to : goal.overflow_add-to
overflow_add-to c = omega (arith, within (goal.at.overflow_add-to c).After-load-s, c.requires.used)

pub returns-then-has_seq : goal.returns-then-has_seq
returns-then-has_seq c =
    let l = c.loop-i in
    let a = c.args in
    let from : ℕ = l.base + c.load-s.result.inflight in
    let w = within (goal.at.returns-then-has_seq c).After-load-s in
    sym (held_first from (sub_rows (take a.n a.subs.now)) a.seq a.rows.now (omega arith) (held-last l.base from a.seq a.rows.now (omega arith) (sym (flying (goal.at.returns-then-has_seq c).After-has_seq) ∙ c.if-has_seq.true)))

pub has_number-requires : goal.has_number-requires
has_number-requires c =
    let l = c.loop-i in
    let a = c.args in
    let p = c.requires in (
      omega arith,
      omega (arith, within (goal.at.has_number-requires c).After-load-s, p.rows_long),
      turn-order a.n a.subs.now a.rows.now p l.i l.base c.load-s.result c.loop-i-test.true l.invariant.1 c.load-s.ensures,
    )

pub returns-then-has_number : goal.returns-then-has_number
returns-then-has_number c =
    let l = c.loop-i in
    let a = c.args in
    let from : ℕ = l.base + c.load-s.result.inflight in
    let to : ℕ = from + c.load-s.result.held in
    sym (held_first to (sub_rows (take a.n a.subs.now)) a.seq a.rows.now (within (goal.at.returns-then-has_number c).After-load-s) (held-last from to a.seq a.rows.now (omega arith) (sym c.has_number.ensures ∙ c.if-has_number.true)))

pub loop-i-preserved : goal.loop-i-preserved
loop-i-preserved c =
    let l = c.loop-i in
    let a = c.args in
    let p = c.requires in
    let from : ℕ = l.base + c.load-s.result.inflight in (
      omega (arith, c.loop-i-test.true),
      turn-begins a.n a.subs.now a.rows.now p l.i l.base c.load-s.result c.loop-i-test.true l.invariant.1 c.load-s.ensures,
      held-not-last from (from + c.load-s.result.held) a.seq a.rows.now (omega arith) (sym c.has_number.ensures ∙ c.if-has_number.false)
          ∙ held-not-last l.base from a.seq a.rows.now (omega arith) (sym (flying (goal.at.loop-i-preserved c).After-has_seq) ∙ c.if-has_seq.false)
          ∙ l.invariant.2,
    )

pub returns : goal.returns
returns c =
    let l = c.loop-i in
    let a = c.args in
    let e : l.i ≡ a.n = omega (arith, c.loop-i-test.false, l.invariant.0) in
    let all = take_all a.n (take a.n a.subs.now) (omega (arith, length-take-le a.n a.subs.now c.requires.subs-long)) in
    let base : l.base ≡ sub_rows (take a.n a.subs.now) = l.invariant.1 ∙ ap (λ (n : ℕ). sub_rows (take n (take a.n a.subs.now))) e ∙ ap sub_rows all in
    sym (ap (λ (n : ℕ). holds a.seq (take n a.rows.now)) (sym base) ∙ l.invariant.2)
