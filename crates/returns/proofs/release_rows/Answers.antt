use mathlib.Core.Path.{◌≡◌, sym, ◌∙◌}
use Prim.Native.Nat.{ℕ, ◌+◌, ◌-◌, ◌<◌}
use native.Mathlib.Omega.{arith}
use lib.ListN.{length}
use Rattle.returns.proofs.Freeing.{freeing-start, freeing-open, freeing-some, freeing-skip, freeing-turn, freeing-leaves, freeing-most}
use borrow.Author.Rules.{rules}
use Rattle.returns.proofs.release_rows.Goals as goal
use Rattle.returns.proofs.release_rows.Goals.{then-is_for, else-is_for}

pub loop-init : goal.loop-init
loop-init c =
    let a = c.args in
    let e : a.before.reserved - 0 ≡ a.before.reserved = omega arith in
    rw e (rw c.first_reserved-i.ensures (freeing-start a.clock a.id a.before a.subs.now a.rows.now c.requires.0))

pub offset_bounds-rows-i : goal.offset_bounds-rows-i
offset_bounds-rows-i c =
    let l = c.loop in
    let a = c.args in
    let left : ℕ = a.before.reserved - l.counter in
    let o = freeing-open a.clock a.id a.before a.subs.now a.rows.now l.i left l.d l.subs l.rows l.invariant (omega arith) in
    record { fits = omega (arith, o.before, o.used) }

pub slice_copy_out-is_for : goal.slice_copy_out-is_for
slice_copy_out-is_for c =
    let l = c.loop in
    let a = c.args in
    let left : ℕ = a.before.reserved - l.counter in
    let o = freeing-open a.clock a.id a.before a.subs.now a.rows.now l.i left l.d l.subs l.rows l.invariant (omega arith) in
    let h : l.i < length l.rows = omega (arith, o.before, o.used, o.long) in
    search rules

pub release_row-d-requires : goal.release_row-d-requires
release_row-d-requires c =
    let l = c.loop in
    let a = c.args in
    let left : ℕ = a.before.reserved - l.counter in
    let o = freeing-open a.clock a.id a.before a.subs.now a.rows.now l.i left l.d l.subs l.rows l.invariant (omega arith) in
    (o, freeing-some a.clock a.id a.before a.subs.now a.rows.now l.i left l.d l.subs l.rows l.invariant (omega arith), c.requires.1)

pub overflow_add-i : goal.overflow_add-i
overflow_add-i c =
    let l = c.loop in
    let a = c.args in
    let left : ℕ = a.before.reserved - l.counter in
    let o = freeing-open a.clock a.id a.before a.subs.now a.rows.now l.i left l.d l.subs l.rows l.invariant (omega arith) in
    record { fits = omega (arith, o.before, o.used) }

pub loop-preserved : goal.loop-preserved
loop-preserved c =
    let l = c.loop in
    let a = c.args in
    let left : ℕ = a.before.reserved - l.counter in
    let e : a.before.reserved - (l.counter + 1) ≡ left - 1 = omega arith in
    elim c.if-is_for.branch [
      | then-is_for w ↦
          let v = w.release_row-d in
          rw e (rw (w.d-is, w.subs-is, w.rows-is, w.i-is)
          (freeing-turn a.clock a.id a.before a.subs.now a.rows.now l.i left l.d l.subs l.rows l.invariant (omega arith) _ _ _ (sym c.is_for.ensures ∙ w.if-is_for.true) v.ensures.moves v.ensures.reserved_value))
      | else-is_for w ↦
          rw e (rw (w.d-is, w.subs-is, w.rows-is, w.i-is)
          (freeing-skip a.clock a.id a.before a.subs.now a.rows.now l.i left l.d l.subs l.rows l.invariant (omega arith) (sym c.is_for.ensures ∙ w.if-is_for.false)))
    ]

pub returns : goal.returns
returns c =
    let l = c.loop in
    let a = c.args in
    let left : ℕ = a.before.reserved - l.counter in
    ((λ events. freeing-leaves a.clock a.id a.before a.subs.now a.rows.now l.i left l.d l.subs l.rows l.invariant events (omega arith)), freeing-most a.clock a.id a.before a.subs.now a.rows.now l.i left l.d l.subs l.rows l.invariant c.requires.0.sent)
