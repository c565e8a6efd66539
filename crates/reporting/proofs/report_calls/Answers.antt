use Prim.Native.Nat.{ℕ, ◌+◌}
use mathlib.Core.Path.{refl, subst⁻¹}
use Rattle.definition.specs.Layout.{lent}
use Rattle.reporting.proofs.Turns.{Said, none_yet, one_more, all-run}
use native.Mathlib.Omega.{arith}
use Rattle.reporting.proofs.report_calls.Goals as goal

pub loop-k-init : goal.loop-k-init
loop-k-init c =
    let a = c.args in
    (none_yet a.block.now a.count a.from (lent a.head.now a.subs.now a.rows.now) a.events.now a.held.now a.start a.out.now c.requires.4, refl)

pub report_call-t-requires : goal.report_call-t-requires
report_call-t-requires c =
    let l = c.loop-k in
    let p = c.requires in
    (omega (arith, l.invariant.0.small, l.invariant.0.put.same, c.loop-k-test.true, p.0, p.1), omega (arith, l.invariant.0.same, p.2), omega (arith, l.invariant.1, p.3), l.invariant.0.few)

pub loop-k-preserved : goal.loop-k-preserved
loop-k-preserved c =
    let a = c.args in
    let l = c.loop-k in
    let m = c.call_at-c in
    let k = c.report_call-t in (
      subst⁻¹ (λ (i : ℕ). Said a.block.now a.count a.from (lent a.head.now a.subs.now a.rows.now) a.events.now a.held.now a.start a.out.now (lent k.new.head k.new.subs k.new.rows) k.new.events k.new.held k.result.kept k.new.out i k.result.next (l.k + 1)) c.more_of-index.ensures
          (one_more a.block.now a.count a.from (lent a.head.now a.subs.now a.rows.now) a.events.now a.held.now a.start a.out.now (lent l.head l.subs l.rows) l.events l.held l.kept l.out l.index l.at l.k l.invariant.0 c.loop-k-test.true m.result m.ensures (lent k.new.head k.new.subs k.new.rows) k.new.events k.new.held k.new.out k.result k.ensures),
      omega (arith, l.invariant.1),
    )

pub shape_of-head : goal.shape_of-head
shape_of-head c = omega (arith, c.loop-k.invariant.0.left.past.head-length)

pub shape_of-subs : goal.shape_of-subs
shape_of-subs c = omega (arith, c.loop-k.invariant.0.left.past.subs-length)

pub shape_of-rows : goal.shape_of-rows
shape_of-rows c = omega (arith, c.loop-k.invariant.0.left.past.rows-length)

pub shape_of-events : goal.shape_of-events
shape_of-events c = omega (arith, c.loop-k.invariant.0.left.past.events-length)

pub shape_of-held : goal.shape_of-held
shape_of-held c = omega (arith, c.loop-k.invariant.0.same)

pub shape_of-left : goal.shape_of-left
shape_of-left c = omega (arith, c.loop-k.invariant.1)

pub shape_of-out : goal.shape_of-out
shape_of-out c = omega (arith, c.loop-k.invariant.0.put.same)

pub returns : goal.returns
returns c =
    let a = c.args in
    let l = c.loop-k in
    let p = c.requires in
    all-run a.block.now a.count a.from (lent a.head.now a.subs.now a.rows.now) a.events.now a.held.now a.start a.out.now (lent l.head l.subs l.rows) l.events l.held l.kept l.out l.index l.at l.k l.invariant.0 c.loop-k-test.false p.0 p.1
