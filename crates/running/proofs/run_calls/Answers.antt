use mathlib.Core.Path.{subst⁻¹}
use Prim.Native.Nat.{ℕ, ◌+◌}
use Rattle.running.proofs.Blocks.{Sofar, none_yet, one_more, all-run}
use native.Mathlib.Omega.{arith}
use Rattle.definition.specs.Layout.{lent}
use Rattle.running.proofs.run_calls.Goals as goal

pub loop-k-init : goal.loop-k-init
loop-k-init c =
    let a = c.args in
    none_yet a.block.now a.count a.from (lent a.head.now a.subs.now a.rows.now) a.events.now a.out.now

pub run_call-at-requires : goal.run_call-at-requires
run_call-at-requires c =
    let l = c.loop-k in
    let p = c.requires in
    omega (arith, l.invariant.small, l.invariant.put.same, c.loop-k-test.true, p.0, p.1)

pub loop-k-preserved : goal.loop-k-preserved
loop-k-preserved c =
    let a = c.args in
    let l = c.loop-k in
    let m = c.call_at-c in
    let k = c.run_call-at in
    subst⁻¹ (λ (i : ℕ). Sofar a.block.now a.count a.from (lent a.head.now a.subs.now a.rows.now) a.events.now a.out.now (lent k.new.head k.new.subs k.new.rows) k.new.events k.new.out i k.result (l.k + 1)) c.more_of-index.ensures
    (one_more a.block.now a.count a.from (lent a.head.now a.subs.now a.rows.now) a.events.now a.out.now (lent l.head l.subs l.rows) l.events l.out l.index l.at l.k l.invariant
    c.loop-k-test.true m.result m.ensures (lent k.new.head k.new.subs k.new.rows) k.new.events k.new.out k.result k.ensures.called k.ensures.puts)

pub shape_of-head : goal.shape_of-head
shape_of-head c = omega (arith, c.loop-k.invariant.left.past.head-length)

pub shape_of-subs : goal.shape_of-subs
shape_of-subs c = omega (arith, c.loop-k.invariant.left.past.subs-length)

pub shape_of-rows : goal.shape_of-rows
shape_of-rows c = omega (arith, c.loop-k.invariant.left.past.rows-length)

pub shape_of-events : goal.shape_of-events
shape_of-events c = omega (arith, c.loop-k.invariant.left.past.events-length)

pub shape_of-out : goal.shape_of-out
shape_of-out c = omega (arith, c.loop-k.invariant.put.same)

pub returns : goal.returns
returns c =
    let a = c.args in
    let l = c.loop-k in
    let p = c.requires in
    all-run a.block.now a.count a.from (lent a.head.now a.subs.now a.rows.now) a.events.now a.out.now (lent l.head l.subs l.rows) l.events l.out l.index l.at l.k l.invariant c.loop-k-test.false p.0 p.1
