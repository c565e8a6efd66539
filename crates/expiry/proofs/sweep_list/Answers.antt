use Prim.Native.Nat.{◌≤◌}
use native.Mathlib.Omega.{arith}
use lib.ListN.{length}
use Rattle.expiry.proofs.Lists.{k-few, turn-start, turn-next, turn-none, turn_end}
use Rattle.expiry.proofs.sweep_list.Goals as goal

pub loop-w-init : goal.loop-w-init
loop-w-init c = let a = c.args in turn-start a.most a.by a.from a.rows.now a.start c.requires

pub soonest-requires : goal.soonest-requires
soonest-requires c =
    let f = c.loop-w.invariant.fine in
    (omega arith, omega (arith, f.rows, f.used, f.room), f.clock)

pub returns-in_default : goal.returns-in_default
returns-in_default c =
    let l = c.loop-w in
    let a = c.args in record { rows_after = turn-none a.most a.by a.from a.rows.now a.start l.rows l.w l.invariant c.in_default.ensures; shorter = l.invariant.shorter; rows_unchanged = l.invariant.past; stays_strict = l.invariant.strict }

pub overflow_sub-w : goal.overflow_sub-w
overflow_sub-w c =
    let l = c.loop-w in
    let a = c.args in
    let f = l.invariant.fine in
    let u : l.w.used ≤ length l.rows = omega (arith, f.used, f.room) in
    let r = c.remove_seq-k in
    let few = k-few a.from l.w l.rows f.rows u c.in-Some.e r.result _ r.ensures.value r.ensures.rows_after in
    omega (arith, few, f.rows)

pub overflow_sub-w-in-loop-w : goal.overflow_sub-w-in-loop-w
overflow_sub-w-in-loop-w c =
    let l = c.loop-w in
    let a = c.args in
    let f = l.invariant.fine in
    let u : l.w.used ≤ length l.rows = omega (arith, f.used, f.room) in
    let r = c.remove_seq-k in
    let few = k-few a.from l.w l.rows f.rows u c.in-Some.e r.result _ r.ensures.value r.ensures.rows_after in
    omega (arith, few, f.rows)

pub loop-w-preserved : goal.loop-w-preserved
loop-w-preserved c =
    let l = c.loop-w in
    let a = c.args in
    let r = c.remove_seq-k in
    turn-next a.most a.by a.from a.rows.now a.start l.rows l.w l.invariant c.in-Some.e r.result _ c.loop-w-test.true c.in-Some.ensures r.ensures.value r.ensures.rows_after

pub returns : goal.returns
returns c =
    let l = c.loop-w in
    let a = c.args in record { rows_after = turn_end a.most a.by a.from a.rows.now a.start l.rows l.w l.invariant c.loop-w-test.false; shorter = l.invariant.shorter; rows_unchanged = l.invariant.past; stays_strict = l.invariant.strict }
