use lib.ListN.{length}
use Rattle.definition.specs.Layout.{lengths_of, lent}
use Rattle.callfile.proofs.Checks.{calls-few}
use Rattle.running.proofs.Blocks.{bad-block, good-block}
use native.Mathlib.Omega.{arith}
use Rattle.running.proofs.run_block.Goals as goal

pub returns-then-count-eq0 : goal.returns-then-count-eq0
returns-then-count-eq0 c =
    let a = c.args in
    let m = c.calls_in-count in
    bad-block (lengths_of (lent a.head.now a.subs.now a.rows.now) (length a.events.now)) a.block.now a.index a.number (lent a.head.now a.subs.now a.rows.now) a.events.now a.out.now c.requires m.result m.ensures c.if-count-eq0.true c.put_bad-written.ensures

pub run_calls-requires : goal.run_calls-requires
run_calls-requires c =
    let a = c.args in
    (omega (arith, c.calls_in-count.ensures, calls-few a.block.now (length a.block.now)), c.requires)

pub returns : goal.returns
returns c =
    let a = c.args in
    let m = c.calls_in-count in
    good-block (lengths_of (lent a.head.now a.subs.now a.rows.now) (length a.events.now)) a.block.now a.index a.number (lent a.head.now a.subs.now a.rows.now) a.events.now a.out.now c.requires m.result m.ensures c.if-count-eq0.false c.run_calls.ensures
