use lib.ListN.{length}
use Rattle.definition.specs.Layout.{lengths_of, lent}
use Rattle.callfile.proofs.Checks.{calls-few}
use Rattle.reporting.proofs.Turns.{bad-block, good-block}
use native.Mathlib.Omega.{arith}
use Rattle.reporting.proofs.report_block.Goals as goal

pub returns-then-count-eq0 : goal.returns-then-count-eq0
returns-then-count-eq0 c =
    let a = c.args in
    let p = c.requires in
    let m = c.calls_in-count in
    bad-block (lengths_of (lent a.head.now a.subs.now a.rows.now) (length a.events.now)) a.block.now a.index a.number (lent a.head.now a.subs.now a.rows.now) a.events.now a.held.now a.kept a.out.now p.0 m.result m.ensures c.if-count-eq0.true p.2 c.put_bad-written.ensures

pub report_calls-requires : goal.report_calls-requires
report_calls-requires c =
    let a = c.args in
    let p = c.requires in
    (omega (arith, c.calls_in-count.ensures, calls-few a.block.now (length a.block.now)), p.0, p.1, omega arith, p.2)

pub returns : goal.returns
returns c =
    let a = c.args in
    let p = c.requires in
    let m = c.calls_in-count in
    good-block (lengths_of (lent a.head.now a.subs.now a.rows.now) (length a.events.now)) a.block.now a.index a.number (lent a.head.now a.subs.now a.rows.now) a.events.now a.held.now a.kept a.out.now p.0 m.result m.ensures c.if-count-eq0.false c.report_calls.ensures
