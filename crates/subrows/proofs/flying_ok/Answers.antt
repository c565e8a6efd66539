use mathlib.Core.Path.{sym, ◌∙◌}
use mathlib.Core.List.{[]}
use borrow.Author.Tests.{not-true, not-false}
use lib.ListN.{get_or}
use lib.Seq.{slice}
use Rattle.words.proofs.Words.{flag_small}
use Rattle.definition.specs.Words.{at}
use Rattle.definition.specs.Layout.{flag}
use Rattle.subrows.specs.Subrows.{flying_ok}
use Rattle.subrows.proofs.Rows.{flying-bad, flying-low, flying-high, flying-next, flying-end}
use native.Mathlib.Omega.{arith}
use borrow.Author.Rules.{rules}
use Rattle.subrows.proofs.flying_ok.Goals as goal

pub returns-then-not-flight_ok : goal.returns-then-not-flight_ok
returns-then-not-flight_ok c =
    let a = c.args in
    let rows = a.rows.now in
    let b = c.requires.to_in_bounds in
    let h = c.loop-i-test.true in
    let e = c.flight_ok.ensures in
    flying-bad rows c.loop-i.i a.to b (flying_ok 0 0 a.next a.freed (slice a.from a.to rows)) c.loop-i.least c.loop-i.count a.next a.freed c.loop-i.invariant.3 h (sym e ∙ not-true c.flight_ok.result c.if-not-flight_ok.true-raw)

pub returns-then-dseq-least : goal.returns-then-dseq-least
returns-then-dseq-least c =
    let a = c.args in
    let rows = a.rows.now in
    let b = c.requires.to_in_bounds in
    let h = c.loop-i-test.true in
    let e = c.flight_ok.ensures in
    flying-low rows c.loop-i.i a.to b (flying_ok 0 0 a.next a.freed (slice a.from a.to rows)) c.loop-i.least c.loop-i.count a.next a.freed c.loop-i.invariant.3 h c.if-dseq-least.true

pub returns-then-next-dseq : goal.returns-then-next-dseq
returns-then-next-dseq c =
    let a = c.args in
    let rows = a.rows.now in
    let b = c.requires.to_in_bounds in
    let h = c.loop-i-test.true in
    let e = c.flight_ok.ensures in
    flying-high rows c.loop-i.i a.to b (flying_ok 0 0 a.next a.freed (slice a.from a.to rows)) c.loop-i.least c.loop-i.count a.next a.freed c.loop-i.invariant.3 h c.if-next-dseq.true

pub overflow_add-count : goal.overflow_add-count
overflow_add-count c =
    omega (arith, flag_small (flag (at 7 (get_or c.args.rows.now c.loop-i.i []))))

pub loop-i-preserved : goal.loop-i-preserved
loop-i-preserved c =
    let a = c.args in
    let rows = a.rows.now in
    let b = c.requires.to_in_bounds in
    let h = c.loop-i-test.true in
    let e = c.flight_ok.ensures in
    (search rules, search rules, omega (arith, flag_small (flag (at 7 (get_or rows c.loop-i.i [])))), flying-next rows c.loop-i.i a.to b (flying_ok 0 0 a.next a.freed (slice a.from a.to rows)) c.loop-i.least c.loop-i.count a.next a.freed c.loop-i.invariant.3 h (sym e ∙ not-false c.flight_ok.result c.if-not-flight_ok.false-raw) c.if-dseq-least.false)

pub returns : goal.returns
returns c =
    let a = c.args in
    let rows = a.rows.now in
    let b = c.requires.to_in_bounds in
    flying-end rows c.loop-i.i a.to b (flying_ok 0 0 a.next a.freed (slice a.from a.to rows)) c.loop-i.least c.loop-i.count a.next a.freed c.loop-i.invariant.3 (omega arith) c.loop-i.invariant.1
