use lib.Seq.{slice}
use Rattle.definition.specs.Base.{rising}
use Rattle.subrows.specs.Subrows.{seqs_at}
use Rattle.sound.proofs.Rising.{rise-stop, rise-next, rise-end}
use native.Mathlib.Omega.{arith}
use borrow.Author.Rules.{rules}
use Rattle.sound.proofs.rows_rise.Goals as goal

pub returns-then-seq-last : goal.returns-then-seq-last
returns-then-seq-last c =
    let a = c.args in
    rise-stop a.rows.now c.loop-i.i a.to c.requires.to_in_bounds c.loop-i.last (rising 0 (seqs_at (slice a.from a.to a.rows.now))) c.loop-i.invariant.1 c.loop-i-test.true c.if-seq-last.true

pub loop-i-preserved : goal.loop-i-preserved
loop-i-preserved c =
    let a = c.args in
    (search rules, rise-next a.rows.now c.loop-i.i a.to c.requires.to_in_bounds c.loop-i.last (rising 0 (seqs_at (slice a.from a.to a.rows.now))) c.loop-i.invariant.1 c.loop-i-test.true c.if-seq-last.false)

pub returns : goal.returns
returns c =
    let a = c.args in
    rise-end a.rows.now c.loop-i.i a.to c.requires.to_in_bounds c.loop-i.last (rising 0 (seqs_at (slice a.from a.to a.rows.now))) c.loop-i.invariant.1 (omega arith)
