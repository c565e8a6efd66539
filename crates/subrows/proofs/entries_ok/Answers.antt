use mathlib.Core.Path.{sym, ◌∙◌}
use mathlib.Core.Bool.{false≢true}
use mathlib.Core.List.{[]}
use borrow.Author.Tests.{not-true, not-false}
use lib.Seq.{slice}
use Rattle.definition.specs.Base.{all}
use Rattle.subrows.specs.Subrows.{row_ok, holder_ok}
use Rattle.subrows.proofs.Tests.{all-stop, all-next, all_end}
use native.Mathlib.Omega.{arith}
use borrow.Author.Rules.{rules}
use Rattle.subrows.proofs.entries_ok.Goals as goal

pub returns-then-not-entry_ok : goal.returns-then-not-entry_ok
returns-then-not-entry_ok c =
    let a = c.args in
    let rows = a.rows.now in
    let b = c.requires.to_in_bounds in
    let h = c.loop-i-test.true in
    let e = c.entry_ok.ensures in record { value = all-stop row_ok rows c.loop-i.i a.to [] b (all row_ok (slice a.from a.to rows)) c.loop-i.invariant.1 h (sym e.value ∙ not-true c.entry_ok.result c.if-not-entry_ok.true-raw); rows_value = λ t. absurd (false≢true t) }

pub loop-i-preserved : goal.loop-i-preserved
loop-i-preserved c =
    let a = c.args in
    let rows = a.rows.now in
    let b = c.requires.to_in_bounds in
    let h = c.loop-i-test.true in
    let e = c.entry_ok.ensures in (
      search rules,
      all-next row_ok rows c.loop-i.i a.to [] b (all row_ok (slice a.from a.to rows)) c.loop-i.invariant.1 h (sym e.value ∙ not-false c.entry_ok.result c.if-not-entry_ok.false-raw),
      all-next holder_ok rows c.loop-i.i a.to [] b (all holder_ok (slice a.from a.to rows)) c.loop-i.invariant.2 h e.row_value,
    )

pub returns : goal.returns
returns c =
    let a = c.args in
    let rows = a.rows.now in
    let b = c.requires.to_in_bounds in record { value = all_end row_ok rows c.loop-i.i a.to [] b (all row_ok (slice a.from a.to rows)) c.loop-i.invariant.1 (omega arith); rows_value = λ t. sym (all_end holder_ok rows c.loop-i.i a.to [] b (all holder_ok (slice a.from a.to rows)) c.loop-i.invariant.2 (omega arith)) }
