use mathlib.Core.Path.{sym, ap, ◌∙◌}
use mathlib.Core.List.{List}
use lib.Seq.{set_split}
use Rattle.fates.specs.Blocks.{Block}
use Rattle.report.specs.Report.{list_with}
use Rattle.stationreport.proofs.Shown.{none-listed}
use Rattle.stationreport.proofs.Came.{came-elsewhere, came-none, came-own}
use lib.ListN.{length}
use native.Mathlib.Omega.{arith}
use Rattle.stationreport.proofs.blocks.brought.Goals as goal

pub returns-then-number-j : goal.returns-then-number-j
returns-then-number-j c =
    let a = c.args in
    none-listed (came-elsewhere a.j a.number a.code a.words c.if-number-j.true)

pub returns-then-code-ne-ENQUEUE : goal.returns-then-code-ne-ENQUEUE
returns-then-code-ne-ENQUEUE c =
    let a = c.args in
    none-listed (came-none a.j a.number a.code a.words c.if-number-j.false c.if-code-ne-ENQUEUE.true)

pub returns : goal.returns
returns c =
    let a = c.args in
    let e = came-own a.j a.number a.code a.words c.if-number-j.false c.if-code-ne-ENQUEUE.false in
    record { count = sym (ap length e); few = omega arith; first = set_split a.list.now 0 _ c.requires ∙ sym (ap (λ (l : List Block). list_with l a.list.now) e) }
