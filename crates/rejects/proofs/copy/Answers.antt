use Rattle.std.proofs.Common.{arith, Bool, sym, ap, ◌≡◌, ◌∙◌, ℕ, ◌+◌, ◌-◌, ◌<◌}
use Rattle.definition.specs.Layout.{Row}
use Rattle.reserved.proofs.Loops.{row_in, row_count}
use Rattle.rejects.specs.Rejects.{letter_row}
use Rattle.rejects.proofs.Copying.{copy_start, copy-hit, copy-miss, copy-end}
use Rattle.rejects.proofs.copy.Goals as goal
use Rattle.rejects.proofs.copy.Goals.{then-dies, else-dies}

pub loop-row-init : goal.loop-row-init
loop-row-init c =
    let a = c.args in
    let e : a.from + 0 ≡ a.from = omega arith in
    rw e (copy_start (letter_row a.gone a.id a.p) a.rows.now a.from a.to a.out.now c.requires.0)

pub loop-row-preserved : goal.loop-row-preserved
loop-row-preserved c =
    let a = c.args in
    let l = c.loop-row in
    let pre = c.requires in
    let q : Row → Bool = letter_row a.gone a.id a.p in
    let less : l.row-index < a.to - a.from = omega (arith, row_count a.rows.now a.from a.to pre.1) in
    let at = row_in a.rows.now a.from a.to l.row-index less in
    let i : ℕ = a.from + l.row-index in
    let e : a.from + (l.row-index + 1) ≡ i + 1 = omega arith in
    elim c.if-dies.branch [
      | then-dies w ↦ rw (e, w.out-is, w.n-is, at) (copy-hit q a.rows.now a.from a.to a.out.now i l.n l.out l.invariant (omega arith) pre.1 pre.2 (ap q (sym at) ∙ sym c.dies.ensures ∙ w.if-dies.true))
      | else-dies w ↦ rw (e, w.out-is, w.n-is) (copy-miss q a.rows.now a.from a.to a.out.now i l.n l.out l.invariant (omega arith) pre.1 pre.2 (ap q (sym at) ∙ sym c.dies.ensures ∙ w.if-dies.false))
    ]

pub returns : goal.returns
returns c =
    let a = c.args in
    let l = c.loop-row in
    let pre = c.requires in
    copy-end (letter_row a.gone a.id a.p) a.rows.now a.from a.to a.out.now (a.from + l.row-index) l.n l.out l.invariant (omega (arith, row_count a.rows.now a.from a.to pre.1)) pre.2
