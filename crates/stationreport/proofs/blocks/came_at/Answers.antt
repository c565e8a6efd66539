use mathlib.Core.Path.{refl, sym, ap, ap₂, ◌∙◌}
use mathlib.Core.List.{List, []}
use Prim.Native.Nat.{ℕ, ◌+◌}
use lib.ListN.{length, get_or, length-set}
use lib.Seq.{sets, slice}
use Rattle.subrows.proofs.Tests.{part_end}
use Rattle.fates.specs.Blocks.{Block}
use Rattle.report.proofs.Going.{put_one}
use Rattle.stationreport.specs.Gathering.{stored_row}
use Rattle.stationreport.proofs.Came.{stored_to, stored_here, stored-elsewhere, came-listed}
use native.Mathlib.Omega.{arith}
use borrow.Author.Rules.{rules}
use Rattle.stationreport.proofs.blocks.came_at.Goals as goal
use Rattle.stationreport.proofs.blocks.came_at.Goals.{then-t-j, else-t-j}

pub loop-i-init : goal.loop-i-init
loop-i-init c = (search rules, search rules, refl, refl, refl)

pub loop-i-preserved : goal.loop-i-preserved
loop-i-preserved c =
    let l = c.loop-i in
    let a = c.args in
    let later = stored_to a.j (slice (l.i + 1) a.n a.told.now) in
    elim c.if-t-j.branch [
      | then-t-j w ↦
          let e = stored_here a.j a.told.now l.i a.n c.requires.0 c.loop-i-test.true w.if-t-j.true in (
            search rules,
            omega (arith, w.k-is),
            ap length w.list-is ∙ length-set l.list l.k _ ∙ l.invariant.2,
            omega (arith, w.k-is, l.invariant.3, ap length e),
            ap₂ (λ (x : List Block) (k : ℕ). sets x k later) w.list-is w.k-is ∙ put_one _ (stored_row (get_or a.told.now l.i [])) later l.list _ l.k refl (sym (ap (sets l.list l.k) e) ∙ l.invariant.4),
          )
      | else-t-j w ↦
          let e = stored-elsewhere a.j a.told.now l.i a.n c.requires.0 c.loop-i-test.true w.if-t-j.false in (
            search rules,
            omega (arith, w.k-is),
            ap length w.list-is ∙ l.invariant.2,
            omega (arith, w.k-is, l.invariant.3, ap length e),
            ap₂ (λ (x : List Block) (k : ℕ). sets x k later) w.list-is w.k-is ∙ ap (sets l.list l.k) (sym e) ∙ l.invariant.4,
          )
    ]

pub returns : goal.returns
returns c =
    let l = c.loop-i in
    let a = c.args in
    let e = ap (stored_to a.j) (part_end a.told.now l.i a.n (omega arith)) in
    came-listed a.j a.number a.code a.words a.told.now a.n c.brought-k.ensures c.requires.1 (omega (arith, l.invariant.1)) (omega (arith, l.invariant.3, ap length e)) (sym (ap (sets l.list l.k) e) ∙ l.invariant.4)
