use mathlib.Core.Path.{refl, sym, ap, ap₂, ◌∙◌}
use mathlib.Core.List.{List, []}
use Prim.Native.Nat.{ℕ, ◌+◌}
use lib.ListN.{length, take, get_or, length-set}
use lib.Seq.{sets, slice}
use Rattle.fates.specs.Blocks.{Block, went_as}
use Rattle.report.specs.Report.{leavers_of}
use Rattle.report.proofs.Going.{stays, goes, gone-through, put_one}
use native.Mathlib.Omega.{arith}
use borrow.Author.Rules.{rules}
use Rattle.report.proofs.leave.Goals as goal
use Rattle.report.proofs.leave.Goals.{in-Some, in-None}

pub loop-i-init : goal.loop-i-init
loop-i-init c = (search rules, search rules, search rules, refl, refl, refl)

pub loop-i-preserved : goal.loop-i-preserved
loop-i-preserved c =
    let l = c.loop-i in
    let a = c.args in
    let now = take a.m a.held.now in
    let later = leavers_of a.code a.words now (slice (l.i + 1) a.n a.blocks.now) in
    elim c.match-find.branch [
      | in-Some w ↦
          let e = stays a.code a.words now a.blocks.now l.i a.n c.requires.n_bound c.loop-i-test.true (sym w.in-Some.ensures.found) in (
            search rules,
            omega (arith, w.hint-is, w.in-Some.ensures.place),
            omega (arith, w.k-is),
            ap length w.left-is ∙ l.invariant.3,
            omega (arith, w.k-is, l.invariant.4, ap length e),
            ap₂ (λ (x : List Block) (k : ℕ). sets x k later) w.left-is w.k-is ∙ ap (sets l.left l.k) (sym e) ∙ l.invariant.5,
          )
      | in-None w ↦
          let e = goes a.code a.words now a.blocks.now l.i a.n c.requires.n_bound c.loop-i-test.true (sym w.in-None.ensures.found) in (
            search rules,
            omega (arith, w.hint-is),
            omega (arith, w.k-is),
            ap length w.left-is ∙ length-set l.left l.k w.went.result ∙ l.invariant.3,
            omega (arith, w.k-is, l.invariant.4, ap length e),
            ap₂ (λ (x : List Block) (k : ℕ). sets x k later) w.left-is w.k-is ∙ put_one w.went.result (went_as a.code a.words (get_or a.blocks.now l.i [])) later l.left (sets a.left.now a.start (leavers_of a.code a.words now (take a.n a.blocks.now))) l.k w.went.ensures (sym (ap (sets l.left l.k) e) ∙ l.invariant.5),
          )
    ]

pub returns : goal.returns
returns c =
    let l = c.loop-i in
    let a = c.args in
    let e = gone-through a.code a.words (take a.m a.held.now) a.blocks.now l.i a.n c.requires.n_bound (omega arith) in record { value = omega (arith, l.invariant.4, ap length e); upper_bound = omega arith; left_after = sym (ap (sets l.left l.k) e) ∙ l.invariant.5 }
