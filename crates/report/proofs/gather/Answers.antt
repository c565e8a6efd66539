use mathlib.Core.Path.{refl, ap, ◌∙◌}
use mathlib.Core.List.{[], map}
use Prim.Native.Nat.{ℕ, ◌+◌}
use native.Mathlib.Nat.{add-zero}
use lib.ListN.{take, drop, length-set}
use lib.Seq.{sets}
use Rattle.report.specs.Report.{row_block}
use Rattle.report.proofs.Filling.{put-turn, put-end, gathered-many, gathered-at}
use native.Mathlib.Omega.{arith}
use borrow.Author.Rules.{rules}
use Rattle.report.proofs.gather.Goals as goal

pub loop-i-init : goal.loop-i-init
loop-i-init c = let a = c.args in (search rules, refl, ap (λ (k : ℕ). sets a.out.now k (map (row_block a.place) (take a.n (drop a.from a.rows.now)))) (add-zero a.start))

pub loop-i-preserved : goal.loop-i-preserved
loop-i-preserved c =
    let l = c.loop-i in
    let a = c.args in
    let h = c.loop-i-test.true in
    let n = gathered-many a.place a.rows.now a.from a.n c.requires.n_in_bounds in (
      search rules,
      length-set l.out (a.start + l.i) _ ∙ l.invariant.1,
      put-turn (map (row_block a.place) (take a.n (drop a.from a.rows.now))) (row_block a.place []) (a.start + l.i) l.i l.out _ l.invariant.2 (a.start + (l.i + 1)) _ (omega (arith, n, h)) (omega arith)
          (c.block_of.ensures ∙ gathered-at a.place a.rows.now a.from a.n c.requires.n_in_bounds l.i h),
    )

pub returns : goal.returns
returns c =
    let l = c.loop-i in
    let a = c.args in
    put-end (map (row_block a.place) (take a.n (drop a.from a.rows.now))) (row_block a.place []) (a.start + l.i) l.i l.out _ l.invariant.2 (omega (arith, gathered-many a.place a.rows.now a.from a.n c.requires.n_in_bounds))
