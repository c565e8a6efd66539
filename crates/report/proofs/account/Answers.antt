use mathlib.Core.Path.{refl, sym, ap, ◌∙◌}
use mathlib.Core.List.{List, ◌++◌}
use lib.Seq.{length-take-le}
use native.Mathlib.Omega.{arith}
use lib.ListN.{length, drop}
use Rattle.fates.specs.Blocks.{Block}
use Rattle.report.proofs.Accounting.{long-lists, accounted}
use Rattle.report.proofs.account.Goals as goal

pub leave_all-k-requires : goal.leave_all-k-requires
leave_all-k-requires c =
    let a = c.args in
    let g = long-lists a.n (length a.held.now) (length a.left.now) c.requires.left_value in
    omega (arith, g.held-long, g.left-long, g.few, c.gather_all-m.ensures.upper_bound)

pub slice_bounds-copy_from_slice-end : goal.slice_bounds-copy_from_slice-end
slice_bounds-copy_from_slice-end c =
    let a = c.args in
    let g = long-lists a.n (length a.held.now) (length a.left.now) c.requires.left_value in
    omega (arith, g.held-long, c.gather_all-m.ensures.upper_bound)

pub slice_bounds-copy_from_slice-end-2 : goal.slice_bounds-copy_from_slice-end-2
slice_bounds-copy_from_slice-end-2 c =
    let a = c.args in
    let g = long-lists a.n (length a.held.now) (length a.left.now) c.requires.left_value in
    let m = c.gather_all-m in
    sym (length-take-le m.result a.held.now (omega (arith, g.held-long, m.ensures.upper_bound)))

pub copy_from_slice-requires : goal.copy_from_slice-requires
copy_from_slice-requires c =
    let a = c.args in
    let g = long-lists a.n (length a.held.now) (length a.left.now) c.requires.left_value in
    let m = c.gather_all-m in
    length-take-le m.result a.held.now (omega (arith, g.held-long, m.ensures.upper_bound)) ∙ sym (length-take-le m.result m.new.out (omega (arith, m.ensures.upper_bound, m.auto.out)))

pub returns : goal.returns
returns c =
    let l = c.leave_all-k in
    let g = c.gather_all-m in
    let a = c.args in
    accounted a.d a.subs.now a.rows.now a.code a.words a.n a.held.now a.left.now c.requires.left_value _ _ g.result g.ensures.value g.ensures.upper_bound g.ensures.out_after refl l.result _ _ l.ensures.value l.ensures.upper_bound l.ensures.left_after (ap (λ (x : List Block). x ++ drop g.result a.held.now) c.copy_from_slice.ensures.after)
