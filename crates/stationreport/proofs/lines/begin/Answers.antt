use mathlib.Core.Path.{refl, sym, ap, ◌∙◌}
use Prim.Native.Nat.{◌+◌}
use mathlib.Core.List.{[]}
use lib.ListN.{length, get_or, length-set}
use Rattle.stationreport.specs.Gathering.{anew_row}
use Rattle.stationreport.proofs.EachPlace.{each_from, each_set, each_same, each_all, anew-here, anew-elsewhere}
use native.Mathlib.Omega.{arith}
use Rattle.stationreport.proofs.lines.begin.Goals as goal
use Rattle.stationreport.proofs.lines.begin.Goals.{then-all-j, else-all-j}

pub loop-j-init : goal.loop-j-init
loop-j-init c = (refl, omega arith, refl)

pub loop-j-preserved : goal.loop-j-preserved
loop-j-preserved c =
    let l = c.loop-j in
    let a = c.args in
    let f = anew_row a.number a.all in
    let row = get_or l.gone l.j [] in
    elim c.if-all-j.branch [
      | then-all-j w ↦ (ap length w.gone-is ∙ length-set l.gone l.j _ ∙ l.invariant.0, omega arith, ap (each_from f (l.j + 1)) w.gone-is ∙ each_set f l.j l.gone (omega arith) _ (anew-here a.number a.all l.j row w.if-all-j.true) ∙ l.invariant.2)
      | else-all-j w ↦ (ap length w.gone-is ∙ l.invariant.0, omega arith, ap (each_from f (l.j + 1)) w.gone-is ∙ each_same f l.j l.gone (omega arith) (anew-elsewhere a.number a.all l.j row w.if-all-j.false w.sized.ensures) ∙ l.invariant.2)
    ]

pub returns : goal.returns
returns c =
    let l = c.loop-j in
    let a = c.args in
    sym (each_all (anew_row a.number a.all) l.j l.gone (omega arith)) ∙ l.invariant.2
