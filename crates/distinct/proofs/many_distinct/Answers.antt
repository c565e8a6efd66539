use Rattle.std.proofs.Common.{◌≡◌, refl, sym, ◌∙◌, ◌%◌, get_or, take, replicate, false, true}
use Rattle.std.proofs.Math.Nat.{mod-lt}
use lib.ListN.{length-replicate, length-set}
use Rattle.definition.specs.Base.{member}
use Rattle.distinct.proofs.Laws.{distinct-met, distinct-next, distinct-end, marked-none, marked-new, marked_more}
use Rattle.distinct.proofs.many_distinct.Goals as goal
use Rattle.distinct.proofs.many_distinct.Goals.{else-slots-slot-via-then-slots-slot+else-met, else-slots-slot-via-else-slots-slot}

pub loop-i-init : goal.loop-i-init
loop-i-init g c = (refl, length-replicate g.row.N false, marked-none g.row.N (replicate g.row.N false) c.args.xs.now)

pub returns-then-met : goal.returns-then-met
returns-then-met g c = distinct-met c.args.xs.now c.loop-i.i c.loop-i-test.true c.loop-i.invariant.0 (sym c.met.ensures ∙ c.if-met.true)

pub loop-i-preserved : goal.loop-i-preserved
loop-i-preserved g c =
    let xs = c.args.xs.now in
    let i = c.loop-i.i in
    let h = c.loop-i-test.true in
    let v = c.loop-i.invariant in
    let m : member (get_or xs i 0) (take i xs) ≡ false =
    elim c.else-slots-slot.branch [
      | else-slots-slot-via-then-slots-slot+else-met w ↦ sym w.met.ensures ∙ w.if-met.false
      | else-slots-slot-via-else-slots-slot w ↦ marked-new g.row.N c.loop-i.slots (take i xs) (get_or xs i 0) v.2 w.if-slots-slot.false
    ] in
    (distinct-next xs i h v.0 m, length-set c.loop-i.slots (get_or xs i 0 % g.row.N) true ∙ v.1, marked_more g.row.N (λ x. mod-lt x c.requires) c.loop-i.slots xs i v.1 h v.2)

pub returns : goal.returns
returns g c = distinct-end c.args.xs.now c.loop-i.i c.loop-i-test.false c.loop-i.invariant.0
