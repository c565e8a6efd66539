use mathlib.Core.Path.{refl, ◌∙◌, subst⁻¹}
use mathlib.Core.List.{[]}
use Prim.Native.Nat.{◌+◌}
use lib.ListN.{set, length-set}
use Rattle.definition.specs.Layout.{Row}
use Rattle.stationcalls.proofs.Numbering.{Numbering, none-numbered, one-given, one-lost, numbered, lettered}
use Rattle.stationcalls.proofs.letters.number.Goals as goal
use Rattle.stationcalls.proofs.letters.number.Goals.{then-next-lt-NUMBERS_END, else-next-lt-NUMBERS_END}

pub loop-i-init : goal.loop-i-init
loop-i-init c = (none-numbered c.args.dead.now c.args.n c.args.first c.args.before c.args.letters.now c.requires.0 c.requires.1 c.requires.2 c.requires.3 c.requires.4, refl)

pub loop-i-preserved : goal.loop-i-preserved
loop-i-preserved c =
    let a = c.args in
    let l = c.loop-i in
    elim c.if-next-lt-NUMBERS_END.branch [
      | then-next-lt-NUMBERS_END w ↦ rw (w.letters-is, w.many-is, w.next-is, w.lost-is) (
        subst⁻¹ (λ (x : Row). Numbering a.dead.now a.n a.first a.before (set l.letters l.many x) (l.many + 1) (l.next + 1) l.lost (l.i + 1)) w.letter_of.ensures
            (one-given a.dead.now a.n a.first a.before l.letters l.many l.next l.lost l.i l.invariant.0 _ c.loop-i-test.true w.if-next-lt-NUMBERS_END.true),
        length-set l.letters l.many w.letter_of.result ∙ l.invariant.1,
      )
      | else-next-lt-NUMBERS_END w ↦ rw (w.letters-is, w.many-is, w.next-is, w.lost-is) (
        one-lost a.dead.now a.n a.first a.before l.letters l.many l.next l.lost l.i l.invariant.0 [] c.loop-i-test.true w.one_more-lost.result w.one_more-lost.ensures w.if-next-lt-NUMBERS_END.false,
        l.invariant.1,
      )
    ]

pub shape_of-letters : goal.shape_of-letters
shape_of-letters c = c.loop-i.invariant.1

pub returns : goal.returns
returns c = record { numbers = numbered c.args.dead.now c.args.n c.args.first c.args.before c.loop-i.letters c.loop-i.many c.loop-i.next c.loop-i.lost c.loop-i.i c.loop-i.invariant.0 c.loop-i-test.false; letters = lettered c.args.dead.now c.args.n c.args.first c.args.before c.loop-i.letters c.loop-i.many c.loop-i.next c.loop-i.lost c.loop-i.i c.loop-i.invariant.0 }
