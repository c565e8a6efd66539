use mathlib.Core.Path.{◌≡◌, refl, sym, ap, ◌∙◌}
use mathlib.Core.List.{[]}
use Prim.Native.Nat.{ℕ, ◌≤◌, min}
use lib.ListN.{length, take, length-set}
use lib.Seq.{length-take-le}
use Rattle.stationcalls.specs.All.{rows_told, numbers_got}
use Rattle.stationcalls.proofs.Filling.{none_filled, one-filled}
use Rattle.stationcalls.proofs.Becoming.{rows-length, row_of, over-list}
use native.Mathlib.Omega.{arith}
use Rattle.stationcalls.proofs.letters.tell_letters.Goals as goal

at-end : (i n : ℕ) → i ≤ n → n ≤ i → i ≡ n
at-end i n h g = omega (arith, h, g)

pub loop-i-init : goal.loop-i-init
loop-i-init c =
    let a = c.args in
    let p = c.requires in (
      none_filled a.told.now (rows_told (take a.n a.dead.now) (numbers_got a.many a.letters.now) (take a.many a.places.now)) c.min-end.result (omega (arith, c.min-end.ensures, rows-length (take a.n a.dead.now) (numbers_got a.many a.letters.now) (take a.many a.places.now), length-take-le a.n a.dead.now p.0)) (omega (arith, c.min-end.ensures)),
      omega (arith, c.min-end.ensures),
      p.0,
      p.1,
      p.2,
      refl,
    )

pub loop-i-preserved : goal.loop-i-preserved
loop-i-preserved c =
    let a = c.args in
    let l = c.loop-i in
    let less = c.loop-i-test.true in (
      one-filled a.told.now (rows_told (take a.n a.dead.now) (numbers_got a.many a.letters.now) (take a.many a.places.now)) c.min-end.result l.told l.i c.told_at.result [] l.invariant.0 less (c.told_at.ensures ∙ row_of a.dead.now a.n (numbers_got a.many a.letters.now) (take a.many a.places.now) l.i (omega (arith, less, l.invariant.1)) l.invariant.2),
      l.invariant.1,
      l.invariant.2,
      l.invariant.3,
      l.invariant.4,
      length-set l.told l.i c.told_at.result ∙ l.invariant.5,
    )

pub returns : goal.returns
returns c =
    let a = c.args in
    let l = c.loop-i in
    let f = l.invariant.0 in
    let e : c.min-end.result ≡ min (length (rows_told (take a.n a.dead.now) (numbers_got a.many a.letters.now) (take a.many a.places.now))) (length a.told.now) = c.min-end.ensures ∙ ap (λ (m : ℕ). min m (length a.told.now)) (sym (rows-length (take a.n a.dead.now) (numbers_got a.many a.letters.now) (take a.many a.places.now) ∙ length-take-le a.n a.dead.now l.invariant.2)) in
    f.filled ∙ over-list a.told.now (rows_told (take a.n a.dead.now) (numbers_got a.many a.letters.now) (take a.many a.places.now)) l.i (at-end l.i c.min-end.result f.few c.loop-i-test.false ∙ e)
