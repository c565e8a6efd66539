use mathlib.Core.Path.{◌≡◌, refl, subst}
use mathlib.Core.Bool.{true}
use Prim.Native.Nat.{ℕ}
use Rattle.definition.specs.Base.{ascending}
use Rattle.sound.specs.Sound.{SameFrom}
use lib.Seq.{slice}
use Rattle.subrows.specs.Subrows.{seqs_at}
use Rattle.sound.proofs.Rising.{same_next, ascends-next, met_at, met-nowhere}
use native.Mathlib.Omega.{arith}
use borrow.Author.Rules.{rules}
use Rattle.sound.proofs.not_below.Goals as goal

pub loop-i-init : goal.loop-i-init
loop-i-init c = (search rules, λ y t. refl, c.requires.rows_value)

pub returns-then-x-row : goal.returns-then-x-row
returns-then-x-row c =
    let a = c.args in
    let v = c.loop-i.invariant in record { upper_bound = v.0; same_from = v.1; rows_value_2 = v.2; rows_value_3 = met_at a.rows.now c.loop-i.i a.to c.requires.to_in_bounds v.2 a.x c.loop-i-test.true c.if-x-row.true }

pub loop-i-preserved : goal.loop-i-preserved
loop-i-preserved c =
    let a = c.args in
    let v = c.loop-i.invariant in
    let h = c.loop-i-test.true in (
      search rules,
      same_next a.rows.now c.loop-i.i a.to c.requires.to_in_bounds a.x (seqs_at (slice a.from a.to a.rows.now)) v.1 h c.if-x-row.false,
      ascends-next a.rows.now c.loop-i.i a.to c.requires.to_in_bounds v.2 h,
    )

pub returns : goal.returns
returns c =
    let a = c.args in
    let rows = a.rows.now in
    let v = c.loop-i.invariant in
    let e : c.loop-i.i ≡ a.to = omega arith in record {
      upper_bound = omega arith;
      same_from = subst (λ (j : ℕ). SameFrom a.x (seqs_at (slice a.from a.to rows)) (seqs_at (slice j a.to rows))) e v.1;
      rows_value_2 = subst (λ (j : ℕ). ascending (seqs_at (slice j a.to rows)) ≡ true) e v.2;
      rows_value_3 = met-nowhere rows a.to a.to c.requires.to_in_bounds a.x refl;
    }
