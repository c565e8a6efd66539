use Prim.Native.Nat.{◌≤◌, ◌<◌}
use mathlib.Core.Path.{◌≡◌, sym, ◌∙◌}
use native.Mathlib.Omega.{arith}
use borrow.Author.Tests.{le-leb, lt-leb, eq-eqb, ne_eqb, leb-false}
use lib.Dec.{leb}
use lib.ListN.{length}
use Rattle.words.proofs.Tests.{by-test}
use Rattle.callfile.specs.Blocks.{number_at, check, good, calls_in}
use Rattle.callfile.proofs.calls_in.Goals as goal

pub returns-then-block-lt-BLOCK : goal.returns-then-block-lt-BLOCK
unfolding calls_in good
returns-then-block-lt-BLOCK c = rw (lt-leb 512 (length c.args.block.now) c.if-block-lt-BLOCK.true)

pub returns-then-got-ne-BLOCK : goal.returns-then-got-ne-BLOCK
unfolding calls_in good
returns-then-got-ne-BLOCK c =
    let a = c.args in
    rw (le-leb 512 (length a.block.now) c.if-block-lt-BLOCK.false, ne_eqb a.got 512 c.if-got-ne-BLOCK.true)

pub returns-then-count-gt7 : goal.returns-then-count-gt7
unfolding calls_in good
returns-then-count-gt7 c =
    let a = c.args in
    let m : 7 < number_at 504 a.block.now = omega arith in
    rw (le-leb 512 (length a.block.now) c.if-block-lt-BLOCK.false, eq-eqb a.got 512 c.if-got-ne-BLOCK.false, lt-leb (number_at 504 a.block.now) 7 m)

pub returns-then-number_at-check_of : goal.returns-then-number_at-check_of
unfolding calls_in good
returns-then-number_at-check_of c =
    let a = c.args in
    let m : number_at 504 a.block.now ≤ 7 = omega arith in
    let n : number_at 508 a.block.now ≡ check a.block.now → ⊥ = λ e. c.if-number_at-check_of.true (c.number_at.ensures.0 ∙ e ∙ sym c.check_of.ensures) in
    rw (le-leb 512 (length a.block.now) c.if-block-lt-BLOCK.false, eq-eqb a.got 512 c.if-got-ne-BLOCK.false, le-leb (number_at 504 a.block.now) 7 m, ne_eqb (number_at 508 a.block.now) (check a.block.now) n)

pub returns : goal.returns
unfolding calls_in good
returns c =
    let a = c.args in
    let m : number_at 504 a.block.now ≤ 7 = omega arith in
    let e : number_at 508 a.block.now ≡ check a.block.now = sym c.number_at.ensures.0 ∙ c.if-number_at-check_of.false ∙ c.check_of.ensures in
    rw (le-leb 512 (length a.block.now) c.if-block-lt-BLOCK.false, eq-eqb a.got 512 c.if-got-ne-BLOCK.false, le-leb (number_at 504 a.block.now) 7 m, eq-eqb (number_at 508 a.block.now) (check a.block.now) e)
    (by-test (leb 1 (number_at 504 a.block.now))
    (λ t. rw t c.number_at-count.ensures.0)
    (λ t. rw t (omega (arith, leb-false 1 (number_at 504 a.block.now) t))))
