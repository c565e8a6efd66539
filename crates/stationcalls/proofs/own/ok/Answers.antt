use mathlib.Core.Path.{refl, sym, ◌∙◌}
use borrow.Author.Tests.{not-true, not-false}
use Rattle.stationcalls.specs.Own.{place_ok}
use Rattle.stationcalls.proofs.Eight.{from_next, own-stop, next-zero, next_past, next-right}
use borrow.Author.Rules.{rules}
use Rattle.stationcalls.proofs.own.ok.Goals as goal

pub loop-k-init : goal.loop-k-init
loop-k-init c = (search rules, refl)

pub returns-then-not-place_ok : goal.returns-then-not-place_ok
returns-then-not-place_ok c = own-stop c.args.own.now c.loop-k.k c.loop-k-test.true c.loop-k.invariant.1 (sym c.place_ok.ensures ∙ not-true _ c.if-not-place_ok.true-raw)

pub loop-k-preserved : goal.loop-k-preserved
loop-k-preserved c = (search rules, from_next (place_ok c.args.own.now) c.loop-k.k c.loop-k-test.true (sym c.place_ok.ensures ∙ not-false _ c.if-not-place_ok.false-raw) ∙ c.loop-k.invariant.1)

pub returns-then-next-lt1 : goal.returns-then-next-lt1
returns-then-next-lt1 c = next-zero c.args.own.now c.loop-k.k c.loop-k-test.false c.loop-k.invariant.1 c.if-next-lt1.true

pub returns-then-next-gt-NUMBERS_END : goal.returns-then-next-gt-NUMBERS_END
returns-then-next-gt-NUMBERS_END c = next_past c.args.own.now c.loop-k.k c.loop-k-test.false c.loop-k.invariant.1 c.if-next-lt1.false c.if-next-gt-NUMBERS_END.true

pub returns : goal.returns
returns c = next-right c.args.own.now c.loop-k.k c.loop-k-test.false c.loop-k.invariant.1 c.if-next-lt1.false c.if-next-gt-NUMBERS_END.false
