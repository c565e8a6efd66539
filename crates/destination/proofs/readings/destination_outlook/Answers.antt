use mathlib.Core.Path.{◌≡◌, sym, ap, ap₂, ◌∙◌}
use mathlib.Core.List.{List}
use Prim.Native.Nat.{ℕ, ◌<◌}
use native.Mathlib.Omega.{arith}
use lib.ListN.{length, set}
use Rattle.outlook.specs.Outlook.{Outlook, buffer_outlook}
use Rattle.definition.specs.Layout.{lent}
use Rattle.queries.specs.declared.PageLine.{PageLine}
use Rattle.queries.proofs.Filled.{filled, filled_none, filled_more}
use Rattle.outlooks.specs.Plans.{plan_line}
use Rattle.outlooks.proofs.Filled.{answer-is, filled-plan}
use Rattle.destination.proofs.readings.destination_outlook.Goals as goal

pub loop-i-init : goal.loop-i-init
loop-i-init c = (omega arith, sym (filled_none (plan_line c.args.rows.now c.plan-p.result) c.args.lines.now))

pub loop-i-preserved : goal.loop-i-preserved
loop-i-preserved c =
    let l = c.loop-i in
    let p = c.plan-p in
    let less : l.i < length c.args.lines.now = omega (arith, p.ensures.in-room, c.loop-i-test.true) in (
      omega arith,
      ap₂ (λ (xs : List PageLine) (x : PageLine). set xs l.i x) l.invariant.1 c.line_of.ensures
          ∙ filled_more (plan_line c.args.rows.now p.result) c.args.lines.now l.i less,
    )

pub returns : goal.returns
returns c =
    let a = c.args in
    let l = c.loop-i in
    let p = c.plan-p in
    let asked : Outlook = buffer_outlook (lent a.head.now a.subs.now a.rows.now) (length a.lines.now) a.span.earlier a.span.later a.span.from a.span.to in
    let e : l.i ≡ p.result.count = omega arith in (
      answer-is a.rows.now p.result asked (length a.lines.now) p.ensures,
      l.invariant.1
          ∙ ap (filled (plan_line a.rows.now p.result) a.lines.now) e
          ∙ filled-plan a.rows.now p.result asked (length a.lines.now) p.ensures a.lines.now,
    )
