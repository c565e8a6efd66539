use mathlib.Core.Path.{◌≡◌, sym, ap, ap₂, ◌∙◌}
use mathlib.Core.List.{List}
use Prim.Native.Nat.{ℕ, ◌<◌}
use native.Mathlib.Omega.{arith}
use lib.ListN.{length, set}
use Rattle.definition.specs.Queries.{Page}
use Rattle.definition.specs.Layout.{buffer_page, lent}
use Rattle.queries.specs.declared.PagePlan.{PagePlan}
use Rattle.queries.specs.declared.Paged.{Paged}
use Rattle.queries.specs.declared.PageLine.{PageLine}
use Rattle.queries.specs.Pages.{page_line_at}
use Rattle.queries.proofs.Filled.{filled, filled_none, filled_more, filled_is}
use Rattle.destination.proofs.exported.destination_page.Goals as goal

pub loop-i-init : goal.loop-i-init
loop-i-init c = (omega arith, sym (filled_none (page_line_at c.args.rows.now c.plan-p.result.from) c.args.lines.now))

pub loop-i-preserved : goal.loop-i-preserved
loop-i-preserved c =
    let l = c.loop-i in
    let p = c.plan-p in
    let less : l.i < length c.args.lines.now = omega (arith, p.ensures.page_planned.in-room, c.loop-i-test.true) in (
      omega arith,
      ap₂ (λ (xs : List PageLine) (x : PageLine). set xs l.i x) l.invariant.1 c.line_at.ensures
          ∙ filled_more (page_line_at c.args.rows.now p.result.from) c.args.lines.now l.i less,
    )

pub returns : goal.returns
returns c =
    let l = c.loop-i in
    let p = c.plan-p in
    let asked : Page = buffer_page (lent c.args.head.now c.args.subs.now c.args.rows.now) (length c.args.lines.now) c.args.offset c.args.limit in
    let e : l.i ≡ p.result.count = omega arith in (
      ap (λ (r : PagePlan). answered r) p.ensures.value,
      l.invariant.1
          ∙ ap (filled (page_line_at c.args.rows.now p.result.from) c.args.lines.now) e
          ∙ filled_is c.args.rows.now p.result.from asked.lines c.args.lines.now p.result.count p.ensures.page_planned.in_rows p.ensures.page_planned.lines (ap (λ (r : PagePlan). r.count) p.ensures.value),
    )
  where
    answered : PagePlan → Paged
    answered r = record { refusal = r.refusal; total = r.total; count = r.count }
