use mathlib.Core.Path.{sym, ap, ◌∙◌}
use borrow.Author.Tests.{not-true, not-false}
use Rattle.layouts.specs.Layouts.{says}
use Rattle.layouts.proofs.Rows.{table-ranged}
use Rattle.layouts.proofs.Sums.{none-twice}
use Rattle.layouts.proofs.Answers.{check-range, check-gap, check-overlap, check-fine}
use native.Mathlib.Omega.{arith}
use Rattle.layouts.proofs.check.Goals as goal

pub returns-then-not-in_range : goal.returns-then-not-in_range
returns-then-not-in_range c =
    let r = c.in_range in
    sym (check-range c.args.table.now (sym r.ensures ∙ not-true r.result c.if-not-in_range.true-raw))

pub gap-missing-requires : goal.gap-missing-requires
gap-missing-requires c =
    let r = c.in_range in
    sym r.ensures ∙ not-false r.result c.if-not-in_range.false-raw

pub returns-then-missing-lt-LAYOUTS : goal.returns-then-missing-lt-LAYOUTS
returns-then-missing-lt-LAYOUTS c =
    let g = c.gap-missing in
    let r = c.in_range in
    let t = c.args.table.now in
    ap (says 12) g.ensures ∙ sym (check-gap t (sym r.ensures ∙ not-false r.result c.if-not-in_range.false-raw) (omega (arith, g.ensures, c.if-missing-lt-LAYOUTS.true)))

pub sizes-requires : goal.sizes-requires
sizes-requires c =
    let r = c.in_range in
    sym r.ensures ∙ not-false r.result c.if-not-in_range.false-raw

pub returns-then-sizes-eq-LAYOUTS : goal.returns-then-sizes-eq-LAYOUTS
returns-then-sizes-eq-LAYOUTS c =
    let g = c.gap-missing in
    let r = c.in_range in
    let t = c.args.table.now in
    let e = sym r.ensures ∙ not-false r.result c.if-not-in_range.false-raw in
    let h = rw g.ensures at c.if-missing-lt-LAYOUTS.false in
    let o = none-twice t (table-ranged t e) h (sym c.sizes.ensures ∙ c.if-sizes-eq-LAYOUTS.true) in
    sym (check-fine t e h (omega (arith, o)))

pub overlap-twice-requires : goal.overlap-twice-requires
overlap-twice-requires c =
    let r = c.in_range in
    sym r.ensures ∙ not-false r.result c.if-not-in_range.false-raw

pub returns-then-twice-lt-LAYOUTS : goal.returns-then-twice-lt-LAYOUTS
returns-then-twice-lt-LAYOUTS c =
    let o = c.overlap-twice in
    let g = c.gap-missing in
    let r = c.in_range in
    let t = c.args.table.now in
    let e = sym r.ensures ∙ not-false r.result c.if-not-in_range.false-raw in
    let h = rw g.ensures at c.if-missing-lt-LAYOUTS.false in
    ap (says 13) o.ensures ∙ sym (check-overlap t e h (omega (arith, o.ensures, c.if-twice-lt-LAYOUTS.true)))

pub returns : goal.returns
returns c =
    let o = c.overlap-twice in
    let g = c.gap-missing in
    let r = c.in_range in
    let t = c.args.table.now in
    let e = sym r.ensures ∙ not-false r.result c.if-not-in_range.false-raw in
    let h = rw g.ensures at c.if-missing-lt-LAYOUTS.false in
    sym (check-fine t e h (omega (arith, o.ensures, c.if-twice-lt-LAYOUTS.false)))
