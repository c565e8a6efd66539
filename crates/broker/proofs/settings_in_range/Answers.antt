use mathlib.Core.Path.{sym, ◌∙◌}
use borrow.Author.Rules.{rules}
use mir.Syntax.{w64}
use mir.Val.{SFits}
use mir.ValLaws.{to_z-of_z}
use Rattle.broker.specs.Broker.{settings_in_range}
use Rattle.broker.proofs.settings_in_range.Goals as goal

pub returns-then-within : goal.returns-then-within
unfolding settings_in_range
returns-then-within c =
    let o = c.args.o in
    let f : SFits w64 o.default_ttl = search rules in
    let g : SFits w64 o.ttl_ceiling = search rules in
    let e = rw (to_z-of_z w64 o.default_ttl f) at c.within.ensures in
    rw (sym e ∙ c.if-within.true) (rw (to_z-of_z w64 o.ttl_ceiling g) at c.within-then-within.ensures)

pub returns-else-within : goal.returns-else-within
unfolding settings_in_range
returns-else-within c =
    let o = c.args.o in
    let f : SFits w64 o.default_ttl = search rules in
    let e = rw (to_z-of_z w64 o.default_ttl f) at c.within.ensures in
    rw (sym e ∙ c.if-within.false) c.if-within.false
