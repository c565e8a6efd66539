use mathlib.Core.Path.{sym, ◌∙◌}
use Rattle.leafcases.specs.Compare.{admission_same}
use Rattle.leafcases.proofs.cases.admission_same.Goals as goal

pub returns-in_default : goal.returns-in_default
unfolding admission_same
returns-in_default c = rw c.in_default.is

pub returns-then-flag_is : goal.returns-then-flag_is
unfolding admission_same
returns-then-flag_is c =
    rw (c.in-Ok.is, sym c.flag_is.ensures ∙ c.if-flag_is.true) c.flag_is-then-flag_is.ensures

pub returns-else-flag_is : goal.returns-else-flag_is
unfolding admission_same
returns-else-flag_is c =
    rw (c.in-Ok.is, sym c.flag_is.ensures ∙ c.if-flag_is.false) c.if-flag_is.false
