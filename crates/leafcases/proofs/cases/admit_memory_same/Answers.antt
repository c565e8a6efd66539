use mathlib.Core.Path.{sym, ◌∙◌}
use Rattle.leafcases.specs.Compare.{admit_memory_same}
use Rattle.leafcases.proofs.cases.admit_memory_same.Goals as goal

pub returns-then-not-flag_is : goal.returns-then-not-flag_is
unfolding admit_memory_same
returns-then-not-flag_is c = rw (sym c.flag_is.ensures ∙ c.if-not-flag_is.true)

pub returns : goal.returns
unfolding admit_memory_same
returns c =
    rw (sym c.flag_is.ensures ∙ c.if-not-flag_is.false) (c.admission_same.ensures ∙ rw c.admit_memory-a.ensures)
