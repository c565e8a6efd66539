use mathlib.Core.Path.{sym, ◌∙◌}
use Rattle.returns.proofs.Answers.{present-yes, present-no}
use Rattle.returns.proofs.is_present.Goals as goal

pub returns-in-Some : goal.returns-in-Some
returns-in-Some c =
    let a = c.args in
    present-yes a.id a.d a.subs.now _ (sym c.position-found.ensures ∙ c.in-Some.is)

pub returns-in-None : goal.returns-in-None
returns-in-None c =
    let a = c.args in
    present-no a.id a.d a.subs.now (sym c.position-found.ensures ∙ c.in-None.is)
