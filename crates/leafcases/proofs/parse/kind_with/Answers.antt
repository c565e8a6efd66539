use mathlib.Core.Path.{sym, ◌∙◌}
use borrow.Author.Tests.{eq-eqb, ne_eqb}
use Rattle.leafcases.specs.Parse.{kind_with, numbers_wanted}
use Rattle.leafcases.proofs.parse.kind_with.Goals as goal

pub returns-then-count-wanted : goal.returns-then-count-wanted
unfolding kind_with
returns-then-count-wanted c =
    let a = c.args in
    rw (eq-eqb a.count (numbers_wanted a.kind) (c.if-count-wanted.true ∙ c.wanted.ensures))

pub returns-else-count-wanted : goal.returns-else-count-wanted
unfolding kind_with
returns-else-count-wanted c =
    let a = c.args in
    rw (ne_eqb a.count (numbers_wanted a.kind) (λ e. c.if-count-wanted.false (e ∙ sym c.wanted.ensures)))
