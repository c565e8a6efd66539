use borrow.Author.Tests.{eq-eqb, ne_eqb}
use mathlib.Core.Path.{sym, ◌∙◌}
use mir.Syntax.{w64}
use mir.Val.{SFits}
use mir.ValLaws.{to_z-of_z}
use Rattle.leafcases.specs.Compare.{arrival_same}
use borrow.Author.Rules.{rules}
use Rattle.leafcases.proofs.cases.arrival_same.Goals as goal

pub returns-in_default : goal.returns-in_default
unfolding arrival_same
returns-in_default c = rw c.in_default.is

pub returns-then-not-flag_is : goal.returns-then-not-flag_is
unfolding arrival_same
returns-then-not-flag_is c = rw (c.in-Ok.is, sym c.flag_is.ensures ∙ c.if-not-flag_is.true)

pub returns-then-word_of-expiration : goal.returns-then-word_of-expiration
unfolding arrival_same
returns-then-word_of-expiration c =
    let a = c.in-Ok.a.times in
    let f : SFits w64 a.expiration = search rules in
    let g : SFits w64 a.timestamp = search rules in
    let d = rw (to_z-of_z w64 a.expiration f) at c.word_of.ensures in
    let e = rw (to_z-of_z w64 a.timestamp g) at c.word_of-then-word_of-expiration.ensures in
    rw (c.in-Ok.is, sym c.flag_is.ensures ∙ c.if-not-flag_is.false, eq-eqb _ _ (sym d ∙ c.if-word_of-expiration.true), e)

pub returns-else-word_of-expiration : goal.returns-else-word_of-expiration
unfolding arrival_same
returns-else-word_of-expiration c =
    let a = c.in-Ok.a.times in
    let f : SFits w64 a.expiration = search rules in
    let d = rw (to_z-of_z w64 a.expiration f) at c.word_of.ensures in
    rw (c.in-Ok.is, sym c.flag_is.ensures ∙ c.if-not-flag_is.false, d, ne_eqb _ _ (λ z. c.if-word_of-expiration.false (d ∙ z)))
