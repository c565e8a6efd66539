use mathlib.Core.Path.{refl, sym, ap, ◌∙◌}
use borrow.Author.Tests.{not-true, not-false}
use lib.ListN.{length, set}
use mir.Syntax.{w32}
use mir.ValLaws.{to_z-of_z}
use Rattle.definition.specs.Destination.{room}
use Prim.Native.Nat.{ℕ}
use Rattle.consumers.specs.declared.Sub.{Sub}
use Rattle.consumers.specs.Consumers.{sub_words}
use Rattle.pulls.specs.Pulls.{sub_prefetch}
use Rattle.state.proofs.Leaves.{unless-touched}
use Rattle.state.proofs.Answers.{untouched}
use Rattle.pulls.proofs.Reword.{within-fits}
use Rattle.pulls.proofs.Outcomes.{prefetch-missing, prefetch-put}
use Rattle.pulls.proofs.set_prefetch.Goals as goal

pub returns-then-not-fits : goal.returns-then-not-fits
returns-then-not-fits c =
    let a = c.args in
    let f = sym c.fits.ensures ∙ not-true _ c.if-not-fits.true-raw in
    unless-touched _ _ _ a.d a.d a.subs.now a.rows.now a.events.now a.subs.now a.rows.now a.events.now f (untouched a.d a.subs.now a.rows.now a.events.now)

pub returns-in_default : goal.returns-in_default
returns-in_default c =
    let a = c.args in
    let t = sym c.fits.ensures ∙ not-false _ c.if-not-fits.false-raw in
    let w = within-fits a.subs.now a.d (length a.rows.now) (length a.events.now) t in
    let no = sym c.position.ensures ∙ c.in_default.is in
    prefetch-missing _ t a.id a.d a.subs.now a.rows.now a.events.now w no _ _ t

pub returns : goal.returns
returns c =
    let a = c.args in
    let t = sym c.fits.ensures ∙ not-false _ c.if-not-fits.false-raw in
    let w = within-fits a.subs.now a.d (length a.rows.now) (length a.events.now) t in
    let at = sym c.position.ensures ∙ c.in-Some.is in
    let made = c.store.ensures ∙ ap (λ (y : Sub). set a.subs.now c.in-Some.i (sub_words y)) (c.with_prefetch.ensures ∙ ap (λ (n : ℕ). sub_prefetch n c.load-s.result) (c.room.ensures ∙ ap room (to_z-of_z w32 a.prefetch c.ranges.prefetch))) in
    prefetch-put _ t a.id a.d a.subs.now a.rows.now a.events.now w _ at c.load-s.result c.load-s.ensures refl a.prefetch _ made
