use mathlib.Core.Path.{refl, sym, ap, ◌∙◌}
use borrow.Author.Tests.{not-true, not-false}
use lib.ListN.{length, set}
use Rattle.consumers.specs.declared.Sub.{Sub}
use Rattle.consumers.specs.Consumers.{sub_words}
use Rattle.state.proofs.Leaves.{unless-touched}
use Rattle.state.proofs.Answers.{untouched}
use Rattle.pulls.proofs.Reword.{within-fits}
use Rattle.pulls.proofs.Outcomes.{waits-not, generation-low, register-missing, register-not, register-put}
use Rattle.pulls.proofs.register.Goals as goal

pub returns-then-not-fits : goal.returns-then-not-fits
returns-then-not-fits c =
    let a = c.args in
    let f = sym c.fits.ensures ∙ not-true _ c.if-not-fits.true-raw in record { leaves_if = unless-touched _ _ _ a.d a.d a.subs.now a.rows.now a.events.now a.subs.now a.rows.now a.events.now f (untouched a.d a.subs.now a.rows.now a.events.now); pull_waits = waits-not _ a.id a.d a.subs.now a.rows.now f }

pub returns-in_default : goal.returns-in_default
returns-in_default c =
    let a = c.args in
    let t = sym c.fits.ensures ∙ not-false _ c.if-not-fits.false-raw in
    let w = within-fits a.subs.now a.d (length a.rows.now) (length a.events.now) t in
    let no = sym c.position.ensures ∙ c.in_default.is in
    let both = register-missing _ t a.id a.d a.subs.now a.rows.now a.events.now w no _ (λ _. t) in record { leaves_if = both.0; pull_waits = both.1 }

pub returns-then-s-gt0 : goal.returns-then-s-gt0
returns-then-s-gt0 c =
    let a = c.args in
    let t = sym c.fits.ensures ∙ not-false _ c.if-not-fits.false-raw in
    let w = within-fits a.subs.now a.d (length a.rows.now) (length a.events.now) t in
    let at = sym c.position.ensures ∙ c.in-Some.is in
    let both = register-not _ t a.id a.d a.subs.now a.rows.now a.events.now w _ at c.load-s.result c.load-s.ensures _ (λ _. t) c.if-s-gt0.true in record { leaves_if = both.0; pull_waits = both.1 }

pub pulling-requires : goal.pulling-requires
pulling-requires c =
    let a = c.args in
    let t = sym c.fits.ensures ∙ not-false _ c.if-not-fits.false-raw in
    let w = within-fits a.subs.now a.d (length a.rows.now) (length a.events.now) t in
    let at = sym c.position.ensures ∙ c.in-Some.is in
    generation-low _ t a.id a.d a.subs.now a.rows.now a.events.now w _ at c.load-s.result c.load-s.ensures refl

pub returns : goal.returns
returns c =
    let a = c.args in
    let t = sym c.fits.ensures ∙ not-false _ c.if-not-fits.false-raw in
    let w = within-fits a.subs.now a.d (length a.rows.now) (length a.events.now) t in
    let at = sym c.position.ensures ∙ c.in-Some.is in
    let made = c.store.ensures ∙ ap (λ (y : Sub). set a.subs.now c.in-Some.i (sub_words y)) c.pulling.ensures in
    let both = register-put _ t a.id a.d a.subs.now a.rows.now a.events.now w _ at c.load-s.result c.load-s.ensures refl c.if-s-gt0.false _ made in record { leaves_if = both.0; pull_waits = both.1 }
