use mathlib.Core.Path.{sym, ◌∙◌}
use borrow.Author.Tests.{not-true, not-false, eq-eqb, ne_eqb}
use lib.ListN.{length}
use native.Mathlib.Omega.{arith}
use Rattle.state.proofs.Fitting.{fits-facts}
use Rattle.state.proofs.Leaves.{unless-touched}
use Rattle.state.proofs.Answers.{untouched}
use Rattle.pulls.proofs.Reword.{within-fits}
use Rattle.pulls.proofs.Outcomes.{none_more, timeout-missing, timeout-idle, timeout-late, timeout-sent}
use Rattle.pulls.proofs.pull_timeout.Goals as goal

pub returns-then-not-fits : goal.returns-then-not-fits
returns-then-not-fits c =
    let a = c.args in
    let f = sym c.fits.ensures ∙ not-true _ c.if-not-fits.true-raw in
    unless-touched _ _ _ a.d a.d a.subs.now a.rows.now a.events.now a.subs.now a.rows.now a.events.now f (untouched a.d a.subs.now a.rows.now a.events.now)

pub returns-in_default : goal.returns-in_default
returns-in_default c =
    let a = c.args in
    let t = sym c.fits.ensures ∙ not-false _ c.if-not-fits.false-raw in
    let w = within-fits a.subs.now a.d (length a.rows.now) (length a.events.now) t in
    let no = sym c.position.ensures ∙ c.in_default.is in
    timeout-missing _ t a.id a.d a.subs.now a.rows.now a.events.now w no _ _ (none_more a.d)

pub returns-then-not-s : goal.returns-then-not-s
returns-then-not-s c =
    let a = c.args in
    let t = sym c.fits.ensures ∙ not-false _ c.if-not-fits.false-raw in
    let w = within-fits a.subs.now a.d (length a.rows.now) (length a.events.now) t in
    let at = sym c.position.ensures ∙ c.in-Some.is in
    timeout-idle _ t a.id a.d a.subs.now a.rows.now a.events.now w _ at c.load-s.result c.load-s.ensures a.generation _ (none_more a.d) (not-true _ c.if-not-s.true)

pub returns-then-s-generation : goal.returns-then-s-generation
returns-then-s-generation c =
    let a = c.args in
    let t = sym c.fits.ensures ∙ not-false _ c.if-not-fits.false-raw in
    let w = within-fits a.subs.now a.d (length a.rows.now) (length a.events.now) t in
    let at = sym c.position.ensures ∙ c.in-Some.is in
    timeout-late _ t a.id a.d a.subs.now a.rows.now a.events.now w _ at c.load-s.result c.load-s.ensures a.generation _ (none_more a.d) (not-false _ c.if-not-s.false) (ne_eqb _ _ c.if-s-generation.true)

pub returns : goal.returns
returns c =
    let a = c.args in
    let t = sym c.fits.ensures ∙ not-false _ c.if-not-fits.false-raw in
    let w = within-fits a.subs.now a.d (length a.rows.now) (length a.events.now) t in
    let at = sym c.position.ensures ∙ c.in-Some.is in
    let n = c.send_null in
    let f = fits-facts a.subs.now a.d (length a.rows.now) (length a.events.now) t in
    timeout-sent _ t a.id a.d a.subs.now a.rows.now a.events.now w _ at c.load-s.result c.load-s.ensures a.generation (omega arith) (not-false _ c.if-not-s.false) (eq-eqb _ _ c.if-s-generation.false) _ _ _ n.ensures.value.0 n.ensures.subs_after n.ensures.value.1
