use mathlib.Core.Path.{refl, sym, ◌∙◌}
use borrow.Author.Tests.{not-true, not-false}
use lib.ListN.{length}
use mir.Syntax.{w64}
use mir.ValLaws.{to_z-of_z}
use Rattle.pulls.proofs.Tested.{stands-within, stands-room}
use Rattle.pulls.proofs.Outcomes.{answer-refused, answer-missing, answer-satisfied, answer-null, answer-timed, answer-waits}
use Rattle.pulls.proofs.answer_pull.Goals as goal

pub returns-then-not-stands : goal.returns-then-not-stands
returns-then-not-stands c =
    let a = c.args in
    let f = sym c.stands.ensures ∙ not-true _ c.if-not-stands.true-raw in
    let both = answer-refused _ f a.id a.d a.subs.now a.rows.now a.events.now a.timeout _ refl in record { leaves_if = both.0; pull_answers = both.1 }

pub returns-in_default : goal.returns-in_default
returns-in_default c =
    let a = c.args in
    let t = sym c.stands.ensures ∙ not-false _ c.if-not-stands.false-raw in
    let w = stands-within a.subs.now a.d (length a.rows.now) (length a.events.now) t in
    let no = sym c.position.ensures ∙ c.in_default.is in
    let both = answer-missing _ t a.id a.d a.subs.now a.rows.now a.events.now w a.timeout _ no refl in record { leaves_if = both.0; pull_answers = both.1 }

pub returns-then-not-s : goal.returns-then-not-s
returns-then-not-s c =
    let a = c.args in
    let t = sym c.stands.ensures ∙ not-false _ c.if-not-stands.false-raw in
    let w = stands-within a.subs.now a.d (length a.rows.now) (length a.events.now) t in
    let at = sym c.position.ensures ∙ c.in-Some.is in
    let both = answer-satisfied _ t a.id a.d a.subs.now a.rows.now a.events.now w a.timeout _ _ at c.load-s.result c.load-s.ensures (not-true _ c.if-not-s.true) refl in record { leaves_if = both.0; pull_answers = both.1 }

pub returns-then-timeout-lt0 : goal.returns-then-timeout-lt0
returns-then-timeout-lt0 c =
    let a = c.args in
    let t = sym c.stands.ensures ∙ not-false _ c.if-not-stands.false-raw in
    let w = stands-within a.subs.now a.d (length a.rows.now) (length a.events.now) t in
    let at = sym c.position.ensures ∙ c.in-Some.is in
    let z = to_z-of_z w64 a.timeout c.ranges.timeout in
    let n = c.send_null-head in
    let both = answer-null _ t a.id a.d a.subs.now a.rows.now a.events.now w a.timeout _ _ at c.load-s.result c.load-s.ensures (not-false _ c.if-not-s.false) (rw z at c.if-timeout-lt0.true) (stands-room a.subs.now a.d (length a.rows.now) (length a.events.now) t) _ refl _ _ n.ensures.value.0 n.ensures.subs_after n.ensures.value.1 in record { leaves_if = both.0; pull_answers = both.1 }

pub returns-then-timeout-gt0 : goal.returns-then-timeout-gt0
returns-then-timeout-gt0 c =
    let a = c.args in
    let t = sym c.stands.ensures ∙ not-false _ c.if-not-stands.false-raw in
    let w = stands-within a.subs.now a.d (length a.rows.now) (length a.events.now) t in
    let at = sym c.position.ensures ∙ c.in-Some.is in
    let z = to_z-of_z w64 a.timeout c.ranges.timeout in
    let both = answer-timed _ t a.id a.d a.subs.now a.rows.now a.events.now w a.timeout _ _ at c.load-s.result c.load-s.ensures (not-false _ c.if-not-s.false) (rw z at c.if-timeout-lt0.false) (rw z at c.if-timeout-gt0.true) refl in record { leaves_if = both.0; pull_answers = both.1 }

pub returns : goal.returns
returns c =
    let a = c.args in
    let t = sym c.stands.ensures ∙ not-false _ c.if-not-stands.false-raw in
    let w = stands-within a.subs.now a.d (length a.rows.now) (length a.events.now) t in
    let at = sym c.position.ensures ∙ c.in-Some.is in
    let z = to_z-of_z w64 a.timeout c.ranges.timeout in
    let both = answer-waits _ t a.id a.d a.subs.now a.rows.now a.events.now w a.timeout _ _ at c.load-s.result c.load-s.ensures (not-false _ c.if-not-s.false) (rw z at c.if-timeout-lt0.false) (rw z at c.if-timeout-gt0.false) refl in record { leaves_if = both.0; pull_answers = both.1 }
