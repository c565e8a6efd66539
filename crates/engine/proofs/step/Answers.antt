use mathlib.Core.Path.{sym, ◌∙◌, subst⁻¹}
use native.Mathlib.Omega.{arith}
use borrow.Author.Tests.{not-true, not-false, eq-eqb, ne_eqb}
use lib.ListN.{length}
use Rattle.definition.specs.Layout.{buffer_step, lent}
use Rattle.engine.specs.declared.Outcome.{Outcome}
use Rattle.engine.specs.Called.{Called}
use Rattle.engine.proofs.Ran.{undecoded-called, opened-or}
use Rattle.engine.proofs.step.Goals as goal

pub returns-then-c-eq-OPEN : goal.returns-then-c-eq-OPEN
returns-then-c-eq-OPEN c =
    let a = c.args in
    let k = c.«open» in
    opened-or a.head.now a.subs.now a.rows.now a.events.now a.c.code a.c.words c.requires.0 (eq-eqb a.c.code 0 c.if-c-eq-OPEN.true) k.result k.new.head k.ensures.value k.ensures.head_after

pub returns-then-not-in_range : goal.returns-then-not-in_range
returns-then-not-in_range c =
    let a = c.args in
    let p = c.requires in
    let b = lent a.head.now a.subs.now a.rows.now in
    subst⁻¹ (λ (o : Outcome). Called (buffer_step b (length a.events.now) a.c.code a.c.words) b b a.events.now a.events.now o) c.refused_for.ensures
    (undecoded-called a.head.now a.subs.now a.rows.now a.events.now a.c.code a.c.words p.0 (ne_eqb a.c.code 0 c.if-c-eq-OPEN.false) p.1 (sym c.in_range.ensures ∙ not-true _ c.if-not-in_range.true-raw))

pub run-requires : goal.run-requires
run-requires c =
    let p = c.requires in
    (p.0, p.1, omega (arith, c.if-c-eq-OPEN.false), sym c.in_range.ensures ∙ not-false _ c.if-not-in_range.false-raw)

pub returns : goal.returns
returns c =
    c.run.ensures
