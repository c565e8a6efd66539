use borrow.Author.Tests.{eq-eqb, ne_eqb, not-true, not-false}
use Rattle.queries.proofs.is_idle.Goals as goal

pub returns-then-d-ne0 : goal.returns-then-d-ne0
returns-then-d-ne0 c =
    let a = c.args in
    rw (ne_eqb a.d.waiting 0 c.if-d-ne0.true)

pub returns-then-d-ne0-2 : goal.returns-then-d-ne0-2
returns-then-d-ne0-2 c =
    let a = c.args in
    rw (eq-eqb a.d.waiting 0 c.if-d-ne0.false, ne_eqb a.d.consumers 0 c.if-d-ne0-2.true)

pub returns-then-d-ne0-3 : goal.returns-then-d-ne0-3
returns-then-d-ne0-3 c =
    let a = c.args in
    rw (eq-eqb a.d.waiting 0 c.if-d-ne0.false, eq-eqb a.d.consumers 0 c.if-d-ne0-2.false, ne_eqb a.d.producers 0 c.if-d-ne0-3.true)

pub returns-then-not-d : goal.returns-then-not-d
returns-then-not-d c =
    let a = c.args in
    rw (eq-eqb a.d.waiting 0 c.if-d-ne0.false, eq-eqb a.d.consumers 0 c.if-d-ne0-2.false, eq-eqb a.d.producers 0 c.if-d-ne0-3.false, not-true a.d.idle c.if-not-d.true)

pub returns : goal.returns
returns c =
    let a = c.args in
    rw (eq-eqb a.d.waiting 0 c.if-d-ne0.false, eq-eqb a.d.consumers 0 c.if-d-ne0-2.false, eq-eqb a.d.producers 0 c.if-d-ne0-3.false, not-false a.d.idle c.if-not-d.false, c.idle_seconds.ensures)
