use mathlib.Core.Path.{sym, ◌∙◌}
use native.Mathlib.Omega.{arith}
use borrow.Author.Tests.{not-true, not-false, ne_eqb}
use lib.ListN.{length}
use Prim.Native.Nat.{◌<◌}
use Rattle.definition_station.specs.Layout.{buffer_station_step}
use Rattle.definition_station.proofs.Buffers.{own-long}
use Rattle.stationcalls.specs.Parts.{lent_all}
use Rattle.stationcalls.proofs.Shape.{as-refused, left-above, left-closed}
use Rattle.stationcalls.proofs.Going.{goes_on}
use Rattle.stationcalls.proofs.go.Goals as goal

pub returns-then-number-gt7 : goal.returns-then-number-gt7
returns-then-number-gt7 c =
    let a = c.args in
    let b = lent_all a.heads.now a.subs.now a.rows.now a.own.now in
    as-refused b a.events.now a.number a.c.code a.c.words (buffer_station_step b (length a.events.now) a.number a.c.code a.c.words) 10 c.refused_for.result c.refused_for.ensures (left-above b a.events.now a.number a.c.code a.c.words c.requires.long c.if-number-gt7.true)

pub is_open-requires : goal.is_open-requires
is_open-requires c =
    let a = c.args in
    let b = lent_all a.heads.now a.subs.now a.rows.now a.own.now in
    omega (arith, c.if-number-gt7.false, own-long b (length a.events.now) c.requires.long)

pub returns-then-not-is_open : goal.returns-then-not-is_open
returns-then-not-is_open c =
    let a = c.args in
    let b = lent_all a.heads.now a.subs.now a.rows.now a.own.now in
    as-refused b a.events.now a.number a.c.code a.c.words (buffer_station_step b (length a.events.now) a.number a.c.code a.c.words) 10 c.refused_for-then-not-is_open.result c.refused_for-then-not-is_open.ensures
    (left-closed b a.events.now a.number a.c.code a.c.words c.requires.long (omega (arith, c.if-number-gt7.false)) (ne_eqb a.c.code 0 c.if-c-eq-OPEN.false) (sym c.is_open.ensures ∙ not-true _ c.if-not-is_open.true-raw))

pub step-requires : goal.step-requires
step-requires c =
    let a = c.args in
    let b = lent_all a.heads.now a.subs.now a.rows.now a.own.now in
    let coded = ne_eqb a.c.code 0 c.if-c-eq-OPEN.false in
    let opened = sym c.is_open.ensures ∙ not-false _ c.if-not-is_open.false-raw in
    let low : a.number < 8 = omega (arith, c.if-number-gt7.false) in
    let tested = goes_on b a.number a.c.code c.requires.goes coded low opened in
    record { long = c.requires.long; is-place = low; opened = opened; own-ok = tested.0; others = tested.1; coded = coded }
