use mathlib.Core.Path.{◌≡◌, sym, ◌∙◌, subst⁻¹}
use mathlib.Core.Bool.{true, false}
use native.Mathlib.Omega.{arith}
use borrow.Author.Tests.{not-true, not-false, eq-eqb, ne_eqb}
use lib.ListN.{length}
use Rattle.definition.specs.Calls.{state_short, short}
use Rattle.definition.specs.Layout.{sound_buffers, lengths_of, buffer_step, lent}
use Rattle.engine.specs.declared.Outcome.{Outcome}
use Rattle.engine.specs.Called.{Called}
use Rattle.engine.proofs.Refusing.{step-short, step-unsound}
use Rattle.engine.proofs.Called.{refused-called}
use Rattle.engine.proofs.Ran.{short-state, short-events, not_short, both-no, both_yes, opened-or}
use Rattle.engine.proofs.call.Goals as goal

pub returns-then-not-whole : goal.returns-then-not-whole
returns-then-not-whole c =
    let a = c.args in
    let b = (lent a.head.now a.subs.now a.rows.now) in
    let w : state_short (lengths_of b 0) ≡ true = not-false _ (sym c.whole.ensures ∙ not-true _ c.if-not-whole.true-raw) in
    subst⁻¹ (λ (o : Outcome). Called (buffer_step b (length a.events.now) a.c.code a.c.words) b b a.events.now a.events.now o) c.refused_for.ensures
    (refused-called 0 b a.events.now _ (step-short b (length a.events.now) a.c.code a.c.words (short-state a.head.now a.subs.now a.rows.now (length a.events.now) w)))

pub returns-then-events-lt-EVENTS : goal.returns-then-events-lt-EVENTS
returns-then-events-lt-EVENTS c =
    let a = c.args in
    let b = (lent a.head.now a.subs.now a.rows.now) in
    subst⁻¹ (λ (o : Outcome). Called (buffer_step b (length a.events.now) a.c.code a.c.words) b b a.events.now a.events.now o) c.refused_for-then-events-lt-EVENTS.ensures
    (refused-called 0 b a.events.now _ (step-short b (length a.events.now) a.c.code a.c.words (short-events a.head.now a.subs.now a.rows.now (length a.events.now) c.if-events-lt-EVENTS.true)))

pub returns-then-c-eq-OPEN : goal.returns-then-c-eq-OPEN
returns-then-c-eq-OPEN c =
    let a = c.args in
    let b = (lent a.head.now a.subs.now a.rows.now) in
    let w : state_short (lengths_of b 0) ≡ false = not-true _ (sym c.whole.ensures ∙ not-false _ c.if-not-whole.false-raw) in
    let r : short (lengths_of b (length a.events.now)) ≡ false = not_short a.head.now a.subs.now a.rows.now (length a.events.now) w (omega (arith, c.if-events-lt-EVENTS.false)) in
    let k = c.«open» in
    opened-or a.head.now a.subs.now a.rows.now a.events.now a.c.code a.c.words r (eq-eqb a.c.code 0 c.if-c-eq-OPEN.true) k.result k.new.head k.ensures.value k.ensures.head_after

pub returns-then-not-sound : goal.returns-then-not-sound
returns-then-not-sound c =
    let a = c.args in
    let b = (lent a.head.now a.subs.now a.rows.now) in
    let w : state_short (lengths_of b 0) ≡ false = not-true _ (sym c.whole.ensures ∙ not-false _ c.if-not-whole.false-raw) in
    let r : short (lengths_of b (length a.events.now)) ≡ false = not_short a.head.now a.subs.now a.rows.now (length a.events.now) w (omega (arith, c.if-events-lt-EVENTS.false)) in
    let u : sound_buffers b ≡ false = both-no (state_short (lengths_of b 0)) (sound_buffers b) w (sym c.sound.ensures ∙ not-true _ c.if-not-sound.true-raw) in
    subst⁻¹ (λ (o : Outcome). Called (buffer_step b (length a.events.now) a.c.code a.c.words) b b a.events.now a.events.now o) c.refused_for-then-not-sound.ensures
    (refused-called 1 b a.events.now _ (step-unsound b (length a.events.now) a.c.code a.c.words r (ne_eqb a.c.code 0 c.if-c-eq-OPEN.false) u))

pub step-requires : goal.step-requires
step-requires c =
    let a = c.args in
    let b = (lent a.head.now a.subs.now a.rows.now) in
    let w : state_short (lengths_of b 0) ≡ false = not-true _ (sym c.whole.ensures ∙ not-false _ c.if-not-whole.false-raw) in
    let r : short (lengths_of b (length a.events.now)) ≡ false = not_short a.head.now a.subs.now a.rows.now (length a.events.now) w (omega (arith, c.if-events-lt-EVENTS.false)) in
    (r, both_yes (state_short (lengths_of b 0)) (sound_buffers b) w (sym c.sound.ensures ∙ not-false _ c.if-not-sound.false-raw))

pub returns : goal.returns
returns c = c.step.ensures
