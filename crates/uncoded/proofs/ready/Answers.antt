use mathlib.Core.Path.{◌≡◌, sym, ◌∙◌}
use mathlib.Core.Bool.{true, false}
use native.Mathlib.Omega.{arith}
use borrow.Author.Tests.{not-true, not-false}
use lib.ListN.{length}
use Rattle.definition.specs.Calls.{state_short, short}
use Rattle.definition.specs.Layout.{sound_buffers, lengths_of, lent}
use Rattle.engine.proofs.Ran.{short-state, short-events, not_short, both-no, both_yes}
use Rattle.uncoded.proofs.Bare.{bare-short, bare-unsound, spent-refusal, left-refusal}
use Rattle.uncoded.proofs.ready.Goals as goal

pub returns-then-not-whole : goal.returns-then-not-whole
returns-then-not-whole c =
    let a = c.args in
    let w : state_short (lengths_of (lent a.head.now a.subs.now a.rows.now) 0) ≡ true = not-false _ (sym c.whole.ensures ∙ not-true _ c.if-not-whole.true-raw) in
    record { refusal_value = sym (bare-short (lent a.head.now a.subs.now a.rows.now) (length a.events.now) (short-state a.head.now a.subs.now a.rows.now (length a.events.now) w)); numbers = tt }

pub returns-then-events-lt-EVENTS : goal.returns-then-events-lt-EVENTS
returns-then-events-lt-EVENTS c =
    let a = c.args in
    record { refusal_value = sym (bare-short (lent a.head.now a.subs.now a.rows.now) (length a.events.now) (short-events a.head.now a.subs.now a.rows.now (length a.events.now) c.if-events-lt-EVENTS.true)); numbers = tt }

pub returns-then-not-sound : goal.returns-then-not-sound
returns-then-not-sound c =
    let a = c.args in
    let b = lent a.head.now a.subs.now a.rows.now in
    let w : state_short (lengths_of b 0) ≡ false = not-true _ (sym c.whole.ensures ∙ not-false _ c.if-not-whole.false-raw) in
    let r : short (lengths_of b (length a.events.now)) ≡ false = not_short a.head.now a.subs.now a.rows.now (length a.events.now) w (omega (arith, c.if-events-lt-EVENTS.false)) in
    let u : sound_buffers b ≡ false = both-no (state_short (lengths_of b 0)) (sound_buffers b) w (sym c.sound.ensures ∙ not-true _ c.if-not-sound.true-raw) in
    record { refusal_value = sym (bare-unsound b (length a.events.now) r u); numbers = tt }

pub returns-then-d : goal.returns-then-d
returns-then-d c =
    let a = c.args in
    let b = lent a.head.now a.subs.now a.rows.now in
    let w : state_short (lengths_of b 0) ≡ false = not-true _ (sym c.whole.ensures ∙ not-false _ c.if-not-whole.false-raw) in
    let r : short (lengths_of b (length a.events.now)) ≡ false = not_short a.head.now a.subs.now a.rows.now (length a.events.now) w (omega (arith, c.if-events-lt-EVENTS.false)) in
    let u : sound_buffers b ≡ true = both_yes (state_short (lengths_of b 0)) (sound_buffers b) w (sym c.sound.ensures ∙ not-false _ c.if-not-sound.false-raw) in
    record { refusal_value = spent-refusal a.head.now a.subs.now a.rows.now a.events.now r u c.load-d.result c.load-d.ensures c.if-d.true; numbers = tt }

pub returns : goal.returns
returns c =
    let a = c.args in
    let b = lent a.head.now a.subs.now a.rows.now in
    let w : state_short (lengths_of b 0) ≡ false = not-true _ (sym c.whole.ensures ∙ not-false _ c.if-not-whole.false-raw) in
    let r : short (lengths_of b (length a.events.now)) ≡ false = not_short a.head.now a.subs.now a.rows.now (length a.events.now) w (omega (arith, c.if-events-lt-EVENTS.false)) in
    let u : sound_buffers b ≡ true = both_yes (state_short (lengths_of b 0)) (sound_buffers b) w (sym c.sound.ensures ∙ not-false _ c.if-not-sound.false-raw) in
    record { refusal_value = left-refusal a.head.now a.subs.now a.rows.now a.events.now r u c.load-d.result c.load-d.ensures c.if-d.false; numbers = c.load-d.ensures }
