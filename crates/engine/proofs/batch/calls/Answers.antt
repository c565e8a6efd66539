use mathlib.Core.Path.{◌≡◌, sym, ◌∙◌}
use mathlib.Core.Bool.{true, not, ◌&&◌}
use borrow.Author.Tests.{not-true, not-false}
use Rattle.definition.specs.Calls.{state_short}
use Rattle.definition.specs.Layout.{sound_buffers, lengths_of, lent}
use Rattle.definition.proofs.Tests.{and_left, and_right}
use Rattle.engine.proofs.Batched.{not-begun, begun}
use Rattle.engine.proofs.batch.calls.Goals as goal

pub returns-then-not-sound : goal.returns-then-not-sound
returns-then-not-sound c =
    let a = c.args in
    not-begun a.head.now a.subs.now a.rows.now a.events.now a.outcomes.now a.words.now (sym c.sound.ensures ∙ not-true _ c.if-not-sound.true-raw)

pub run_each-requires : goal.run_each-requires
run_each-requires c =
    let a = c.args in
    let b = lent a.head.now a.subs.now a.rows.now in
    let e : (not (state_short (lengths_of b 0)) && sound_buffers b) ≡ true = sym c.sound.ensures ∙ not-false _ c.if-not-sound.false-raw in
    (not-true (state_short (lengths_of b 0)) (and_left (not (state_short (lengths_of b 0))) (sound_buffers b) e), and_right (not (state_short (lengths_of b 0))) (sound_buffers b) e)

pub returns : goal.returns
returns c =
    let a = c.args in
    let b = lent a.head.now a.subs.now a.rows.now in
    let k = c.run_each in
    begun a.head.now a.subs.now a.rows.now a.events.now a.outcomes.now a.words.now (and_right (not (state_short (lengths_of b 0))) (sound_buffers b) (sym c.sound.ensures ∙ not-false _ c.if-not-sound.false-raw))
    (lent k.new.head k.new.subs k.new.rows) k.new.events k.new.outcomes k.result k.ensures
