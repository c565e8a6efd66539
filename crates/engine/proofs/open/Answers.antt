use mathlib.Core.Path.{◌≡◌, sym, ap, ◌∙◌}
use mathlib.Core.Bool.{true, false}
use borrow.Author.Tests.{not-true, not-false}
use Rattle.definition.specs.Words.{open_words}
use Rattle.definition.proofs.Tests.{if-true, if-false}
use Rattle.state.specs.declared.Head.{Head}
use Rattle.state.specs.State.{stored_head}
use Rattle.engine.specs.Called.{outcome}
use Rattle.engine.specs.Opened.{opened_head}
use Rattle.engine.proofs.open.Goals as goal

pub returns-then-not-opens : goal.returns-then-not-opens
returns-then-not-opens c =
    let a = c.args in
    let w : open_words a.c.words ≡ false = sym c.opens.ensures ∙ not-true _ c.if-not-opens.true-raw in record { value = c.refused_for.ensures ∙ sym (if-false (outcome 0 0 0) (outcome 3 0 0) w); head_after = sym (if-false (stored_head (opened_head a.c.words) a.head.now) a.head.now w) }

pub returns : goal.returns
returns c =
    let a = c.args in
    let w : open_words a.c.words ≡ true = sym c.opens.ensures ∙ not-false _ c.if-not-opens.false-raw in record { value = sym (if-true (outcome 0 0 0) (outcome 3 0 0) w); head_after = c.store.ensures ∙ ap (λ (d : Head). stored_head d a.head.now) c.opened-d.ensures ∙ sym (if-true (stored_head (opened_head a.c.words) a.head.now) a.head.now w) }
