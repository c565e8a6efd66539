use mathlib.Core.Path.{sym, ap, ◌∙◌}
use borrow.Author.Tests.{lt-ltb, le-ltb}
use Rattle.definition.proofs.Tests.{if-true, if-false}
use Rattle.state.specs.declared.Head.{Head}
use Rattle.state.specs.State.{touched, done_as}
use Rattle.expiry.proofs.finished.Goals as goal

pub returns-then-gone-gt0 : goal.returns-then-gone-gt0
returns-then-gone-gt0 c =
    let a = c.args in
    ap (λ (x : Head). done_as a.gone x) (c.touch_idle.ensures ∙ ap (touched a.clock) c.count_expired-counted.ensures)
    ∙ sym (if-true _ _ (lt-ltb 0 a.gone c.if-gone-gt0.true))

pub returns : goal.returns
returns c =
    let a = c.args in
    sym (if-false _ _ (le-ltb 0 a.gone c.if-gone-gt0.false))
