use mathlib.Core.Path.{◌∙◌}
use Prim.Native.Nat.{◌<◌, ◌^◌}
use native.Mathlib.Omega.{arith}
use Rattle.words.proofs.Words.{unsigned_signed}
use Rattle.definition.specs.Layout.{event_words}
use Rattle.state.proofs.push_null.Goals as goal

pub returns : goal.returns
unfolding event_words
returns c =
    let a = c.args in
    let s : a.session < 2 ^ 64 = omega arith in
    let v : a.value < 2 ^ 64 = omega arith in
    (c.push.ensures.0, c.push.ensures.1 ∙ rw (unsigned_signed a.session s, unsigned_signed a.value v))
