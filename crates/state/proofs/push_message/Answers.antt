use mathlib.Core.Path.{◌∙◌}
use Prim.Native.Nat.{◌<◌, ◌^◌}
use native.Mathlib.Omega.{arith}
use borrow.Author.Rules.{rules}
use mir.Syntax.{w32}
use mir.Val.{SFits}
use mir.ValLaws.{to_z-of_z}
use Rattle.words.proofs.Words.{unsigned_signed}
use Rattle.definition.specs.Layout.{event_words}
use Rattle.state.proofs.push_message.Goals as goal

pub returns : goal.returns
unfolding event_words
returns c =
    let a = c.args in
    let f : SFits w32 a.redelivery = search rules in
    let s : a.session < 2 ^ 64 = omega arith in
    let v : a.value < 2 ^ 64 = omega arith in
    (c.push.ensures.0, c.push.ensures.1 ∙ rw (c.word_of_int-r.ensures, to_z-of_z w32 a.redelivery f, unsigned_signed a.session s, unsigned_signed a.value v))
