use mathlib.Core.Path.{◌∙◌}
use borrow.Author.Rules.{rules}
use mir.Syntax.{w32}
use mir.Val.{SFits}
use mir.ValLaws.{to_z-of_z}
use Rattle.definition.specs.Layout.{event_words}
use Rattle.state.proofs.push_letter.Goals as goal

pub returns : goal.returns
unfolding event_words
returns c =
    let a = c.args in
    let f : SFits w32 a.redelivery = search rules in
    (c.push.ensures.0, c.push.ensures.1 ∙ rw (c.word_of_int-r.ensures, to_z-of_z w32 a.redelivery f))
