use mathlib.Core.Path.{sym, ◌∙◌}
use borrow.Author.Tests.{leb-true, not-true, not-false}
use Rattle.callfile.proofs.Parts.{whole-line, no_room}
use Rattle.callfile.proofs.put_word.Goals as goal

pub returns-then-not-room : goal.returns-then-not-room
returns-then-not-room c = no_room _ _ _ (sym c.room.ensures ∙ not-true _ c.if-not-room.true-raw)

pub word_field-requires : goal.word_field-requires
word_field-requires c = leb-true _ _ (sym c.room.ensures ∙ not-false _ c.if-not-room.false-raw)

pub returns : goal.returns
returns c =
    let t = sym c.room.ensures ∙ not-false _ c.if-not-room.false-raw in
    whole-line t c.word_field.ensures
