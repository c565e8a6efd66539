use mathlib.Core.Path.{sym, ◌∙◌}
use borrow.Author.Tests.{leb-true, not-true, not-false}
use Rattle.callfile.proofs.Parts.{whole-line, no_room}
use Rattle.callfile.proofs.put_counters.Goals as goal

pub returns-then-not-room : goal.returns-then-not-room
returns-then-not-room c = no_room _ _ _ (sym c.room.ensures ∙ not-true _ c.if-not-room.true-raw)

pub counters_line-requires : goal.counters_line-requires
counters_line-requires c = leb-true _ _ (sym c.room.ensures ∙ not-false _ c.if-not-room.false-raw)

pub returns : goal.returns
returns c =
    let t = sym c.room.ensures ∙ not-false _ c.if-not-room.false-raw in
    whole-line t c.counters_line.ensures
