use Prim.Native.Nat.{ℕ}
use mathlib.Core.Path.{◌≡◌, sym, ◌∙◌}
use mathlib.Core.List.{List, []}
use borrow.Author.Tests.{leb-true, not-true, not-false, ne_eqb}
use Rattle.callfile.specs.Lines.{event_line, letter_at, message_at, null_at, event_at, event_line_of, words_line}
use Rattle.callfile.proofs.Parts.{whole-line, no_room, nothing}
use Rattle.callfile.proofs.put_event.Goals as goal

pub returns-then-not-room : goal.returns-then-not-room
returns-then-not-room c = no_room _ _ _ (sym c.room.ensures ∙ not-true _ c.if-not-room.true-raw)

pub letter_line-requires : goal.letter_line-requires
letter_line-requires c = leb-true _ _ (sym c.room.ensures ∙ not-false _ c.if-not-room.false-raw)

pub message_line-requires : goal.message_line-requires
message_line-requires c = leb-true _ _ (sym c.room.ensures ∙ not-false _ c.if-not-room.false-raw)

pub null_line-requires : goal.null_line-requires
null_line-requires c = leb-true _ _ (sym c.room.ensures ∙ not-false _ c.if-not-room.false-raw)

pub returns-in-1 : goal.returns-in-1
unfolding event_at event_line_of
returns-in-1 c =
    let ws : List ℕ = c.args.e in
    let t = sym c.room.ensures ∙ not-false _ c.if-not-room.false-raw in
    let e : event_line (letter_at ws) ≡ words_line ws = rw c.in-1.is in
    rw (sym e) (whole-line t c.letter_line.ensures)

pub returns-in-2 : goal.returns-in-2
unfolding event_at event_line_of
returns-in-2 c =
    let ws : List ℕ = c.args.e in
    let t = sym c.room.ensures ∙ not-false _ c.if-not-room.false-raw in
    let e : event_line (message_at ws) ≡ words_line ws = rw c.in-2.is in
    rw (sym e) (whole-line t c.message_line.ensures)

pub returns-in-3 : goal.returns-in-3
unfolding event_at event_line_of
returns-in-3 c =
    let ws : List ℕ = c.args.e in
    let t = sym c.room.ensures ∙ not-false _ c.if-not-room.false-raw in
    let e : event_line (null_at ws) ≡ words_line ws = rw c.in-3.is in
    rw (sym e) (whole-line t c.null_line.ensures)

pub returns-in_default : goal.returns-in_default
unfolding event_at event_line_of
returns-in_default c =
    let a = c.args in
    let n = c.in_default.in_default-own.rest in
    let t = sym c.room.ensures ∙ not-false _ c.if-not-room.false-raw in
    let e : [] ≡ words_line a.e = rw (ne_eqb _ 1 n.0.0.1, ne_eqb _ 2 n.0.1, ne_eqb _ 3 n.1) in
    rw (sym e) (whole-line t (nothing a.at a.out.now))
