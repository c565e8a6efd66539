use mathlib.Core.Path.{sym, ◌∙◌}
use borrow.Author.Tests.{leb-true, not-true, not-false}
use Rattle.callfile.proofs.Parts.{whole-line, no_room, blank}
use Rattle.stationlines.proofs.Named.{above-none, is-letter, is-message, is-null, is-other}
use native.Mathlib.Omega.{arith}
use Rattle.stationlines.proofs.put_sent.Goals as goal

pub returns-then-not-lines_fit : goal.returns-then-not-lines_fit
returns-then-not-lines_fit c = no_room _ _ _ (sym c.lines_fit.ensures ∙ not-true _ c.if-not-lines_fit.true-raw)

pub returns-then-first-ge-FIRST_END : goal.returns-then-first-ge-FIRST_END
returns-then-first-ge-FIRST_END c = let a = c.args in rw (above-none a.e c.if-first-ge-FIRST_END.true) (blank a.at a.out.now)

pub letter_line-requires : goal.letter_line-requires
letter_line-requires c = (leb-true _ _ (sym c.lines_fit.ensures ∙ not-false _ c.if-not-lines_fit.false-raw), omega (arith, c.if-first-ge-FIRST_END.false))

pub message_line-requires : goal.message_line-requires
message_line-requires c = (leb-true _ _ (sym c.lines_fit.ensures ∙ not-false _ c.if-not-lines_fit.false-raw), omega (arith, c.if-first-ge-FIRST_END.false))

pub null_line-requires : goal.null_line-requires
null_line-requires c = (leb-true _ _ (sym c.lines_fit.ensures ∙ not-false _ c.if-not-lines_fit.false-raw), omega (arith, c.if-first-ge-FIRST_END.false))

pub returns-in-1 : goal.returns-in-1
returns-in-1 c = let a = c.args in
    let k = c.letter_line.ensures in
    rw (sym (is-letter a.e c.if-first-ge-FIRST_END.false c.in-1.is)) (whole-line (sym c.lines_fit.ensures ∙ not-false _ c.if-not-lines_fit.false-raw) (k.0, omega (arith, k.1)))

pub returns-in-2 : goal.returns-in-2
returns-in-2 c = let a = c.args in
    let k = c.message_line.ensures in
    rw (sym (is-message a.e c.if-first-ge-FIRST_END.false c.in-2.is)) (whole-line (sym c.lines_fit.ensures ∙ not-false _ c.if-not-lines_fit.false-raw) (k.0, omega (arith, k.1)))

pub returns-in-3 : goal.returns-in-3
returns-in-3 c = let a = c.args in
    let k = c.null_line.ensures in
    rw (sym (is-null a.e c.if-first-ge-FIRST_END.false c.in-3.is)) (whole-line (sym c.lines_fit.ensures ∙ not-false _ c.if-not-lines_fit.false-raw) (k.0, omega (arith, k.1)))

pub returns-in_default : goal.returns-in_default
returns-in_default c = let a = c.args in
    let n = c.in_default.in_default-own.rest in
    rw (is-other a.e c.if-first-ge-FIRST_END.false n.0.0.1 n.0.1 n.1) (blank a.at a.out.now)
