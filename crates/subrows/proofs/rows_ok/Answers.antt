use mathlib.Core.Path.{sym, ◌∙◌}
use borrow.Author.Tests.{not-true, not-false}
use Rattle.subrows.proofs.Looked.{look_stop, look-last}
use Rattle.subrows.proofs.rows_ok.Goals as goal

pub returns-then-not-subs_ok : goal.returns-then-not-subs_ok
returns-then-not-subs_ok c =
    let a = c.args in
    let each = c.subs_ok in
    look_stop a.on_queue a.most a.others a.reserved a.waiting a.subs.now a.rows.now c.requires.waiting_in_bounds.0 (sym each.ensures ∙ not-true each.result c.if-not-subs_ok.true-raw)

pub returns : goal.returns
returns c =
    let a = c.args in
    let each = c.subs_ok in
    let ids = c.ids_apart-ids in
    let held = c.entries_ok-kept in
    let sorted = c.sorted_ok-sorted in
    look-last a.on_queue a.most a.others a.reserved a.waiting a.subs.now a.rows.now c.requires.waiting_in_bounds.0 ids.result held.result sorted.result
    (sym each.ensures ∙ not-false each.result c.if-not-subs_ok.false-raw) ids.ensures held.ensures.value held.ensures.rows_value sorted.ensures
