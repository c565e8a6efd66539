use mathlib.Core.Path.{sym, ◌∙◌}
use borrow.Author.Tests.{not-true, not-false}
use lib.ListN.{length}
use Rattle.definition.specs.Layout.{lent}
use Rattle.report.proofs.Holding.{no_room, none-whole, none-put, many-consumers, many-rows, topic-put, numbers_fit, queue-put}
use Rattle.report.proofs.blocks_in.Goals as goal

pub returns-then-list-lt-HELD_MOST : goal.returns-then-list-lt-HELD_MOST
returns-then-list-lt-HELD_MOST c =
    let a = c.args in
    let both = none-put a.head.now a.subs.now a.rows.now a.list.now (no_room (lent a.head.now a.subs.now a.rows.now) (length a.list.now) c.if-list-lt-HELD_MOST.true) in record { value = both.0; upper_bound = both.1.0; list_after = both.1.1 }

pub returns-then-not-whole : goal.returns-then-not-whole
returns-then-not-whole c =
    let a = c.args in
    let s = not-false _ (sym c.whole.ensures ∙ not-true _ c.if-not-whole.true-raw) in
    let both = none-put a.head.now a.subs.now a.rows.now a.list.now (none-whole (lent a.head.now a.subs.now a.rows.now) (length a.list.now) c.if-list-lt-HELD_MOST.false s) in record { value = both.0; upper_bound = both.1.0; list_after = both.1.1 }

pub returns-then-d-gt-CONSUMERS : goal.returns-then-d-gt-CONSUMERS
returns-then-d-gt-CONSUMERS c =
    let a = c.args in
    let d = c.load-d in
    let s = not-true _ (sym c.whole.ensures ∙ not-false _ c.if-not-whole.false-raw) in
    let both = many-consumers a.head.now a.subs.now a.rows.now a.list.now c.if-list-lt-HELD_MOST.false s d.result d.ensures c.if-d-gt-CONSUMERS.true in record { value = both.0; upper_bound = both.1.0; list_after = both.1.1 }

pub returns-then-d-gt-ROWS : goal.returns-then-d-gt-ROWS
returns-then-d-gt-ROWS c =
    let a = c.args in
    let d = c.load-d in
    let s = not-true _ (sym c.whole.ensures ∙ not-false _ c.if-not-whole.false-raw) in
    let both = many-rows a.head.now a.subs.now a.rows.now a.list.now c.if-list-lt-HELD_MOST.false s d.result d.ensures c.if-d-gt-CONSUMERS.false c.if-d-gt-ROWS.true in record { value = both.0; upper_bound = both.1.0; list_after = both.1.1 }

pub returns-then-not-d : goal.returns-then-not-d
returns-then-not-d c =
    let a = c.args in
    let d = c.load-d in
    let s = not-true _ (sym c.whole.ensures ∙ not-false _ c.if-not-whole.false-raw) in
    let r = c.if-list-lt-HELD_MOST.false in
    let both = topic-put a.head.now a.subs.now a.rows.now a.list.now r s d.result d.ensures c.if-d-gt-CONSUMERS.false c.if-d-gt-ROWS.false (not-true _ c.if-not-d.true) in record { value = both.0; upper_bound = both.1.0; list_after = both.1.1 }

pub gather_all-requires : goal.gather_all-requires
gather_all-requires c =
    let a = c.args in
    let d = c.load-d in
    let s = not-true _ (sym c.whole.ensures ∙ not-false _ c.if-not-whole.false-raw) in
    let r = c.if-list-lt-HELD_MOST.false in
    let m = c.if-d-gt-CONSUMERS.false in
    let n = c.if-d-gt-ROWS.false in record { held_numbers = numbers_fit a.head.now a.subs.now a.rows.now a.list.now r s d.result d.ensures m n (not-false _ c.if-not-d.false); do_bound = r }

pub returns : goal.returns
returns c =
    let a = c.args in
    let d = c.load-d in
    let s = not-true _ (sym c.whole.ensures ∙ not-false _ c.if-not-whole.false-raw) in
    let g = c.gather_all in
    let r = c.if-list-lt-HELD_MOST.false in
    let m = c.if-d-gt-CONSUMERS.false in
    let n = c.if-d-gt-ROWS.false in
    let q = not-false _ c.if-not-d.false in
    let both = queue-put a.head.now a.subs.now a.rows.now a.list.now r s d.result d.ensures m n q g.result _ g.ensures.value g.ensures.upper_bound g.ensures.out_after in record { value = both.0; upper_bound = both.1.0; list_after = both.1.1 }
