use mathlib.Core.Path.{sym, ◌∙◌}
use borrow.Author.Tests.{not-true, not-false}
use Rattle.sound.proofs.Tables.{subs-stop, queue-last, topic-last}
use borrow.Author.Rules.{rules}
use Rattle.sound.proofs.apart.Goals as goal

pub subs_apart-requires : goal.subs_apart-requires
subs_apart-requires c = record { subs_in_bounds = search rules; subs_bound = search rules; rows_value = c.requires.rows_value_2 }

pub returns-then-not-subs_apart : goal.returns-then-not-subs_apart
returns-then-not-subs_apart c =
    let a = c.args in
    let g = c.subs_apart in
    subs-stop a.others a.reserved a.waiting a.subs.now a.rows.now a.on_queue (sym g.ensures ∙ not-true g.result c.if-not-subs_apart.true-raw)

pub returns-then-not-on_queue : goal.returns-then-not-on_queue
returns-then-not-on_queue c =
    let a = c.args in
    let g = c.subs_apart in
    topic-last a.others a.reserved a.waiting a.subs.now a.rows.now a.on_queue (not-true a.on_queue c.if-not-on_queue.true-raw) (sym g.ensures ∙ not-false g.result c.if-not-subs_apart.false-raw)

pub seen_apart-requires : goal.seen_apart-requires
seen_apart-requires c = record { others_value = search rules; waiting_in_bounds = search rules; waiting_bound = search rules; rows_value = c.requires.rows_value }

pub returns-then-seen_apart : goal.returns-then-seen_apart
returns-then-seen_apart c =
    let a = c.args in
    let g = c.subs_apart in
    sym (c.seen_apart.ensures c.if-seen_apart.true) ∙ queue-last a.others a.reserved a.waiting a.subs.now a.rows.now a.on_queue (not-false a.on_queue c.if-not-on_queue.false-raw) (sym g.ensures ∙ not-false g.result c.if-not-subs_apart.false-raw)

pub queue_apart-requires : goal.queue_apart-requires
queue_apart-requires c = record { others_value = search rules; waiting_in_bounds = search rules; waiting_bound = search rules; reserved_bound = search rules; rows_value = c.requires.rows_value }

pub returns-then-others-reserved-le64 : goal.returns-then-others-reserved-le64
returns-then-others-reserved-le64 c =
    let a = c.args in
    let g = c.subs_apart in
    c.queue_apart.ensures ∙ queue-last a.others a.reserved a.waiting a.subs.now a.rows.now a.on_queue (not-false a.on_queue c.if-not-on_queue.false-raw) (sym g.ensures ∙ not-false g.result c.if-not-subs_apart.false-raw)

pub queue_apart-requires-2 : goal.queue_apart-requires-2
queue_apart-requires-2 c = record { others_value = search rules; waiting_in_bounds = search rules; waiting_bound = search rules; reserved_bound = search rules; rows_value = c.requires.rows_value }

pub returns : goal.returns
returns c =
    let a = c.args in
    let g = c.subs_apart in
    c.queue_apart-2.ensures ∙ queue-last a.others a.reserved a.waiting a.subs.now a.rows.now a.on_queue (not-false a.on_queue c.if-not-on_queue.false-raw) (sym g.ensures ∙ not-false g.result c.if-not-subs_apart.false-raw)
