use Rattle.definition.specs.Layout.{stats_at}
use Rattle.reporting.proofs.Hearing.{no-last-room, none_told, last-put, rest-room}
use Rattle.reporting.proofs.report_end.Goals as goal

pub returns-then-out-lt-LAST : goal.returns-then-out-lt-LAST
returns-then-out-lt-LAST c = let a = c.args in no-last-room a.at a.failed a.held.now a.kept (stats_at a.head.now) a.out.now c.if-out-lt-LAST.true

pub returns-then-kept-gt-HELD_MOST : goal.returns-then-kept-gt-HELD_MOST
returns-then-kept-gt-HELD_MOST c = let a = c.args in none_told a.at a.failed a.held.now a.kept (stats_at a.head.now) a.out.now c.if-kept-gt-HELD_MOST.true

pub put_tail-requires : goal.put_tail-requires
put_tail-requires c = let a = c.args in (rest-room a.at a.failed a.held.now a.kept (stats_at a.head.now) a.out.now c.if-out-lt-LAST.false c.rest_line-from.ensures, c.if-kept-gt-HELD_MOST.false)

pub returns : goal.returns
returns c = let a = c.args in last-put a.at a.failed a.held.now a.kept (stats_at a.head.now) a.out.now c.if-out-lt-LAST.false c.if-kept-gt-HELD_MOST.false c.counters-s.result c.counters-s.ensures c.rest_line-from.ensures c.put_tail.ensures
