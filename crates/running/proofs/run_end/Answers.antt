use Rattle.definition.specs.Layout.{stats_at}
use Rattle.running.specs.Files.{last_lines}
use Rattle.running.proofs.Files.{last-lines, no-lines-room}
use Rattle.running.proofs.run_end.Goals as goal

pub returns-then-out-lt-LAST : goal.returns-then-out-lt-LAST
returns-then-out-lt-LAST c =
    let a = c.args in
    no-lines-room (last_lines a.at a.failed (stats_at a.head.now)) a.out.now c.if-out-lt-LAST.true

pub returns : goal.returns
returns c =
    let a = c.args in
    let s = c.counters-s in
    last-lines a.at a.failed s.result (stats_at a.head.now) s.ensures c.if-out-lt-LAST.false c.rest_line-from.ensures c.put_counters.ensures
