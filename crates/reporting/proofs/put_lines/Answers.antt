use lib.ListN.{take}
use Rattle.reporting.specs.Reporting.{ways_of}
use Rattle.reporting.proofs.Telling.{lines-put}
use Rattle.reporting.proofs.put_lines.Goals as goal

pub returns : goal.returns
returns c =
    let a = c.args in
    let p = c.requires in
    lines-put a.index a.c.code a.r.refusal c.ways-w.result (ways_of (take a.r.held a.held.now)) a.c.words a.queue a.events.now a.r.events a.left.now a.r.left c.ways-w.ensures p.1 p.2 p.0 c.put_turn-a.ensures c.put_brought-b.ensures c.put_events-d.ensures c.put_blocks.ensures
