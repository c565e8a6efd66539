use Rattle.reporting.proofs.Hearing.{tail-put}
use Rattle.reporting.proofs.put_tail.Goals as goal

pub returns : goal.returns
returns c =
    let a = c.args in
    let p = c.requires in
    tail-put a.held.now a.kept a.s c.ways-w.result c.ways-w.ensures p.1 p.0 c.put_blocks-a.ensures c.put_totals-b.ensures c.put_counters.ensures
