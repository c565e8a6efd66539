use Rattle.stationrun.proofs.Called.{printed}
use Rattle.stationrun.proofs.run_call.Goals as goal

pub returns : goal.returns
returns c = let a = c.args in
    let k = c.one_call-r in
    (k.ensures.0, printed k.ensures.0 k.result k.ensures.1 a.index c.requires c.put_call-next.ensures c.put_all_sent.ensures)
