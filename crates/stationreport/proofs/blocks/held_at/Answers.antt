use Rattle.stationrun.proofs.Ends.{shut, opened}
use Rattle.stationreport.proofs.Gathered.{none-held, some-held}
use Rattle.stationreport.proofs.blocks.held_at.Goals as goal

pub returns-then-own-k-eq0 : goal.returns-then-own-k-eq0
returns-then-own-k-eq0 c =
    let a = c.args in
    none-held a.k a.heads.now a.subs.now a.rows.now a.own.now a.list.now (shut c.if-own-k-eq0.true)

pub returns : goal.returns
returns c =
    let a = c.args in
    let r = c.blocks_in in
    some-held a.k a.heads.now a.subs.now a.rows.now a.own.now a.list.now (opened c.if-own-k-eq0.false) c.requires.0 c.requires.2 r.result _ (r.ensures.value, (r.ensures.upper_bound, r.ensures.list_after))
