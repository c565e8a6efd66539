use Rattle.stationrun.proofs.Ends.{shut, opened, shut-line, open-line}
use Rattle.stationrun.proofs.put_place.Goals as goal

pub returns-then-own-k-eq0 : goal.returns-then-own-k-eq0
returns-then-own-k-eq0 c = let a = c.args in
    let p = c.requires in
    shut-line a.k a.heads.now a.subs.now a.rows.now a.own.now (shut c.if-own-k-eq0.true) a.out.now a.at

pub returns : goal.returns
returns c = let a = c.args in
    let p = c.requires in
    open-line a.k a.heads.now a.subs.now a.rows.now a.own.now (opened c.if-own-k-eq0.false) p.0 c.counters-s.result c.counters-s.ensures p.2 c.put_counted.ensures
