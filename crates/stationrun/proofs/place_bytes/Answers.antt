use Rattle.stationrun.proofs.Ends.{shut, opened, shut-bytes, open-bytes}
use Rattle.stationrun.proofs.place_bytes.Goals as goal

pub returns-then-own-k-eq0 : goal.returns-then-own-k-eq0
returns-then-own-k-eq0 c = let a = c.args in
    let p = c.requires in
    shut-bytes a.k a.heads.now a.subs.now a.rows.now a.own.now (shut c.if-own-k-eq0.true)

pub returns : goal.returns
returns c = let a = c.args in
    let p = c.requires in
    open-bytes a.k a.heads.now a.subs.now a.rows.now a.own.now (opened c.if-own-k-eq0.false) p.0 p.2 c.bytes_held-r.result c.bytes_held-r.ensures
