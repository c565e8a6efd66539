use Rattle.stationrun.proofs.Ends.{shut, opened}
use Rattle.stationreport.proofs.Shown.{no_place, shut-place, queue-place}
use native.Mathlib.Omega.{arith}
use Rattle.stationreport.proofs.blocks.is_queue.Goals as goal

pub returns-then-number-gt7 : goal.returns-then-number-gt7
returns-then-number-gt7 c =
    let a = c.args in
    no_place a.number a.heads.now a.subs.now a.rows.now a.own.now c.if-number-gt7.true

pub returns-then-own-k-eq0 : goal.returns-then-own-k-eq0
returns-then-own-k-eq0 c =
    let a = c.args in
    shut-place a.number a.heads.now a.subs.now a.rows.now a.own.now (omega arith) (shut c.if-own-k-eq0.true)

pub returns : goal.returns
returns c =
    let a = c.args in
    queue-place a.number a.heads.now a.subs.now a.rows.now a.own.now (omega arith) (opened c.if-own-k-eq0.false) c.requires.0.heads-long
