use Rattle.stationreport.proofs.Shown.{none-shown, held-shown}
use Rattle.stationreport.proofs.blocks.shown_at.Goals as goal

pub returns-then-own-k-ne1 : goal.returns-then-own-k-ne1
returns-then-own-k-ne1 c =
    let a = c.args in
    none-shown a.k a.heads.now a.subs.now a.rows.now a.own.now c.requires.0 a.list.now c.if-own-k-ne1.true

pub returns : goal.returns
returns c =
    let a = c.args in
    let r = c.held-r in
    held-shown a.k a.heads.now a.subs.now a.rows.now a.own.now c.requires.0 a.list.now _ c.requires.2 c.if-own-k-ne1.false r.result (r.ensures.value, r.ensures.list_after)
