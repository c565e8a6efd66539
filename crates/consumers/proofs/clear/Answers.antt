use Rattle.std.proofs.Common.{arith, ap, ◌∙◌, set, take}
use Rattle.consumers.specs.Table.{cleared_row}
use Rattle.consumers.proofs.Lists.{on_none, on-turn, on-lent}
use Rattle.consumers.proofs.clear.Goals as goal

pub loop-w-init : goal.loop-w-init
loop-w-init c = on_none cleared_row _

pub loop-w-preserved : goal.loop-w-preserved
loop-w-preserved c = let l = c.loop-w in
    let x = take c.end_of-end.result c.args.subs.now in
    ap (set l.w-items l.w-index) c.emptied.ensures ∙ on-turn cleared_row l.w-index x l.w-items (omega arith) l.invariant

pub returns : goal.returns
returns c = on-lent cleared_row c.loop-w.w-index _ c.args.n c.args.subs.now _ (omega arith) (omega arith) c.loop-w.invariant
