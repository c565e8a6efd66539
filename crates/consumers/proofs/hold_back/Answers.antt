use Rattle.std.proofs.Common.{arith, ap, ◌∙◌, set, get_or, [], take, ℕ, min}
use Rattle.definition.specs.Words.{at}
use Rattle.consumers.specs.Table.{sixteen, held_back_row}
use Rattle.consumers.proofs.Lists.{on_none, on-turn, on-lent}
use Rattle.consumers.proofs.hold_back.Goals as goal

pub loop-w-init : goal.loop-w-init
loop-w-init c = on_none (held_back_row c.args.seq) _

pub loop-w-preserved : goal.loop-w-preserved
unfolding held_back_row
loop-w-preserved c = let l = c.loop-w in
    let x = take c.end_of-end.result c.args.subs.now in
    let w = get_or l.w-items l.w-index [] in
    ap (set l.w-items l.w-index) (c.up_to.ensures ∙ ap (λ (k : ℕ). set (sixteen w) 9 (min (at 9 w) k)) c.saturating_sub-most.ensures)
    ∙ on-turn (held_back_row c.args.seq) l.w-index x l.w-items (omega arith) l.invariant

pub returns : goal.returns
returns c = on-lent (held_back_row c.args.seq) c.loop-w.w-index _ c.args.n c.args.subs.now _ c.end_of-end.ensures (omega arith) c.loop-w.invariant
