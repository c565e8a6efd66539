use Rattle.stationcalls.proofs.Eight.{place-closed, place-bad, place-open}
use Rattle.stationcalls.proofs.own.place_ok.Goals as goal

pub returns-then-mark-eq0 : goal.returns-then-mark-eq0
returns-then-mark-eq0 c = place-closed c.args.own.now c.args.k c.if-mark-eq0.true

pub returns-then-mark-ne1 : goal.returns-then-mark-ne1
returns-then-mark-ne1 c = place-bad c.args.own.now c.args.k c.if-mark-eq0.false c.if-mark-ne1.true

pub returns : goal.returns
returns c = place-open c.args.own.now c.args.k c.if-mark-ne1.false
