use Rattle.std.proofs.Common.{length}
use Rattle.std.proofs.lemmas.List.{take_all}
use Rattle.callfile.proofs.Texts.{no_lines, so-many, one_more}
use Rattle.callfile.proofs.each_event.Goals as goal

pub loop-e-init : goal.loop-e-init
loop-e-init c = no_lines c.args.out.now c.args.from

pub loop-e-preserved : goal.loop-e-preserved
loop-e-preserved c =
    let l = c.loop-e in
    let a = c.args in
    one_more a.events.now a.from l.e-index (length a.events.now) a.out.now l.out l.at l.invariant c.requires c.loop-e-test.true c.loop-e-test.true c.put_event-at.ensures

pub returns : goal.returns
returns c =
    let l = c.loop-e in
    let a = c.args in
    (rw (take_all l.e-index a.events.now c.loop-e-test.false) at l.invariant, so-many a.events.now a.from l.e-index (length a.events.now) a.out.now l.out l.at l.invariant c.requires l.auto.e-index-end)
