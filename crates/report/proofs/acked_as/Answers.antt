use Rattle.report.proofs.Leaving.{acked-letter, acked-expired, acked-dequeued}
use Rattle.report.proofs.acked_as.Goals as goal

pub returns-then-kind-eq1 : goal.returns-then-kind-eq1
returns-then-kind-eq1 c = acked-letter c.args.kind c.if-kind-eq1.true

pub returns-then-kind-eq6 : goal.returns-then-kind-eq6
returns-then-kind-eq6 c = acked-expired c.args.kind c.if-kind-eq1.false c.if-kind-eq6.true

pub returns : goal.returns
returns c = acked-dequeued c.args.kind c.if-kind-eq1.false c.if-kind-eq6.false
