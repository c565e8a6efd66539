use lib.ListN.{length}
use Rattle.running.proofs.Sending.{events-fit}
use Rattle.running.proofs.Called.{sends, as-told, printed}
use Rattle.definition.specs.Layout.{lent}
use Rattle.running.proofs.run_call.Goals as goal

pub returns : goal.returns
returns c =
    let k = c.call-r in
    let a = c.args in
    let few = sends (lent a.head.now a.subs.now a.rows.now) (length a.events.now) a.c.code a.c.words in record { called = as-told k.ensures; puts = printed k.ensures a.index few c.requires c.put_call-next.ensures (events-fit (lent a.head.now a.subs.now a.rows.now) (length a.events.now) a.c.code a.c.words) c.put_events.ensures }
