use Prim.Native.Nat.{ℕ}
use mathlib.Core.Path.{refl, ap, ◌∙◌}
use mathlib.Core.Bool.{◌&&◌}
use lib.Dec.{eqb}
use lib.ListN.{length}
use Rattle.definition.specs.Layout.{buffer_step, lent}
use Rattle.running.proofs.Sending.{events-fit}
use Rattle.running.proofs.Called.{sends}
use Rattle.reporting.proofs.Telling.{sent-few, queue-word, call-told, noted_call}
use Rattle.reporting.proofs.report_call.Goals as goal

pub put_lines-next-requires : goal.put_lines-next-requires
put_lines-next-requires c =
    let a = c.args in
    let k = c.call-r in
    let p = c.requires in
    let b = lent a.head.now a.subs.now a.rows.now in
    let b' = lent k.new.head k.new.subs k.new.rows in
    let few = sends b (length a.events.now) a.c.code a.c.words in
    let n = noted_call b b' a.events.now k.new.events a.held.now k.new.held a.left.now k.new.left a.kept.count a.c k.result p.1 p.2 p.3 k.ensures in
    (p.0, sent-few (buffer_step b (length a.events.now) a.c.code a.c.words) a.c b b' a.events.now k.new.events a.held.now k.new.held a.left.now k.new.left a.kept k.result n p.3 few, n.left-few)

pub returns : goal.returns
returns c =
    let a = c.args in
    let k = c.call-r in
    let p = c.requires in
    let b = lent a.head.now a.subs.now a.rows.now in
    let b' = lent k.new.head k.new.subs k.new.rows in
    let few = sends b (length a.events.now) a.c.code a.c.words in
    let n = noted_call b b' a.events.now k.new.events a.held.now k.new.held a.left.now k.new.left a.kept.count a.c k.result p.1 p.2 p.3 k.ensures in
    call-told (buffer_step b (length a.events.now) a.c.code a.c.words) a.c b b' a.events.now k.new.events a.held.now k.new.held a.left.now k.new.left a.kept k.result n p.3 c.gone_after-gone.result (eqb a.c.code 0 && eqb k.result.refusal 0) refl c.gone_after-gone.ensures a.index (eqb c.word-queue.result 0) (ap (λ (x : ℕ). eqb x 0) c.word-queue.ensures ∙ queue-word b') (events-fit b (length a.events.now) a.c.code a.c.words) c.put_lines-next.ensures
