use mathlib.Core.Path.{ap, ◌∙◌}
use mathlib.Core.List.{map}
use Prim.Native.Nat.{ℕ, ◌+◌, ◌≤◌}
use lib.Seq.{slice}
use Rattle.model.specs.declared.AckCount.TheVariants.{Uncounted, Dequeue, Expiry, DeadLetter}
use Rattle.definition.specs.Consumer.{◌⊕◌, add_dequeued, add_expired}
use Rattle.definition.specs.Layout.{inflight_at}
use Rattle.table.specs.Table.{dseq_between}
use Rattle.state.specs.State.{kind_by}
use Rattle.state.proofs.Counts.{dequeued-plain, expired-plain}
use Rattle.acks.specs.Rules.{in_span}
use Rattle.acks.proofs.Parts.{count-few, count-is}
use Rattle.acks.proofs.Telling.{told-counted, told_none, told-browsing, told-as}
use native.Mathlib.Omega.{arith}
use Rattle.engine.proofs.acking.count.Goals as goal

pub returns-then-s : goal.returns-then-s
returns-then-s c =
    let a = c.args in
    told-browsing a.counts a.s.browser a.cause (in_span a.p) (map inflight_at (slice a.base (a.base + a.s.inflight) a.rows.now)) _ a.d a.d a.events.now a.events.now c.if-s.true (told_none _ a.d a.events.now)

pub returns-in-Uncounted : goal.returns-in-Uncounted
returns-in-Uncounted c =
    let a = c.args in
    told-as a.counts a.s.browser a.cause (in_span a.p) (map inflight_at (slice a.base (a.base + a.s.inflight) a.rows.now)) _ a.d a.d a.events.now a.events.now Uncounted c.if-s.false c.in-Uncounted.is (told_none _ a.d a.events.now)

pub returns-in-Dequeue : goal.returns-in-Dequeue
returns-in-Dequeue c =
    let a = c.args in
    let own = c.requires.0 in
    let k = c.count_range-k.result in
    let few : k ≤ a.s.inflight = omega (arith, c.count_range-k.ensures, count-few (kind_by a.d.queue) a.base a.s a.d a.rows.now own (dseq_between a.p.first a.p.last)) in
    let is = c.count_range-k.ensures ∙ count-is (kind_by a.d.queue) a.base a.s a.d a.rows.now own a.p in
    told-as a.counts a.s.browser a.cause (in_span a.p) (map inflight_at (slice a.base (a.base + a.s.inflight) a.rows.now)) _ a.d _ a.events.now _ Dequeue c.if-s.false c.in-Dequeue.is
    (told-counted _ _ _ a.d _ a.events.now c.count_dequeued.ensures (dequeued-plain a.d.stats k (omega (arith, own.dequeued, own.rows, own.used)) ∙ ap (λ (n : ℕ). a.d.stats ⊕ add_dequeued n) is))

pub returns-in-Expiry : goal.returns-in-Expiry
returns-in-Expiry c =
    let a = c.args in
    let own = c.requires.0 in
    let k = c.count_range-k-in-Expiry.result in
    let few : k ≤ a.s.inflight = omega (arith, c.count_range-k-in-Expiry.ensures, count-few (kind_by a.d.queue) a.base a.s a.d a.rows.now own (dseq_between a.p.first a.p.last)) in
    let is = c.count_range-k-in-Expiry.ensures ∙ count-is (kind_by a.d.queue) a.base a.s a.d a.rows.now own a.p in
    told-as a.counts a.s.browser a.cause (in_span a.p) (map inflight_at (slice a.base (a.base + a.s.inflight) a.rows.now)) _ a.d _ a.events.now _ Expiry c.if-s.false c.in-Expiry.is
    (told-counted _ _ _ a.d _ a.events.now c.count_expired.ensures (expired-plain a.d.stats k (omega (arith, own.expired, own.rows, own.used)) ∙ ap (λ (n : ℕ). a.d.stats ⊕ add_expired n) is))

pub returns-in-DeadLetter : goal.returns-in-DeadLetter
returns-in-DeadLetter c =
    let a = c.args in
    told-as a.counts a.s.browser a.cause (in_span a.p) (map inflight_at (slice a.base (a.base + a.s.inflight) a.rows.now)) _ a.d _ a.events.now _ DeadLetter c.if-s.false c.in-DeadLetter.is c.letters.ensures
