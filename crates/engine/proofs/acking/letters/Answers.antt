use mathlib.Core.Path.{sym, ap, ◌∙◌}
use lib.ListN.{length}
use lib.Seq.{slice}
use Rattle.entry.specs.declared.Entry.{Entry}
use Rattle.definition.specs.Types.{letter}
use Rattle.definition.specs.Layout.{inflight_at}
use Rattle.acks.specs.Rules.{in_span}
use Rattle.acks.specs.Parts.{dead_head, dead_events}
use Rattle.acks.proofs.Telling.{telling-start, telling-miss, telling-dead, telling-end, told-flying}
use Rattle.engine.proofs.acking.letters.Goals as goal
use Rattle.engine.proofs.acking.letters.Goals.{then-has, else-has}

pub loop-i-init : goal.loop-i-init
loop-i-init c = let a = c.args in telling-start a.cause (λ w. in_span a.p (inflight_at w)) a.rows.now a.from a.to a.before a.events.now c.requires

pub loop-i-preserved : goal.loop-i-preserved
loop-i-preserved c =
    let a = c.args in
    let l = c.loop-i in
    elim c.if-has.branch [
      | then-has w ↦ let e = w.entry_of.ensures in rw (w.d-is, w.events-is)
          (telling-dead a.cause (λ w. in_span a.p (inflight_at w)) a.rows.now a.from a.to a.before a.events.now c.requires l.i l.d l.events l.invariant c.loop-i-test.true (sym c.has.ensures ∙ w.if-has.true) _ _
          (w.dead-d.ensures.0 ∙ ap (λ (x : Entry). dead_head x.persistent l.d (length l.events)) e)
          (w.dead-d.ensures.1 ∙ ap (λ (x : Entry). dead_events x.persistent l.d.events (letter x.seq x.redelivery a.cause) l.events) e))
      | else-has w ↦ rw (w.d-is, w.events-is)
          (telling-miss a.cause (λ w. in_span a.p (inflight_at w)) a.rows.now a.from a.to a.before a.events.now c.requires l.i l.d l.events l.invariant c.loop-i-test.true (sym c.has.ensures ∙ w.if-has.false))
    ]

pub returns : goal.returns
returns c =
    let a = c.args in
    let l = c.loop-i in
    told-flying a.cause a.p (slice a.from a.to a.rows.now) a.before l.d a.events.now l.events
    (telling-end a.cause (λ w. in_span a.p (inflight_at w)) a.rows.now a.from a.to a.before a.events.now c.requires l.i l.d l.events l.invariant c.loop-i-test.false)
