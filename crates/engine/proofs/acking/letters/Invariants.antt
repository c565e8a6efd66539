use Rattle.definition.specs.Layout.{inflight_at}
use Rattle.acks.specs.Rules.{in_span}
use Rattle.acks.proofs.Telling.{Telling}
use Rattle.engine.proofs.acking.letters.Given as goal

abbrev pub invariant-loop-i : goal.invariant-loop-i
invariant-loop-i l = Telling l.cause (λ w. in_span l.p (inflight_at w)) l.rows l.from l.to l.i l.initial.d l.d l.initial.events l.events
