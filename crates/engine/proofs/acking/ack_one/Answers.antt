use mathlib.Core.Path.{ap, ◌∙◌}
use Prim.Native.Nat.{◌+◌}
use native.Mathlib.Omega.{arith}
use Rattle.model.specs.declared.AckEffect.{AckEffect}
use Rattle.model.specs.declared.AckRule.{AckRule}
use Rattle.definition.specs.Types.{Sub}
use Rattle.definition.specs.Consumer.{ack_sub}
use Rattle.state.specs.State.{kind_by}
use Rattle.table.specs.declared.Span.{Span}
use Rattle.acks.specs.Acks.{ack_of}
use Rattle.acks.specs.Rules.{in_span, acts}
use Rattle.acks.specs.Parts.{own_view}
use Rattle.acks.proofs.Rules.{acts-either}
use Rattle.acks.proofs.Flying.{span-rows}
use Rattle.acks.proofs.Parts.{flies, acted-same}
use Rattle.engine.proofs.acking.ack_one.Goals as goal

pub returns : goal.returns
returns c =
    let a = c.args in
    let own = c.requires.0 in
    let rule : AckRule = c.of-rule.result in
    let effect : AckEffect = c.effect_of-effect.result in
    let v : Sub = own_view (kind_by a.d.queue) a.base a.s a.rows.now in
    acted-same _ (ack_sub (ack_of a.a)) (kind_by a.d.queue) a.base a.s _ a.d _ a.rows.now a.events.now _ _
    (ap (λ (p : Span). acts effect rule.counts a.a.cause (in_span p) v) (c.span_of-p.ensures ∙ span-rows c.range_of-range.result (ack_of a.a) v a.base (a.base + a.s.inflight) a.rows.now (omega arith) (omega (arith, own.rows, own.used, own.room)) (flies (kind_by a.d.queue) a.base a.s a.d a.rows.now own))
    ∙ acts-either (ack_of a.a) v rule c.of-rule.ensures c.range_of-range.result effect c.range_of-range.ensures c.effect_of-effect.ensures)
    c.act.ensures
