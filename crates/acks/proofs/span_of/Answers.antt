use Rattle.std.proofs.Common.{sym, ap, ap₂, ◌∙◌}
use Rattle.definition.specs.Consumer.{or0}
use Rattle.acks.specs.Acks.{maybe_number, ack_of}
use Rattle.acks.specs.Rules.{span_of, number_in, rows_in, span_in}
use Rattle.acks.proofs.Flying.{or0-given}
use Rattle.acks.proofs.span_of.Goals as goal

pub returns-in_default : goal.returns-in_default
unfolding span_in
returns-in_default c =
    let a = c.args in
    c.none.ensures ∙ ap (span_of a.range (or0 (number_in (rows_in a.from a.to a.rows.now) (ack_of a.a).first))) (sym (ap maybe_number c.in_default.is) ∙ c.number_of.ensures)

pub returns : goal.returns
unfolding span_in
returns c =
    let a = c.args in
    let first = c.unwrap_or-first.ensures ∙ sym (or0-given c.number_of-2.result) ∙ ap or0 c.number_of-2.ensures in
    c.ranged.ensures ∙ ap₂ (span_of a.range) first (sym (ap maybe_number c.in-Some.is) ∙ c.number_of.ensures)
