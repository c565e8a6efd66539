use Rattle.std.proofs.Common.{Bool, ap, ◌∙◌}
use Rattle.definition.specs.Words.{at, present}
use Rattle.acks.specs.Acks.{maybe_number}
use Rattle.acks.proofs.Flying.{given-some}
use Rattle.acks.proofs.ack_of.Goals as goal

pub returns : goal.returns
returns c =
    let a = c.args in
    let first = ap maybe_number c.then_some.ensures ∙ given-some c.flag_of-has_first.result (at 4 a.w) in
    let last = ap maybe_number c.then_some-2.ensures ∙ given-some c.flag_of-has_last.result (at 5 a.w) in
    λ j. record {
      type = c.kind_of-kind.ensures j;
      transacted = c.flag_of-transacted.ensures j;
      first = (first ∙ ap (λ (b : Bool). present b (at 4 a.w)) c.flag_of-has_first.ensures) j;
      last = (last ∙ ap (λ (b : Bool). present b (at 5 a.w)) c.flag_of-has_last.ensures) j;
      cause = c.flag_of-cause.ensures j;
    }
