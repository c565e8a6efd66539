use Rattle.std.proofs.Common.{ap, sym, ◌∙◌}
use Rattle.textwords.specs.Numbers.{negated}
use Rattle.textwords.proofs.Values.{number-negative, number-unsigned}
use Rattle.textwords.proofs.number_of.Goals as goal

pub returns-in_err-unsigned-in-Some : goal.returns-in_err-unsigned-in-Some
unfolding negated
returns-in_err-unsigned-in-Some c =
    c.from_residual.ensures ∙ sym (number-negative c.args.s.now c.in-Some.rest.now c.in-Some.ensures.cases.0 c.in-Some.ensures.cases.1 ∙ ap negated (sym c.unsigned.ensures ∙ c.in_err-unsigned-in-Some.was))

pub returns-in_ok-unsigned-in-Some : goal.returns-in_ok-unsigned-in-Some
returns-in_ok-unsigned-in-Some c =
    c.negative.ensures ∙ sym (number-negative c.args.s.now c.in-Some.rest.now c.in-Some.ensures.cases.0 c.in-Some.ensures.cases.1 ∙ ap negated (sym c.unsigned.ensures ∙ c.in_ok-unsigned-in-Some.was))

pub returns-in-None : goal.returns-in-None
returns-in-None c = c.unsigned-in-None.ensures ∙ sym (number-unsigned c.args.s.now c.in-None.ensures.cases)
