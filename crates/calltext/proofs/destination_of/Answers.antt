use Rattle.std.proofs.Common.{sym, ap, ◌∙◌, arith, drop}
use Rattle.textwords.specs.Numbers.{number_of}
use Rattle.calltext.specs.Lines.{small_number}
use Rattle.calltext.proofs.Gathering.{number-after, small, large, none-small, no_bytes}
use Rattle.calltext.proofs.destination_of.Goals as goal

pub returns-in_err-number : goal.returns-in_err-number
returns-in_err-number c = c.from_residual.ensures ∙ (no_bytes c.args.word.now c.in_err-number.ensures.cases).0

pub returns-in_err-d : goal.returns-in_err-d
returns-in_err-d c =
    let k = ap (drop 1) c.in_ok-number.ensures.cases.0 in
    let e = ap number_of k ∙ sym c.number_of.ensures ∙ c.in_err-d.was in
    c.from_residual-in_err-d.ensures ∙ sym none-small ∙ ap small_number (sym e) ∙ number-after c.args.word.now

pub returns-then-d-gt-MOST_DESTINATION : goal.returns-then-d-gt-MOST_DESTINATION
returns-then-d-gt-MOST_DESTINATION c =
    let k = ap (drop 1) c.in_ok-number.ensures.cases.0 in
    let e = ap number_of k ∙ sym c.number_of.ensures ∙ c.in_ok-d.was in
    sym (large c.in_ok-d.d (omega arith)) ∙ ap small_number (sym e) ∙ number-after c.args.word.now

pub returns : goal.returns
returns c =
    let k = ap (drop 1) c.in_ok-number.ensures.cases.0 in
    let e = ap number_of k ∙ sym c.number_of.ensures ∙ c.in_ok-d.was in
    sym (small c.in_ok-d.d (omega arith)) ∙ ap small_number (sym e) ∙ number-after c.args.word.now
