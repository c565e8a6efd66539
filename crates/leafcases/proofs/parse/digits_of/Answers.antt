use mathlib.Core.Path.{sym, ◌∙◌}
use borrow.Author.Rules.{rules}
use Rattle.leafcases.proofs.Text.{digits_step, digits-done, some-digits, no-digits}
use Rattle.leafcases.proofs.parse.digits_of.Goals as goal

pub returns-in_err-value : goal.returns-in_err-value
returns-in_err-value c =
    let s = c.args.s.now in
    let l = c.loop-byte in
    let e = sym c.next_digit.ensures ∙ c.in_err-value.was in
    c.from_residual.ensures ∙ sym (some-digits s (search rules) ∙ l.invariant ∙ digits_step s l.value l.byte-index (search rules) ∙ rw e)

pub loop-byte-preserved : goal.loop-byte-preserved
loop-byte-preserved c =
    let s = c.args.s.now in
    let l = c.loop-byte in
    let e = sym c.next_digit.ensures ∙ c.in_ok-value.was in
    l.invariant ∙ digits_step s l.value l.byte-index (search rules) ∙ rw e

pub returns-then-is_empty : goal.returns-then-is_empty
returns-then-is_empty c = no-digits c.args.s.now (search rules)

pub returns : goal.returns
returns c =
    let s = c.args.s.now in
    let l = c.loop-byte in
    sym (some-digits s (search rules) ∙ l.invariant ∙ digits-done s l.value l.byte-index (search rules))
