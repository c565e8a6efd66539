use Rattle.std.proofs.Common.{sym, ap, ◌∙◌, length}
use Rattle.definition.proofs.Chains.{slice-range}
use Rattle.table.specs.Table.{count_rows, dseq_between}
use Rattle.definition.specs.Base.{tally}
use Rattle.table.proofs.Chains.{no-part}
use Rattle.table.proofs.Lists.{both_hold, outside}
use Rattle.table.proofs.count_range.Goals as goal

pub returns-in_default : goal.returns-in_default
unfolding count_rows
returns-in_default c = let a = c.args in
    sym (outside a.from a.to a.to (length a.rows.now) _ _ (λ h b. absurd (no-part a.from a.to (length a.rows.now) c.in_default.ensures.lookup.0 h b)))

pub returns : goal.returns
unfolding count_rows
returns c = let a = c.args in
    c.count_in.ensures
    ∙ ap (tally (dseq_between a.span.first a.span.last)) (c.in-Some.ensures.lookup.0.2 ∙ sym (slice-range a.from a.to a.rows.now c.in-Some.ensures.lookup.0.0))
    ∙ sym (both_hold a.from a.to a.to (length a.rows.now) _ _ c.in-Some.ensures.lookup.0.0 c.in-Some.ensures.lookup.0.1)
