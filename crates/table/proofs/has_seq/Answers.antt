use Rattle.std.proofs.Common.{rules, tests, sym, ap, ◌∙◌, length, eqb, get_or}
use Rattle.std.proofs.lemmas.Iterator.{YieldsList-from_slice}
use Rattle.std.proofs.lemmas.Iterator.Search.{any_from_yields_List}
use Rattle.definition.proofs.Chains.{slice-range}
use Rattle.table.specs.Table.{has_seq_in, holds_seq}
use Rattle.table.proofs.Lists.{both_hold, outside}
use Rattle.table.proofs.Chains.{no-part, any-holds}
use Rattle.table.proofs.has_seq.Goals as goal

pub returns-in_default : goal.returns-in_default
unfolding has_seq_in
returns-in_default c = let a = c.args in
    sym (outside a.from a.to a.to (length a.rows.now) _ _ (λ h b. absurd (no-part a.from a.to (length a.rows.now) c.in_default.ensures.lookup.0 h b)))

pub returns : goal.returns
unfolding has_seq_in
returns c = let a = c.args in
    any_from_yields_List (λ r. eqb a.seq (get_or r 0 0)) _ _ c.any.result c.any.ensures.ran (YieldsList-from_slice c.in-Some.part.now cc) (λ x b q k. search (rules, tests))
    ∙ any-holds a.seq c.in-Some.part.now
    ∙ ap (holds_seq a.seq) (c.in-Some.ensures.lookup.0.2 ∙ sym (slice-range a.from a.to a.rows.now c.in-Some.ensures.lookup.0.0))
    ∙ sym (both_hold a.from a.to a.to (length a.rows.now) _ _ c.in-Some.ensures.lookup.0.0 c.in-Some.ensures.lookup.0.1)
