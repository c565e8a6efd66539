use Rattle.std.proofs.Common.{rules, tests, sym, ap, ◌∙◌, length}
use Rattle.std.proofs.lemmas.Iterator.{YieldsList-from_slice}
use Rattle.std.proofs.lemmas.Iterator.Search.{position_from_yields_List}
use Rattle.std.specs.List.{position_or_len}
use Rattle.definition.proofs.Chains.{slice-range}
use Rattle.table.specs.Table.{find_seq, find_from}
use Rattle.table.proofs.Lists.{both_hold, outside}
use Rattle.table.proofs.Chains.{no-part, has, find-first, first-some, first-none}
use Rattle.table.proofs.find_seq.Goals as goal

pub returns-in_err-get : goal.returns-in_err-get
unfolding find_seq
returns-in_err-get c = let a = c.args in
    c.from_residual.ensures ∙ sym (outside a.from a.to a.to (length a.rows.now) _ _ (λ h b. absurd (no-part a.from a.to (length a.rows.now) c.in_err-get.ensures.lookup.0 h b)))

pub returns-in_err-i : goal.returns-in_err-i
unfolding find_seq
returns-in_err-i c = let a = c.args in
    let xs = c.in_ok-get.field-0.now in
    let g = c.in_ok-get.ensures.lookup.0 in
    c.from_residual-in_err-i.ensures
    ∙ sym (first-none a.from (position_or_len (has a.seq) xs) (length xs) c.position.result (position_from_yields_List (has a.seq) _ _ c.position.result c.position.ensures.ran (YieldsList-from_slice xs cc) (λ x b q k. search (rules, tests))) c.in_err-i.was)
    ∙ find-first a.seq a.from xs
    ∙ ap (find_from a.from a.seq) (g.2 ∙ sym (slice-range a.from a.to a.rows.now g.0))
    ∙ sym (both_hold a.from a.to a.to (length a.rows.now) _ _ g.0 g.1)

pub returns : goal.returns
unfolding find_seq
returns c = let a = c.args in
    let xs = c.in_ok-get.field-0.now in
    let g = c.in_ok-get.ensures.lookup.0 in
    sym (first-some a.from (position_or_len (has a.seq) xs) (length xs) c.in_ok-i.i c.position.result (position_from_yields_List (has a.seq) _ _ c.position.result c.position.ensures.ran (YieldsList-from_slice xs cc) (λ x b q k. search (rules, tests))) c.in_ok-i.was)
    ∙ find-first a.seq a.from xs
    ∙ ap (find_from a.from a.seq) (g.2 ∙ sym (slice-range a.from a.to a.rows.now g.0))
    ∙ sym (both_hold a.from a.to a.to (length a.rows.now) _ _ g.0 g.1)
