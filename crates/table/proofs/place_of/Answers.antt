use Rattle.std.proofs.Common.{arith, rules, tests, ◌≡◌, sym, ap, ◌∙◌, ◌+◌, ℕ, length}
use Rattle.std.proofs.lemmas.Iterator.{YieldsList-from_slice}
use Rattle.std.proofs.lemmas.Iterator.Search.{position_from_yields_List}
use Rattle.std.specs.List.{position_or_len}
use Rattle.definition.proofs.Chains.{slice-range}
use Rattle.table.specs.Table.{place_of, place_from}
use Rattle.table.proofs.Lists.{both_hold, outside}
use Rattle.table.proofs.Chains.{no-part, reaches, place-first, place-most, at-some, at-none}
use Rattle.table.proofs.place_of.Goals as goal

pub returns-in_default : goal.returns-in_default
unfolding place_of
returns-in_default c = let a = c.args in
    sym (outside a.from a.to a.to (length a.rows.now) _ _ (λ h b. absurd (no-part a.from a.to (length a.rows.now) c.in_default.ensures.lookup.0 h b)))

pub returns-in-Some-position : goal.returns-in-Some-position
unfolding place_of
returns-in-Some-position c = let a = c.args in
    let xs = c.in-Some.part.now in
    let g = c.in-Some.ensures.lookup.0 in
    ap (λ (k : ℕ). a.from + k) (sym (at-some (position_or_len (reaches a.seq) xs) (length xs) c.in-Some-position.i c.position.result (position_from_yields_List (reaches a.seq) _ _ c.position.result c.position.ensures.ran (YieldsList-from_slice xs cc) (λ x b q k. search (rules, tests))) c.in-Some-position.is))
    ∙ place-first a.seq a.from xs
    ∙ ap (place_from a.from a.seq) (g.2 ∙ sym (slice-range a.from a.to a.rows.now g.0))
    ∙ sym (both_hold a.from a.to a.to (length a.rows.now) _ _ g.0 g.1)

pub returns-in-None : goal.returns-in-None
unfolding place_of
returns-in-None c = let a = c.args in
    let xs = c.in-Some.part.now in
    let g = c.in-Some.ensures.lookup.0 in
    let e : position_or_len (reaches a.seq) xs ≡ length xs = at-none (position_or_len (reaches a.seq) xs) (length xs) c.position.result (position_from_yields_List (reaches a.seq) _ _ c.position.result c.position.ensures.ran (YieldsList-from_slice xs cc) (λ x b q k. search (rules, tests))) c.in-None.is (place-most (reaches a.seq) xs) in
    let u : a.to ≡ a.from + position_or_len (reaches a.seq) xs = omega (arith, g.3) in
    u
    ∙ place-first a.seq a.from xs
    ∙ ap (place_from a.from a.seq) (g.2 ∙ sym (slice-range a.from a.to a.rows.now g.0))
    ∙ sym (both_hold a.from a.to a.to (length a.rows.now) _ _ g.0 g.1)
