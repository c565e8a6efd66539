use Rattle.std.proofs.Common.{true, false, rules, tests, arith, ◌∙◌, ◌≡◌, ap, sym, drop, length, ◌+◌, ◌-◌}
use Rattle.std.proofs.lemmas.Iterator.{YieldsList-from_slice, IsFirst-from_position}
use lib.ListN.{length-drop}
use lib.Seq.{take_all}
use Rattle.layouts.specs.Layouts.{covers}
use Rattle.layouttext.specs.Verdict.{cover_at}
use Rattle.layouttext.proofs.Covers.{cover-position, cover-end}
use Rattle.layouttext.proofs.cover_from.Goals as goal

pub returns-in_default : goal.returns-in_default
returns-in_default c = let a = c.args in omega (arith, cover-end a.layout a.rows.now a.from (omega (arith, c.in_default.ensures.lookup)))

pub returns : goal.returns
returns c =
    let a = c.args in
    let e : c.in-Some.rest.now ≡ drop a.from a.rows.now = c.in-Some.ensures.lookup.0.2 ∙ take_all (length a.rows.now - a.from) (drop a.from a.rows.now) (omega (arith, length-drop a.from a.rows.now)) in
    let l = c.in-Some.rest.now in
    let r = cover-position a.layout l c.position.result (IsFirst-from_position _ _ c.position.result (λ row. covers row a.layout ≡ true) (λ row. covers row a.layout ≡ false) c.position.ensures.ran (YieldsList-from_slice l cc) (λ x q k. search (rules, tests)) (λ x q k. search (rules, tests))) in
    ap (λ n. a.from + n) (c.unwrap_or.ensures ∙ sym r ∙ ap (cover_at a.layout) e)
