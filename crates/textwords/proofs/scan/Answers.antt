use Rattle.std.proofs.Common.{true, false, rules, tests, arith, ◌∙◌, ◌≡◌, ap, sym, drop, length, ◌+◌, ◌-◌}
use Rattle.std.proofs.lemmas.Iterator.{YieldsList-from_slice, IsFirst-from_position}
use lib.ListN.{length-drop}
use lib.Seq.{take_all}
use Rattle.textwords.specs.Text.{stops, run}
use Rattle.textwords.proofs.Scanning.{run-position, run_end}
use Rattle.textwords.proofs.scan.Goals as goal

pub returns-in_default : goal.returns-in_default
returns-in_default c = let a = c.args in omega (arith, run_end a.s a.text.now a.at (omega (arith, c.in_default.ensures.lookup)))

pub returns : goal.returns
returns c =
    let a = c.args in
    let e : c.in-Some.rest.now ≡ drop a.at a.text.now = c.in-Some.ensures.lookup.0.2 ∙ take_all (length a.text.now - a.at) (drop a.at a.text.now) (omega (arith, length-drop a.at a.text.now)) in
    let l = c.in-Some.rest.now in
    let r = run-position a.s l c.position.result (IsFirst-from_position _ _ c.position.result (λ b. stops a.s b ≡ true) (λ b. stops a.s b ≡ false) c.position.ensures.ran (YieldsList-from_slice l cc) (λ x q k. search (rules, tests)) (λ x q k. search (rules, tests))) in
    ap (λ n. a.at + n) (c.unwrap_or.ensures ∙ sym r ∙ ap (run a.s) e)
