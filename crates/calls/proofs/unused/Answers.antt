use Rattle.std.proofs.Common.{◌≡◌, arith, rules, tests, ◌∙◌, length, drop, nat_eq, take_all, length-drop}
use Rattle.std.proofs.lemmas.Iterator.{YieldsList-from_slice}
use Rattle.std.proofs.lemmas.Iterator.Search.{all_from_yields_List}
use Rattle.calls.proofs.Rest.{zeros}
use Rattle.calls.proofs.unused.Goals as goal

pub returns : goal.returns
returns c =
    let ws = drop c.args.from c.args.w in
    let n : length c.args.w ≡ 8 = search rules in
    let rest = c.iter.ensures.rest ∙ take_all _ ws (simp length-drop (omega arith)) in
    all_from_yields_List (λ w. nat_eq w 0) _ _ c.all.result c.all.ensures.ran (YieldsList-from_slice ws rest) (λ x b q k. search (rules, tests)) ∙ zeros ws
