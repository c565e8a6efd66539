use Rattle.std.proofs.Common.{rules, tests, ◌∙◌}
use Rattle.std.proofs.lemmas.Iterator.{YieldsList-from_slice}
use Rattle.std.proofs.lemmas.Iterator.Search.{all_from_yields_List}
use Rattle.definition.proofs.Chains.{list_all-all}
use Rattle.copies.specs.Copies.{alike}
use Rattle.copies.proofs.alike.Goals as goal

pub returns : goal.returns
returns c =
    let a = c.args in
    all_from_yields_List (alike a.seq a.size) _ _ c.all.result c.all.ensures.ran (YieldsList-from_slice a.rows.now cc) (λ x b q k. search (rules, tests)) ∙ list_all-all (alike a.seq a.size) a.rows.now
