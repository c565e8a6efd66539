use Rattle.std.proofs.Common.{rules, tests, ◌∙◌, eqb, leb, ℕ}
use Rattle.std.proofs.lemmas.Iterator.{YieldsList-from_slice}
use Rattle.std.proofs.lemmas.Iterator.Search.{all_from_yields_List}
use Rattle.definition.specs.Base.{tally}
use Rattle.definition.proofs.Chains.{list_all-all}
use Rattle.shares.proofs.each_within.Goals as goal

pub returns : goal.returns
returns c =
    let l = c.args.xs.now in
    let p = (λ (x : ℕ). leb (tally (eqb x) l) c.args.share) in
    all_from_yields_List p _ _ c.all.result c.all.ensures.ran (YieldsList-from_slice l cc) (λ x b q k. search (rules, tests)) ∙ list_all-all p l
