use Rattle.std.proofs.Common.{rules, tests, ◌∙◌, eqb}
use Rattle.std.proofs.lemmas.Iterator.{YieldsList-from_slice}
use Rattle.std.proofs.lemmas.Iterator.Search.{any_from_yields_List}
use Rattle.distinct.proofs.Laws.{any-member}
use Rattle.distinct.proofs.met.Goals as goal

pub returns : goal.returns
returns c = any_from_yields_List (eqb c.args.x) _ _ c.any.result c.any.ensures.ran (YieldsList-from_slice c.args.xs.now cc) (λ x b q k. search (rules, tests)) ∙ any-member c.args.x c.args.xs.now
