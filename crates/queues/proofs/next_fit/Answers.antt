use Rattle.std.proofs.Common.{rules, tests, ◌∙◌, take}
use Rattle.std.proofs.lemmas.Iterator.{YieldsList-from_slice, YieldsList-from_take}
use Rattle.std.proofs.lemmas.Iterator.Search.{all_from_yields_List}
use Rattle.definition.proofs.Chains.{list_all-all}
use Rattle.consumers.specs.Table.{next_fits}
use Rattle.queues.proofs.next_fit.Goals as goal

pub returns : goal.returns
returns c = all_from_yields_List next_fits _ _ c.all.result c.all.ensures.ran (YieldsList-from_take c.args.n (YieldsList-from_slice c.args.subs.now cc) cc) (λ x b q k. search (rules, tests)) ∙ list_all-all next_fits (take c.args.n c.args.subs.now)
