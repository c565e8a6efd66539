use Rattle.std.proofs.Common.{rules, tests, ◌∙◌, not}
use Rattle.std.proofs.lemmas.Iterator.{YieldsList-from_slice}
use Rattle.std.proofs.lemmas.Iterator.Search.{all_from_yields_List}
use Rattle.model.specs.Model.{id_of, same_id}
use Rattle.definition.specs.Layout.{Row, id_at}
use Rattle.definition.proofs.Chains.{list_all-all}
use Rattle.subrows.proofs.alone.Goals as goal

pub returns : goal.returns
returns c =
    let p = (λ (v : Row). not (same_id (id_at v) (id_of c.args.conn c.args.session c.args.value))) in
    all_from_yields_List p _ _ c.all.result c.all.ensures.ran (YieldsList-from_slice c.args.subs.now cc) (λ x b q k. search (rules, tests)) ∙ list_all-all p c.args.subs.now
