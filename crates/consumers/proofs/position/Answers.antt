use Rattle.std.proofs.Common.{rules, tests, ◌≡◌, ap, ◌∙◌, take}
use Rattle.std.proofs.lemmas.Iterator.{YieldsList-from_slice, YieldsList-from_take}
use Rattle.std.proofs.lemmas.Iterator.Search.{position_from_yields_List}
use Rattle.model.specs.declared.Id.{Id}
use Rattle.model.specs.Model.{id_of, same_id}
use Rattle.definition.specs.Layout.{id_at}
use Rattle.consumers.proofs.Words.{id-words}
use Rattle.consumers.specs.Table.{position_from}
use Rattle.consumers.proofs.Table.{position-chain}
use Rattle.consumers.proofs.position.Goals as goal

pub returns : goal.returns
returns c =
    let one = c.word_of-session in
    let two = c.word_of-value in
    let e : id_of c.args.id.conn one.result two.result ≡ c.args.id = id-words c.args.id one.result two.result (search rules) (search rules) one.ensures two.ensures in
    position_from_yields_List (λ w. same_id (id_at w) (id_of c.args.id.conn one.result two.result)) _ _ c.position.result c.position.ensures.ran (YieldsList-from_take c.args.n (YieldsList-from_slice c.args.subs.now cc) cc) (λ x b q k. search (rules, tests)) ∙ position-chain (id_of c.args.id.conn one.result two.result) (take c.args.n c.args.subs.now) ∙ ap (λ (i : Id). position_from 0 i (take c.args.n c.args.subs.now)) e
