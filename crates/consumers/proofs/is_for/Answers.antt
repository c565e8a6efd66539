use mathlib.Core.Path.{sym, ap, ◌∙◌}
use Rattle.model.specs.declared.Id.{Id}
use Rattle.model.specs.Model.{same_id}
use Rattle.model.proofs.Ids.{id-equal}
use Rattle.consumers.proofs.Words.{holder-words}
use Rattle.consumers.proofs.is_for.Goals as goal

pub returns : goal.returns
returns c =
    let a = c.args in
    c.eq.ensures ∙ id-equal c.of_words.result a.id ∙ ap (λ (x : Id). same_id x a.id) (c.of_words.ensures ∙ sym (holder-words a.row))
