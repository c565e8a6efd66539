use mathlib.Core.Path.{ap, ◌∙◌}
use lib.ListN.{set}
use Rattle.consumers.specs.declared.Sub.{Sub}
use Rattle.consumers.specs.Consumers.{sub_words}
use Rattle.joins.proofs.Outcomes.{admit-needs, admit-browser, admit-plain}
use Rattle.joins.proofs.admit.Goals as goal

pub browse-requires : goal.browse-requires
browse-requires c =
    let a = c.args in
    admit-needs a.by a.spec a.k a.d _ a.rows.now c.not_idle-d.ensures (c.requires.1 c.if-spec.true)

pub returns-then-spec : goal.returns-then-spec
returns-then-spec c =
    let a = c.args in
    let q = c.browse.ensures in record { value = admit-browser a.by a.spec a.k a.d _ a.rows.now c.not_idle-d.ensures c.if-spec.true _ _ q.0 q.1; subs_after = c.store.ensures ∙ ap (λ (y : Sub). set a.subs.now a.d.consumers (sub_words y)) c.new_sub.ensures }

pub returns-else-spec : goal.returns-else-spec
returns-else-spec c =
    let a = c.args in record { value = admit-plain a.by a.spec a.k a.d _ a.rows.now c.not_idle-d.ensures c.if-spec.false; subs_after = c.store.ensures ∙ ap (λ (y : Sub). set a.subs.now a.d.consumers (sub_words y)) c.new_sub.ensures }
