use mathlib.Core.Path.{ap, ◌∙◌}
use lib.ListN.{set}
use Rattle.consumers.specs.declared.Sub.{Sub}
use Rattle.consumers.specs.Consumers.{sub_words}
use Rattle.pulls.proofs.send_null.Goals as goal

pub returns : goal.returns
returns c =
    let a = c.args in record { value = c.push_null.ensures; subs_after = c.store.ensures ∙ ap (λ (s : Sub). set a.subs.now a.i (sub_words s)) c.not_pulling.ensures }
