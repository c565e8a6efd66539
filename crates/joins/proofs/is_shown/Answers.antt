use mathlib.Core.Path.{ap, ◌∙◌}
use Rattle.entry.specs.declared.Entry.{Entry}
use Rattle.entry.specs.Entry.{selects}
use Rattle.joins.proofs.is_shown.Goals as goal

pub returns : goal.returns
returns c =
    c.selects.ensures ∙ ap (λ (e : Entry). selects e.match_word c.args.selector) c.entry_of-e.ensures
