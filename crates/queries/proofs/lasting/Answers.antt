use Rattle.std.proofs.Common.{rules, tests, sym, ap, ◌∙◌}
use Rattle.std.proofs.lemmas.Iterator.{YieldsList-from_slice}
use Rattle.std.proofs.lemmas.Iterator.Search.{all_from_yields_List}
use Rattle.std.specs.List.{slice_range}
use Rattle.definition.specs.Base.{all}
use Rattle.definition.proofs.Chains.{list_all-all, slice-range}
use Rattle.queries.specs.Answers.{lasts}
use Rattle.queries.proofs.lasting.Goals as goal

pub returns : goal.returns
returns c =
    let a = c.args in
    let l = slice_range a.rows.now a.from a.to in
    all_from_yields_List lasts _ _ c.all.result c.all.ensures.ran (YieldsList-from_slice l cc) (λ x b q k. search (rules, tests)) ∙ list_all-all lasts l ∙ ap (all lasts) (sym (slice-range a.from a.to a.rows.now c.requires.from_le_to))
