use Rattle.std.proofs.Common.{rules, tests, sym, ap, ◌∙◌, eqb, map}
use Rattle.std.proofs.lemmas.Iterator.{YieldsList-from_slice}
use Rattle.std.proofs.lemmas.Iterator.Search.{any_from_yields_List}
use Rattle.std.specs.List.{slice_range}
use Rattle.definition.specs.Base.{member}
use Rattle.definition.specs.Words.{at}
use Rattle.definition.specs.Layout.{Row}
use Rattle.definition.proofs.Chains.{slice-range}
use Rattle.queries.proofs.Bytes.{any-met}
use Rattle.queries.proofs.met.Goals as goal

pub returns : goal.returns
returns c =
    let a = c.args in
    let l = slice_range a.rows.now a.from a.to in
    any_from_yields_List (λ (w : Row). eqb a.seq (at 0 w)) _ _ c.any.result c.any.ensures.ran (YieldsList-from_slice l cc) (λ x b q k. search (rules, tests)) ∙ any-met a.seq l ∙ ap (λ t. member a.seq (map (at 0) t)) (sym (slice-range a.from a.to a.rows.now c.requires.from_le_to))
