use Rattle.std.proofs.Common.{rules, tests, ◌≡◌, refl, sym, ap, ap₂, ◌∙◌, ℕ, Bool, ◌||◌, List, [], ◌∷◌, map}
use Rattle.std.proofs.lemmas.Iterator.{YieldsList-from_slice, YieldsList-from_take}
use Rattle.std.proofs.lemmas.Iterator.Search.{any_from_yields_List}
use lib.Dec.{eqb}
use Rattle.definition.specs.Words.{at}
use Rattle.stationreport.proofs.Places.{any-member}
use Rattle.stationreport.proofs.lines.names.Goals as goal

pub returns : goal.returns
returns c =
    let a = c.args in
    any_from_yields_List (λ t. eqb (at 2 t) a.j) _ _ c.any.result c.any.ensures.ran (YieldsList-from_take a.n (YieldsList-from_slice a.told.now cc) cc) (λ x b q k. search (rules, tests))
    ∙ any-member (at 2) a.j _
