use Rattle.std.proofs.Common.{rules, tests, arith, sym, ◌∙◌}
use Rattle.std.specs.List.{slice_range}
use Rattle.std.proofs.lemmas.Iterator.{YieldsList-from_slice}
use Rattle.std.proofs.lemmas.Iterator.Search.{any_from_yields_List}
use Rattle.definition.specs.Destination.{held_by}
use Rattle.definition.specs.Layout.{held_at}
use Rattle.reserved.proofs.Loops.{has_short, has-range}
use Rattle.reserved.proofs.has_reserved.Goals as goal

pub returns-then-rows-to : goal.returns-then-rows-to
returns-then-rows-to c = let a = c.args in sym (has_short a.d a.id a.rows.now (omega arith))

pub returns : goal.returns
returns c =
    let a = c.args in
    let from = c.first_reserved in
    let to = c.first_waiting-to in
    any_from_yields_List (λ w. held_by a.id (held_at w)) _ _ c.any.result c.any.ensures.ran (YieldsList-from_slice (slice_range a.rows.now from.result to.result) cc) (λ x b q k. search (rules, tests))
    ∙ has-range a.d a.id a.rows.now from.result to.result from.ensures to.ensures c.if-rows-to.false
