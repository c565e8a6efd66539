use mathlib.Core.Path.{ap}
use mathlib.Core.List.{List}
use Rattle.definition.specs.Base.{member}
use Rattle.definition.specs.Layout.{Row}
use Rattle.subrows.specs.Subrows.{seqs_at}
use Rattle.subrows.proofs.Tests.{part_end}
use Rattle.sound.proofs.Rising.{below-first}
use native.Mathlib.Omega.{arith}
use Rattle.sound.proofs.least_of.Goals as goal

pub returns-then-from-to : goal.returns-then-from-to
returns-then-from-to c =
    let a = c.args in
    λ x h. ap (λ (l : List Row). member x (seqs_at l)) (part_end a.rows.now a.from a.to c.if-from-to.true)

pub returns : goal.returns
returns c =
    let a = c.args in
    λ x h. below-first a.rows.now a.from a.to c.requires.to_in_bounds c.requires.rows_value x (omega arith) h
