use mathlib.Core.Path.{ap}
use mathlib.Core.Bool.{Bool, ◌&&◌}
use Prim.Native.Nat.{◌^◌}
use lib.Dec.{ltb}
use Rattle.definition.specs.Words.{at}
use Rattle.definition.specs.Layout.{is_mark}
use Rattle.subrows.proofs.Rows.{array-words, row-tests}
use Rattle.subrows.proofs.follows.Goals as goal

pub returns : goal.returns
returns c =
    let w = c.args.row in record { value = ap (λ (t : Bool). ltb c.args.last (at 0 w) && (is_mark (at 2 w) && (t && ltb (at 9 w) (2 ^ 32)))) c.is_int.ensures; row_form = row-tests w (array-words w _ c.well_formed.0.1.1) }
