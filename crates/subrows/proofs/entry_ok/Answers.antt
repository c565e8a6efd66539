use mathlib.Core.Path.{sym, ap, ◌∙◌}
use mathlib.Core.Bool.{Bool, ◌&&◌}
use Prim.Native.Nat.{◌^◌}
use borrow.Author.Tests.{ltb-true}
use lib.Dec.{leb, ltb}
use Rattle.definition.specs.Words.{at}
use Rattle.definition.specs.Layout.{is_mark}
use Rattle.definition.proofs.Tests.{and_left, and_right}
use Rattle.subrows.proofs.Rows.{array-words, row-tests, holder-fits}
use Rattle.subrows.proofs.entry_ok.Goals as goal

pub returns : goal.returns
returns c =
    let w = c.args.row in
    let words = array-words w _ c.well_formed.0.1.1 in
    let seq : Bool = leb 1 (at 0 w) && ltb (at 0 w) (2 ^ 63) in record { value = ap (λ (t : Bool). seq && (is_mark (at 2 w) && (t && ltb (at 9 w) (2 ^ 32)))) c.is_int.ensures ∙ sym (row-tests w words); row_value = holder-fits w words; row_bound = λ t. ltb-true (at 0 w) (2 ^ 63) (and_right (leb 1 (at 0 w)) (ltb (at 0 w) (2 ^ 63)) (and_left seq (is_mark (at 2 w) && (c.is_int.result && ltb (at 9 w) (2 ^ 32))) t)) }
