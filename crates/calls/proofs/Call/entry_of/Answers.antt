use mathlib.Core.Path.{◌∙◌}
use mathlib.Core.List.{List}
use Prim.Native.Nat.{ℕ}
use mir.Syntax.{w32, w64}
use mir.Val.{SFits}
use mir.ValLaws.{to_z-of_z}
use Rattle.calls.proofs.Ranges.{entry_whole}
use borrow.Author.Rules.{rules}
use Rattle.calls.proofs.Call.entry_of.Goals as goal

pub returns : goal.returns
returns c =
    let ws : List ℕ = c.args.self.words in
    let x = c.signed_of in
    let y = c.int_of in
    let f : SFits w64 x.result = search rules in
    let g : SFits w32 y.result = search rules in
    let e = to_z-of_z w64 x.result f ∙ x.ensures in
    let r = to_z-of_z w32 y.result g ∙ y.ensures in record { value = rw (e, r); value_2 = λ t. rw (e, r) (entry_whole ws c.words_fit.ensures t) }
