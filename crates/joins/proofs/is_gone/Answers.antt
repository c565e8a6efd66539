use mathlib.Core.Path.{ap₂, ◌∙◌}
use Prim.Native.Nat.{◌<◌, ◌^◌}
use native.Mathlib.Omega.{arith}
use lib.IntN.{ℤ}
use mir.Syntax.{w64}
use mir.Val.{SFits}
use mir.ValLaws.{to_z_pos, to_z-of_z}
use Rattle.entry.specs.declared.Entry.{Entry}
use Rattle.entry.specs.Entry.{expired}
use borrow.Author.Rules.{rules}
use Rattle.joins.proofs.is_gone.Goals as goal

pub returns : goal.returns
returns c =
    let a = c.args in
    let h : a.by < 2 ^ 63 = omega arith in
    let f : SFits w64 c.signed_of.result = search rules in
    c.expired.ensures ∙ ap₂ (λ (z : ℤ) (e : Entry). expired z e) (to_z-of_z w64 c.signed_of.result f ∙ c.signed_of.ensures ∙ to_z_pos w64 a.by h) c.entry_of.ensures
