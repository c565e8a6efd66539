use borrow.Author.Rules.{rules}
use mathlib.Core.Path.{refl}
use mir.Syntax.{w64}
use mir.Val.{SFits}
use mir.ValLaws.{to_z-of_z}
use Rattle.entry.specs.Entry.{expired}
use Rattle.entry.proofs.Entry.expired.Goals as goal

pub returns-then-at-gt0 : goal.returns-then-at-gt0
unfolding expired
returns-then-at-gt0 c =
    let a = c.args in
    let f : SFits w64 a.self.expiration = search rules in
    let g : SFits w64 a.now = search rules in
    rw (to_z-of_z w64 a.self.expiration f, to_z-of_z w64 a.now g, rw (to_z-of_z w64 a.self.expiration f) at c.if-at-gt0.true) refl

pub returns-else-at-gt0 : goal.returns-else-at-gt0
unfolding expired
returns-else-at-gt0 c =
    let a = c.args in
    let f : SFits w64 a.self.expiration = search rules in
    rw (to_z-of_z w64 a.self.expiration f, rw (to_z-of_z w64 a.self.expiration f) at c.if-at-gt0.false) refl
