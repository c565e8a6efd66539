use mathlib.Core.Path.{ap₂}
use lib.IntN.{ℤ}
use Rattle.definition.specs.Types.{Id}
use Rattle.words.specs.Words.{signed}
use Rattle.definition.specs.Calls.{leaving}
use Rattle.definition.specs.Words.{at, id_in, decode}
use Rattle.state.specs.Answers.{told}
use Rattle.engine.proofs.Performed.{performs-as}
use mir.Syntax.{w64}
use mir.Val.{SFits}
use mir.ValLaws.{to_z-of_z}
use Rattle.engine.proofs.Handled.{leave-decoded, leave-clock}
use borrow.Author.Rules.{rules}
use Rattle.engine.proofs.handling.leave.Goals as goal

pub leave-requires : goal.leave-requires
leave-requires c =
    let a = c.args in
    let p = c.requires in
    (p.0, leave-clock a.w p.1)

pub returns : goal.returns
returns c =
    let a = c.args in
    let p = c.requires in
    let k = c.leave in
    let x = c.signed_of-last.result in
    let f : SFits w64 x = search rules in
    let e = rw (to_z-of_z w64 x f) at k.ensures in
    performs-as (leaving (id_in a.w) (signed (at 3 a.w)) (at 4 a.w)) a.d (told a.d k.result) a.subs.now a.rows.now a.events.now k.new.subs k.new.rows k.new.events (decode 3 a.w) (leaving c.of_words-id.result x (at 4 a.w))
    (ap₂ (λ (i : Id) (z : ℤ). leaving i z (at 4 a.w)) c.of_words-id.ensures c.signed_of-last.ensures) (leave-decoded a.w p.1).call e
