use mathlib.Core.Path.{ap}
use Rattle.definition.specs.Types.{Id}
use Rattle.definition.specs.Calls.{releasing}
use Rattle.definition.specs.Words.{at, id_in, decode}
use Rattle.state.specs.Answers.{told}
use Rattle.engine.proofs.Performed.{performs-as}
use Rattle.engine.proofs.Handled.{release-decoded, release-clock}
use Rattle.engine.proofs.handling.release.Goals as goal

pub release-requires : goal.release-requires
release-requires c =
    let a = c.args in
    let p = c.requires in
    (p.0, release-clock a.w p.1)

pub returns : goal.returns
returns c =
    let a = c.args in
    let p = c.requires in
    let k = c.release in
    performs-as (releasing (id_in a.w) (at 3 a.w)) a.d (told a.d k.result) a.subs.now a.rows.now a.events.now k.new.subs k.new.rows k.new.events (decode 15 a.w) (releasing c.of_words-id.result (at 3 a.w))
    (ap (λ (i : Id). releasing i (at 3 a.w)) c.of_words-id.ensures) (release-decoded a.w p.1).call k.ensures
