use mathlib.Core.Path.{ap, ◌∙◌}
use Rattle.definition.specs.Destination.{Spec}
use Rattle.definition.specs.Calls.{joining, arguments_ok}
use Rattle.definition.specs.Words.{at, decode}
use Rattle.state.specs.Answers.{told}
use Rattle.engine.proofs.Performed.{performs-as}
use Rattle.joins.specs.Joins as Joins
use Rattle.definition.specs.Words as Words
use Rattle.engine.proofs.Handled.{join-decoded, join-clock}
use Rattle.engine.proofs.handling.join.Goals as goal

pub join-requires : goal.join-requires
join-requires c =
    let a = c.args in
    let p = c.requires in
    (p.0, join-clock a.w p.1, ap (λ (x : Spec). arguments_ok (joining x (at 6 a.w))) c.spec_of-spec.ensures ∙ (join-decoded a.w p.1).arguments)

pub returns : goal.returns
returns c =
    let a = c.args in
    let p = c.requires in
    let k = c.join in
    performs-as (joining (Words.spec_in a.w) (at 6 a.w)) a.d (told a.d k.result) a.subs.now a.rows.now a.events.now k.new.subs k.new.rows k.new.events (decode 2 a.w) (joining (Joins.spec_of c.spec_of-spec.result) (at 6 a.w))
    (ap (λ (x : Spec). joining x (at 6 a.w)) c.spec_of-spec.ensures) (join-decoded a.w p.1).call k.ensures
