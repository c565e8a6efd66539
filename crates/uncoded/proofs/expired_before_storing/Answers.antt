use mathlib.Core.Path.{◌≡◌, sym, ap, ◌∙◌}
use native.Mathlib.Omega.{arith}
use Rattle.std.proofs.lemmas.Result.{IfOk-at_ok}
use Rattle.state.specs.declared.Head.{Head}
use Rattle.state.specs.Answers.{refusal_of}
use Rattle.state.specs.State.{loaded}
use Rattle.state.proofs.Told.{numbered}
use Rattle.uncoded.proofs.Bare.{missing-refused, missing-called}
use Rattle.uncoded.proofs.expired_before_storing.Goals as goal

pub returns-in-Ok : goal.returns-in-Ok
returns-in-Ok c =
    let a = c.args in
    let k = c.ready.ensures in
    let x = c.count_expired in
    let f = c.done in
    let w = c.in-Ok in
    missing-called a.head.now a.subs.now a.rows.now a.events.now (sym k.refusal_value ∙ ap refusal_of w.is) w.d x.result (IfOk-at_ok (λ (d : Head). d ≡ loaded a.head.now a.subs.now) w.is k.numbers)
    f.result f.ensures.value f.new.head f.ensures.head_after x.ensures

pub returns-in-Err : goal.returns-in-Err
returns-in-Err c =
    let a = c.args in
    let k = c.ready.ensures in
    let w = c.in-Err in
    missing-refused a.head.now a.subs.now a.rows.now a.events.now _ (sym (ap refusal_of w.is) ∙ k.refusal_value) (λ z. omega (arith, z, numbered w.refusal)) c.refused_for.result c.refused_for.ensures
