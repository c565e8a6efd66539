use mathlib.Core.Path.{sym, ◌∙◌}
use Rattle.state.specs.Answers.{refusal_of}
use Rattle.stationcalls.specs.Parts.{lent_all}
use Rattle.stationcalls.proofs.Batched.{err-number, ok-number, checked-so, not-begun, begun}
use Rattle.stationcalls.proofs.batch.calls.Goals as goal

pub returns-then-is_err : goal.returns-then-is_err
returns-then-is_err c =
    let a = c.args in
    let b = lent_all a.heads.now a.subs.now a.rows.now a.own.now in
    not-begun b a.events.now a.outcomes.now a.words.now (refusal_of c.checked.result) c.checked.ensures (err-number c.checked.result (sym c.is_err.ensures.value ∙ c.if-is_err.true))

pub run_each-requires : goal.run_each-requires
run_each-requires c =
    let a = c.args in
    let b = lent_all a.heads.now a.subs.now a.rows.now a.own.now in
    checked-so b (sym c.checked.ensures ∙ ok-number c.checked.result (sym c.is_err.ensures.value ∙ c.if-is_err.false))

pub returns : goal.returns
returns c =
    let a = c.args in
    let b = lent_all a.heads.now a.subs.now a.rows.now a.own.now in
    let k = c.run_each in
    begun b a.events.now a.outcomes.now a.words.now (checked-so b (sym c.checked.ensures ∙ ok-number c.checked.result (sym c.is_err.ensures.value ∙ c.if-is_err.false))).1
    (lent_all k.new.heads k.new.subs k.new.rows k.new.own) k.new.events k.new.outcomes k.result k.ensures
