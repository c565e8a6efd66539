use mathlib.Core.Path.{sym, ap, ◌∙◌}
use Rattle.std.specs.Prelude.{Result}
use Rattle.model.specs.declared.Refusal.{Refusal}
use Rattle.state.specs.declared.Answered.{Answered}
use Rattle.state.specs.declared.Head.{Head}
use Rattle.state.specs.State.{stored_head}
use Rattle.engine.specs.Opened.{finished, stored_after}
use Rattle.engine.proofs.conclude.Goals as goal

pub returns-in-Ok : goal.returns-in-Ok
returns-in-Ok c =
    let h = c.args.head.now in
    record {
      value = sym (ap finished c.in-Ok.is);
      head_after = c.store.ensures ∙ ap (λ (d : Head). stored_head d h) c.counted.ensures ∙ sym (ap (λ (x : Result Answered Refusal). stored_after x h) c.in-Ok.is);
    }
