use Rattle.stationcalls.proofs.Steps.{carried-words}
use Rattle.calls.specs.Calls.{new_call}
use mathlib.Core.List.{List}
use Prim.Native.Nat.{ℕ}
use mathlib.Core.Path.{ap, ◌∙◌}
use Rattle.stationcalls.proofs.carried.Goals as goal

pub returns : goal.returns
returns c = c.new.ensures ∙ ap (λ (l : List ℕ). new_call c.args.c.code l) (carried-words c.args.next c.number_of-number.result c.args.c.words c.number_of-number.ensures c.sized.ensures)
