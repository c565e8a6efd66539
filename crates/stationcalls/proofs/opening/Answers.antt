use Rattle.stationcalls.proofs.Opened.{opening-words}
use Rattle.calls.specs.Calls.{new_call}
use mathlib.Core.List.{List}
use Prim.Native.Nat.{ℕ}
use mathlib.Core.Path.{ap, ◌∙◌}
use Rattle.stationcalls.proofs.opening.Goals as goal

pub returns : goal.returns
returns c = c.new.ensures ∙ ap (λ (l : List ℕ). new_call c.args.c.code l) (opening-words c.args.c.words c.sized.ensures)
