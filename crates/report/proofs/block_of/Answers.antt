use mathlib.Core.Path.{ap}
use mathlib.Core.Bool.{not}
use mathlib.Core.List.{[], ◌∷◌}
use Prim.Native.Nat.{ℕ}
use lib.Dec.{eqb}
use Rattle.entry.specs.Entry.{entry_of}
use Rattle.definition.specs.Words.{at}
use Rattle.report.proofs.Filling.{mark-word}
use Rattle.report.proofs.block_of.Goals as goal

pub returns : goal.returns
unfolding entry_of
returns c = let a = c.args in ap (λ (k : ℕ). at 0 a.row ∷ a.place ∷ k ∷ []) (mark-word (not (eqb (at 2 a.row) 0)))
