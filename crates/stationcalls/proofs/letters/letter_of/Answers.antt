use mathlib.Core.Path.{ap, ◌∙◌}
use mathlib.Core.List.{List, [], ◌∷◌}
use Prim.Native.Nat.{ℕ}
use Rattle.entry.specs.declared.Entry.{Entry}
use Rattle.entry.specs.Entry.{row_of}
use Rattle.definition.specs.Words.{at}
use Rattle.stationcalls.proofs.letters.letter_of.Goals as goal

pub returns : goal.returns
unfolding row_of
returns c = ap (λ (l : List ℕ). c.args.number ∷ at 1 l ∷ at 2 l ∷ at 3 l ∷ at 4 l ∷ at 5 l ∷ 0 ∷ at 9 l ∷ []) (c.held_row-w.ensures ∙ ap (λ (e : Entry). row_of e 0 0 0) c.entry_of-e.ensures)
