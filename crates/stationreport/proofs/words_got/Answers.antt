use mathlib.Core.Path.{sym, ap, ◌∙◌}
use mathlib.Core.List.{List, ◌∷◌}
use Prim.Native.Nat.{ℕ}
use borrow.Author.Tests.{eq-eqb, ne_eqb}
use Rattle.definition.proofs.Tests.{if-true, if-false}
use Rattle.stationcalls.proofs.Steps.{words_are}
use borrow.Author.Rules.{rules}
use Rattle.stationreport.proofs.words_got.Goals as goal

pub returns-then-code-ne-ENQUEUE : goal.returns-then-code-ne-ENQUEUE
returns-then-code-ne-ENQUEUE c =
    let a = c.args in
    sym (if-false _ a.words (ne_eqb a.code 1 c.if-code-ne-ENQUEUE.true))

pub returns : goal.returns
returns c =
    let a = c.args in
    ap (λ (w : List ℕ). a.next ∷ w) (sym (words_are a.words (search rules))) ∙ sym (if-true _ a.words (eq-eqb a.code 1 c.if-code-ne-ENQUEUE.false))
