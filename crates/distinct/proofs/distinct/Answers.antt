use Rattle.std.proofs.Common.{◌≡◌, ℕ, List, Bool, length, take, min, sym, ap, ◌∙◌}
use Rattle.std.proofs.lemmas.List.{take_min}
use Rattle.definition.specs.Base.{distinct}
use Rattle.distinct.proofs.Laws.{rising-distinct}
use Rattle.distinct.proofs.distinct.Goals as goal

-- the numbers looked at are the first n
same : (r : Bool) (m n : ℕ) (xs : List ℕ) → m ≡ min n (length xs) → r ≡ distinct (take m xs) → r ≡ distinct (take n xs)
same r m n xs e h = h ∙ ap distinct (ap (λ (k : ℕ). take k xs) e ∙ take_min n xs)

pub returns-then-rising : goal.returns-then-rising
returns-then-rising c = same _ _ c.args.n c.args.xs.now c.min.ensures (sym (rising-distinct 0 (take c.min.result c.args.xs.now) (sym c.rising.ensures ∙ c.if-rising.true)))

pub returns-then-first-le-FEW : goal.returns-then-first-le-FEW
returns-then-first-le-FEW c = same _ _ c.args.n c.args.xs.now c.min.ensures c.few_distinct.ensures

pub returns-then-first-le-SOME : goal.returns-then-first-le-SOME
returns-then-first-le-SOME c = same _ _ c.args.n c.args.xs.now c.min.ensures c.many_distinct.ensures

pub returns-else-first-le-SOME : goal.returns-else-first-le-SOME
returns-else-first-le-SOME c = same _ _ c.args.n c.args.xs.now c.min.ensures c.many_distinct-else-first-le-SOME.ensures
