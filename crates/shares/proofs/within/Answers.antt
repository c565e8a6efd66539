use Rattle.std.proofs.Common.{◌≡◌, ℕ, List, Bool, min, length, take, sym, ap, ◌∙◌}
use borrow.Author.Tests.{not-true}
use Rattle.std.proofs.lemmas.List.{take_min}
use Rattle.shares.specs.Shares.{within_each}
use Rattle.shares.proofs.Laws.{within-full}
use Rattle.shares.proofs.within.Goals as goal

-- the numbers looked at are the first n
same : (r : Bool) (share m n : ℕ) (xs : List ℕ) → m ≡ min n (length xs) → r ≡ within_each share (take m xs) → r ≡ within_each share (take n xs)
same r share m n xs e h = h ∙ ap (within_each share) (ap (λ (k : ℕ). take k xs) e ∙ take_min n xs)

pub returns-then-first-share : goal.returns-then-first-share
returns-then-first-share c = same _ c.args.share _ c.args.n c.args.xs.now c.min.ensures (sym (within-full c.args.share (take c.min.result c.args.xs.now) c.if-first-share.true))

pub returns-then-not-crowded : goal.returns-then-not-crowded
returns-then-not-crowded c = same _ c.args.share _ c.args.n c.args.xs.now c.min.ensures (sym (c.crowded.ensures (not-true c.crowded.result c.if-not-crowded.true-raw)))

pub returns : goal.returns
returns c = same _ c.args.share _ c.args.n c.args.xs.now c.min.ensures c.each_within.ensures
