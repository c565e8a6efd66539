use mathlib.Core.Bool.{false≢true}
use borrow.Author.Rules.{rules}
use Rattle.sound.proofs.alike_at.Goals as goal

pub returns-then-many-k : goal.returns-then-many-k
returns-then-many-k c = λ t. absurd (false≢true t)

pub returns : goal.returns
returns c = λ t. (search rules, c.same_rows.ensures t)
