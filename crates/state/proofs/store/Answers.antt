use mathlib.Core.Path.{ap}
use mathlib.Core.List.{List, ◌++◌}
use Prim.Native.Nat.{ℕ}
use borrow.Author.Tests.{lt-ltb, le-ltb}
use lib.ListN.{set, drop}
use Rattle.state.specs.State.{head_words, stored_head}
use Rattle.state.proofs.store.Goals as goal

pub returns-then-head-lt-HEAD_WORDS : goal.returns-then-head-lt-HEAD_WORDS
unfolding stored_head
returns-then-head-lt-HEAD_WORDS c = rw (lt-ltb _ _ c.if-head-lt-HEAD_WORDS.true)

pub returns : goal.returns
unfolding stored_head head_words
returns c =
    let a = c.args in
    let h : List ℕ = a.head.now in
    rw (le-ltb _ _ c.if-head-lt-HEAD_WORDS.false) (ap (λ (l : List ℕ). set (set (l ++ drop 17 h) 8345 a.d.allowance) 8346 a.d.share) (rw c.kind_word.ensures at c.copy_from_slice.ensures.after))
