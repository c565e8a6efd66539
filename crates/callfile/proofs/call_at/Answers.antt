use Prim.Native.Nat.{◌*◌}
use mathlib.Core.Path.{◌≡◌, ◌∙◌}
use mathlib.Core.List.{[], ◌∷◌}
use borrow.Author.Tests.{le-leb, lt-leb}
use lib.ListN.{length}
use Rattle.calls.specs.Calls.{new_call}
use Rattle.callfile.specs.Blocks.{word_at, words_at, call_at}
use Rattle.callfile.proofs.call_at.Goals as goal

pub returns-then-block-lt-BLOCK : goal.returns-then-block-lt-BLOCK
unfolding call_at
returns-then-block-lt-BLOCK c = rw (lt-leb 512 (length c.args.block.now) c.if-block-lt-BLOCK.true) c.new.ensures

pub returns-then-k-gt6 : goal.returns-then-k-gt6
unfolding call_at
returns-then-k-gt6 c =
    let a = c.args in
    rw (le-leb 512 (length a.block.now) c.if-block-lt-BLOCK.false, lt-leb a.k 6 c.if-k-gt6.true) c.new-then-k-gt6.ensures

pub returns : goal.returns
unfolding call_at
returns c =
    let a = c.args in
    let words : new_call c.word_at-9.result (c.word_at.result ∷ c.word_at-2.result ∷ c.word_at-3.result ∷ c.word_at-4.result ∷ c.word_at-5.result ∷ c.word_at-6.result ∷ c.word_at-7.result ∷ c.word_at-8.result ∷ []) ≡ new_call (word_at (a.k * 72) a.block.now) (words_at (a.k * 72) a.block.now) =
    λ i. new_call (c.word_at-9.ensures i) (c.word_at.ensures i ∷ c.word_at-2.ensures i ∷ c.word_at-3.ensures i ∷ c.word_at-4.ensures i ∷ c.word_at-5.ensures i ∷ c.word_at-6.ensures i ∷ c.word_at-7.ensures i ∷ c.word_at-8.ensures i ∷ []) in
    rw (le-leb 512 (length a.block.now) c.if-block-lt-BLOCK.false, le-leb a.k 6 c.if-k-gt6.false) (c.new-2.ensures ∙ words)
