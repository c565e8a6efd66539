use mathlib.Core.Path.{◌≡◌, ap}
use mathlib.Core.List.{List}
use Prim.Native.Nat.{ℕ}
use borrow.Author.Tests.{lt-ltb, le-ltb}
use Rattle.state.specs.State.{head_of, used_of, loaded}
use native.Mathlib.Omega.{arith}
use Rattle.state.proofs.load.Goals as goal

pub returns-then-head-lt-HEAD_WORDS : goal.returns-then-head-lt-HEAD_WORDS
unfolding loaded
returns-then-head-lt-HEAD_WORDS c = rw (lt-ltb _ _ c.if-head-lt-HEAD_WORDS.true)

pub returns : goal.returns
unfolding head_of loaded
returns c =
    let a = c.args in
    let h : List ℕ = a.head.now in
    let e : c.used_of-used.result ≡ used_of h a.subs.now = omega (arith, c.used_of-used.ensures, c.base_of-base.ensures) in
    rw (le-ltb _ _ c.if-head-lt-HEAD_WORDS.false) (ap (head_of h) e)
