use Prim.Native.Nat.{ℕ, ◌+◌, ◌*◌, ◌-◌, ◌/◌}
use mathlib.Core.Path.{◌≡◌, sym, ap, ◌∙◌}
use lib.Dec.{leb}
use borrow.Author.Tests.{lt-leb}
use Rattle.words.proofs.Tests.{leb-less}
use native.Mathlib.Omega.{arith}
use Rattle.reportlines.proofs.blocks_fit.Goals as goal

pub returns-then-len-lt-LINE : goal.returns-then-len-lt-LINE
returns-then-len-lt-LINE c = let a = c.args in sym (lt-leb (a.at + (128 + 64 * a.n)) a.len (omega (arith, c.if-len-lt-LINE.true)))

pub returns-then-n-room : goal.returns-then-n-room
returns-then-n-room c =
    let a = c.args in
    let h = c.if-len-lt-LINE.false in
    let k = c.if-n-room.true in
    let e : a.at + 64 * a.n + 128 ≡ a.at + (128 + 64 * a.n) = omega arith in
    leb-less a.at (a.len - 128) (64 * a.n) (omega (arith, k, h)) ∙ leb-less (a.at + 64 * a.n) a.len 128 h ∙ ap (λ (m : ℕ). leb m a.len) e

pub returns-else-n-room : goal.returns-else-n-room
returns-else-n-room c =
    let a = c.args in
    lt-leb a.n ((a.len - 128) / 64) (omega (arith, c.if-n-room.false)) ∙ sym (lt-leb (a.at + (128 + 64 * a.n)) a.len (omega (arith, c.if-n-room.false, c.if-len-lt-LINE.false)))
