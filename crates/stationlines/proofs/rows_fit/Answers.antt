use Prim.Native.Nat.{ℕ, ◌+◌, ◌*◌}
use mathlib.Core.Path.{◌≡◌, sym, ap, ◌∙◌}
use lib.Dec.{leb}
use borrow.Author.Tests.{lt-leb}
use Rattle.words.proofs.Tests.{leb-less}
use native.Mathlib.Omega.{arith}
use Rattle.stationlines.proofs.rows_fit.Goals as goal

pub returns-then-len-ge-LINE : goal.returns-then-len-ge-LINE
returns-then-len-ge-LINE c =
    let a = c.args in
    let e : a.at + 128 * a.n + 128 ≡ a.at + (128 + 128 * a.n) = omega arith in
    c.lines_fit.ensures ∙ leb-less (a.at + 128 * a.n) a.len 128 c.if-len-ge-LINE.true ∙ ap (λ (m : ℕ). leb m a.len) e

pub returns-else-len-ge-LINE : goal.returns-else-len-ge-LINE
returns-else-len-ge-LINE c =
    let a = c.args in
    lt-leb 128 a.len c.if-len-ge-LINE.false ∙ sym (lt-leb (a.at + (128 + 128 * a.n)) a.len (omega (arith, c.if-len-ge-LINE.false)))
