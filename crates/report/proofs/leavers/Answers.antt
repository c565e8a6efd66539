use Prim.Native.Nat.{◌+◌, ◌≤◌}
use native.Mathlib.Omega.{arith}
use lib.ListN.{length}
use Rattle.report.proofs.Going.{none-placed, some-placed}
use Rattle.report.proofs.leavers.Goals as goal

pub returns-then-left-end : goal.returns-then-left-end
returns-then-left-end c =
    let a = c.args in
    let both = none-placed a.code a.words a.blocks.now a.held.now a.left.now a.n a.m a.start (omega (arith, c.min-end.ensures, c.if-left-end.true)) in record { value = both.0; upper_bound = both.1.0; left_after = both.1.1 }

pub returns-then-left-end-2 : goal.returns-then-left-end-2
returns-then-left-end-2 c =
    let a = c.args in
    let both = none-placed a.code a.words a.blocks.now a.held.now a.left.now a.n a.m a.start (omega (arith, c.min-end.ensures, c.if-left-end.false, c.if-left-end-2.true)) in record { value = both.0; upper_bound = both.1.0; left_after = both.1.1 }

pub returns : goal.returns
returns c =
    let a = c.args in
    let e = c.min-end in
    let f = c.min-among in
    let l = c.leave in
    let r : a.start + e.result ≤ length a.left.now = omega (arith, c.if-left-end.false, c.if-left-end-2.false) in
    let both = some-placed a.code a.words a.blocks.now a.held.now a.left.now a.n a.m a.start e.result f.result e.ensures f.ensures r l.result _ l.ensures.value l.ensures.upper_bound l.ensures.left_after in record { value = both.0; upper_bound = both.1.0; left_after = both.1.1 }
