use mathlib.Core.Path.{sym, ◌∙◌, ◌≡◌, ap}
use Prim.Native.Nat.{ℕ, ◌+◌, ◌*◌, ◌≤◌}
use lib.ListN.{length, take}
use borrow.Author.Tests.{leb-true, not-true, not-false}
use native.Mathlib.Omega.{arith}
use Rattle.std.proofs.lemmas.List.{length-take, take_min}
use Rattle.callfile.proofs.Parts.{whole-line, no_room}
use Rattle.stationreportlines.proofs.put_blocks.Goals as goal

pub returns-then-not-rows_fit : goal.returns-then-not-rows_fit
returns-then-not-rows_fit c = no_room _ _ _ (sym c.rows_fit.ensures ∙ not-true _ c.if-not-rows_fit.true-raw)

pub each_block-requires : goal.each_block-requires
each_block-requires c =
    let a = c.args in
    let h : a.from + (128 + 128 * a.n) ≤ length a.out.now = leb-true _ _ (sym c.rows_fit.ensures ∙ not-false _ c.if-not-rows_fit.false-raw) in
    omega (arith, length-take c.min.result a.blocks.now)

pub returns : goal.returns
returns c =
    let a = c.args in
    let t = sym c.rows_fit.ensures ∙ not-false _ c.if-not-rows_fit.false-raw in
    let e : take c.min.result a.blocks.now ≡ take a.n a.blocks.now = ap (λ (k : ℕ). take k a.blocks.now) c.min.ensures ∙ take_min a.n a.blocks.now in
    let p = c.each_block.ensures in
    whole-line t (rw e at p.0, omega (arith, p.1, length-take c.min.result a.blocks.now))
