use mathlib.Core.Path.{sym, ◌∙◌, ◌≡◌, ap}
use Prim.Native.Nat.{ℕ, ◌+◌, ◌*◌, ◌≤◌}
use lib.ListN.{length, take}
use borrow.Author.Tests.{leb-true, not-true, not-false}
use native.Mathlib.Omega.{arith}
use Rattle.std.proofs.lemmas.List.{length-take, take_min}
use Rattle.callfile.proofs.Parts.{whole-line, no_room}
use Rattle.callfile.proofs.put_events.Goals as goal

pub returns-then-not-lines_fit : goal.returns-then-not-lines_fit
returns-then-not-lines_fit c = no_room _ _ _ (sym c.lines_fit.ensures ∙ not-true _ c.if-not-lines_fit.true-raw)

pub each_event-requires : goal.each_event-requires
each_event-requires c =
    let a = c.args in
    let h : a.from + 128 * a.n ≤ length a.out.now = leb-true _ _ (sym c.lines_fit.ensures ∙ not-false _ c.if-not-lines_fit.false-raw) in
    omega (arith, length-take c.min.result a.events.now)

pub returns : goal.returns
returns c =
    let a = c.args in
    let t = sym c.lines_fit.ensures ∙ not-false _ c.if-not-lines_fit.false-raw in
    let e : take c.min.result a.events.now ≡ take a.n a.events.now = ap (λ (k : ℕ). take k a.events.now) c.min.ensures ∙ take_min a.n a.events.now in
    let p = c.each_event.ensures in
    whole-line t (rw e at p.0, omega (arith, p.1, length-take c.min.result a.events.now))
