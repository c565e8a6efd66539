use mathlib.Core.Path.{refl, sym, ap₂, ◌∙◌}
use Prim.Native.Nat.{ℕ, ◌+◌}
use native.Mathlib.Omega.{arith}
use borrow.Author.Tests.{not-true, not-false}
use lib.ListN.{length}
use Rattle.definition.specs.Destination.{clear}
use Rattle.state.specs.declared.Head.{Head}
use Rattle.state.specs.State.{done_as}
use Rattle.state.proofs.Fitting.{fits-facts}
use Rattle.expiry.specs.Expiry.{clear_out}
use Rattle.expiry.proofs.Cleared.{refused, clears}
use Rattle.expiry.proofs.clear.Goals as goal

pub returns-then-not-fits : goal.returns-then-not-fits
returns-then-not-fits c =
    let a = c.args in
    let f = sym c.fits.ensures ∙ not-true _ c.if-not-fits.true-raw in
    let p = refused _ f _ clear_out clear a.d a.subs.now a.rows.now a.events.now _ refl in record { leaves_if = p.0; sweep_answers = p.1 }

pub overflow_add-total : goal.overflow_add-total
overflow_add-total c =
    let a = c.args in
    let t = sym c.fits.ensures ∙ not-false _ c.if-not-fits.false-raw in
    let f = fits-facts a.subs.now a.d (length a.rows.now) (length a.events.now) t in
    omega (arith, f.waiting, f.reserved, c.held_rows-held.ensures)

pub overflow_add-total-2 : goal.overflow_add-total-2
overflow_add-total-2 c =
    let a = c.args in
    let t = sym c.fits.ensures ∙ not-false _ c.if-not-fits.false-raw in
    let f = fits-facts a.subs.now a.d (length a.rows.now) (length a.events.now) t in
    omega (arith, f.waiting, f.reserved, c.held_rows-held.ensures)

pub returns : goal.returns
returns c =
    let a = c.args in
    let t = sym c.fits.ensures ∙ not-false _ c.if-not-fits.false-raw in
    let e = ap₂ (λ (n : ℕ) (x : Head). done_as (a.d.waiting + a.d.reserved + n) x) c.held_rows-held.ensures c.emptied.ensures in
    let p = clears a.d a.subs.now a.rows.now a.events.now t _ _ c.clear.ensures e in record { leaves_if = p.0; sweep_answers = p.1 }
