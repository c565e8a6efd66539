use mathlib.Core.Path.{◌≡◌, refl, sym, ◌∙◌}
use mathlib.Core.Bool.{false}
use native.Mathlib.Omega.{arith}
use borrow.Author.Tests.{not-true}
use Rattle.entry.specs.Entry.{entry_of, row_of}
use Rattle.entry.proofs.Rows.{entry-of-row}
use Rattle.state.proofs.Ready.{ready-fits}
use Rattle.dispatch.specs.Dispatch.{goes_out}
use Rattle.dispatch.proofs.Idle.{goes-not}
use Rattle.state.proofs.Told.{numbered}
use Rattle.std.proofs.lemmas.Result.{err_from_is_err_and}
use Rattle.engine.proofs.Arriving.{enqueue-refused, enqueue-arrives, enqueue-done}
use Rattle.engine.proofs.Order.{ready-standing}
use borrow.Author.Rules.{rules}
use Rattle.engine.proofs.arrivals.enqueue.Goals as goal
use Rattle.engine.proofs.arrivals.enqueue.Goals.{Start}

row_is : (c : Start) → entry_of (row_of c.args.e 0 0 0) ≡ c.args.e
row_is c = entry-of-row c.args.e 0 0 0 (record { seq = search rules; expiration = search rules; producer = search rules; match_word = search rules; redelivery = search rules; size = search rules })

pub admit-requires : goal.admit-requires
admit-requires c =
    let a = c.args in
    ready-standing a.d a.subs.now a.rows.now a.events.now c.requires.0

pub returns-in_err-admit : goal.returns-in_err-admit
returns-in_err-admit c =
    let a = c.args in
    let p = c.requires in
    let q = err_from_is_err_and c.from_residual.result c.from_residual.ensures.1 in
    rw (q.1, q.2)
    (enqueue-refused a.d a.subs.now a.rows.now a.events.now p.0 a.clock p.1 a.e p.2 _ c.in_err-admit.ensures _ (λ z. omega (arith, z, numbered c.in_err-admit.field-0.0)) refl)

pub store-stored-requires : goal.store-stored-requires
store-stored-requires c =
    let a = c.args in
    let p = c.requires in (
      enqueue-arrives a.d a.subs.now a.rows.now a.events.now p.0 a.clock p.1 a.e p.2 0 c.in_ok-admit.ensures refl (row_is (goal.at.store-stored-requires c).Start),
      (ready-fits a.d a.subs.now a.rows.now a.events.now p.0).enqueued,
      omega (arith, c.due-by.ensures, p.1),
    )

pub returns-then-not-goes : goal.returns-then-not-goes
returns-then-not-goes c =
    let a = c.args in
    let p = c.requires in
    let t = c.due-by in
    let m = c.store-stored in
    let quiet : goes_out m.result.consumers m.result.waiting m.result.queue m.new.subs ≡ false = sym c.goes.ensures ∙ not-true _ c.if-not-goes.true-raw in
    enqueue-done a.d a.subs.now a.rows.now a.events.now p.0 a.clock p.1 a.e p.2 0 c.in_ok-admit.ensures refl _
    t.result t.ensures m.result m.new.subs m.new.rows m.result m.new.subs m.new.rows a.events.now m.ensures
    (goes-not a.clock m.result m.new.subs m.new.rows a.events.now quiet) refl

pub returns : goal.returns
returns c =
    let m = c.store-stored in
    let a = c.args in
    let p = c.requires in
    let t = c.due-by in
    let s = c.dispatch-head in
    enqueue-done a.d a.subs.now a.rows.now a.events.now p.0 a.clock p.1 a.e p.2 0 c.in_ok-admit.ensures refl _
    t.result t.ensures m.result m.new.subs m.new.rows s.result s.new.subs s.new.rows s.new.events m.ensures s.ensures refl
