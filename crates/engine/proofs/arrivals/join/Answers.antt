use mathlib.Core.Path.{refl, sym, ap}
use Prim.Native.Nat.{ℕ}
use native.Mathlib.Omega.{arith}
use Rattle.std.proofs.lemmas.Result.{err_from_is_err_and}
use Rattle.state.specs.State.{refused_as}
use Rattle.state.specs.Answers.{refusal_of}
use Rattle.state.proofs.Told.{numbered}
use Rattle.engine.proofs.Arriving.{join-refused, join-done}
use Rattle.engine.proofs.arrivals.join.Goals as goal

pub returns-in_err-refusal : goal.returns-in_err-refusal
returns-in_err-refusal c =
    let a = c.args in
    let p = c.requires in
    let q = err_from_is_err_and c.from_residual.result c.from_residual.ensures.1 in
    let w = c.in_err-refusal in
    rw (q.1, q.2)
    (join-refused a.d a.subs.now a.rows.now a.events.now p.0 a.clock p.1 a.spec p.2 (refusal_of c.refusal.result) c.refusal.ensures _ (λ z. omega (arith, z, ap refusal_of w.was, numbered w.field-0.0)) (ap (λ (n : ℕ). refused_as n a.d) (sym (ap refusal_of w.was))))

pub returns : goal.returns
returns c =
    let a = c.args in
    let p = c.requires in
    let m = c.join-joined in
    let s = c.dispatch-head in
    join-done a.d a.subs.now a.rows.now a.events.now p.0 a.clock p.1 a.spec p.2 (refusal_of c.refusal.result) c.refusal.ensures _ (ap refusal_of c.in_ok-refusal.was)
    _ m.result m.new.subs m.new.rows s.result s.new.subs s.new.rows s.new.events m.ensures s.ensures refl
