use mathlib.Core.Path.{sym, ap₂, ◌∙◌}
use Prim.Native.Nat.{ℕ, ◌+◌}
use native.Mathlib.Omega.{arith}
use lib.Dec.{ltb}
use lib.ListN.{length}
use Rattle.state.proofs.Fitting.{fits-facts}
use Rattle.engine.proofs.EntryRefusals.{over_by, needed-least}
use Rattle.engine.proofs.storing.over_share.Goals as goal

pub rows_from-requires : goal.rows_from-requires
rows_from-requires c = c.requires.0

pub overflow_add-result : goal.overflow_add-result
overflow_add-result c =
    let a = c.args in
    let f = fits-facts a.subs.now a.d (length a.rows.now) 545 c.requires.0 in
    omega (arith, c.rows_from.ensures.upper_bound, c.rows_for.ensures, needed-least a.e a.d a.subs.now a.rows.now f.consumers)

pub returns : goal.returns
returns c =
    let a = c.args in
    ap₂ (λ (x y : ℕ). ltb a.d.share (x + y)) c.rows_from.ensures.value c.rows_for.ensures
    ∙ sym (over_by a.e a.d a.subs.now a.rows.now c.requires.1)
