use mathlib.Core.Path.{sym, ap, ◌∙◌}
use Prim.Native.Nat.{ℕ}
use native.Mathlib.Omega.{arith}
use lib.Seq.{slice, slice_empty}
use Rattle.engine.specs.Storing.{holds}
use Rattle.engine.proofs.Used.{held-part}
use Rattle.engine.proofs.Ascending.{none_above}
use Rattle.engine.proofs.ordered.has_number.Goals as goal

pub returns-then-from-to : goal.returns-then-from-to
returns-then-from-to c =
    let a = c.args in
    sym (ap (λ (n : ℕ). holds a.seq (slice n a.to a.rows.now)) c.if-from-to.true ∙ ap (holds a.seq) (slice_empty a.to a.rows.now))

pub returns-then-rows-to : goal.returns-then-rows-to
returns-then-rows-to c =
    let a = c.args in
    let p = c.requires in
    sym (none_above a.rows.now a.from a.to a.seq (omega (arith, p.0, c.if-from-to.false)) p.1 p.2 c.if-rows-to.true)

pub returns : goal.returns
returns c =
    let a = c.args in
    let p = c.requires in
    c.has_seq.ensures ∙ held-part a.from a.to a.seq a.rows.now p.0 p.1
