use mathlib.Core.Path.{◌≡◌, subst⁻¹}
use mathlib.Core.Bool.{false}
use Prim.Native.Nat.{ℕ}
use Rattle.definition.specs.Calls.{short}
use Rattle.definition.specs.Layout.{lengths_of, lent}
use Rattle.engine.proofs.Batched.{part_length, part-called, back-front}
use Rattle.engine.proofs.batch.step_from.Goals as goal

pub step-requires : goal.step-requires
step-requires c =
    let a = c.args in
    let p = c.requires in
    let b = lent a.head.now a.subs.now a.rows.now in
    (subst⁻¹ (λ (m : ℕ). short (lengths_of b m) ≡ false) (part_length a.events.now a.from p.0) p.1, p.2)

pub returns : goal.returns
returns c =
    let a = c.args in
    let p = c.requires in
    let k = c.step in record { called = part-called a.events.now a.from p.0 k.new.events (lent a.head.now a.subs.now a.rows.now) (lent k.new.head k.new.subs k.new.rows) a.c.code a.c.words k.result k.ensures; events_unchanged = back-front a.events.now a.from p.0 k.new.events }
