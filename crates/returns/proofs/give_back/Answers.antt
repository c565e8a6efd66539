use mathlib.Core.Path.{◌≡◌, subst}
use Prim.Native.Nat.{ℕ, ◌+◌, ◌-◌}
use native.Mathlib.Omega.{arith}
use lib.IntN.{ℤ}
use mir.Syntax.{w64}
use mir.Val.{to_z, of_z}
use mir.ValLaws.{to_z-of_z}
use Rattle.model.specs.Model.{id_of}
use Rattle.returns.specs.Gaps.{GaveBack}
use Rattle.returns.proofs.Gap.{gap-open}
use Rattle.returns.proofs.Giving.{giving-start, giving-turn, giving-end}
use Rattle.returns.proofs.give_back.Goals as goal

pub loop-init : goal.loop-init
loop-init c =
    let a = c.args in
    let e : a.s.inflight - 0 ≡ a.s.inflight = omega arith in
    rw e (giving-start a.clock (to_z w64 (of_z w64 a.last)) (id_of a.s.conn a.s.session a.s.value) a.base a.before a.subs.now a.rows.now a.s.inflight c.requires.0)

pub give_one-d-requires : goal.give_one-d-requires
give_one-d-requires c =
    let g = c.loop.invariant.gap in
    (gap-open g (omega arith), omega (arith, g.sum, g.used), c.requires.1)

pub loop-preserved : goal.loop-preserved
loop-preserved c =
    let l = c.loop in
    let a = c.args in
    let j = id_of a.s.conn a.s.session a.s.value in
    let k : ℕ = a.s.inflight - l.counter in
    let e : a.s.inflight - (l.counter + 1) ≡ k - 1 = omega arith in
    rw e (giving-turn a.clock (to_z w64 (of_z w64 a.last)) j a.base a.before a.subs.now a.rows.now a.s.inflight k l.d _ l.subs l.rows _ _ l.invariant (omega arith) c.give_one-d.ensures)

pub returns : goal.returns
returns c =
    let l = c.loop in
    let a = c.args in
    let j = id_of a.s.conn a.s.session a.s.value in
    subst (λ (x : ℤ). GaveBack a.clock x j a.base a.s.inflight a.before l.d a.subs.now a.rows.now l.subs l.rows) (to_z-of_z w64 a.last c.ranges.last)
    (giving-end a.clock (to_z w64 (of_z w64 a.last)) j a.base a.before a.subs.now a.rows.now a.s.inflight (a.s.inflight - l.counter) l.d l.subs l.rows l.invariant (omega arith))
