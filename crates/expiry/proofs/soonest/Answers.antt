use native.Mathlib.Omega.{arith}
use Rattle.std.proofs.Common.{rules, tests}
use mathlib.Core.Path.{◌≡◌, ap, ◌∙◌}
use mathlib.Core.List.{map}
use Prim.Native.Nat.{ℕ, ◌-◌}
use lib.Seq.{slice}
use Rattle.entry.specs.Entry.{entry_of}
use Rattle.definition.specs.Destination.{soonest}
use Rattle.expiry.specs.Sweep.{next_of}
use Rattle.expiry.proofs.Lists.{soonest-start, soonest-not, soonest-taken, soonest-kept}
use Rattle.expiry.proofs.soonest.Goals as goal

pub loop-i-init : goal.loop-i-init
loop-i-init c = let a = c.args in (c.requires.0, soonest-start a.by a.to a.rows.now)

pub loop-i-preserved-then-is_none_or : goal.loop-i-preserved-then-is_none_or
loop-i-preserved-then-is_none_or c =
    let l = c.loop-i in
    let a = c.args in
    (omega arith, soonest-taken a.by (l.i - 1) l.i a.to a.rows.now l.best (omega arith) l.auto.i c.requires.1 c.requires.2 l.invariant.1 c.if-until-by.true _ c.entry_of-e.ensures c.is_none_or.result _ c.is_none_or.ensures (λ f p. search (rules, tests)) c.if-is_none_or.true)

pub loop-i-preserved-else-is_none_or : goal.loop-i-preserved-else-is_none_or
loop-i-preserved-else-is_none_or c =
    let l = c.loop-i in
    let a = c.args in
    (omega arith, soonest-kept a.by (l.i - 1) l.i a.to a.rows.now l.best (omega arith) l.auto.i c.requires.1 c.requires.2 l.invariant.1 c.if-until-by.true _ c.entry_of-e.ensures c.is_none_or.result _ c.is_none_or.ensures (λ f p. search (rules, tests)) c.if-is_none_or.false)

pub loop-i-preserved : goal.loop-i-preserved
loop-i-preserved c =
    let l = c.loop-i in
    let a = c.args in
    (omega arith, soonest-not a.by (l.i - 1) l.i a.to a.rows.now (next_of l.best) (omega arith) l.auto.i c.requires.1 c.requires.2 l.invariant.1 c.if-until-by.false)

pub returns : goal.returns
returns c =
    let l = c.loop-i in
    let a = c.args in
    let e : l.i ≡ a.from = omega (arith, l.invariant.0, c.loop-i-test.false) in
    l.invariant.1 ∙ ap (λ (i : ℕ). soonest a.by (map entry_of (slice i a.to a.rows.now))) e
