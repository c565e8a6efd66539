use mathlib.Core.Path.{subst⁻¹}
use Prim.Native.Nat.{◌+◌}
use lib.ListN.{set}
use Rattle.definition.specs.Layout.{Row}
use native.Mathlib.Omega.{arith}
use Rattle.stationcalls.proofs.Tell.{Telling, tell_none, named-turn, tell-all}
use Rattle.stationcalls.proofs.letters.name_all.Goals as goal

pub loop-i-init : goal.loop-i-init
loop-i-init c = tell_none c.args.events.now 0 c.args.events.now c.args.n c.args.k c.requires.0 (omega (arith, c.requires.0))

pub loop-i-preserved : goal.loop-i-preserved
loop-i-preserved c =
    let a = c.args in
    let l = c.loop-i in
    subst⁻¹ (λ (x : Row). Telling a.events.now 0 a.events.now a.n a.k (set l.events l.i x) (l.i + 1)) c.named.ensures
    (named-turn a.events.now a.n a.k _ l.events l.i l.invariant c.loop-i-test.true)

pub returns : goal.returns
returns c =
    let a = c.args in
    let l = c.loop-i in
    tell-all a.events.now 0 a.events.now a.n a.k l.events l.i l.invariant c.loop-i-test.false
