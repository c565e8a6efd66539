use mathlib.Core.Path.{refl, subst⁻¹}
use Prim.Native.Nat.{◌+◌}
use lib.ListN.{set}
use Rattle.definition.specs.Layout.{Row}
use Rattle.stationcalls.proofs.Tell.{Telling, tell_none, tell-turn, tell-all}
use Rattle.stationcalls.proofs.letters.tell.Goals as goal

pub loop-i-init : goal.loop-i-init
loop-i-init c = tell_none c.args.events.now c.args.at c.args.called.now c.args.n c.args.k c.requires.0 c.requires.1

pub loop-i-preserved : goal.loop-i-preserved
loop-i-preserved c =
    let a = c.args in
    let l = c.loop-i in
    subst⁻¹ (λ (x : Row). Telling a.events.now a.at a.called.now a.n a.k (set l.events (a.at + l.i) x) (l.i + 1)) c.named.ensures
    (tell-turn a.events.now a.at a.called.now a.n a.k _ l.events l.i l.invariant c.loop-i-test.true)

pub returns : goal.returns
returns c =
    let a = c.args in
    let l = c.loop-i in record { value = refl; events_after = tell-all a.events.now a.at a.called.now a.n a.k l.events l.i l.invariant c.loop-i-test.false }
