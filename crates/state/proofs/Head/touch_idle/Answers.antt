use mathlib.Core.Path.{◌≡◌}
use mathlib.Core.Bool.{false, ◌&&◌}
use lib.Dec.{eqb}
use borrow.Author.Tests.{eq-eqb, ne_eqb}
use Rattle.state.specs.State.{touched}
use Rattle.state.proofs.Head.touch_idle.Goals as goal
use Rattle.state.proofs.Head.touch_idle.Goals.{then-self-ne0-via-then-self-ne0, then-self-ne0-via-else-self-ne0+then-self-ne0-2, then-self-ne0-via-else-self-ne0+else-self-ne0-2+then-self-ne0-3}

pub returns-then-self-ne0 : goal.returns-then-self-ne0
unfolding touched
returns-then-self-ne0 c =
    let d = c.args.self in
    let some : (eqb d.waiting 0 && (eqb d.consumers 0 && eqb d.producers 0)) ≡ false = elim c.then-self-ne0.branch [
      | then-self-ne0-via-then-self-ne0 w ↦ rw (ne_eqb _ _ w.if-self-ne0.true)
      | then-self-ne0-via-else-self-ne0+then-self-ne0-2 w ↦ rw (eq-eqb _ _ w.if-self-ne0.false, ne_eqb _ _ w.if-self-ne0-2.true)
      | then-self-ne0-via-else-self-ne0+else-self-ne0-2+then-self-ne0-3 w ↦ rw (eq-eqb _ _ w.if-self-ne0.false, eq-eqb _ _ w.if-self-ne0-2.false, ne_eqb _ _ w.if-self-ne0-3.true)
    ] in
    rw some c.not_idle.ensures

pub returns-then-self : goal.returns-then-self
unfolding touched
returns-then-self c = rw (eq-eqb _ _ c.if-self-ne0.false, eq-eqb _ _ c.if-self-ne0-2.false, eq-eqb _ _ c.if-self-ne0-3.false, c.if-self.true)

pub returns : goal.returns
unfolding touched
returns c = rw (eq-eqb _ _ c.if-self-ne0.false, eq-eqb _ _ c.if-self-ne0-2.false, eq-eqb _ _ c.if-self-ne0-3.false, c.if-self.false)
