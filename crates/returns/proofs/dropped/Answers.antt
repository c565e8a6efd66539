use mathlib.Core.Path.{sym, ap}
use mathlib.Core.Bool.{Bool}
use Prim.Native.Nat.{◌-◌}
use borrow.Author.Tests.{le-leb, lt-leb}
use Rattle.definition.specs.Base.{whether◌then◌else◌}
use Rattle.state.specs.State.{with_turn, with_consumers}
use Rattle.returns.proofs.dropped.Goals as goal

pub returns-then-d : goal.returns-then-d
returns-then-d c =
    let d = c.args.d in
    ap (λ (b : Bool). with_turn (whether b then 0 else d.turn) (with_consumers (d.consumers - 1) d)) (sym (le-leb (d.consumers - 1) d.turn c.if-d.true))

pub returns : goal.returns
returns c =
    let d = c.args.d in
    ap (λ (b : Bool). with_turn (whether b then 0 else d.turn) (with_consumers (d.consumers - 1) d)) (sym (lt-leb (d.consumers - 1) d.turn c.if-d.false))
