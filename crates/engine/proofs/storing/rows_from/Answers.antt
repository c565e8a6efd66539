use mathlib.Core.Path.{◌≡◌, ap, ap₂, ◌∙◌}
use Prim.Native.Nat.{ℕ, ◌+◌}
use native.Mathlib.Omega.{arith}
use lib.ListN.{length, take}
use lib.Seq.{slice}
use Rattle.definition.specs.Base.{tally}
use Rattle.definition.specs.Layout.{sub_rows}
use Rattle.state.specs.State.{first_reserved}
use Rattle.state.specs.Fits.{Fits}
use Rattle.state.proofs.Fitting.{fits-facts}
use Rattle.engine.specs.Shares.{came_from, held_from}
use Rattle.engine.proofs.Shares.{held-from, held-least}
use Rattle.engine.proofs.storing.rows_from.Goals as goal
use Rattle.engine.proofs.storing.rows_from.Goals.{After-count_from, Start}

facts : (c : Start) → Fits c.args.subs.now c.args.d (length c.args.rows.now) 545
facts c = fits-facts c.args.subs.now c.args.d (length c.args.rows.now) 545 c.requires

after : (c : Start) → first_reserved c.args.d ≡ sub_rows (take c.args.d.consumers c.args.subs.now)
after c = omega (arith, (facts c).rows-used)

whole : (c : After-count_from) → let a = c.args in c.taken_from.result + c.count_from.result ≡ held_from a.conn a.d a.subs.now a.rows.now
whole c =
    let a = c.args in
    let f = facts c.before.before.before in
    let s = c.first_reserved.ensures ∙ after c.before.before.before in
    let k = c.count_from.ensures ∙ ap (λ (m : ℕ). tally (came_from a.conn) (slice m a.d.used a.rows.now)) s in
    ap₂ (λ (x y : ℕ). x + y) c.taken_from.ensures k ∙ held-from a.conn a.d a.subs.now a.rows.now f.rows-used

pub taken_from-requires : goal.taken_from-requires
taken_from-requires c = c.requires

pub count_from-requires : goal.count_from-requires
count_from-requires c =
    let f = facts (goal.at.count_from-requires c).Start in
    (omega (arith, c.first_reserved.ensures), omega (arith, f.used, f.rows_long))

pub overflow_add-result : goal.overflow_add-result
overflow_add-result c =
    let a = c.args in
    let f = facts (goal.at.overflow_add-result c).Start in
    omega (arith, whole (goal.at.overflow_add-result c).After-count_from, held-least a.conn a.d a.subs.now a.rows.now f.rows-used (omega (arith, f.used, f.rows_long)), f.used)

pub returns : goal.returns
returns c =
    let a = c.args in
    let f = facts (goal.at.returns c).Start in record { value = whole (goal.at.returns c).After-count_from; upper_bound = omega (arith, whole (goal.at.returns c).After-count_from, held-least a.conn a.d a.subs.now a.rows.now f.rows-used (omega (arith, f.used, f.rows_long)), f.used) }
