use mathlib.Core.Path.{◌≡◌, subst}
use Prim.Native.Nat.{ℕ}
use Rattle.definition_station.specs.Layout.{station_view}
use Rattle.callfile.specs.Placed.{Puts}
use Rattle.stationcalls.specs.Parts.{lent_all}
use Rattle.stationrun.specs.StationFiles.{counted_lines}
use Rattle.stationrun.proofs.Ends.{slots_to, none-counted, next_counted}
use native.Mathlib.Omega.{arith}
use Rattle.stationrun.proofs.put_counts.Goals as goal

pub loop-k-init : goal.loop-k-init
loop-k-init c = let a = c.args in
    (none-counted (lent_all a.heads.now a.subs.now a.rows.now a.own.now), omega arith, omega arith)

pub put_place-at-requires : goal.put_place-at-requires
put_place-at-requires c =
    let l = c.loop-k in
    let p = c.requires in
    let h = c.loop-k-test.true in
    (record { is-place = h; heads-long = p.0.heads-long; subs-long = p.0.subs-long; rows_long = p.0.rows_long }, p.1, omega (arith, p.2, l.invariant.0.same, l.invariant.2, h))

pub loop-k-preserved : goal.loop-k-preserved
loop-k-preserved c =
    let l = c.loop-k in
    let a = c.args in
    let q = c.put_place-at.ensures in
    (next_counted (lent_all a.heads.now a.subs.now a.rows.now a.own.now) l.k l.invariant.0 q.0, omega (arith, c.loop-k-test.true), omega (arith, l.invariant.2, q.1))

pub returns : goal.returns
unfolding station_view
returns c =
    let l = c.loop-k in
    let a = c.args in
    let e : l.k ≡ 8 = omega (arith, l.invariant.1, c.loop-k-test.false) in
    (subst (λ (m : ℕ). Puts (counted_lines 0 (slots_to (lent_all a.heads.now a.subs.now a.rows.now a.own.now) 0 m)) a.from a.out.now l.at l.out) e l.invariant.0, omega (arith, l.invariant.2, e))
