use mathlib.Core.Path.{◌≡◌, subst}
use mathlib.Core.List.{[]}
use Prim.Native.Nat.{ℕ, ◌-◌}
use lib.ListN.{take}
use Rattle.callfile.specs.Placed.{Puts}
use Rattle.stationcalls.specs.Parts.{lent_all}
use Rattle.stationrun.specs.StationRuns.{station_by}
use Rattle.stationreport.specs.StationReporting.{places_text, other_line}
use Rattle.stationreport.proofs.Places.{no-places, next_place}
use native.Mathlib.Omega.{arith}
use Rattle.stationreport.proofs.lines.put_others.Goals as goal

pub loop-j-init : goal.loop-j-init
loop-j-init c = (no-places _, omega arith, omega arith)

pub put_other-at-requires : goal.put_other-at-requires
put_other-at-requires c =
    let l = c.loop-j in
    let p = c.requires in
    (p.0, p.1, p.2, omega (arith, p.3, l.invariant.0.same, l.invariant.2, c.loop-j-test.true))

pub loop-j-preserved : goal.loop-j-preserved
loop-j-preserved c =
    let l = c.loop-j in
    let a = c.args in
    let line = other_line a.number (take a.n a.told.now) (station_by (lent_all a.heads.now a.subs.now a.rows.now a.own.now) []) in
    let q = c.put_other-at.ensures in
    let h = c.loop-j-test.true in
    (next_place line l.j l.invariant.0 q.0, omega (arith, h), omega (arith, l.invariant.2, q.1))

pub returns : goal.returns
returns c =
    let l = c.loop-j in
    let a = c.args in
    let line = other_line a.number (take a.n a.told.now) (station_by (lent_all a.heads.now a.subs.now a.rows.now a.own.now) []) in
    let e : l.j ≡ 8 = omega (arith, l.invariant.1, c.loop-j-test.false) in
    (subst (λ (m : ℕ). Puts (places_text line 0 m) a.from a.out.now l.at l.out) e l.invariant.0, omega (arith, l.invariant.2, e))
