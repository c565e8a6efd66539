use mathlib.Core.Path.{◌≡◌, subst}
use mathlib.Core.List.{[]}
use Prim.Native.Nat.{ℕ, ◌-◌}
use Rattle.callfile.specs.Placed.{Puts}
use Rattle.stationcalls.specs.Parts.{lent_all}
use Rattle.stationreport.specs.StationReporting.{places_text, noted_by}
use Rattle.stationreport.specs.StationReportFiles.{place_tail}
use Rattle.stationreport.proofs.Places.{no-places, next_place}
use native.Mathlib.Omega.{arith}
use Rattle.stationreport.proofs.put_tails.Goals as goal

pub loop-k-init : goal.loop-k-init
loop-k-init c = (no-places _, omega arith, omega arith)

pub put_tail-at-requires : goal.put_tail-at-requires
put_tail-at-requires c =
    let l = c.loop-k in
    let p = c.requires in
    let h = c.loop-k-test.true in
    (record { is-place = h; heads-long = p.0.heads-long; subs-long = p.0.subs-long; rows_long = p.0.rows_long }, p.1, omega (arith, p.2, l.invariant.0.same, l.invariant.2, h))

pub loop-k-preserved : goal.loop-k-preserved
loop-k-preserved c =
    let l = c.loop-k in
    let a = c.args in
    let line = place_tail (noted_by (lent_all a.heads.now a.subs.now a.rows.now a.own.now) [] a.gone.now) in
    let q = c.put_tail-at.ensures in
    let h = c.loop-k-test.true in
    (next_place line l.k l.invariant.0 q.0, omega (arith, h), omega (arith, l.invariant.2, q.1))

pub returns : goal.returns
returns c =
    let l = c.loop-k in
    let a = c.args in
    let line = place_tail (noted_by (lent_all a.heads.now a.subs.now a.rows.now a.own.now) [] a.gone.now) in
    let e : l.k ≡ 8 = omega (arith, l.invariant.1, c.loop-k-test.false) in
    (subst (λ (m : ℕ). Puts (places_text line 0 m) a.from a.out.now l.at l.out) e l.invariant.0, omega (arith, l.invariant.2, e))
