use mathlib.Core.Path.{◌≡◌, refl, sym, ap, ◌∙◌, subst}
use Prim.Native.Nat.{ℕ, ◌+◌, ◌-◌}
use lib.ListN.{length, take, length-set}
use Rattle.callfile.specs.Placed.{Puts}
use Rattle.stationreportlines.specs.StationReportLines.{blocks_text_on}
use Rattle.stationcalls.specs.Parts.{lent_all}
use Rattle.stationreport.specs.StationReporting.{places_text}
use Rattle.stationreport.specs.Gathering.{left_from, gone_row_by}
use Rattle.stationreport.proofs.EachPlace.{each_from, each_set, each_all}
use Rattle.stationreport.proofs.Places.{no-places, next_place}
use native.Mathlib.Omega.{arith}
use Rattle.stationreport.proofs.lines.put_left.Goals as goal

pub loop-j-init : goal.loop-j-init
loop-j-init c = (omega arith, refl, no-places _, omega arith, refl)

pub put_place_left-at-requires : goal.put_place_left-at-requires
put_place_left-at-requires c =
    let l = c.loop-j in
    let p = c.requires in
    let h = c.loop-j-test.true in record { within = (record { is-place = h; heads-long = p.within.0.heads-long; subs-long = p.within.0.subs-long; rows_long = p.within.0.rows_long }, p.within.1, p.within.2); few_held = (p.few_held.0, p.few_held.1, p.few_held.2, l.invariant.1 ∙ p.few_held.3, omega (arith, h, l.invariant.3, l.invariant.2.same, p.few_held.4)) }

pub loop-j-preserved : goal.loop-j-preserved
loop-j-preserved c =
    let l = c.loop-j in
    let a = c.args in
    let h = c.loop-j-test.true in
    let left = left_from (lent_all a.heads.now a.subs.now a.rows.now a.own.now) a.lists.now a.counts.now (take a.n a.told.now) a.number a.code a.words in
    let r = c.put_place_left-at.ensures in (
      omega (arith, h),
      ap length r.gone_after ∙ length-set l.gone l.j _ ∙ l.invariant.1,
      next_place (λ k. blocks_text_on k (left k)) l.j l.invariant.2 r.puts.0,
      omega (arith, l.invariant.3, r.puts.1),
      ap (each_from (gone_row_by left) (l.j + 1)) r.gone_after ∙ each_set (gone_row_by left) l.j l.gone (omega (arith, h, l.invariant.1, c.requires.few_held.3)) _ refl ∙ l.invariant.4,
    )

pub returns : goal.returns
returns c =
    let l = c.loop-j in
    let a = c.args in
    let left = left_from (lent_all a.heads.now a.subs.now a.rows.now a.own.now) a.lists.now a.counts.now (take a.n a.told.now) a.number a.code a.words in
    let e : l.j ≡ 8 = omega (arith, l.invariant.0, c.loop-j-test.false) in record { puts = (subst (λ (m : ℕ). Puts (places_text (λ k. blocks_text_on k (left k)) 0 m) a.from a.out.now l.at l.out) e l.invariant.2, omega (arith, e, l.invariant.3)); gone_after = sym (each_all (gone_row_by left) l.j l.gone (omega (arith, e, l.invariant.1, c.requires.few_held.3))) ∙ l.invariant.4 }
