use mathlib.Core.Path.{refl, ◌∙◌}
use Prim.Native.Nat.{◌-◌}
use lib.ListN.{length-set}
use Rattle.stationcalls.specs.Parts.{lent_all}
use Rattle.stationreport.proofs.Gathered.{lent-long, none-gathered, all-gathered, gathered_next}
use native.Mathlib.Omega.{arith}
use Rattle.stationreport.proofs.blocks.hold_all.Goals as goal

pub loop-j-init : goal.loop-j-init
loop-j-init c =
    let a = c.args in
    (omega arith, refl, refl, none-gathered (lent_all a.heads.now a.subs.now a.rows.now a.own.now) a.lists.now a.counts.now)

pub held_at-n-requires : goal.held_at-n-requires
held_at-n-requires c =
    let l = c.loop-j in
    let p = c.requires in
    let h = c.loop-j-test.true in
    (record { is-place = h; heads-long = p.0.heads-long; subs-long = p.0.subs-long; rows_long = p.0.rows_long }, p.1, omega (arith, lent-long l.lists (l.invariant.1 ∙ p.2) l.j h))

pub loop-j-preserved : goal.loop-j-preserved
loop-j-preserved c =
    let l = c.loop-j in
    let a = c.args in
    let h = c.loop-j-test.true in
    let b = lent_all a.heads.now a.subs.now a.rows.now a.own.now in
    let r = c.held_at-n in
    let t = gathered_next b l.lists l.counts (l.invariant.1 ∙ c.requires.2) (l.invariant.2 ∙ c.requires.3) l.j h l.invariant.3 r.result _ r.ensures in
    (omega arith, t.0 ∙ l.invariant.1, length-set l.counts l.j r.result ∙ l.invariant.2, t.1)

pub returns : goal.returns
returns c =
    let l = c.loop-j in
    let a = c.args in
    all-gathered (lent_all a.heads.now a.subs.now a.rows.now a.own.now) l.lists l.counts (l.invariant.1 ∙ c.requires.2) (l.invariant.2 ∙ c.requires.3) l.j c.loop-j-test.false l.invariant.3
