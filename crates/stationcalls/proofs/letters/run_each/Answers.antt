use mathlib.Core.Path.{refl, ◌∙◌}
use mathlib.Core.List.{[]}
use native.Mathlib.Omega.{arith}
use lib.ListN.{length-set}
use Rattle.stationcalls.specs.Parts.{lent_all}
use Rattle.stationcalls.specs.Run.{shown_with}
use Rattle.stationcalls.proofs.Cycle.{none_yet, all-run, letter-ok, store-room, one-more-run}
use Rattle.stationcalls.proofs.Whither.{no-places, one_place, all-places}
use Rattle.stationcalls.proofs.letters.run_each.Goals as goal

pub loop-i-init : goal.loop-i-init
loop-i-init c =
    let a = c.args in
    let p = c.requires in
    (none_yet 8 a.clock a.name a.letters.now a.n (lent_all a.heads.now a.subs.now a.rows.now a.own.now) a.events.now a.before.sent a.before.lost a.scratch.now p.1 p.2 p.0 p.3, no-places 8 a.clock a.name a.letters.now a.n (shown_with (lent_all a.heads.now a.subs.now a.rows.now a.own.now) a.before.lost) a.places.now p.1 p.4, refl)

pub store-ran-requires : goal.store-ran-requires
store-ran-requires c =
    let a = c.args in
    let l = c.loop-i in
    let less = c.loop-i-test.true in
    (l.invariant.0.lends, letter-ok 8 a.clock a.name a.letters.now a.n (lent_all a.heads.now a.subs.now a.rows.now a.own.now) a.events.now a.before.sent a.before.lost (lent_all l.heads l.subs l.rows a.own.now) l.events l.scratch l.ran.sent l.ran.lost l.i l.invariant.0 [] less, store-room 8 a.clock a.name a.letters.now a.n (lent_all a.heads.now a.subs.now a.rows.now a.own.now) a.events.now a.before.sent a.before.lost (lent_all l.heads l.subs l.rows a.own.now) l.events l.scratch l.ran.sent l.ran.lost l.i l.invariant.0 [] less)

pub offset_bounds-places-i : goal.offset_bounds-places-i
offset_bounds-places-i c = omega (arith, c.loop-i-test.true, c.requires.4, c.well_formed)

pub bounds-places-i : goal.bounds-places-i
bounds-places-i c = omega (arith, c.loop-i-test.true, c.requires.4, c.loop-i.invariant.2)

pub loop-i-preserved : goal.loop-i-preserved
loop-i-preserved c =
    let a = c.args in
    let p = c.requires in
    let l = c.loop-i in
    let s = c.store-ran in
    let less = c.loop-i-test.true in (
      one-more-run 8 a.clock a.name a.letters.now a.n (lent_all a.heads.now a.subs.now a.rows.now a.own.now) a.events.now a.before.sent a.before.lost (lent_all l.heads l.subs l.rows a.own.now) l.events l.scratch l.ran.sent l.ran.lost l.i l.invariant.0 [] less (lent_all s.new.heads s.new.subs s.new.rows a.own.now) s.new.events s.new.scratch s.result.sent s.result.lost refl s.auto.scratch s.ensures.runs_letters,
      one_place 8 a.clock a.name a.letters.now a.n (shown_with (lent_all a.heads.now a.subs.now a.rows.now a.own.now) a.before.lost) a.places.now p.1 p.4 (shown_with (lent_all l.heads l.subs l.rows a.own.now) l.ran.lost) (shown_with (lent_all s.new.heads s.new.subs s.new.rows a.own.now) s.result.lost) l.places s.result.place l.i [] l.invariant.1 less s.ensures.place_value s.ensures.runs_letters.shows,
      length-set l.places l.i s.result.place ∙ l.invariant.2,
    )

pub returns : goal.returns
returns c =
    let a = c.args in
    let p = c.requires in
    let l = c.loop-i in record { runs_letters = all-run 8 a.clock a.name a.letters.now a.n (lent_all a.heads.now a.subs.now a.rows.now a.own.now) a.events.now a.before.sent a.before.lost (lent_all l.heads l.subs l.rows a.own.now) l.events l.scratch l.ran.sent l.ran.lost l.i l.invariant.0 c.loop-i-test.false; places_after = all-places 8 a.clock a.name a.letters.now a.n (shown_with (lent_all a.heads.now a.subs.now a.rows.now a.own.now) a.before.lost) a.places.now p.1 p.4 (shown_with (lent_all l.heads l.subs l.rows a.own.now) l.ran.lost) l.places l.i l.invariant.1 c.loop-i-test.false }
