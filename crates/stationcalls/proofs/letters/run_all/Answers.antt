use mathlib.Core.Path.{refl, ◌∙◌}
use mathlib.Core.List.{map}
use native.Mathlib.Omega.{arith}
use lib.ListN.{take}
use Rattle.entry.specs.Entry.{entry_of}
use Rattle.stationcalls.proofs.All.{own-still, asks-all, ran-all, told-all}
use Rattle.stationcalls.proofs.letters.run_all.Goals as goal

pub run_each-ran-requires : goal.run_each-ran-requires
run_each-ran-requires c =
    let p = c.requires in
    let q = asks-all c.args.heads.now c.args.subs.now c.args.rows.now c.args.own.now c.args.events.now c.args.sent c.args.clock c.args.k (map entry_of (take c.args.n c.args.dead.now)) c.number-given.new.letters c.number-given.result c.requires.0 c.next-next.result c.lost-lost.result c.next-next.ensures c.lost-lost.ensures c.number-given.ensures.numbers c.set_next.new.own c.set_next.ensures c.name-name.result c.name-name.ensures _ refl c.args.n c.number-given.ensures.letters p.4 p.5 p.6 in
    (q.0, q.1, q.2, q.3, omega (arith, c.number-given.ensures.letters.few, p.2))

pub set_lost-requires : goal.set_lost-requires
set_lost-requires c = own-still c.args.own.now c.set_next.new.own c.number-given.result.next c.set_next.ensures c.requires.0.own-long

pub tell_letters-requires : goal.tell_letters-requires
tell_letters-requires c =
    let p = c.requires in
    let m = c.number-given.ensures.letters in
    (p.1, m.within, omega (arith, m.few, p.2, c.run_each-ran.auto.places))

pub shape_of-own : goal.shape_of-own
shape_of-own c = c.set_lost.auto.own ∙ c.set_next.auto.own

pub returns : goal.returns
returns c =
    let a = c.args in
    let p = c.requires in
    let m = c.number-given in record { ran_all = ran-all c.args.heads.now c.args.subs.now c.args.rows.now c.args.own.now c.args.events.now c.args.sent c.args.clock c.args.k (map entry_of (take c.args.n c.args.dead.now)) c.number-given.new.letters c.number-given.result c.requires.0 c.next-next.result c.lost-lost.result c.next-next.ensures c.lost-lost.ensures c.number-given.ensures.numbers c.set_next.new.own c.set_next.ensures c.name-name.result c.name-name.ensures c.run_each-ran.new.heads c.run_each-ran.new.subs c.run_each-ran.new.rows c.run_each-ran.new.events c.run_each-ran.result.sent c.run_each-ran.result.lost c.set_lost.new.own c.set_lost.ensures p.5 c.run_each-ran.ensures.runs_letters; told_after = told-all c.args.heads.now c.args.subs.now c.args.rows.now c.args.own.now c.args.events.now c.args.sent c.args.clock c.args.k (map entry_of (take c.args.n c.args.dead.now)) c.number-given.new.letters c.number-given.result c.requires.0 c.next-next.result c.lost-lost.result c.next-next.ensures c.lost-lost.ensures c.number-given.ensures.numbers c.set_next.new.own c.set_next.ensures c.name-name.result c.name-name.ensures (take a.n a.dead.now) refl _ c.run_each-ran.new.places p.5 m.ensures.letters.within c.run_each-ran.ensures.places_after a.told.now c.tell_letters.new.told c.tell_letters.ensures }
