use mathlib.Core.Path.{◌≡◌, refl}
use mathlib.Core.List.{[], ◌∷◌}
use native.Mathlib.Omega.{arith}
use lib.ListN.{length, get_or, set}
use Rattle.engine.proofs.Batched.{none_yet, last-call, last-place, no_room, still-roomy, fit-entry, one_more}
use Rattle.definition.specs.Layout.{lent}
use Rattle.engine.proofs.batch.run_each.Goals as goal

pub loop-i-init : goal.loop-i-init
loop-i-init c =
    let a = c.args in
    none_yet a.words.now (lent a.head.now a.subs.now a.rows.now) a.events.now a.outcomes.now c.requires.1

pub shape_of-head-then-outcomes-i : goal.shape_of-head-then-outcomes-i
shape_of-head-then-outcomes-i c =
    omega (arith, c.loop-i.invariant.past.head-length)

pub shape_of-subs-then-outcomes-i : goal.shape_of-subs-then-outcomes-i
shape_of-subs-then-outcomes-i c =
    omega (arith, c.loop-i.invariant.past.subs-length)

pub shape_of-rows-then-outcomes-i : goal.shape_of-rows-then-outcomes-i
shape_of-rows-then-outcomes-i c =
    omega (arith, c.loop-i.invariant.past.rows-length)

pub shape_of-events-then-outcomes-i : goal.shape_of-events-then-outcomes-i
shape_of-events-then-outcomes-i c =
    omega (arith, c.loop-i.invariant.past.events-length)

pub shape_of-outcomes-then-outcomes-i : goal.shape_of-outcomes-then-outcomes-i
shape_of-outcomes-then-outcomes-i c =
    omega (arith, c.loop-i.invariant.outcomes-length)

pub returns-then-outcomes-i : goal.returns-then-outcomes-i
returns-then-outcomes-i c =
    let a = c.args in
    let l = c.loop-i in
    last-place a.words.now (lent a.head.now a.subs.now a.rows.now) a.events.now a.outcomes.now (lent l.head l.subs l.rows) l.events l.outcomes l.i l.from l.invariant c.if-outcomes-i.true

pub overflow_sub-events : goal.overflow_sub-events
overflow_sub-events c =
    omega (arith, c.loop-i.invariant.room)

pub shape_of-head-then-events-from-lt-EVENTS : goal.shape_of-head-then-events-from-lt-EVENTS
shape_of-head-then-events-from-lt-EVENTS c =
    omega (arith, c.loop-i.invariant.past.head-length)

pub shape_of-subs-then-events-from-lt-EVENTS : goal.shape_of-subs-then-events-from-lt-EVENTS
shape_of-subs-then-events-from-lt-EVENTS c =
    omega (arith, c.loop-i.invariant.past.subs-length)

pub shape_of-rows-then-events-from-lt-EVENTS : goal.shape_of-rows-then-events-from-lt-EVENTS
shape_of-rows-then-events-from-lt-EVENTS c =
    omega (arith, c.loop-i.invariant.past.rows-length)

pub shape_of-events-then-events-from-lt-EVENTS : goal.shape_of-events-then-events-from-lt-EVENTS
shape_of-events-then-events-from-lt-EVENTS c =
    omega (arith, c.loop-i.invariant.past.events-length)

pub shape_of-outcomes-then-events-from-lt-EVENTS : goal.shape_of-outcomes-then-events-from-lt-EVENTS
shape_of-outcomes-then-events-from-lt-EVENTS c =
    omega (arith, c.loop-i.invariant.outcomes-length)

pub returns-then-events-from-lt-EVENTS : goal.returns-then-events-from-lt-EVENTS
returns-then-events-from-lt-EVENTS c =
    let a = c.args in
    let l = c.loop-i in
    no_room a.words.now (lent a.head.now a.subs.now a.rows.now) a.events.now a.outcomes.now (lent l.head l.subs l.rows) l.events l.outcomes l.i l.from l.invariant c.if-events-from-lt-EVENTS.true

pub step_from-r-requires : goal.step_from-r-requires
step_from-r-requires c =
    let a = c.args in
    let l = c.loop-i in
    (l.invariant.room, still-roomy a.words.now (lent a.head.now a.subs.now a.rows.now) a.events.now a.outcomes.now (lent l.head l.subs l.rows) l.events l.outcomes l.i l.from l.invariant c.requires.0 (omega (arith, c.if-events-from-lt-EVENTS.false)), l.invariant.is-sound)

pub offset_bounds-outcomes-i : goal.offset_bounds-outcomes-i
offset_bounds-outcomes-i c =
    omega (arith, c.if-outcomes-i.false, c.loop-i.invariant.outcomes-length, c.well_formed)

pub bounds-outcomes-i : goal.bounds-outcomes-i
bounds-outcomes-i c =
    omega (arith, c.if-outcomes-i.false)

pub overflow_add-from : goal.overflow_add-from
overflow_add-from c =
    let a = c.args in
    let l = c.loop-i in
    let k = c.step_from-r in
    let m = c.call_of-c in
    omega (arith, fit-entry a.words.now (lent a.head.now a.subs.now a.rows.now) a.events.now a.outcomes.now (lent l.head l.subs l.rows) l.events l.outcomes l.i l.from l.invariant (get_or a.words.now l.i []) m.result m.ensures (lent k.new.head k.new.subs k.new.rows) k.new.events k.result k.ensures.called k.ensures.events_unchanged, c.well_formed)

pub loop-i-preserved : goal.loop-i-preserved
loop-i-preserved c =
    let a = c.args in
    let l = c.loop-i in
    let k = c.step_from-r in
    let m = c.call_of-c in
    one_more a.words.now (lent a.head.now a.subs.now a.rows.now) a.events.now a.outcomes.now (lent l.head l.subs l.rows) l.events l.outcomes l.i l.from l.invariant (get_or a.words.now l.i []) m.result m.ensures (lent k.new.head k.new.subs k.new.rows) k.new.events k.result k.ensures.called k.ensures.events_unchanged c.loop-i-test.true c.if-outcomes-i.false
    (still-roomy a.words.now (lent a.head.now a.subs.now a.rows.now) a.events.now a.outcomes.now (lent l.head l.subs l.rows) l.events l.outcomes l.i l.from l.invariant c.requires.0 (omega (arith, c.if-events-from-lt-EVENTS.false))) refl (set l.outcomes l.i (k.result.refusal ∷ k.result.answer ∷ k.result.events ∷ [])) refl

pub shape_of-head : goal.shape_of-head
shape_of-head c =
    omega (arith, c.loop-i.invariant.past.head-length)

pub shape_of-subs : goal.shape_of-subs
shape_of-subs c =
    omega (arith, c.loop-i.invariant.past.subs-length)

pub shape_of-rows : goal.shape_of-rows
shape_of-rows c =
    omega (arith, c.loop-i.invariant.past.rows-length)

pub shape_of-events : goal.shape_of-events
shape_of-events c =
    omega (arith, c.loop-i.invariant.past.events-length)

pub shape_of-outcomes : goal.shape_of-outcomes
shape_of-outcomes c =
    omega (arith, c.loop-i.invariant.outcomes-length)

pub returns : goal.returns
returns c =
    let a = c.args in
    let l = c.loop-i in
    let e : length a.words.now ≡ l.i = omega (arith, c.loop-i-test.false) in
    rw e (last-call a.words.now (lent a.head.now a.subs.now a.rows.now) a.events.now a.outcomes.now (lent l.head l.subs l.rows) l.events l.outcomes l.i l.from l.invariant c.loop-i-test.false)
