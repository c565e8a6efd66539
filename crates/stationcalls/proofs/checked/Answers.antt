use mathlib.Core.Path.{sym, ◌∙◌}
use native.Mathlib.Omega.{arith}
use borrow.Author.Tests.{not-true, not-false}
use Rattle.definition_station.specs.Station.{station_events}
use Rattle.definition_station.proofs.Buffers.{heads-long, subs-long, rows_long, own-long}
use Rattle.stationcalls.specs.Parts.{lent_all}
use Rattle.stationcalls.proofs.Queried.{checked-short, checked-unsound, checked-sound}
use Rattle.stationcalls.proofs.checked.Goals as goal

pub returns-then-not-state_whole : goal.returns-then-not-state_whole
returns-then-not-state_whole c = checked-short (lent_all c.args.heads.now c.args.subs.now c.args.rows.now c.args.own.now) (not-false _ (sym c.state_whole.ensures ∙ not-true _ c.if-not-state_whole.true-raw))

pub all_sound-requires : goal.all_sound-requires
all_sound-requires c =
    let b = (lent_all c.args.heads.now c.args.subs.now c.args.rows.now c.args.own.now) in
    let h = (not-true _ (sym c.state_whole.ensures ∙ not-false _ c.if-not-state_whole.false-raw)) in
    (record { is-place = omega arith; heads-long = heads-long b station_events h; subs-long = subs-long b station_events h; rows_long = rows_long b station_events h }, own-long b station_events h)

pub returns-then-not-all_sound : goal.returns-then-not-all_sound
returns-then-not-all_sound c = checked-unsound (lent_all c.args.heads.now c.args.subs.now c.args.rows.now c.args.own.now) (not-true _ (sym c.state_whole.ensures ∙ not-false _ c.if-not-state_whole.false-raw)) (sym c.all_sound.ensures ∙ not-true _ c.if-not-all_sound.true-raw)

pub returns : goal.returns
returns c = checked-sound (lent_all c.args.heads.now c.args.subs.now c.args.rows.now c.args.own.now) (not-true _ (sym c.state_whole.ensures ∙ not-false _ c.if-not-state_whole.false-raw)) (sym c.all_sound.ensures ∙ not-false _ c.if-not-all_sound.false-raw)
