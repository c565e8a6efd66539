use mathlib.Core.Path.{sym, ap, ◌∙◌}
use mathlib.Core.Bool.{Bool, ◌&&◌}
use native.Mathlib.Omega.{arith}
use borrow.Author.Tests.{not-true, not-false}
use lib.ListN.{length}
use Rattle.definition_station.specs.Layout.{sound_station}
use Rattle.definition_station.proofs.Buffers.{heads-long, subs-long, rows_long, own-long}
use Rattle.stationcalls.specs.Parts.{lent_all}
use Rattle.stationcalls.proofs.is_sound.Goals as goal

pub returns-then-not-whole : goal.returns-then-not-whole
returns-then-not-whole c = sym (ap (λ (t : Bool). t && sound_station (lent_all c.args.heads.now c.args.subs.now c.args.rows.now c.args.own.now)) (sym c.whole.ensures ∙ not-true _ c.if-not-whole.true-raw))

pub all_sound-requires : goal.all_sound-requires
all_sound-requires c =
    let b = (lent_all c.args.heads.now c.args.subs.now c.args.rows.now c.args.own.now) in
    let n = (length c.args.events.now) in
    let h = (not-true _ (sym c.whole.ensures ∙ not-false _ c.if-not-whole.false-raw)) in
    (record { is-place = omega arith; heads-long = heads-long b n h; subs-long = subs-long b n h; rows_long = rows_long b n h }, own-long b n h)

pub returns : goal.returns
returns c = c.all_sound.ensures ∙ sym (ap (λ (t : Bool). t && sound_station (lent_all c.args.heads.now c.args.subs.now c.args.rows.now c.args.own.now)) (sym c.whole.ensures ∙ not-false _ c.if-not-whole.false-raw))
