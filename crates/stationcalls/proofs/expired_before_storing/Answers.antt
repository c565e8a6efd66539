use mathlib.Core.Path.{refl, sym, ap, ◌∙◌}
use native.Mathlib.Omega.{arith}
use Rattle.model.specs.Refusal.{refusal_number}
use Rattle.state.specs.Answers.{refusal_of}
use Rattle.state.proofs.Told.{numbered}
use Rattle.stationcalls.proofs.Uncoded.{missing-silent, barred-left, barred-asks, bare-called}
use Rattle.stationcalls.proofs.Steps.{asked-within}
use Rattle.stationcalls.proofs.Shape.{as-refused}
use Rattle.stationcalls.specs.Parts.{lent_all}
use Rattle.definition_station.specs.Layout.{buffer_station_uncoded}
use Rattle.definition.specs.Calls.{missing}
use lib.ListN.{length}
use mathlib.Core.List.{[]}
use Rattle.stationcalls.proofs.expired_before_storing.Goals as goal

pub returns-in-Err : goal.returns-in-Err
returns-in-Err c = as-refused (lent_all c.args.heads.now c.args.subs.now c.args.rows.now c.args.own.now) c.args.events.now c.args.number 1 [] (buffer_station_uncoded (lent_all c.args.heads.now c.args.subs.now c.args.rows.now c.args.own.now) (length c.args.events.now) c.args.number missing) (refusal_number c.in-Err.refusal) c.refused_for.result c.refused_for.ensures (barred-left c.args.heads.now c.args.subs.now c.args.rows.now c.args.own.now c.args.events.now c.args.number missing (refusal_number c.in-Err.refusal) (sym (ap refusal_of c.in-Err.is) ∙ c.barred.ensures) (λ z. omega (arith, z, numbered c.in-Err.refusal)))

pub expired_before_storing-requires : goal.expired_before_storing-requires
expired_before_storing-requires c = (asked-within c.args.heads.now c.args.subs.now c.args.rows.now c.args.own.now c.args.number 1 (length c.args.events.now) (barred-asks c.args.heads.now c.args.subs.now c.args.rows.now c.args.own.now c.args.events.now c.args.number missing 0 (sym (ap refusal_of c.in-Ok.is) ∙ c.barred.ensures) refl)).0

pub returns-in-Ok : goal.returns-in-Ok
returns-in-Ok c = bare-called c.args.heads.now c.args.subs.now c.args.rows.now c.args.own.now c.args.events.now c.args.number missing (barred-asks c.args.heads.now c.args.subs.now c.args.rows.now c.args.own.now c.args.events.now c.args.number missing 0 (sym (ap refusal_of c.in-Ok.is) ∙ c.barred.ensures) refl) missing-silent c.expired_before_storing.new.heads c.expired_before_storing.new.subs c.expired_before_storing.new.rows c.expired_before_storing.new.events c.expired_before_storing.result (c.expired_before_storing.ensures c.args.own.now)
