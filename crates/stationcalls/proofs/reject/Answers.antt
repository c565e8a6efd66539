use mathlib.Core.Path.{refl, sym, ◌∙◌}
use lib.ListN.{length}
use Rattle.definition_station.specs.Layout.{station_view, buffer_station_step}
use Rattle.stationcalls.specs.Parts.{lent_all}
use Rattle.stationcalls.specs.Tells.{told_rows}
use Rattle.stationcalls.proofs.Tells.{as_quiet, refused-tells}
use Rattle.stationcalls.proofs.Rejecting.{reject-refused, reject-asks, reject-ran, reject-tells, reject-tells-none, reject-none}
use Rattle.stationcalls.proofs.Steps.{asked-within}
use Rattle.stationcalls.proofs.reject.Goals as goal

pub rejected-n-requires : goal.rejected-n-requires
rejected-n-requires c = (asked-within c.args.heads.now c.args.subs.now c.args.rows.now c.args.own.now c.args.k c.args.c.code (length c.args.events.now) c.requires.0).0

pub named_call-r-requires : goal.named_call-r-requires
named_call-r-requires c = asked-within c.args.heads.now c.args.subs.now c.args.rows.now c.args.own.now c.args.k c.args.c.code (length c.args.events.now) c.requires.0

pub returns-then-r-ne0 : goal.returns-then-r-ne0
returns-then-r-ne0 c =
    let both = as_quiet (buffer_station_step (lent_all c.args.heads.now c.args.subs.now c.args.rows.now c.args.own.now) (length c.args.events.now) c.args.k c.args.c.code c.args.c.words) c.args.k c.args.c.code c.args.c.words (lent_all c.args.heads.now c.args.subs.now c.args.rows.now c.args.own.now) (lent_all c.named_call-r.new.heads c.named_call-r.new.subs c.named_call-r.new.rows c.args.own.now) c.args.events.now c.named_call-r.new.events (told_rows c.args.k c.args.c.code c.args.c.words (station_view (lent_all c.args.heads.now c.args.subs.now c.args.rows.now c.args.own.now))) c.args.told.now c.named_call-r.result c.quiet.result c.quiet.ensures (reject-refused c.args.heads.now c.args.subs.now c.args.rows.now c.args.own.now c.args.events.now c.args.k c.args.c.code c.args.c.words c.requires.0 c.requires.1 c.named_call-r.new.heads c.named_call-r.new.subs c.named_call-r.new.rows c.named_call-r.new.events c.named_call-r.result (c.named_call-r.ensures c.args.own.now) c.if-r-ne0.true) (refused-tells (buffer_station_step (lent_all c.args.heads.now c.args.subs.now c.args.rows.now c.args.own.now) (length c.args.events.now) c.args.k c.args.c.code c.args.c.words) (told_rows c.args.k c.args.c.code c.args.c.words (station_view (lent_all c.args.heads.now c.args.subs.now c.args.rows.now c.args.own.now))) c.args.told.now (λ e. c.if-r-ne0.true ((reject-refused c.args.heads.now c.args.subs.now c.args.rows.now c.args.own.now c.args.events.now c.args.k c.args.c.code c.args.c.words c.requires.0 c.requires.1 c.named_call-r.new.heads c.named_call-r.new.subs c.named_call-r.new.rows c.named_call-r.new.events c.named_call-r.result (c.named_call-r.ensures c.args.own.now) c.if-r-ne0.true).refuses ∙ e))) in record { station_called = both.0; station_tells = both.1 }

pub returns-then-n-eq0 : goal.returns-then-n-eq0
returns-then-n-eq0 c =
    let both = as_quiet (buffer_station_step (lent_all c.args.heads.now c.args.subs.now c.args.rows.now c.args.own.now) (length c.args.events.now) c.args.k c.args.c.code c.args.c.words) c.args.k c.args.c.code c.args.c.words (lent_all c.args.heads.now c.args.subs.now c.args.rows.now c.args.own.now) (lent_all c.named_call-r.new.heads c.named_call-r.new.subs c.named_call-r.new.rows c.args.own.now) c.args.events.now c.named_call-r.new.events (told_rows c.args.k c.args.c.code c.args.c.words (station_view (lent_all c.args.heads.now c.args.subs.now c.args.rows.now c.args.own.now))) c.args.told.now c.named_call-r.result c.quiet-then-n-eq0.result c.quiet-then-n-eq0.ensures (reject-none c.args.heads.now c.args.subs.now c.args.rows.now c.args.own.now c.args.events.now c.args.k c.args.c.code c.args.c.words c.requires.0 c.requires.1 c.named_call-r.new.heads c.named_call-r.new.subs c.named_call-r.new.rows c.named_call-r.new.events c.named_call-r.result (c.named_call-r.ensures c.args.own.now) _ c.rejected-n.new.out c.rejected-n.result (c.rejected-n.ensures c.args.own.now) refl c.if-r-ne0.false c.if-n-eq0.true) (reject-tells-none c.args.heads.now c.args.subs.now c.args.rows.now c.args.own.now c.args.events.now c.args.k c.args.c.code c.args.c.words c.requires.0 c.requires.1 c.named_call-r.new.heads c.named_call-r.new.subs c.named_call-r.new.rows c.named_call-r.new.events c.named_call-r.result (c.named_call-r.ensures c.args.own.now) _ c.rejected-n.new.out c.rejected-n.result (c.rejected-n.ensures c.args.own.now) refl c.if-r-ne0.false c.args.told.now c.if-n-eq0.true) in record { station_called = both.0; station_tells = both.1 }

pub run_all-all-requires : goal.run_all-all-requires
run_all-all-requires c = reject-asks c.args.heads.now c.args.subs.now c.args.rows.now c.args.own.now c.args.events.now c.args.k c.args.c.code c.args.c.words c.requires.0 c.requires.1 c.named_call-r.new.heads c.named_call-r.new.subs c.named_call-r.new.rows c.named_call-r.new.events c.named_call-r.result (c.named_call-r.ensures c.args.own.now) _ c.rejected-n.new.out c.rejected-n.result (c.rejected-n.ensures c.args.own.now) refl c.if-r-ne0.false

pub returns : goal.returns
returns c =
    let x = reject-ran c.args.heads.now c.args.subs.now c.args.rows.now c.args.own.now c.args.events.now c.args.k c.args.c.code c.args.c.words c.requires.0 c.requires.1 c.named_call-r.new.heads c.named_call-r.new.subs c.named_call-r.new.rows c.named_call-r.new.events c.named_call-r.result (c.named_call-r.ensures c.args.own.now) _ c.rejected-n.new.out c.rejected-n.result (c.rejected-n.ensures c.args.own.now) refl c.if-r-ne0.false c.run_all-all.new.heads c.run_all-all.new.subs c.run_all-all.new.rows c.run_all-all.new.own c.run_all-all.new.events c.run_all-all.result c.run_all-all.ensures.ran_all in record { station_called = x; station_tells = reject-tells c.args.heads.now c.args.subs.now c.args.rows.now c.args.own.now c.args.events.now c.args.k c.args.c.code c.args.c.words c.requires.0 c.requires.1 c.named_call-r.new.heads c.named_call-r.new.subs c.named_call-r.new.rows c.named_call-r.new.events c.named_call-r.result (c.named_call-r.ensures c.args.own.now) _ c.rejected-n.new.out c.rejected-n.result (c.rejected-n.ensures c.args.own.now) refl c.if-r-ne0.false c.args.told.now c.run_all-all.new.told (sym x.refuses) c.run_all-all.ensures.told_after }
