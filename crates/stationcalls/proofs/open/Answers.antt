use Rattle.stationcalls.proofs.Opened.{open-within, open_own, open-named, open-refused, open-accepted}
use Rattle.stationcalls.proofs.Shape.{as-refused}
use Rattle.stationcalls.specs.Parts.{lent_all}
use Rattle.definition_station.specs.Layout.{buffer_station_step}
use lib.ListN.{length}
use native.Mathlib.Omega.{arith}
use Rattle.stationcalls.proofs.open.Goals as goal

pub returns-then-name-gt-PLACES : goal.returns-then-name-gt-PLACES
returns-then-name-gt-PLACES c = as-refused (lent_all c.args.heads.now c.args.subs.now c.args.rows.now c.args.own.now) c.args.events.now c.args.k c.args.c.code c.args.c.words (buffer_station_step (lent_all c.args.heads.now c.args.subs.now c.args.rows.now c.args.own.now) (length c.args.events.now) c.args.k c.args.c.code c.args.c.words) 3 c.refused_for.result c.refused_for.ensures (open-named c.args.heads.now c.args.subs.now c.args.rows.now c.args.own.now c.args.events.now c.args.k c.args.c.code c.args.c.words c.requires.0 c.requires.1 c.requires.2 c.if-name-gt-PLACES.true)

pub named_call-r-requires : goal.named_call-r-requires
named_call-r-requires c = open-within c.args.heads.now c.args.subs.now c.args.rows.now c.args.own.now c.args.events.now c.args.k c.args.c.code c.args.c.words c.requires.0 c.requires.1 c.requires.2

pub returns-then-r-ne0 : goal.returns-then-r-ne0
returns-then-r-ne0 c = open-refused c.args.heads.now c.args.subs.now c.args.rows.now c.args.own.now c.args.events.now c.args.k c.args.c.code c.args.c.words c.requires.0 c.requires.1 c.requires.2 (omega (arith, c.if-name-gt-PLACES.false)) c.opening-given.result c.opening-given.ensures c.named_call-r.new.heads c.named_call-r.new.subs c.named_call-r.new.rows c.named_call-r.new.events c.named_call-r.result (c.named_call-r.ensures c.args.own.now) c.if-r-ne0.true

pub open-requires : goal.open-requires
open-requires c = open_own c.args.heads.now c.args.subs.now c.args.rows.now c.args.own.now c.args.events.now c.args.k c.args.c.code c.args.c.words c.requires.0 c.requires.1 c.requires.2

pub returns : goal.returns
returns c = open-accepted c.args.heads.now c.args.subs.now c.args.rows.now c.args.own.now c.args.events.now c.args.k c.args.c.code c.args.c.words c.requires.0 c.requires.1 c.requires.2 (omega (arith, c.if-name-gt-PLACES.false)) c.opening-given.result c.opening-given.ensures c.named_call-r.new.heads c.named_call-r.new.subs c.named_call-r.new.rows c.named_call-r.new.events c.named_call-r.result (c.named_call-r.ensures c.args.own.now) c.if-r-ne0.false c.«open».new.own c.«open».ensures
