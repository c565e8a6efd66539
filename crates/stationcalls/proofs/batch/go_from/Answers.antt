use mathlib.Core.Path.{◌≡◌, subst⁻¹}
use mathlib.Core.Bool.{false}
use Prim.Native.Nat.{ℕ}
use Rattle.engine.proofs.Batched.{part_length, back-front}
use Rattle.definition_station.specs.Station.{station_short}
use Rattle.definition_station.specs.Layout.{station_lengths_of}
use Rattle.stationcalls.specs.Parts.{lent_all}
use Rattle.stationcalls.proofs.Going.{sound-goes}
use Rattle.stationcalls.proofs.Batched.{part-called}
use Rattle.stationcalls.proofs.batch.go_from.Goals as goal

pub go-requires : goal.go-requires
go-requires c =
    let a = c.args in
    let b = lent_all a.heads.now a.subs.now a.rows.now a.own.now in
    let p = c.requires in
    record { long = subst⁻¹ (λ (m : ℕ). station_short (station_lengths_of b m) ≡ false) (part_length a.events.now a.from p.0) p.1; goes = sound-goes b a.number a.c.code p.2 }

pub returns : goal.returns
returns c =
    let a = c.args in
    let b = lent_all a.heads.now a.subs.now a.rows.now a.own.now in
    let p = c.requires in
    let k = c.go in
    let after = k.new.events in record { station_called = part-called a.events.now a.from p.0 after b (lent_all k.new.heads k.new.subs k.new.rows k.new.own) a.number a.c.code a.c.words k.result k.ensures; events_unchanged = back-front a.events.now a.from p.0 after }
