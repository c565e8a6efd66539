use mathlib.Core.List.{[]}
use lib.ListN.{length, get_or}
use Rattle.std.proofs.lemmas.List.{take_all}
use Rattle.stationlines.specs.StationLines.{sent_words_line}
use Rattle.callfile.proofs.Parts.{line-puts}
use Rattle.stationlines.proofs.Rows.{sent-length, no_rows, so-many, space, one_more}
use native.Mathlib.Omega.{arith}
use Rattle.stationlines.proofs.each_sent.Goals as goal

pub loop-e-init : goal.loop-e-init
loop-e-init c = no_rows sent_words_line c.args.out.now c.args.from

pub loop-e-preserved : goal.loop-e-preserved
loop-e-preserved c =
    let l = c.loop-e in
    let a = c.args in
    let room = space sent_words_line sent-length a.events.now a.from l.e-index (length a.events.now) a.out.now l.out l.at l.invariant c.requires c.loop-e-test.true in
    one_more sent_words_line sent-length a.events.now a.from l.e-index (length a.events.now) a.out.now l.out l.at l.invariant c.requires c.loop-e-test.true
    (line-puts room (omega (arith, sent-length (get_or a.events.now l.e-index []))) c.put_sent-at.ensures)

pub returns : goal.returns
returns c =
    let l = c.loop-e in
    let a = c.args in (
      rw (take_all l.e-index a.events.now c.loop-e-test.false) at l.invariant,
      so-many sent_words_line sent-length a.events.now a.from l.e-index (length a.events.now) a.out.now l.out l.at l.invariant c.requires l.auto.e-index-end,
    )
