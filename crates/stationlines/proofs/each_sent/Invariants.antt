use lib.ListN.{take}
use Rattle.callfile.specs.Placed.{Puts}
use Rattle.stationlines.specs.StationLines.{sent_rows_text}
use Rattle.stationlines.proofs.each_sent.Given as goal

abbrev pub invariant-loop-e : goal.invariant-loop-e
invariant-loop-e l = Puts (sent_rows_text (take l.e-index l.events)) l.from l.initial.out l.at l.out
