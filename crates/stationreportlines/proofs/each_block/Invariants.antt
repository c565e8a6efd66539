use lib.ListN.{take}
use Rattle.callfile.specs.Placed.{Puts}
use Rattle.stationreportlines.specs.StationReportLines.{blocks_text_on}
use Rattle.stationreportlines.proofs.each_block.Given as goal

abbrev pub invariant-loop-b : goal.invariant-loop-b
invariant-loop-b l = Puts (blocks_text_on l.d (take l.b-index l.blocks)) l.from l.initial.out l.at l.out
