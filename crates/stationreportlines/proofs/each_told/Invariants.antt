use lib.ListN.{take}
use Rattle.callfile.specs.Placed.{Puts}
use Rattle.stationreportlines.specs.StationReportLines.{told_text}
use Rattle.stationreportlines.proofs.each_told.Given as goal

abbrev pub invariant-loop-row : goal.invariant-loop-row
invariant-loop-row l = Puts (told_text l.d (take l.row-index l.rows)) l.from l.initial.out l.at l.out
