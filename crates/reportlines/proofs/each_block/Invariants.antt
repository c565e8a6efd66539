use lib.ListN.{take}
use Rattle.callfile.specs.Placed.{Puts}
use Rattle.reportlines.specs.ReportLines.{blocks_text}
use Rattle.reportlines.proofs.each_block.Given as goal

abbrev pub invariant-loop-b : goal.invariant-loop-b
invariant-loop-b l = Puts (blocks_text (take l.b-index l.blocks)) l.from l.initial.out l.at l.out
