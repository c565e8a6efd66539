use lib.ListN.{take}
use Rattle.callfile.specs.Lines.{event_rows_text}
use Rattle.callfile.specs.Placed.{Puts}
use Rattle.callfile.proofs.each_event.Given as goal

abbrev pub invariant-loop-e : goal.invariant-loop-e
invariant-loop-e l = Puts (event_rows_text (take l.e-index l.events)) l.from l.initial.out l.at l.out
