use mathlib.Core.Path.{◌≡◌}
use lib.ListN.{length}
use Rattle.stationcalls.specs.Parts.{lent_all}
use Rattle.stationcalls.specs.Run.{shown_with}
use Rattle.stationcalls.proofs.Cycle.{Sofar}
use Rattle.stationcalls.proofs.Whither.{PlacesSofar}
use Rattle.stationcalls.proofs.letters.run_each.Given as goal

abbrev pub invariant-loop-i : goal.invariant-loop-i
invariant-loop-i l =
    Sofar 8 l.clock l.name l.letters l.n (lent_all l.initial.heads l.initial.subs l.initial.rows l.own) l.initial.events l.initial.ran.sent l.initial.ran.lost (lent_all l.heads l.subs l.rows l.own) l.events l.scratch l.ran.sent l.ran.lost l.i
    × PlacesSofar 8 l.clock l.name l.letters l.n (shown_with (lent_all l.initial.heads l.initial.subs l.initial.rows l.own) l.initial.ran.lost) l.initial.places (shown_with (lent_all l.heads l.subs l.rows l.own) l.ran.lost) l.places l.i
    × (length l.places ≡ length l.initial.places)
