use mathlib.Core.Path.{◌≡◌}
use Prim.Native.Nat.{◌≤◌}
use Rattle.stationcalls.specs.Parts.{lent_all}
use Rattle.stationcalls.specs.Own.{other_ok}
use Rattle.stationcalls.proofs.Eight.{from_on}
use Rattle.stationcalls.proofs.others_sound.Given as goal

abbrev pub invariant-loop-k : goal.invariant-loop-k
invariant-loop-k l = (l.k ≤ 8) × (from_on (other_ok (lent_all l.heads l.subs l.rows l.own) l.but) l.k ≡ from_on (other_ok (lent_all l.heads l.subs l.rows l.own) l.but) 0)
