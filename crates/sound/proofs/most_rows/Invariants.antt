use mathlib.Core.Path.{◌≡◌}
use Prim.Native.Nat.{◌+◌}
use lib.ListN.{drop}
use Rattle.definition.specs.Layout.{sub_rows}
use Rattle.sound.specs.Sound.{HubAt}
use Rattle.sound.proofs.Hub.{ApartFrom}
use Rattle.sound.proofs.most_rows.Given as goal

abbrev pub invariant-loop-w : goal.invariant-loop-w
invariant-loop-w l = (l.base + sub_rows (drop l.w-index l.subs) ≡ sub_rows l.subs) × HubAt l.subs l.end l.many × ApartFrom l.subs l.base l.w-index
