use mathlib.Core.Path.{◌≡◌}
use mathlib.Core.Bool.{true}
use Prim.Native.Nat.{◌+◌}
use lib.ListN.{take, drop}
use Rattle.definition.specs.Base.{all}
use Rattle.definition.specs.Types.{topic}
use Rattle.definition.specs.Layout.{subs_at, sub_rows}
use Rattle.sound.specs.Sound.{apart_by}
use Rattle.sound.proofs.Hub.{copy, hub}
use Rattle.sound.proofs.alike.Given as goal

abbrev pub invariant-loop-w : goal.invariant-loop-w
invariant-loop-w l = (l.base + sub_rows (drop l.w-index l.subs) ≡ sub_rows l.subs) × (all (apart_by topic) (subs_at topic l.subs l.rows) ≡ true → all (copy (hub l.end l.many l.rows)) (take l.base l.rows) ≡ true)
