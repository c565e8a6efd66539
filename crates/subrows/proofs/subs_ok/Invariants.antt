use mathlib.Core.Path.{◌≡◌}
use Prim.Native.Nat.{◌+◌}
use lib.ListN.{drop}
use Rattle.definition.specs.Words.{kind_by}
use Rattle.definition.specs.Layout.{sub_rows}
use Rattle.subrows.specs.Subrows.{each_ok}
use Rattle.subrows.proofs.subs_ok.Given as goal

abbrev pub invariant-loop-w : goal.invariant-loop-w
invariant-loop-w l = (l.base + sub_rows (drop l.w-index l.subs) ≡ sub_rows l.subs) × (each_ok (kind_by l.on_queue) l.most (drop l.w-index l.subs) (drop l.base l.rows) ≡ each_ok (kind_by l.on_queue) l.most l.subs l.rows)
