use mathlib.Core.Path.{◌≡◌}
use Prim.Native.Nat.{◌+◌}
use lib.ListN.{drop}
use Rattle.definition.specs.Base.{all}
use Rattle.definition.specs.Words.{kind_by}
use Rattle.definition.specs.Layout.{subs_at, sub_rows}
use Rattle.queries.specs.Answers.{sub_lasts}
use Rattle.queries.proofs.subs_lasting.Given as goal

abbrev pub invariant-loop-w : goal.invariant-loop-w
invariant-loop-w l =
    (l.base + sub_rows (drop l.w-index l.subs) ≡ sub_rows l.subs) × (all sub_lasts (subs_at (kind_by l.on_queue) (drop l.w-index l.subs) (drop l.base l.rows)) ≡ all sub_lasts (subs_at (kind_by l.on_queue) l.subs l.rows))
