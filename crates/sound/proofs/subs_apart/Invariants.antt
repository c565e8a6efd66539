use mathlib.Core.Path.{◌≡◌}
use mathlib.Core.Bool.{true}
use Prim.Native.Nat.{◌+◌}
use lib.ListN.{drop}
use Rattle.definition.specs.Base.{all}
use Rattle.definition.specs.Words.{kind_by}
use Rattle.definition.specs.Layout.{each_sub, subs_at, sub_rows}
use Rattle.sound.specs.Sound.{apart_by, held_seqs, held_rise}
use Rattle.sound.proofs.subs_apart.Given as goal

abbrev pub invariant-loop-w : goal.invariant-loop-w
invariant-loop-w l = (l.base + sub_rows (drop l.w-index l.subs) ≡ sub_rows l.subs) × (all (held_rise l.on_queue) (each_sub held_seqs (drop l.w-index l.subs) (drop l.base l.rows)) ≡ true) × (all (apart_by (kind_by l.on_queue)) (subs_at (kind_by l.on_queue) (drop l.w-index l.subs) (drop l.base l.rows)) ≡ all (apart_by (kind_by l.on_queue)) (subs_at (kind_by l.on_queue) l.subs l.rows))
