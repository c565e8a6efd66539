use Prim.Native.Nat.{◌≤◌}
use mathlib.Core.Path.{◌≡◌}
use lib.ListN.{length}
use Rattle.calltext.specs.Shown.{shown_words}
use Rattle.calltext.proofs.shown_words.Given as goal

abbrev pub invariant-loop-k : goal.invariant-loop-k
invariant-loop-k l = (l.k ≤ 8) × (length l.w ≡ 8) × (shown_words l.place l.w l.k ≡ shown_words l.place l.w 8)
