-- An event that is appended where there is room: the list up to it and after it. Assumes nothing.
use mathlib.Core.Path.{◌≡◌, ap, ◌∙◌}
use mathlib.Core.List.{List, [], ◌∷◌, ◌++◌}
use Prim.Native.Nat.{ℕ, ◌+◌, ◌<◌}
use native.Mathlib.Numerals.{add-one}
use native.Mathlib.Omega.{arith}
use borrow.Author.Tests.{lt-ltb}
use lib.ListN.{length, take, drop, set}
use lib.Seq.{take-suc-set, drop-set-lt}
use Rattle.definition.specs.Layout.{Row}
use Rattle.state.specs.declared.Head.{Head}
use Rattle.state.specs.State.{with_events, pushed}

pub pushed_room : (d : Head) (room : ℕ) → d.events < room → pushed d room ≡ with_events (d.events + 1) d
unfolding pushed
pushed_room d room h = rw (lt-ltb d.events room h)

pub events-up-to : (n : ℕ) (events : List Row) (e : Row) → n < length events → take (n + 1) (set events n e) ≡ take n events ++ e ∷ []
events-up-to n events e h = ap (λ (m : ℕ). take m (set events n e)) (add-one n) ∙ take-suc-set events n e h

pub events-after : (n : ℕ) (events : List Row) (e : Row) → drop (n + 1) (set events n e) ≡ drop (n + 1) events
events-after n events e = drop-set-lt (n + 1) events n e (omega arith)
