-- What a total function tests before it does its part of a call, and that nothing has happened where the test fails. Assumes nothing.
use mathlib.Core.Path.{◌≡◌, refl}
use mathlib.Core.Bool.{Bool, true, false, ◌&&◌, and-false}
use mathlib.Core.List.{List}
use Rattle.definition.specs.Types.{Dest}
use Rattle.definition.specs.Destination.{Out}
use Rattle.definition.specs.Layout.{Row}
use Rattle.state.specs.declared.Head.{Head}
use Rattle.state.specs.Leaves.{LeavesIf, Untouched}
use Rattle.state.proofs.Leaves.{unless-touched}

-- ---- a test of three

module _ (a b c : Bool) where
  pub first-no : a ≡ false → (a && (b && c)) ≡ false
  first-no h = rw h

  pub second-no : b ≡ false → (a && (b && c)) ≡ false
  second-no h = rw h (and-false a)

  pub third-no : c ≡ false → (a && (b && c)) ≡ false
  third-no h = rw (h, and-false b) (and-false a)

  pub three-yes : a ≡ true → b ≡ true → c ≡ true → (a && (b && c)) ≡ true
  three-yes h k l = rw (h, k, l)

-- ---- the answer

-- nothing has happened
pub untouched : (d : Head) (subs rows events : List Row) → Untouched d d subs rows events subs rows events
untouched d subs rows events = record { same_head = refl; same-subs = refl; same_rows = refl; same-events = refl }

pub leaves-no : (test : Bool) (also : Type 0) (f : Dest → Out) (d : Head) (subs rows events : List Row) → test ≡ false → LeavesIf test also f d d subs rows events subs rows events
leaves-no test also f d subs rows events h =
    unless-touched test also f d d subs rows events subs rows events h (untouched d subs rows events)
