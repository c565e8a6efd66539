-- A look along the waiting rows, on the table. Assumes nothing.
use Rattle.std.specs.Prelude.{◌≡◌, true, List, [], ◌∷◌, ◌++◌, map, ℕ, ◌+◌, ◌≤◌, ◌<◌, length, take, drop, get_or}
use Rattle.std.proofs.Math.Option.{none, some}
use Rattle.std.proofs.Math.Seq.{slice}
use Rattle.entry.specs.Entry.{entry_of}
use Rattle.definition.specs.Base.{all}
use Rattle.definition.specs.Types.{queue}
use Rattle.definition.specs.Types as Def
use Rattle.definition.specs.Destination.{look}
use Rattle.definition.specs.Words.{at}
use Rattle.definition.specs.Layout.{Row, entry_strict}
use Rattle.consumers.specs.declared.Sub.{Sub}
use Rattle.consumers.specs.Consumers.{sub_view}

-- a queue's consumer without its rows: they make no difference to what it accepts
abbrev pub lone : Sub → Def.Sub
lone s = sub_view queue s [] []

-- a place in from..to before which no row is after the cursor; which one is open, and makes no difference to a look
pub record Passed (from to cursor : ℕ) (rows : List Row) (i : ℕ) : Type 0 where
  pub low : from ≤ i
  pub high : i ≤ to
  pub each : (k : ℕ) → from ≤ k → k < i → at 0 (get_or rows k []) ≤ cursor

-- of the rows from..to the one at a place is chosen: the waiting rows before and after it, and as many spare rows as have expired. Strict rows
-- stay strict; open are the spare rows, which are free, words 6 to 8 of the others, not in use, and how words that were not strict are written
pub record Found (by : ℕ) (s : Sub) (from to : ℕ) (rows rows' : List Row) (at end : ℕ) : Type 0 where
  pub before : List Row
  pub row : Row
  pub after : List Row
  pub spare : List Row
  pub parts : rows' ≡ take from rows ++ (before ++ row ∷ (after ++ (spare ++ drop to rows)))
  pub place : from + length before ≡ at
  pub last : at + 1 + length after ≡ end
  pub size : end + length spare ≡ to
  pub said : look by (lone s) s.cursor (map entry_of (slice from to rows))
      ≡ record { pending = map entry_of (before ++ after); chosen = some (entry_of row); cursor = (entry_of row).seq; gone = length spare }
  pub strict : all entry_strict (slice from to rows) ≡ true → all entry_strict (before ++ row ∷ after) ≡ true

-- none is chosen; the same is open
pub record Missed (by : ℕ) (s : Sub) (from to : ℕ) (rows rows' : List Row) (end cursor : ℕ) : Type 0 where
  pub left : List Row
  pub spare : List Row
  pub parts : rows' ≡ take from rows ++ (left ++ (spare ++ drop to rows))
  pub last : from + length left ≡ end
  pub size : end + length spare ≡ to
  pub said : look by (lone s) s.cursor (map entry_of (slice from to rows)) ≡ record { pending = map entry_of left; chosen = none; cursor = cursor; gone = length spare }
  pub strict : all entry_strict (slice from to rows) ≡ true → all entry_strict left ≡ true
