-- One destination's call on its parts of the lent buffers: the others' parts, and what is no part, stay. Assumes nothing.
use Rattle.std.specs.Prelude.{◌≡◌, List, ℕ, ◌≤◌, ◌<◌, length, drop}
use Rattle.definition.specs.Calls.{Result}
use Rattle.definition.specs.Layout.{Row}
use Rattle.engine.specs.declared.Outcome.{Outcome}
use Rattle.engine.specs.Called.{Called}
use Rattle.definition_station.specs.Layout.{StationBuffers, part}

abbrev pub lent_all : List ℕ → List Row → List Row → List ℕ → StationBuffers
lent_all heads subs rows own = record { heads = heads; subs = subs; rows = rows; own = own }

-- a place, in buffers that are long enough
pub record Within (k : ℕ) (heads : List ℕ) (subs rows : List Row) : Type 0 where
  pub is-place : k < 8
  pub heads-long : 66776 ≤ length heads
  pub subs-long : 256 ≤ length subs
  pub rows_long : 4096 ≤ length rows

-- what is no part of the eight destinations is as it was
pub record AllPast (b b' : StationBuffers) : Type 0 where
  pub heads-past : drop 66776 b'.heads ≡ drop 66776 b.heads
  pub subs-past : drop 256 b'.subs ≡ drop 256 b.subs
  pub rows-past : drop 4096 b'.rows ≡ drop 4096 b.rows
  pub heads-length : length b'.heads ≡ length b.heads
  pub subs-length : length b'.subs ≡ length b.subs
  pub rows-length : length b'.rows ≡ length b.rows

-- what a call on the parts at k leaves and answers, where q is what its definition gives
pub record CalledAt (q : Result) (k : ℕ) (b b' : StationBuffers) (events events' : List Row) (r : Outcome) : Type 0 where
  pub here : Called q (part k b) (part k b') events events' r
  pub elsewhere : (j : ℕ) → j < 8 → (j ≡ k → ⊥) → part j b' ≡ part j b
  pub past : AllPast b b'
