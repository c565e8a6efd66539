-- The consumer at a place of the table, with its rows: those of the consumers before it come first. Assumes nothing.
use Rattle.std.specs.Prelude.{◌≡◌, true, ℕ, ◌+◌, List, [], take, drop, get_or}
use Rattle.definition.specs.Base.{all}
use Rattle.definition.specs.Types.{Kind}
use Rattle.definition.specs.Types as Def
use Rattle.definition.specs.Layout.{Row, inflight_count, held_count, sub_at, sub_rows, entry_strict, flying_strict}

-- the rows from its first one on
abbrev pub from_in : List Row → List Row → ℕ → List Row
from_in ws rows i = drop (sub_rows (take i ws)) rows

-- its rows in flight, those that it holds, and those after them
abbrev pub flying_in : List Row → List Row → ℕ → List Row
flying_in ws rows i = take (inflight_count (get_or ws i [])) (from_in ws rows i)

abbrev pub held_in : List Row → List Row → ℕ → List Row
held_in ws rows i = take (held_count (get_or ws i [])) (drop (inflight_count (get_or ws i [])) (from_in ws rows i))

abbrev pub after_in : List Row → List Row → ℕ → List Row
after_in ws rows i = drop (held_count (get_or ws i [])) (drop (inflight_count (get_or ws i [])) (from_in ws rows i))

-- the consumer
abbrev pub sub_in : Kind → List Row → List Row → ℕ → Def.Sub
sub_in k ws rows i = sub_at k (get_or ws i []) (flying_in ws rows i) (held_in ws rows i)

-- the rows of a consumer from base on, a in flight and then b held, have strict words
pub record OwnStrict (base a b : ℕ) (rows : List Row) : Type 0 where
  pub flying : all flying_strict (take a (drop base rows)) ≡ true
  pub held : all entry_strict (take b (drop (base + a) rows)) ≡ true
