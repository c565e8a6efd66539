-- A share of numbers, and the numbers of the connections that entries came from. Assumes nothing.
use Rattle.std.specs.Prelude.{ℕ, Bool, List, map, leb, eqb}
use Rattle.definition.specs.Base.{all, tally}
use Rattle.definition.specs.Types.{Entry}

-- each comes up at most so often
abbrev pub within_each : ℕ → List ℕ → Bool
within_each share l = all (λ x. leb (tally (eqb x) l) share) l

abbrev pub conns : List Entry → List ℕ
conns l = map (λ (e : Entry). e.producer) l
