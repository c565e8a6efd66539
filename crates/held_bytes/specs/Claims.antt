-- Document 02 §3: what a call does to the bytes that a destination holds. Assumes nothing.
use Rattle.std.specs.Prelude.{ℕ, ◌+◌, ◌≡◌, Bool, true, not, ◌&&◌, ◌||◌, List, ◌++◌, eqb}
use Rattle.definition.specs.Base.{keep, all, member}
use Rattle.definition.specs.Types.{Entry, Dest}
use Rattle.definition.specs.Calls.{Lengths, Call, brought, seqs, all_rows, call}
use Rattle.definition.specs.Queries.{bytes_of, bytes_held}

-- whether a destination has a copy with an entry's number
abbrev pub has_copy : Dest → Entry → Bool
has_copy u e = member e.seq (seqs (all_rows u))

-- an accepted call, from t to u, adds the size of the entry that it brings, where a copy stays, takes the sizes of those whose last copy goes, and nothing else
abbrev pub BytesMove : Type 0
BytesMove = (lent : Lengths) (c : Call) (t : Dest) → (call lent c t).refusal ≡ 0 →
    let u = (call lent c t).dest in
    bytes_held u + bytes_of (keep (λ e. not (has_copy u e)) (all_rows t)) ≡ bytes_held t + bytes_of (keep (has_copy u) (brought c))

-- one of these has this number, and all that have it this size
abbrev pub sized : ℕ → ℕ → List Entry → Bool
sized s size l = member s (seqs l) && all (λ e. not (eqb s e.seq) || eqb size e.size) l

-- and each copy that it leaves has the number and the size of a copy before, or of the entry enqueued
abbrev pub SizesStay : Type 0
SizesStay = (lent : Lengths) (c : Call) (t : Dest) → (call lent c t).refusal ≡ 0 →
    all (λ f. sized f.seq f.size (brought c ++ all_rows t)) (all_rows (call lent c t).dest) ≡ true
