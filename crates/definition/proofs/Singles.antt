-- A transacted INDIVIDUAL as a range. Assumes nothing.
use Prim.Native.Nat.{ℕ, min}
use native.Mathlib.Omega.{arith}
use mathlib.Core.Path.{◌≡◌, refl}
use mathlib.Core.Bool.{true, ◌&&◌}
use mathlib.Core.Option.{Option, none, some}
use lib.Dec.{leb, eqb}
use borrow.Author.Tests.{eqb-true, eqb-false, leb-true, leb-false, le-leb}
use Rattle.definition.specs.Types.{Inflight}
use Rattle.definition.specs.Consumer.{by_seq, ranged, is_dseq, ack_range, ack_last, free, ack_transacted}
use Rattle.definition.specs.Singles.{SingleAsRange}
use Rattle.definition.proofs.Tests.{by-test}

-- from a number to itself is the number alone
alone : (k d : ℕ) → eqb d k ≡ (leb (min k k) d && leb d k)
alone k d = by-test (leb d k)
    (λ c. by-test (eqb d k)
    (λ e. rw (e, c, le-leb (min k k) d (omega (arith, eqb-true d k e))))
    (λ e. by-test (leb (min k k) d) (λ f. absurd (omega (arith, leb-true d k c, eqb-false d k e, leb-true (min k k) d f))) (λ f. rw (e, f))))
    (λ c. by-test (eqb d k)
    (λ e. absurd (omega (arith, leb-false d k c, eqb-true d k e)))
    (λ e. by-test (leb (min k k) d) (λ f. rw (e, f, c)) (λ f. rw (e, f))))

by_last : (i : Inflight) (o : Option ℕ) → is_dseq i o ≡ ranged o i o
by_last i none = refl
by_last i (some k) = alone k i.dseq

pub single-as-range : SingleAsRange
unfolding ack_transacted ack_last ack_range
single-as-range a s = λ j. free (λ i. by_last i (by_seq s a.last) j) true s
