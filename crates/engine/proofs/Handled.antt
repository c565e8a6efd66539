-- Codes 1 to 3, 8 to 10 and 15 by their words: the call that they give and its ranges. Assumes nothing.
use mathlib.Core.Path.{◌≡◌, refl, sym, ◌∙◌}
use mathlib.Core.Bool.{true, ◌&&◌}
use mathlib.Core.List.{List}
use Prim.Native.Nat.{ℕ, ◌≤◌, ◌<◌, ◌^◌}
use borrow.Author.Tests.{leb-true}
use lib.Dec.{leb}
use Rattle.words.specs.Words.{signed, int}
use Rattle.words.proofs.Words.{int-signed}
use Rattle.definition.specs.Base.{is_some}
use Rattle.definition.specs.Calls.{enqueuing, joining, leaving, unmarking, releasing, sweeping, clearing, id_ok, entry_ok, spec_ok, signed_within, clock_ok, arguments_ok}
use Rattle.definition.specs.Words.{at, id_in, entry_in, spec_in, unused_from, read, decode}
use Rattle.definition.proofs.Tests.{and_left, and_right}
use Rattle.calls.proofs.Decoded.{Decoded, decoded}
use Rattle.calls.proofs.Ranges.{within-int}
use Rattle.engine.proofs.Performed.{clock-in}

module _ (w : List ℕ) where
  module _ (t : is_some (decode 1 w) ≡ true) where
    pub enqueue-decoded : Decoded 1 w (leb (at 2 w) 1 && unused_from 8 w) (enqueuing (entry_in w) (at 6 w))
    unfolding read
    enqueue-decoded = decoded 1 w (leb (at 2 w) 1 && unused_from 8 w) (enqueuing (entry_in w) (at 6 w)) refl t

    pub enqueue-clock : at 6 w ≤ 2 ^ 62
    unfolding arguments_ok
    enqueue-clock = clock-in (at 6 w) (and_right (entry_ok (entry_in w)) (clock_ok (at 6 w)) enqueue-decoded.arguments)

  module _ (t : is_some (decode 2 w) ≡ true) where
    pub join-decoded : Decoded 2 w (leb (at 5 w) 3 && unused_from 7 w) (joining (spec_in w) (at 6 w))
    unfolding read
    join-decoded = decoded 2 w (leb (at 5 w) 3 && unused_from 7 w) (joining (spec_in w) (at 6 w)) refl t

    pub join-clock : at 6 w ≤ 2 ^ 62
    unfolding arguments_ok
    join-clock = clock-in (at 6 w) (and_right (spec_ok (spec_in w)) (clock_ok (at 6 w)) join-decoded.arguments)

    -- the prefetch in a word's lower half is the whole number
    pub join-int : at 3 w < 2 ^ 64 → int (at 3 w) ≡ signed (at 3 w)
    unfolding arguments_ok
    join-int h =
        let k : signed_within (2 ^ 31) (signed (at 3 w)) ≡ true = and_left (signed_within (2 ^ 31) (signed (at 3 w))) (leb (at 4 w) 64) (and_right (id_ok (id_in w)) _ (and_left (spec_ok (spec_in w)) (clock_ok (at 6 w)) join-decoded.arguments)) in
        int-signed (at 3 w) h (sym (within-int (at 3 w) h) ∙ k)

  module _ (t : is_some (decode 3 w) ≡ true) where
    pub leave-decoded : Decoded 3 w (unused_from 5 w) (leaving (id_in w) (signed (at 3 w)) (at 4 w))
    unfolding read
    leave-decoded = decoded 3 w (unused_from 5 w) (leaving (id_in w) (signed (at 3 w)) (at 4 w)) refl t

    pub leave-clock : at 4 w ≤ 2 ^ 62
    unfolding arguments_ok
    leave-clock = clock-in (at 4 w) (and_right (signed_within (2 ^ 63) (signed (at 3 w))) (clock_ok (at 4 w)) (and_right (id_ok (id_in w)) _ leave-decoded.arguments))

  pub unmark-decoded : is_some (decode 8 w) ≡ true → Decoded 8 w (unused_from 3 w) (unmarking (id_in w))
  unfolding read
  unmark-decoded t = decoded 8 w (unused_from 3 w) (unmarking (id_in w)) refl t

  module _ (t : is_some (decode 9 w) ≡ true) where
    pub sweep-decoded : Decoded 9 w (unused_from 2 w) (sweeping (at 0 w) (at 1 w))
    unfolding read
    sweep-decoded = decoded 9 w (unused_from 2 w) (sweeping (at 0 w) (at 1 w)) refl t

    pub sweep-clock : at 0 w ≤ 2 ^ 62
    unfolding arguments_ok
    sweep-clock = clock-in (at 0 w) (and_left (clock_ok (at 0 w)) (leb (at 1 w) 512) sweep-decoded.arguments)

    pub sweep-most : at 1 w ≤ 512
    unfolding arguments_ok
    sweep-most = leb-true (at 1 w) 512 (and_right (clock_ok (at 0 w)) (leb (at 1 w) 512) sweep-decoded.arguments)

  pub clear-decoded : is_some (decode 10 w) ≡ true → Decoded 10 w (unused_from 0 w) clearing
  unfolding read
  clear-decoded t = decoded 10 w (unused_from 0 w) clearing refl t

  module _ (t : is_some (decode 15 w) ≡ true) where
    pub release-decoded : Decoded 15 w (unused_from 4 w) (releasing (id_in w) (at 3 w))
    unfolding read
    release-decoded = decoded 15 w (unused_from 4 w) (releasing (id_in w) (at 3 w)) refl t

    pub release-clock : at 3 w ≤ 2 ^ 62
    unfolding arguments_ok
    release-clock = clock-in (at 3 w) (and_right (id_ok (id_in w)) (clock_ok (at 3 w)) release-decoded.arguments)
