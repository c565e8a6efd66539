-- Codes 4 to 7 by their words: the call that they give, its ranges, and what it does. Assumes nothing.
use mathlib.Core.Path.{◌≡◌, refl, sym, ap, ap₂, ◌∙◌}
use mathlib.Core.Bool.{true}
use mathlib.Core.List.{List}
use Prim.Native.Nat.{ℕ, ◌≤◌, ◌<◌, ◌^◌}
use lib.IntN.{ℤ}
use Rattle.words.specs.Words.{signed, int}
use Rattle.words.proofs.Words.{int-signed}
use Rattle.definition.specs.Base.{is_some}
use Rattle.definition.specs.Types.{Id}
use Rattle.definition.specs.Consumer.{Ack}
use Rattle.definition.specs.Destination.{ack, pull, pull_timeout, set_prefetch}
use Rattle.definition.specs.Calls.{Call, asking, acknowledge, pulling, timed_out, prefetching, id_ok, ack_ok, signed_within, clock_ok, arguments_ok, own_refusal, ask, perform}
use Rattle.definition.specs.Words.{at, id_in, ack_in, ack_words, unused_from, read, decode}
use Rattle.definition.specs.Layout.{Row}
use Rattle.definition.proofs.Tests.{and_left, and_right}
use Rattle.calls.proofs.Decoded.{Decoded, decoded}
use Rattle.calls.proofs.Ranges.{within-int}
use Rattle.state.specs.declared.Head.{Head}
use Rattle.state.specs.Answers.{Replied}
use Rattle.state.specs.State.{head_view, done_as}
use Rattle.engine.specs.Performs.{PerformsBy}
use Rattle.engine.specs.Requests.{Sends, Pulled, pull_out}
use Rattle.engine.proofs.Parts.{sends-as}
use Rattle.engine.proofs.Performed.{clock-in, performs-by, answered-performs, silent-performs}

module _ (w : List ℕ) where
  abbrev acks : Call
  acks = asking (id_in w) (acknowledge (ack_in w) (at 6 w))

  abbrev pulls : Call
  pulls = asking (id_in w) (pulling (signed (at 3 w)) (at 4 w))

  abbrev times : Call
  times = asking (id_in w) (timed_out (at 3 w))

  abbrev fetches : Call
  fetches = asking (id_in w) (prefetching (signed (at 3 w)) (at 4 w))

  module _ (t : is_some (decode 4 w) ≡ true) where
    ack-decoded : Decoded 4 w (ack_words w) acks
    unfolding read
    ack-decoded = decoded 4 w (ack_words w) acks refl t

    pub ack-clock : at 6 w ≤ 2 ^ 62
    unfolding arguments_ok
    ack-clock = clock-in (at 6 w) (and_right (ack_ok (ack_in w)) (clock_ok (at 6 w)) (and_right (id_ok (id_in w)) _ ack-decoded.arguments))

  module _ (t : is_some (decode 5 w) ≡ true) where
    pull-decoded : Decoded 5 w (unused_from 5 w) pulls
    unfolding read
    pull-decoded = decoded 5 w (unused_from 5 w) pulls refl t

    pub pull-clock : at 4 w ≤ 2 ^ 62
    unfolding arguments_ok
    pull-clock = clock-in (at 4 w) (and_right (signed_within (2 ^ 63) (signed (at 3 w))) (clock_ok (at 4 w)) (and_right (id_ok (id_in w)) _ pull-decoded.arguments))

  module _ (t : is_some (decode 6 w) ≡ true) where
    timeout-decoded : Decoded 6 w (unused_from 4 w) times
    unfolding read
    timeout-decoded = decoded 6 w (unused_from 4 w) times refl t

  module _ (t : is_some (decode 7 w) ≡ true) where
    prefetch-decoded : Decoded 7 w (unused_from 5 w) fetches
    unfolding read
    prefetch-decoded = decoded 7 w (unused_from 5 w) fetches refl t

    pub prefetch-within : signed_within (2 ^ 31) (signed (at 3 w)) ≡ true
    unfolding arguments_ok
    prefetch-within = and_left (signed_within (2 ^ 31) (signed (at 3 w))) (clock_ok (at 4 w)) (and_right (id_ok (id_in w)) _ prefetch-decoded.arguments)

    pub prefetch-clock : at 4 w ≤ 2 ^ 62
    unfolding arguments_ok
    prefetch-clock = clock-in (at 4 w) (and_right (signed_within (2 ^ 31) (signed (at 3 w))) (clock_ok (at 4 w)) (and_right (id_ok (id_in w)) _ prefetch-decoded.arguments))

  module _ (d r : Head) (a : Replied) (subs rows events subs' rows' events' : List Row) (i : Id) (named : i ≡ id_in w) where
    pub ack-performs : is_some (decode 4 w) ≡ true → a ≡ done_as 0 r → (x : Ack) → x ≡ ack_in w → Sends (ack (at 6 w) i x) d r subs rows events subs' rows' events'
        → PerformsBy (decode 4 w) d a subs rows events subs' rows' events'
    unfolding own_refusal perform ask
    ack-performs t e x f s = performs-by acks d a subs rows events subs' rows' events' (decode 4 w) (ack-decoded t).call
        (silent-performs acks d r a subs rows events subs' rows' events' (ack (at 6 w) (id_in w) (ack_in w)) (λ t. refl) (λ t. refl) e
        (sends-as d r subs rows events subs' rows' events' (ack (at 6 w) i x) (ack (at 6 w) (id_in w) (ack_in w)) (λ p u. ap₂ (λ (j : Id) (y : Ack). ack (at 6 w) j y (head_view d subs rows p u)) named f) s))

    pub timeout-performs : is_some (decode 6 w) ≡ true → a ≡ done_as 0 r → Sends (pull_timeout i (at 3 w)) d r subs rows events subs' rows' events'
        → PerformsBy (decode 6 w) d a subs rows events subs' rows' events'
    unfolding own_refusal perform ask
    timeout-performs t e s = performs-by times d a subs rows events subs' rows' events' (decode 6 w) (timeout-decoded t).call
        (silent-performs times d r a subs rows events subs' rows' events' (pull_timeout (id_in w) (at 3 w)) (λ t. refl) (λ t. refl) e
        (sends-as d r subs rows events subs' rows' events' (pull_timeout i (at 3 w)) (pull_timeout (id_in w) (at 3 w)) (λ p u. ap (λ (j : Id). pull_timeout j (at 3 w) (head_view d subs rows p u)) named) s))

    pub prefetch-performs : is_some (decode 7 w) ≡ true → a ≡ done_as 0 r → (x : ℤ) → x ≡ signed (at 3 w) → Sends (set_prefetch (at 4 w) i x) d r subs rows events subs' rows' events'
        → PerformsBy (decode 7 w) d a subs rows events subs' rows' events'
    unfolding own_refusal perform ask
    prefetch-performs t e x f s = performs-by fetches d a subs rows events subs' rows' events' (decode 7 w) (prefetch-decoded t).call
        (silent-performs fetches d r a subs rows events subs' rows' events' (set_prefetch (at 4 w) (id_in w) (signed (at 3 w))) (λ t. refl) (λ t. refl) e
        (sends-as d r subs rows events subs' rows' events' (set_prefetch (at 4 w) i x) (set_prefetch (at 4 w) (id_in w) (signed (at 3 w))) (λ p u. ap₂ (λ (j : Id) (y : ℤ). set_prefetch (at 4 w) j y (head_view d subs rows p u)) named f) s))

  pub pull-performs : (d : Head) (a : Replied) (subs rows events subs' rows' events' : List Row) (i : Id) → i ≡ id_in w → is_some (decode 5 w) ≡ true → (x : ℤ) → x ≡ signed (at 3 w)
      → Pulled (at 4 w) i x d a subs rows events subs' rows' events' → PerformsBy (decode 5 w) d a subs rows events subs' rows' events'
  unfolding own_refusal perform ask
  pull-performs d a subs rows events subs' rows' events' i named t x f s = performs-by pulls d a subs rows events subs' rows' events' (decode 5 w) (pull-decoded t).call
      (answered-performs pulls d a subs rows events subs' rows' events' (pull (at 4 w) (id_in w) (signed (at 3 w))) (λ t. refl) (λ t. refl) s.refusal
      (λ p u n. s.answer p u n ∙ ap₂ (λ (j : Id) (y : ℤ). (pull (at 4 w) j y (head_view d subs rows p u)).answer) named f)
      (sends-as d a.head subs rows events subs' rows' events' (pull_out (at 4 w) i x) (pull_out (at 4 w) (id_in w) (signed (at 3 w))) (λ p u. ap₂ (λ (j : Id) (y : ℤ). pull_out (at 4 w) j y (head_view d subs rows p u)) named f) s.sends))

-- the prefetch in a word's lower half is the whole number
pub prefetch-int : (w : List ℕ) → at 3 w < 2 ^ 64 → is_some (decode 7 w) ≡ true → int (at 3 w) ≡ signed (at 3 w)
prefetch-int w h t = int-signed (at 3 w) h (sym (within-int (at 3 w) h) ∙ prefetch-within w t)
