-- What each call makes of a queue's entries and counters, by the fate that the call gives. Assumes nothing.
use Prim.Native.Nat.{ℕ, ◌+◌, ◌≤◌}
use native.Mathlib.Omega.{arith}
use mathlib.Core.Path.{◌≡◌, refl, ap}
use mathlib.Core.Bool.{Bool, true, false, not, ◌&&◌}
use mathlib.Core.List.{List, [], ◌∷◌, ◌++◌}
use lib.ListN.{length}
use Rattle.definition.specs.Base.{whether◌then◌else◌, tally, member}
use Rattle.definition.specs.Types.{Entry, Stats, Dest}
use Rattle.definition.specs.Consumer.{AckType, Delivered, Poison, Standard, Redelivered, Individual, Unmatched, Expired, Other}
use Rattle.definition.specs.Destination.{clear}
use Rattle.definition.specs.Calls.{seqs}
use Rattle.definition.proofs.Tests.{by-test, by-if, if-true, if-false}
use Rattle.definition.proofs.Lists.{All}
use Rattle.definition.proofs.Sums.{sum, occ, sum-append, occ-no-member}
use Rattle.definition.proofs.Whole.{queue_sum}
use Rattle.fates.proofs.Measures.{Steady, only, only_none, only-all, occ-steady, mine-occ, yes-member}
use Rattle.fates.proofs.Dispatch.{alive, Late}
use Rattle.fates.proofs.Parts.{Expires}
use Rattle.fates.proofs.Sweeps.{holding-sum, clear_none}
use Rattle.fates.proofs.Acks.{fleeting, Acked}
use Rattle.fates.specs.Fates.{Fate, dequeued, expired, discarded, dead_lettered, cleared, same_fate, holding, ack_fate, Means, acks, clears, expires, waits, removal, fate_by}

-- ---- entries by their fate

-- 1 for an entry that leaves so
unfoldable pub like : Fate → Dest → Means → Entry → ℕ
like x t m e = whether same_fate x (fate_by t e m) then 1 else 0

-- 1 for one that is dead-lettered and not persistent
unfoldable pub lettered : Dest → Means → Entry → ℕ
lettered t m e = whether same_fate dead_lettered (fate_by t e m) then (whether fleeting e then 1 else 0) else 0

-- 1 for one that leaves like expired and has not, but for an acknowledgement's own removals
unfoldable pub hasty : ℕ → Dest → Means → Entry → ℕ
hasty now t m e = whether same_fate expired (fate_by t e m) && not (removal t e m) then alive now e else 0

abbrev Fated : Fate → Dest → Means → Entry → Type 0
Fated y t m e = fate_by t e m ≡ y

like-sum : (x y : Fate) (t : Dest) (m : Means) (l : List Entry) → All (Fated y t m) l → sum (like x t m) l ≡ (whether same_fate x y then length l else 0)
unfolding like
like-sum x y t m [] h = by-if (λ (n : ℕ). 0 ≡ n) (same_fate x y) 0 0 (λ c. refl) (λ c. refl)
like-sum x y t m (e ∷ l) h = by-test (same_fate x y)
    (λ c. let k = like-sum x y t m l h.1 in rw (h.0, c) (omega (arith, k, if-true (length l) 0 c)))
    (λ c. let k = like-sum x y t m l h.1 in rw (h.0, c) (omega (arith, k, if-false (length l) 0 c)))

lettered-sum : (y : Fate) (t : Dest) (m : Means) (l : List Entry) → All (Fated y t m) l → sum (lettered t m) l ≡ (whether same_fate dead_lettered y then tally fleeting l else 0)
unfolding lettered
lettered-sum y t m [] h = by-if (λ (n : ℕ). 0 ≡ n) (same_fate dead_lettered y) 0 0 (λ c. refl) (λ c. refl)
lettered-sum y t m (e ∷ l) h = by-test (same_fate dead_lettered y)
    (λ c. let k = lettered-sum y t m l h.1 in rw (h.0, c) (omega (arith, k, if-true (tally fleeting l) 0 c)))
    (λ c. let k = lettered-sum y t m l h.1 in rw (h.0, c) (omega (arith, k, if-false (tally fleeting l) 0 c)))

hasty-less : (now : ℕ) (t : Dest) (m : Means) (l : List Entry) → sum (hasty now t m) l ≤ sum (alive now) l
unfolding hasty
hasty-less now t m [] = omega arith
hasty-less now t m (e ∷ l) = by-test (same_fate expired (fate_by t e m) && not (removal t e m)) (λ c. rw c (omega (arith, hasty-less now t m l))) (λ c. rw c (omega (arith, hasty-less now t m l)))

-- ---- a call

-- u is t after a call by these means that brings b, and as an acknowledgement takes `own`; where H holds, what leaves like expired had, but for an acknowledgement's own removals
pub record Moves (H : Type 0) (now : ℕ) (m : Means) (own b : List Entry) (t u : Dest) : Type 0 where
  pub gone : List Entry
  pub removes : (f : Entry → ℕ) → sum (only (λ e. removal t e m) f) gone ≡ sum f own
  pub sums : (f : Entry → ℕ) → Steady f → queue_sum f t + sum f b ≡ queue_sum f u + sum f gone
  pub late : H → sum (hasty now t m) gone ≡ 0
  pub enqueued : u.stats.enqueued ≡ t.stats.enqueued + length b
  pub dequeued : u.stats.dequeued ≡ t.stats.dequeued + sum (like dequeued t m) gone
  pub expired : u.stats.expired ≡ t.stats.expired + sum (like expired t m) gone
  pub discarded : u.stats.discarded ≡ t.stats.discarded + (sum (like discarded t m) gone + sum (lettered t m) gone)

all-fated : (t : Dest) (l : List Entry) → All (Fated expired t expires) l
unfolding fate_by
all-fated t [] = tt
all-fated t (e ∷ l) = (refl, all-fated t l)

never : (f : Entry → ℕ) (t : Dest) (l : List Entry) → sum (only (λ e. removal t e expires) f) l ≡ 0
unfolding removal
never f t [] = refl
never f t (e ∷ l) = omega (arith, never f t l)

-- by the clock alone
pub clock-moves : (H : Type 0) (now : ℕ) (b : List Entry) (t u : Dest) → Expires H now (length b) b t u → Moves H now expires [] b t u
clock-moves H now b t u x = record {
  gone = x.gone;
  removes = λ f. never f t x.gone;
  sums = x.sums;
  late = λ h. omega (arith, x.late h, hasty-less now t expires x.gone);
  enqueued = x.enqueued;
  dequeued = omega (arith, x.dequeued, like-sum dequeued expired t expires x.gone (all-fated t x.gone));
  expired = omega (arith, x.expired, like-sum expired expired t expires x.gone (all-fated t x.gone));
  discarded = omega (arith, x.discarded, like-sum discarded expired t expires x.gone (all-fated t x.gone), lettered-sum expired t expires x.gone (all-fated t x.gone));
}

-- ---- clear

all-cleared : (t : Dest) (l : List Entry) → All (Fated cleared t clears) l
unfolding fate_by
all-cleared t [] = tt
all-cleared t (e ∷ l) = (refl, all-cleared t l)

cleared-calm : (now : ℕ) (t : Dest) (l : List Entry) → sum (hasty now t clears) l ≡ 0
unfolding hasty fate_by
cleared-calm now t [] = refl
cleared-calm now t (e ∷ l) = omega (arith, cleared-calm now t l)

not-in-clear : (f : Entry → ℕ) (t : Dest) (l : List Entry) → sum (only (λ e. removal t e clears) f) l ≡ 0
unfolding removal
not-in-clear f t [] = refl
not-in-clear f t (e ∷ l) = omega (arith, not-in-clear f t l)

pub clear-moves : (H : Type 0) (now : ℕ) (t : Dest) → Moves H now clears [] [] t (clear t).dest
unfolding clear
clear-moves H now t = record {
  gone = holding t;
  removes = λ f. not-in-clear f t (holding t);
  sums = λ f w. omega (arith, holding-sum f t, clear_none f t);
  late = λ h. cleared-calm now t (holding t);
  enqueued = omega arith;
  dequeued = omega (arith, like-sum dequeued cleared t clears (holding t) (all-cleared t (holding t)));
  expired = omega (arith, like-sum expired cleared t clears (holding t) (all-cleared t (holding t)));
  discarded = omega (arith, like-sum discarded cleared t clears (holding t) (all-cleared t (holding t)), lettered-sum cleared t clears (holding t) (all-cleared t (holding t)));
}

-- ---- acknowledgements

own-fated : (y : AckType) (t : Dest) (l : List Entry) → All (λ e. waits t e ≡ false) l → All (Fated (ack_fate y) t (acks y)) l
unfolding fate_by
own-fated y t [] h = tt
own-fated y t (e ∷ l) h = (if-false expired (ack_fate y) h.0, own-fated y t l h.1)

late-fated : (y : AckType) (t : Dest) (l : List Entry) → All (λ e. waits t e ≡ true) l → All (Fated expired t (acks y)) l
unfolding fate_by
late-fated y t [] h = tt
late-fated y t (e ∷ l) h = (if-true expired (ack_fate y) h.0, late-fated y t l h.1)

own-calm : (now : ℕ) (y : AckType) (t : Dest) (l : List Entry) → All (λ e. waits t e ≡ false) l → sum (hasty now t (acks y)) l ≡ 0
unfolding hasty fate_by removal
own-calm now y t [] h = refl
own-calm now y t (e ∷ l) h = rw h.0 (omega (arith, and_no (same_fate expired (ack_fate y)) (alive now e), own-calm now y t l h.1))
  where
    and_no : (b : Bool) (n : ℕ) → (whether b && false then n else 0) ≡ 0
    and_no true n = refl
    and_no false n = refl

never-discarded : (y : AckType) (n : ℕ) → (whether same_fate discarded (ack_fate y) then n else 0) ≡ 0
never-discarded Delivered n = refl
never-discarded Poison n = refl
never-discarded Standard n = refl
never-discarded Redelivered n = refl
never-discarded Individual n = refl
never-discarded Unmatched n = refl
never-discarded Expired n = refl
never-discarded Other n = refl

own-removed : (y : AckType) (t : Dest) (l : List Entry) → All (λ e. waits t e ≡ false) l → All (λ e. removal t e (acks y) ≡ true) l
unfolding removal
own-removed y t [] h = tt
own-removed y t (e ∷ l) h = (ap not h.0, own-removed y t l h.1)

late-removed : (y : AckType) (t : Dest) (l : List Entry) → All (λ e. waits t e ≡ true) l → All (λ e. removal t e (acks y) ≡ false) l
unfolding removal
late-removed y t [] h = tt
late-removed y t (e ∷ l) h = (ap not h.0, late-removed y t l h.1)

pub ack-moves : (H : Type 0) (now : ℕ) (y : AckType) (own : List Entry) (t v u : Dest) → ((x : ℕ) → queue_sum (occ x) t ≤ 1) → Acked y own t v → Late H now v u → Moves H now (acks y) own [] t u
ack-moves H now y own t v u o k l = record {
  gone = own ++ l.gone;
  removes = λ f. omega (arith, sum-append (only (λ e. removal t e (acks y)) f) own l.gone, only-all (λ e. removal t e (acks y)) f own (own-removed y t own not-waiting), only_none (λ e. removal t e (acks y)) f l.gone (late-removed y t l.gone waiting));
  sums = λ f w. omega (arith, k.sums f w, l.sums f, sum-append f own l.gone);
  late = λ h. omega (arith, own-calm now y t own not-waiting, hasty-less now t (acks y) l.gone, l.late h, sum-append (hasty now t (acks y)) own l.gone);
  enqueued = omega (arith, l.tells.enqueued, ap (λ (c : Stats). c.enqueued) k.stats, k.grows.enqueued);
  dequeued = omega (arith, l.tells.dequeued, ap (λ (c : Stats). c.dequeued) k.stats, k.grows.dequeued, mine dequeued, theirs dequeued, sum-append (like dequeued t (acks y)) own l.gone);
  expired = omega (arith, l.tells.expired, ap (λ (c : Stats). c.expired) k.stats, k.grows.expired, mine expired, theirs expired, sum-append (like expired t (acks y)) own l.gone);
  discarded = omega (arith, l.tells.discarded, ap (λ (c : Stats). c.discarded) k.stats, k.grows.discarded, mine discarded, never-discarded y (length own), theirs discarded, sum-append (like discarded t (acks y)) own l.gone, lettered-sum (ack_fate y) t (acks y) own (own-fated y t own not-waiting), lettered-sum expired t (acks y) l.gone (late-fated y t l.gone waiting), sum-append (lettered t (acks y)) own l.gone);
}
  where
    waiting : All (λ e. waits t e ≡ true) l.gone
    waiting = mine-occ (λ x. member x (seqs t.pending) ≡ true) l.gone (λ x h. yes-member x t.pending (omega (arith, l.waited (occ x), ap (sum (occ x)) k.waits)))

    not-waiting : All (λ e. waits t e ≡ false) own
    not-waiting = mine-occ (λ x. member x (seqs t.pending) ≡ false) own (λ x h. occ-no-member x t.pending (omega (arith, o x, k.sums (occ x) (occ-steady x), ap (sum (occ x)) k.waits)))

    mine : (x : Fate) → sum (like x t (acks y)) own ≡ (whether same_fate x (ack_fate y) then length own else 0)
    mine x = like-sum x (ack_fate y) t (acks y) own (own-fated y t own not-waiting)

    theirs : (x : Fate) → sum (like x t (acks y)) l.gone ≡ (whether same_fate x expired then length l.gone else 0)
    theirs x = like-sum x expired t (acks y) l.gone (late-fated y t l.gone waiting)
