-- The claims of specs/Account but that on the clock (`Expiry`) and that on what an acknowledgement names (`Named`). Assumes nothing.
use Prim.Native.Nat.{ℕ, ◌+◌, ◌≤◌}
use native.Mathlib.Omega.{arith}
use mathlib.Core.Path.{◌≡◌, refl, sym, ◌∙◌, ap}
use mathlib.Core.Option.{Option, none, some}
use mathlib.Core.Bool.{true, false}
use mathlib.Core.List.{List, [], ◌∷◌, ◌++◌, map}
use Rattle.definition.specs.Base.{whether◌then◌else◌, tally, empty, member}
use Rattle.definition.specs.Types.{Entry, Sub, Dest}
use Rattle.definition.specs.Consumer.{is_browser, AckType, Delivered, Poison, Standard, Redelivered, Individual, Unmatched, Expired, Other}
use Rattle.definition.specs.Calls.{seqs, flying, taken, held, Lengths, Call, Result, brought}
use Rattle.definition.specs.Words.{decode, call_step, step}
use Rattle.definition.proofs.Tests.{by-test, by-if}
use Rattle.definition.proofs.Sums.{sum, one, occ, sum_one, sum-once, occ-member, occ-no-member}
use Rattle.definition.proofs.Whole.{sums, count_m, sums-taken}
use Rattle.definition.proofs.Dispatch.{count-browser, count-plain}
use Rattle.fates.proofs.Measures.{one-steady, occ-steady, occ-times, member-occ}
use Rattle.fates.proofs.Run.{Kept, kept}
use Rattle.definition.proofs.Made.{none-refused, step_call}
use Rattle.fates.specs.Fates.{Fate, dequeued, expired, discarded, dead_lettered, cleared, same_fate, Departure, ack_fate, Means, acks, clears, expires, means, waits, fate_by, leavers, departing}
use Rattle.fates.specs.Account.{opening, calling, Place, waiting, in_flight, reserved, left, left_as, entries_at, numbers_at, carries, InOnePlace, EachInOnePlace, EnqueuedIsTheTotal, CountersAreTheParts, NoneIsDiscarded, AcceptedIsACall}

-- ---- all departures, by fate

shares : (y : Fate) (n : ℕ) → (whether same_fate dequeued y then n else 0) + ((whether same_fate expired y then n else 0) + ((whether same_fate discarded y then n else 0) + ((whether same_fate dead_lettered y then n else 0) + (whether same_fate cleared y then n else 0)))) ≡ n
shares dequeued n = omega arith
shares expired n = omega arith
shares discarded n = omega arith
shares dead_lettered n = omega arith
shares cleared n = omega arith

pub left-next : (x : Fate) (f : Entry → ℕ) (d : Departure) (l : List Departure) → sum f (left_as x (d ∷ l)) ≡ (whether same_fate x d.fate then f d.entry else 0) + sum f (left_as x l)
left-next x f d l = by-test (same_fate x d.fate) (λ c. rw c) (λ c. rw c (omega arith))

pub all_left : (f : Entry → ℕ) (l : List Departure) → sum f (map (λ d. d.entry) l) ≡ sum f (left_as dequeued l) + (sum f (left_as expired l) + (sum f (left_as discarded l) + (sum f (left_as dead_lettered l) + sum f (left_as cleared l))))
all_left f [] = refl
all_left f (d ∷ l) = omega (arith, all_left f l, shares d.fate (f d.entry), left-next dequeued f d l, left-next expired f d l, left-next discarded f d l, left-next dead_lettered f d l, left-next cleared f d l)

-- ---- one number

-- in a list that has it at most once
pub there : (s : ℕ) (l : List Entry) → sum (occ s) l ≤ 1 → (whether member s (seqs l) then 1 else 0) ≡ sum (occ s) l
there s l h = by-test (member s (seqs l)) (λ c. rw c (omega (arith, member-occ s l c))) (λ c. rw c (sym (occ-member s l c)))

carried : (s : ℕ) (c : Sub) → count_m (occ s) c ≤ 1 → (whether carries s c then 1 else 0) ≡ count_m (occ s) c
carried s c h = by-test (is_browser c)
    (λ b. rw b (sym (count-browser (occ s) c b)))
    (λ b. rw b (there s (flying c) (omega (arith, count-plain (occ s) c b)) ∙ sym (count-plain (occ s) c b)))

carriers : (s : ℕ) (l : List Sub) → sums (count_m (occ s)) l ≤ 1 → tally (carries s) l ≡ sums (count_m (occ s)) l
carriers s [] h = refl
carriers s (c ∷ l) h = omega (arith, carried s c (omega arith), carriers s l (omega arith))

module _ (a : List Entry) (l : List Departure) (t : Dest) (k : Kept a l t) where
  pub parts : (s : ℕ) → sum (occ s) a ≡ sum (occ s) t.pending + (sum (occ s) (taken t.subs) + (sum (occ s) (held t) + (sum (occ s) (left_as dequeued l) + (sum (occ s) (left_as expired l) + (sum (occ s) (left_as discarded l) + (sum (occ s) (left_as dead_lettered l) + sum (occ s) (left_as cleared l)))))))
  parts s = omega (arith, k.sums (occ s) (occ-steady s), all_left (occ s) l, sums-taken (occ s) t.subs)

  in-one-place : (s : ℕ) → member s (seqs a) ≡ true → InOnePlace s l t
  in-one-place s h =
      let p = parts s in
      let o : sum (occ s) a ≡ 1 = omega (arith, k.once s, member-occ s a h) in
      record {
        one = omega (arith, there s t.pending (omega arith), there s (taken t.subs) (omega arith), there s (held t) (omega arith), there s (left_as dequeued l) (omega arith), there s (left_as expired l) (omega arith), there s (left_as discarded l) (omega arith), there s (left_as dead_lettered l) (omega arith), there s (left_as cleared l) (omega arith));
        once = omega (arith, occ-times s t.pending, occ-times s (taken t.subs), occ-times s (held t), occ-times s (left_as dequeued l), occ-times s (left_as expired l), occ-times s (left_as discarded l), occ-times s (left_as dead_lettered l), occ-times s (left_as cleared l));
        carrier = λ m. omega (arith, member-occ s (taken t.subs) m, sums-taken (occ s) t.subs, carriers s t.subs (omega (arith, sums-taken (occ s) t.subs)));
      }

  nowhere : (s : ℕ) → member s (seqs a) ≡ false → (p : Place) → member s (numbers_at p l t) ≡ false
  nowhere s h p = occ-no-member s (entries_at p l t) (none-at p)
    where
      none-at : (p : Place) → sum (occ s) (entries_at p l t) ≡ 0
      none-at waiting = omega (arith, parts s, occ-member s a h)
      none-at in_flight = omega (arith, parts s, occ-member s a h)
      none-at reserved = omega (arith, parts s, occ-member s a h)
      none-at (left dequeued) = omega (arith, parts s, occ-member s a h)
      none-at (left expired) = omega (arith, parts s, occ-member s a h)
      none-at (left discarded) = omega (arith, parts s, occ-member s a h)
      none-at (left dead_lettered) = omega (arith, parts s, occ-member s a h)
      none-at (left cleared) = omega (arith, parts s, occ-member s a h)

pub each-in-one-place : EachInOnePlace
each-in-one-place a l t r = let k = kept a l t r in record { apart = sum-once a k.once; each = in-one-place a l t k; others = nowhere a l t k }

pub enqueued-is-the-total : EnqueuedIsTheTotal
enqueued-is-the-total a l t r = let k = kept a l t r in
    omega (arith, k.enqueues, sum_one a, k.sums one one-steady, all_left one l, sums-taken one t.subs, sum_one t.pending, sum_one (taken t.subs), sum_one (held t), sum_one (left_as dequeued l), sum_one (left_as expired l), sum_one (left_as discarded l), sum_one (left_as dead_lettered l), sum_one (left_as cleared l))

pub counters-are-the-parts : CountersAreTheParts
counters-are-the-parts a l t r = let k = kept a l t r in record { dequeues = k.dequeues; expiries = k.expiries; discards = k.discards }

-- ---- none is discarded

ack-not : (y : AckType) → same_fate discarded (ack_fate y) ≡ false
ack-not Delivered = refl
ack-not Poison = refl
ack-not Standard = refl
ack-not Redelivered = refl
ack-not Individual = refl
ack-not Unmatched = refl
ack-not Expired = refl
ack-not Other = refl

fate-not : (t : Dest) (e : Entry) (m : Means) → same_fate discarded (fate_by t e m) ≡ false
unfolding fate_by
fate-not t e (acks y) = by-if (λ (x : Fate). same_fate discarded x ≡ false) (waits t e) expired (ack_fate y) (λ c. refl) (λ c. ack-not y)
fate-not t e clears = refl
fate-not t e expires = refl

none_more : (t : Dest) (m : Means) (l : List Departure) (k : List Entry) → left_as discarded l ≡ [] → left_as discarded (l ++ map (departing t m) k) ≡ []
none_more t m [] [] = λ h. refl
none_more t m [] (e ∷ k) = rw (fate-not t e m) (none_more t m [] k)
none_more t m (d ∷ l) k = by-test (same_fate discarded d.fate)
    (λ c. rw c (λ h. absurd (cons-nil h)))
    (λ c. rw c (none_more t m l k))
  where
    cons-nil : {x : Entry} {r : List Entry} → x ∷ r ≡ [] → ⊥
    cons-nil h = let z : ◌≡◌ {A = ℕ} 1 0 = ap (λ (r : List Entry). whether empty r then 0 else 1) h in omega arith

pub none-is-discarded : NoneIsDiscarded
none-is-discarded a l t (opening lent ws u h k) = refl
none-is-discarded a l t (calling {a = b} {l = m} {t = u} lent code ws c low e r h n) = none_more u (means c) m (leavers (brought c) u (step lent code ws u).dest) (none-is-discarded b m u r)

-- ---- accepted calls

some-call : (o : Option Call) (lent : Lengths) (t : Dest) → (call_step lent t o).refusal ≡ 0 → (c : Call) × (o ≡ some c)
some-call none lent t h = absurd (none-refused lent t h)
some-call (some c) lent t h = (c, refl)

pub accepted-is-a-call : AcceptedIsACall
accepted-is-a-call lent code ws t low h = some-call (decode code ws) lent t (sym (ap (λ (v : Result). v.refusal) (step_call lent code ws t low)) ∙ h)
