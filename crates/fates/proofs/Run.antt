-- The account of a queue, kept by every accepted call. Assumes nothing.
use Prim.Native.Nat.{ℕ, ◌+◌, ◌≤◌}
use native.Mathlib.Omega.{arith}
use mathlib.Core.Path.{◌≡◌, refl, sym, ◌∙◌, ap, subst, subst⁻¹}
use mathlib.Core.Bool.{Bool, true, false, not, ◌&&◌}
use mathlib.Core.List.{List, [], ◌∷◌, ◌++◌, map, map-append}
use mathlib.Core.Option.{some}
use lib.Dec.{eqb}
use lib.ListN.{length, length-append}
use borrow.Author.Tests.{eqb-true, eqb-false, not-true}
use Rattle.definition.specs.Base.{whether◌then◌else◌, tally, all, member}
use Rattle.definition.specs.Types.{Kind, queue, Entry, Dest}
use Rattle.definition.specs.Consumer.{redelivered}
use Rattle.definition.specs.Consumer as Consumer
use Rattle.definition.specs.Calls.{seqs, Lengths, short, sound, bound, Call, enqueuing, joining, leaving, asking, unmarking, releasing, sweeping, clearing, adding, removing, testing, forgetting, discarding, missing, refusal, perform, used, Result, call, brought}
use Rattle.definition.specs.Words.{decode, open_words, opened_by, open_step, call_step, step}
use Rattle.definition.proofs.Tests.{by-test, and_left, and_right}
use Rattle.definition.proofs.Sums.{sum, one, occ, sum-append, sum_one, once-sum, occ-no, occ-member, occ-no-member}
use Rattle.definition.proofs.Whole.{queue_sum, Fine, fine}
use Rattle.definition.proofs.Kept.{accepted, perform-fine}
use Rattle.definition.proofs.Made.{call-accepted, step_call}
use Rattle.definition.proofs.Claims.{step-leaves-sound}
use Rattle.fates.proofs.Measures.{Steady, occ-steady, only, sum-only, only_none, only-all, mine-occ, yes-member}
use Rattle.fates.proofs.Dispatch.{alive}
use Rattle.fates.proofs.Sweeps.{holding-sum}
use Rattle.fates.proofs.Acks.{fleeting}
use Rattle.fates.proofs.Steps.{like, lettered, hasty, Moves}
use Rattle.fates.proofs.Calls.{Coded, decode-coded, Ready, takes, perform-moves, used-moves}
use Rattle.fates.specs.Fates.{Fate, dequeued, expired, discarded, dead_lettered, same_fate, Departure, holding, Means, acks, clears, expires, means, removal, fate_by, leavers, departing, departures}
use Rattle.fates.specs.Account.{Account, opening, calling, left_as, clock_reading}

-- ---- measures by fate are steady

fate-steady : (t : Dest) (m : Means) (e : Entry) → fate_by t (redelivered e) m ≡ fate_by t e m
unfolding fate_by
fate-steady t (acks y) e = refl
fate-steady t clears e = refl
fate-steady t expires e = refl

like-steady : (x : Fate) (t : Dest) (m : Means) → Steady (like x t m)
unfolding like
like-steady x t m e = ap (λ y. whether same_fate x y then 1 else 0) (fate-steady t m e)

lettered-steady : (t : Dest) (m : Means) → Steady (lettered t m)
unfolding lettered
lettered-steady t m e = ap (λ y. whether same_fate dead_lettered y then (whether fleeting e then 1 else 0) else 0) (fate-steady t m e)

removal-steady : (t : Dest) (m : Means) (e : Entry) → removal t (redelivered e) m ≡ removal t e m
unfolding removal
removal-steady t (acks y) e = refl
removal-steady t clears e = refl
removal-steady t expires e = refl

pub hasty-steady : (now : ℕ) (t : Dest) (m : Means) → Steady (hasty now t m)
unfolding hasty alive Consumer.expired
hasty-steady now t m e = ap (λ b. whether b then alive now e else 0) (ap (λ y. same_fate expired y && not (removal t (redelivered e) m)) (fate-steady t m e) ∙ ap (λ b. same_fate expired (fate_by t e m) && not b) (removal-steady t m e))

-- ---- what leaves is what is gone

pub leavers-sum : (b gone : List Entry) (t u : Dest) → ((x : ℕ) → queue_sum (occ x) t + sum (occ x) b ≤ 1) → ((f : Entry → ℕ) → Steady f → queue_sum f t + sum f b ≡ queue_sum f u + sum f gone) → (f : Entry → ℕ) → Steady f → sum f (leavers b t u) ≡ sum f gone
unfolding leavers
leavers-sum b gone t u o s f w = omega (arith, sum-only f out (holding t ++ b), sum-append (only out f) (holding t) b, holding-sum (only out f) t, s (only out f) steady, holding-sum (only out f) u, none_in, all-out)
  where
    out : Entry → Bool
    out e = not (member e.seq (seqs (holding u)))

    steady : Steady (only out f)
    steady e = ap (λ n. whether out e then n else 0) (w e)

    none_in : sum (only out f) (holding u) ≡ 0
    none_in = only_none out f (holding u) (mine-occ (λ x. not (member x (seqs (holding u))) ≡ false) (holding u) (λ x h. ap not (yes-member x (holding u) h)))

    all-out : sum (only out f) gone ≡ sum f gone
    all-out = only-all out f gone (mine-occ (λ x. not (member x (seqs (holding u))) ≡ true) gone (λ x h. ap not (occ-no-member x (holding u) (omega (arith, holding-sum (occ x) u, s (occ x) (occ-steady x), o x)))))

-- ---- departures by fate

left-entries : (t : Dest) (m : Means) (l : List Entry) → map (λ d. d.entry) (map (departing t m) l) ≡ l
left-entries t m [] = refl
left-entries t m (e ∷ l) = ap (λ (k : List Entry). e ∷ k) (left-entries t m l)

left-more : (x : Fate) (f : Entry → ℕ) (l k : List Departure) → sum f (left_as x (l ++ k)) ≡ sum f (left_as x l) + sum f (left_as x k)
left-more x f [] k = omega arith
left-more x f (d ∷ l) k = by-test (same_fate x d.fate) (λ c. rw c (omega (arith, left-more x f l k))) (λ c. rw c (omega (arith, left-more x f l k)))

left-like : (x : Fate) (t : Dest) (m : Means) (l : List Entry) → sum one (left_as x (map (departing t m) l)) ≡ sum (like x t m) l
unfolding like
left-like x t m [] = refl
left-like x t m (e ∷ l) = by-test (same_fate x (fate_by t e m)) (λ c. rw c (omega (arith, left-like x t m l))) (λ c. rw c (omega (arith, left-like x t m l)))

-- 1 for an entry that is not persistent
fleets : Entry → ℕ
fleets e = whether fleeting e then 1 else 0

fleets-sum : (l : List Entry) → sum fleets l ≡ tally fleeting l
unfolding fleets
fleets-sum [] = refl
fleets-sum (e ∷ l) = omega (arith, fleets-sum l)

left-lettered : (t : Dest) (m : Means) (l : List Entry) → sum fleets (left_as dead_lettered (map (departing t m) l)) ≡ sum (lettered t m) l
unfolding lettered fleets
left-lettered t m [] = refl
left-lettered t m (e ∷ l) = by-test (same_fate dead_lettered (fate_by t e m)) (λ c. rw c (omega (arith, left-lettered t m l))) (λ c. rw c (omega (arith, left-lettered t m l)))

-- ---- the account so far

pub record Kept (a : List Entry) (l : List Departure) (t : Dest) : Type 0 where
  pub kind : t.kind ≡ queue
  pub is-sound : sound t ≡ true
  pub sums : (f : Entry → ℕ) → Steady f → sum f a ≡ queue_sum f t + sum f (map (λ d. d.entry) l)
  pub once : (x : ℕ) → sum (occ x) a ≤ 1
  pub enqueues : t.stats.enqueued ≡ length a
  pub dequeues : t.stats.dequeued ≡ length (left_as dequeued l)
  pub expiries : t.stats.expired ≡ length (left_as expired l)
  pub discards : t.stats.discarded ≡ length (left_as discarded l) + tally fleeting (left_as dead_lettered l)

-- ---- open

pub opened-is : (lent : Lengths) (ws : List ℕ) (t : Dest) → (step lent 0 ws t).refusal ≡ 0 → (step lent 0 ws t).dest ≡ opened_by ws
unfolding step open_step
opened-is lent ws t = by-test (short lent)
    (λ e. rw e (λ h. absurd (omega arith)))
    (λ e. by-test (open_words ws) (λ f. rw (e, f) (λ h. refl)) (λ f. rw (e, f) (λ h. absurd (omega arith))))

opened-kept : (lent : Lengths) (ws : List ℕ) (t : Dest) → (step lent 0 ws t).refusal ≡ 0 → (step lent 0 ws t).dest.kind ≡ queue → Kept [] [] (step lent 0 ws t).dest
opened-kept lent ws t h k = let e = opened-is lent ws t h in record {
  kind = k;
  is-sound = step-leaves-sound lent 0 ws t h;
  sums = λ f w. omega (arith, ap (queue_sum f) e);
  once = λ x. omega arith;
  enqueues = ap (λ (d : Dest). d.stats.enqueued) e;
  dequeues = ap (λ (d : Dest). d.stats.dequeued) e;
  expiries = ap (λ (d : Dest). d.stats.expired) e;
  discards = ap (λ (d : Dest). d.stats.discarded) e;
}

-- ---- a call

brought-one : (c : Call) (x : ℕ) → sum (occ x) (brought c) ≤ 1
brought-one (enqueuing e now) x = once-sum (e ∷ []) refl x
brought-one (joining p now) x = omega arith
brought-one (leaving i last now) x = omega arith
brought-one (asking i q) x = omega arith
brought-one (unmarking i) x = omega arith
brought-one (releasing i now) x = omega arith
brought-one (sweeping now most) x = omega arith
brought-one clearing x = omega arith
brought-one (adding i) x = omega arith
brought-one (removing i now) x = omega arith
brought-one (testing i q) x = omega arith
brought-one (forgetting conn) x = omega arith
brought-one discarding x = omega arith
brought-one missing x = omega arith

pub new_apart : (a b : List Entry) (x : ℕ) → all (λ e. not (member e.seq (seqs a))) b ≡ true → 1 ≤ sum (occ x) b → sum (occ x) a ≡ 0
new_apart a [] x h g = absurd (omega arith)
new_apart a (e ∷ b) x h g = by-test (eqb x e.seq)
    (λ c. occ-member x a (ap (λ y. member y (seqs a)) (eqb-true x e.seq c) ∙ not-true (member e.seq (seqs a)) (and_left (not (member e.seq (seqs a))) _ h)))
    (λ c. new_apart a b x (and_right (not (member e.seq (seqs a))) _ h) (omega (arith, occ-no x e c)))

pub still-once : (a : List Entry) (c : Call) → ((x : ℕ) → sum (occ x) a ≤ 1) → all (λ e. not (member e.seq (seqs a))) (brought c) ≡ true → (x : ℕ) → sum (occ x) (a ++ brought c) ≤ 1
still-once a c o h x = by-test (eqb (sum (occ x) (brought c)) 0)
    (λ e. omega (arith, sum-append (occ x) a (brought c), o x, eqb-true (sum (occ x) (brought c)) 0 e))
    (λ e. omega (arith, sum-append (occ x) a (brought c), brought-one c x, new_apart a (brought c) x h (omega (arith, eqb-false (sum (occ x) (brought c)) 0 e))))

moved-kept : (H : Type 0) (now : ℕ) (c : Call) (a : List Entry) (l : List Departure) (t u : Dest) → Kept a l t → all (λ e. not (member e.seq (seqs a))) (brought c) ≡ true → Moves H now (means c) (takes t c) (brought c) t u → u.kind ≡ queue → sound u ≡ true → Kept (a ++ brought c) (l ++ departures c t u) u
moved-kept H now c a l t u k h m kd sd = record {
  kind = kd;
  is-sound = sd;
  sums = λ f w. omega (arith, k.sums f w, sum-append f a (brought c), m.sums f w, gone-sum f w, ap (sum f) (map-append (λ d. d.entry) l (departures c t u)), sum-append f (map (λ d. d.entry) l) (map (λ d. d.entry) (departures c t u)), ap (sum f) (left-entries t (means c) (leavers (brought c) t u)));
  once = again;
  enqueues = omega (arith, k.enqueues, m.enqueued, length-append a (brought c));
  dequeues = omega (arith, k.dequeues, m.dequeued, part dequeued);
  expiries = omega (arith, k.expiries, m.expired, part expired);
  discards = omega (arith, k.discards, m.discarded, part discarded, letters);
}
  where
    again : (x : ℕ) → sum (occ x) (a ++ brought c) ≤ 1
    again = still-once a c k.once h

    gone-sum : (f : Entry → ℕ) → Steady f → sum f (leavers (brought c) t u) ≡ sum f m.gone
    gone-sum = leavers-sum (brought c) m.gone t u (λ x. omega (arith, again x, sum-append (occ x) a (brought c), k.sums (occ x) (occ-steady x))) m.sums

    part : (x : Fate) → length (left_as x (l ++ departures c t u)) ≡ length (left_as x l) + sum (like x t (means c)) m.gone
    part x = omega (arith, sum_one (left_as x (l ++ departures c t u)), sum_one (left_as x l), left-more x one l (departures c t u), left-like x t (means c) (leavers (brought c) t u), gone-sum (like x t (means c)) (like-steady x t (means c)))

    letters : tally fleeting (left_as dead_lettered (l ++ departures c t u)) ≡ tally fleeting (left_as dead_lettered l) + sum (lettered t (means c)) m.gone
    letters = omega (arith, fleets-sum (left_as dead_lettered (l ++ departures c t u)), fleets-sum (left_as dead_lettered l), left-more dead_lettered fleets l (departures c t u), left-lettered t (means c) (leavers (brought c) t u), gone-sum (lettered t (means c)) (lettered-steady t (means c)))

-- ---- what an accepted step has called

pub called : (lent : Lengths) (code : ℕ) (ws : List ℕ) (c : Call) (t : Dest) → 1 ≤ code → decode code ws ≡ some c → step lent code ws t ≡ call lent c t
unfolding call_step
called lent code ws c t low e = step_call lent code ws t low ∙ ap (call_step lent t) e

pub call-made : (lent : Lengths) (c : Call) (t : Dest) → refusal lent c t ≡ 0 → (call lent c t).dest ≡ used (perform t c).dest
unfolding call
call-made lent c t z = rw z

pub fine-queue : (t : Dest) → t.kind ≡ queue → sound t ≡ true → Fine t.call_limit t.calls_used queue (bound t.calls_used) t
fine-queue t k s = subst (λ (j : Kind). Fine t.call_limit t.calls_used j (bound t.calls_used) t) k (fine t s)

-- a queue that accepts a call has no number twice
pub queue-once : (lent : Lengths) (c : Call) (t : Dest) → t.kind ≡ queue → (call lent c t).refusal ≡ 0 → (x : ℕ) → queue_sum (occ x) t ≤ 1
queue-once lent c t k h = (fine-queue t k (accepted lent c t (call-accepted lent c t h)).is-sound).once

pub moved : (lent : Lengths) (c : Call) (t : Dest) → Coded c → t.kind ≡ queue → (call lent c t).refusal ≡ 0 → Moves (Ready t c) (clock_reading c t) (means c) (takes t c) (brought c) t (call lent c t).dest × ((call lent c t).dest.kind ≡ queue)
moved lent c t w k h =
    let z = call-accepted lent c t h in
    let q = accepted lent c t z in
    let g = fine-queue t k q.is-sound in (
      subst⁻¹ (λ (u : Dest). Moves (Ready t c) (clock_reading c t) (means c) (takes t c) (brought c) t u) (call-made lent c t z) (used-moves (clock_reading c t) c t (perform t c).dest (perform-moves _ _ _ c t w g q.arguments q.own)),
      ap (λ (u : Dest). u.kind) (call-made lent c t z) ∙ (perform-fine _ _ queue _ c t (omega arith) g q.arguments q.own).kind,
    )

pub kept : (a : List Entry) (l : List Departure) (t : Dest) → Account a l t → Kept a l t
kept a l t (opening lent ws u h k) = opened-kept lent ws u h k
kept a l t (calling {a = b} {l = m} {t = u} lent code ws c low e r h n) =
    let s = called lent code ws c u low e in
    let k = kept b m u r in
    let y = moved lent c u (decode-coded code ws c e) k.kind (sym (ap (λ (x : Result). x.refusal) s) ∙ h) in
    moved-kept (Ready u c) (clock_reading c u) c b m u (step lent code ws u).dest k n
    (subst⁻¹ (λ (x : Result). Moves (Ready u c) (clock_reading c u) (means c) (takes u c) (brought c) u x.dest) s y.0) (ap (λ (x : Result). x.dest.kind) s ∙ y.1) (step-leaves-sound lent code ws u h)
