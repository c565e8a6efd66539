-- A sweep takes entries that have expired, and a clear takes all. Assumes nothing.
use Prim.Native.Nat.{ℕ, zero, suc, ◌+◌, ◌-◌, ◌≤◌}
use native.Mathlib.Omega.{arith}
use mathlib.Core.Path.{◌≡◌, refl, sym, ap}
use mathlib.Core.Bool.{Bool, true, not, ◌&&◌, ◌||◌}
use mathlib.Core.List.{List, [], ◌∷◌, ◌++◌, map}
use mathlib.Core.Option.{Option, none, some}
use lib.Dec.{ltb, eqb}
use lib.IntN.{pos}
use lib.ListN.{length}
use lib.Signed.{lt_z, le_z}
use borrow.Author.Tests.{eqb-true, eq-eqb, eqb-false, ne_eqb}
use Rattle.definition.specs.Base.{whether◌then◌else◌, keep, tally}
use Rattle.definition.specs.Types.{queue, Entry, Sub, Dest, with_tpending, with_pending, with_subs}
use Rattle.definition.specs.Consumer.{expired, add_expired, is_browser}
use Rattle.definition.specs.Destination.{Answer, count, due, sooner, soonest, Swept, sweep_at, sweep_list, SweptSubs, sweep_subs, sweep_expired, cleared, clear}
use Rattle.definition.specs.Calls.{held, taken}
use Rattle.definition.proofs.Tests.{by-test, by-if}
use Rattle.definition.proofs.Lists.{All, empty-nil, keep-count}
use Rattle.definition.proofs.Sums.{sum, one, occ, sum-append, sum_one, occ-yes, occ-no}
use Rattle.definition.proofs.Whole.{sums, count_m, queue_sum, sums-taken, Sane}
use Rattle.definition.proofs.Join.{cleared-count}
use Rattle.fates.proofs.Measures.{sum-split, only, sum-only}
use Rattle.fates.proofs.Dispatch.{alive}
use Rattle.fates.proofs.Parts.{Expires, idle-expires, touched}
use Rattle.fates.specs.Fates.{holding}

-- ---- the soonest

-- it has expired, and is in the list
abbrev Found : ℕ → List Entry → Option Entry → Type 0
Found now l none = Unit {0}
Found now l (some e) = (expired (pos now) e ≡ true) × ((f : Entry → ℕ) → f e ≤ sum f l)

sooner-found : (now : ℕ) (x : Entry) (l : List Entry) (o : Option Entry) → expired (pos now) x ≡ true → Found now l o → Found now (x ∷ l) (sooner x o)
sooner-found now x l none h g = (h, λ f. omega arith)
sooner-found now x l (some e) h g = by-if (Found now (x ∷ l)) (lt_z x.expiration e.expiration || (le_z x.expiration e.expiration && ltb x.seq e.seq)) (some x) (some e) (λ c. (h, λ f. omega arith)) (λ c. (g.0, λ f. omega (arith, g.1 f)))

later-found : (now : ℕ) (x : Entry) (l : List Entry) (o : Option Entry) → Found now l o → Found now (x ∷ l) o
later-found now x l none g = tt
later-found now x l (some e) g = (g.0, λ f. omega (arith, g.1 f))

soonest-found : (now : ℕ) (l : List Entry) → Found now l (soonest now l)
soonest-found now [] = tt
soonest-found now (x ∷ l) = by-if (Found now (x ∷ l)) (expired (pos now) x) _ _
    (λ c. sooner-found now x l (soonest now l) c (soonest-found now l))
    (λ c. later-found now x l (soonest now l) (soonest-found now l))

-- ---- one list

record Sweeps (now : ℕ) (l : List Entry) (w : Swept) : Type 0 where
  gone : List Entry
  sums : (f : Entry → ℕ) → sum f l ≡ sum f w.list + sum f gone
  late : sum (alive now) gone ≡ 0
  many : w.gone ≡ length gone

abbrev numbered : Entry → Entry → Bool
numbered e f = eqb f.seq e.seq

numbered-occ : (e f : Entry) → (whether numbered e f then 1 else 0) ≡ occ e.seq f
numbered-occ e f = by-test (eqb f.seq e.seq)
    (λ c. rw c (sym (occ-yes e.seq f (eq-eqb e.seq f.seq (sym (eqb-true f.seq e.seq c))))))
    (λ c. rw c (sym (occ-no e.seq f (ne_eqb e.seq f.seq (λ h. eqb-false f.seq e.seq c (sym h))))))

numbered-many : (e : Entry) (l : List Entry) → tally (numbered e) l ≡ sum (occ e.seq) l
numbered-many e [] = refl
numbered-many e (f ∷ l) = omega (arith, numbered-occ e f, numbered-many e l)

-- 1 for an entry that has expired
unfoldable pub dead : ℕ → Entry → ℕ
dead now e = whether expired (pos now) e then 1 else 0

dead-yes : (now : ℕ) (e : Entry) → expired (pos now) e ≡ true → dead now e ≡ 1
unfolding dead
dead-yes now e h = rw h

dead-or-alive : (now : ℕ) (e : Entry) → dead now e + alive now e ≡ 1
unfolding dead alive
dead-or-alive now e = by-test (expired (pos now) e) (λ c. rw c) (λ c. rw c)

-- all with one number
split-number : (now : ℕ) (e : Entry) (l : List Entry) → sum (only (numbered e) (dead now)) l + sum (only (numbered e) (alive now)) l ≡ tally (numbered e) l
split-number now e [] = refl
split-number now e (f ∷ l) = by-test (numbered e f) (λ c. rw c (omega (arith, dead-or-alive now f, split-number now e l))) (λ c. rw c (omega (arith, split-number now e l)))

mine : (now : ℕ) (e : Entry) → expired (pos now) e ≡ true → only (numbered e) (dead now) e ≡ 1
mine now e h = rw (eq-eqb e.seq e.seq refl) (dead-yes now e h)

record Took (now : ℕ) (e : Entry) (l : List Entry) : Type 0 where
  late : sum (alive now) (keep (numbered e) l) ≡ 0
  many : length (keep (numbered e) l) ≡ 1

took : (now : ℕ) (e : Entry) (l : List Entry) → ((x : ℕ) → sum (occ x) l ≤ 1) → expired (pos now) e ≡ true → ((f : Entry → ℕ) → f e ≤ sum f l) → Took now e l
took now e l o h g = record {
  late = omega (arith, sum-only (alive now) (numbered e) l, split-number now e l, g (only (numbered e) (dead now)), mine now e h, numbered-many e l, o e.seq);
  many = omega (arith, keep-count (numbered e) l, numbered-many e l, o e.seq, split-number now e l, g (only (numbered e) (dead now)), mine now e h);
}

sweeps-more : (now : ℕ) (e : Entry) (l : List Entry) (w : Swept) → Took now e l → Sweeps now (keep (λ f. not (numbered e f)) l) w → Sweeps now l (record { list = w.list; gone = w.gone + 1 })
sweeps-more now e l w k r = record {
  gone = keep (numbered e) l ++ r.gone;
  sums = λ f. omega (arith, sum-split f (numbered e) l, r.sums f, sum-append f (keep (numbered e) l) r.gone);
  late = omega (arith, k.late, r.late, sum-append (alive now) (keep (numbered e) l) r.gone);
  many = omega (arith, k.many, r.many, sum_one (keep (numbered e) l ++ r.gone), sum-append one (keep (numbered e) l) r.gone, sum_one (keep (numbered e) l), sum_one r.gone);
}

sweeps-none : (now : ℕ) (l : List Entry) → Sweeps now l (record { list = l; gone = 0 })
sweeps-none now l = record { gone = []; sums = λ f. omega arith; late = refl; many = refl }

sweeps-at : (now : ℕ) (l : List Entry) (o : Option Entry) (go : Entry → Swept) → ((x : ℕ) → sum (occ x) l ≤ 1) → Found now l o → ((e : Entry) → Sweeps now (keep (λ f. not (numbered e f)) l) (go e)) → Sweeps now l (sweep_at l go o)
unfolding sweep_at
sweeps-at now l none go a b h = sweeps-none now l
sweeps-at now l (some e) go a b h = sweeps-more now e l (go e) (took now e l a b.0 b.1) (h e)

sweeps : (budget now : ℕ) (l : List Entry) → ((x : ℕ) → sum (occ x) l ≤ 1) → Sweeps now l (sweep_list budget now l)
unfolding sweep_list
sweeps zero now l o = sweeps-none now l
sweeps (suc budget) now l o = sweeps-at now l (soonest now l) (λ e. sweep_list budget now (keep (λ f. not (eqb (Entry.seq f) (Entry.seq e))) l)) o (soonest-found now l)
    (λ e. sweeps budget now (keep (λ f. not (eqb (Entry.seq f) (Entry.seq e))) l) (λ x. omega (arith, o x, sum-split (occ x) (numbered e) l)))

-- ---- consumers of a queue have no list of their own

no-list : (budget now : ℕ) (l : List Entry) → l ≡ [] → (sweep_list budget now l).gone ≡ 0
no-list budget now l h =
    let r = sweeps budget now l (λ x. omega (arith, ap (sum (occ x)) h)) in
    omega (arith, r.many, sum_one r.gone, r.sums one, ap (sum one) h)

list_count : (f : Entry → ℕ) (l : List Entry) (s : Sub) → count_m f (with_tpending l s) ≡ count_m f s
unfolding count_m is_browser
list_count f l s = refl

record SweptAll (budget now : ℕ) (l : List Sub) : Type 0 where
  none : (sweep_subs budget now l).gone ≡ 0
  same : (f : Entry → ℕ) → sums (count_m f) (sweep_subs budget now l).subs ≡ sums (count_m f) l

swept_all : (N budget now : ℕ) (l : List Sub) → All (Sane queue N) l → SweptAll budget now l
unfolding sweep_subs
swept_all N budget now [] h = record { none = refl; same = λ f. refl }
swept_all N budget now (s ∷ l) h =
    let r = swept_all N (budget - (sweep_list budget now s.tpending).gone) now l h.1 in
    record {
      none = omega (arith, no-list budget now s.tpending (empty-nil s.tpending h.0.fits.stands), r.none);
      same = λ f. omega (arith, list_count f (sweep_list budget now s.tpending).list s, r.same f);
    }

pub sweep-expires : (H : Type 0) (N now most : ℕ) (t : Dest) → ((x : ℕ) → queue_sum (occ x) t ≤ 1) → All (Sane queue N) t.subs → Expires H (due now t) 0 [] t (sweep_expired now most t).dest
unfolding sweep_expired
sweep-expires H N now most t o a = by-if (λ (x : Answer). Expires H k 0 [] t x.dest) (ltb 0 (w.gone + r.gone)) _ _
    (λ c. touched (λ (u : Dest). Expires H k 0 [] t u) now swept (λ i. idle-expires k 0 [] t swept i all-swept))
    (λ c. all-swept)
  where
    k : ℕ
    k = due now t

    w : Swept
    w = sweep_list most k t.pending

    r : SweptSubs
    r = sweep_subs (most - w.gone) k t.subs

    swept : Dest
    swept = count (add_expired (w.gone + r.gone)) (with_pending w.list (with_subs r.subs t))

    p : Sweeps k t.pending w
    p = sweeps most k t.pending (λ x. omega (arith, o x))

    q : SweptAll (most - w.gone) k t.subs
    q = swept_all N (most - w.gone) k t.subs a

    all-swept : Expires H k 0 [] t swept
    all-swept = record {
      gone = p.gone;
      sums = λ f x. omega (arith, p.sums f, q.same f);
      late = λ h. p.late;
      enqueued = omega arith;
      dequeued = omega arith;
      discarded = omega arith;
      expired = omega (arith, p.many, q.none);
    }

-- ---- clear

pub holding-sum : (f : Entry → ℕ) (t : Dest) → sum f (holding t) ≡ queue_sum f t
holding-sum f t = omega (arith, sum-append f t.pending (held t ++ taken t.subs), sum-append f (held t) (taken t.subs), sums-taken f t.subs)

cleared-sums : (f : Entry → ℕ) (l : List Sub) → sums (count_m f) (map cleared l) ≡ 0
cleared-sums f [] = refl
cleared-sums f (s ∷ l) = omega (arith, cleared-count f s, cleared-sums f l)

pub clear_none : (f : Entry → ℕ) (t : Dest) → queue_sum f (clear t).dest ≡ 0
unfolding clear
clear_none f t = omega (arith, cleared-sums f t.subs)
