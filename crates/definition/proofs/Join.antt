-- A join, a leave, a release, a sweep and a clear keep a sound state. Assumes nothing.
use Prim.Native.Nat.{ℕ, ◌+◌, ◌≤◌, ◌^◌}
use native.Mathlib.Omega.{arith}
use mathlib.Core.Path.{◌≡◌, refl, sym, ◌∙◌, ap}
use mathlib.Core.Bool.{Bool, true, false, not, ◌&&◌, ◌||◌, true≢false, or-true}
use mathlib.Core.List.{List, [], ◌∷◌, ◌++◌}
use mathlib.Core.Option.{Option, none, some}
use lib.Dec.{ltb, eqb}
use lib.ListN.{length, length-append}
use borrow.Author.Tests.{ltb-true, lt-ltb}
use lib.IntN.{pos}
use Rattle.definition.specs.Base.{keep, tally, all, find, empty, is_some}
use Rattle.definition.specs.Types.{Kind, queue, topic, Entry, Sub, Dest, with_pending, with_subs, with_idle}
use Rattle.definition.specs.Consumer.{same_id, expired, selects, ◌⊕◌, add_expired, is_browser, shown}
use Rattle.definition.specs.Destination.{count, is_id, sub_of, Spec, room, new_sub, joined, add_sub, due, cleared}
use Rattle.definition.specs.Calls.{id_ok, spec_ok, signed_within, rows_of, distinct_ids, snapshot_rows}
use Rattle.definition.proofs.Tests.{if-true, if-false, by-if, by-test, and_left, and_right, and_both}
use Rattle.definition.proofs.Lists.{All}
use Rattle.definition.proofs.Thin.{tally-length}
use Rattle.definition.proofs.Ids.{same-sym}
use Rattle.definition.proofs.Sums.{odd, from, sum, one, occ, bad, sum_one, sum-keep, thin-ascending, thin-keep, ok-sum, sum-ok, sum-once}
use Rattle.definition.proofs.Grown.{room_within}
use Rattle.definition.proofs.Whole.{Shared, rows_m, count_m, rows_sum, Sane, Once, Fine, fine_more, sums-more}
use Rattle.definition.proofs.Each.{thin-once}
use Rattle.definition.proofs.Dispatch.{under-plus, count-browser, count-plain}
use Rattle.definition.proofs.Ops.{once-topic, keep-fine, idle-fine, kind-fine}

pub by_bool {ℓ} : (P : Bool → Type ℓ) → P true → P false → (b : Bool) → P b
by_bool P p q true = p
by_bool P p q false = q

-- ---- one consumer more

all_more : (P : Sub → Type 0) (l : List Sub) (v : Sub) → All P l → P v → All P (l ++ v ∷ [])
all_more P [] v h p = (p, tt)
all_more P (s ∷ l) v h p = (h.0, all_more P l v h.1 p)

ids_more : (l : List Sub) (v : Sub) → distinct_ids l ≡ true → is_some (find (is_id v.id) l) ≡ false → distinct_ids (l ++ v ∷ []) ≡ true
ids_more [] v h n = refl
ids_more (s ∷ l) v h n = by-test (is_id v.id s)
    (λ c. absurd (true≢false (sym (ap is_some (if-true (some s) (find (is_id v.id) l) c)) ∙ n)))
    (λ c. and_both _ _ (others l (and_left _ (distinct_ids l) h) (same-sym s.id v.id c))
    (ids_more l v (and_right (all (λ r. not (same_id r.id s.id)) l) _ h) (sym (ap is_some (if-false (some s) (find (is_id v.id) l) c)) ∙ n)))
  where
    others : (l : List Sub) → all (λ r. not (same_id r.id s.id)) l ≡ true → same_id v.id s.id ≡ false → all (λ r. not (same_id r.id s.id)) (l ++ v ∷ []) ≡ true
    others [] h c = rw c
    others (r ∷ l) h c = and_both (not (same_id r.id s.id)) _ (and_left (not (same_id r.id s.id)) _ h) (others l (and_right (not (same_id r.id s.id)) _ h) c)

turn_more : (r m n : ℕ) → m ≤ n → (ltb r m || eqb r 0) ≡ true → (ltb r n || eqb r 0) ≡ true
turn_more r m n h = by-test (ltb r m) (λ c. rw (c, lt-ltb r n (omega (arith, ltb-true r m c))) (λ e. e)) (λ c. rw c (λ e. rw e (or-true (ltb r n))))

new-rows : (f : Entry → ℕ) (p : Spec) (o : Option (List Entry)) → rows_m f (new_sub p o) ≡ sum f (shown o)
unfolding rows_m
new-rows f p o = refl

pub new-count : (f : Entry → ℕ) (p : Spec) (o : Option (List Entry)) → count_m f (new_sub p o) ≡ 0
new-count f p o = by-test (is_browser (new_sub p o)) (λ c. count-browser f (new_sub p o) c) (λ c. count-plain f (new_sub p o) c)

pub cleared-count : (f : Entry → ℕ) (s : Sub) → count_m f (cleared s) ≡ 0
cleared-count f s = by-test (is_browser (cleared s)) (λ c. count-browser f (cleared s) c) (λ c. count-plain f (cleared s) c)

new-sane : (k : Kind) (N : ℕ) (p : Spec) (o : Option (List Entry)) → 1 ≤ N → spec_ok p ≡ true → sum bad (shown o) ≤ 0 → ((x : ℕ) → sum (occ x) (shown o) ≤ 1) → (k ≡ topic → shown o ≡ []) → Sane k N (new_sub p o)
new-sane k N p o n h b a e = record {
  fits = record {
    named = and_left (id_ok p.id) _ h;
    room = room_within p.prefetch (and_left (signed_within (2 ^ 31) p.prefetch) _ (and_right (id_ok p.id) _ h));
    selects = and_right (signed_within (2 ^ 31) p.prefetch) _ (and_right (id_ok p.id) _ h);
    ok = sum-ok (shown o) b;
    seen = refl;
    apart = sum-once (shown o) a;
    counted = refl;
    numbered = refl;
    sorted = refl;
    stands = stands k e;
  };
  next = n;
  generation = omega arith;
  pulls = refl;
}
  where
    stands : (j : Kind) → (j ≡ topic → shown o ≡ []) → Rattle.definition.specs.Calls.sub_placed (new_sub p o) j ≡ true
    stands queue h = refl
    stands topic h = ap empty (h refl)

sane-bad : (k : Kind) (N : ℕ) (s : Sub) → Sane k N s → rows_m bad s ≡ 0
unfolding rows_m
sane-bad k N s h = ok-sum (rows_of s) h.fits.ok

shared-more : (k : Kind) (t : Dest) (v : Sub) → Once k t → ((f : Entry → ℕ) → count_m f v ≡ 0) → ((f : Entry → ℕ) → rows_m f v ≤ sum f t.pending) → Shared k t → Shared k (with_subs (t.subs ++ v ∷ []) t)
shared-more queue t v o c w h = λ x. omega (arith, h x, sums-more (count_m (from x)) t.subs v, c (from x))
shared-more topic t v o c w h = λ x. omega (arith, h x, sums-more (rows_m (from x)) t.subs v, w (from x), ap (sum (from x)) o.0)

module _ (L U : ℕ) (k : Kind) where
  more-fine : (N : ℕ) (t : Dest) (v : Sub) → Fine L U k N t → Sane k N v → length t.subs + 1 ≤ 32 → is_some (find (is_id v.id) t.subs) ≡ false → rows_sum one t + rows_m one v ≤ 512 → ((f : Entry → ℕ) → count_m f v ≡ 0) → ((f : Entry → ℕ) → rows_m f v ≤ sum f t.pending) →
      Fine L U k N (with_subs (t.subs ++ v ∷ []) t)
  more-fine N t v g y n d r c w = record {
    kind = g.kind;
    frame = record { limit = g.frame.limit; used = g.frame.used; topic_limit = g.frame.topic_limit; allowance = g.frame.allowance; share-low = g.frame.share-low; share-high = g.frame.share-high; few-producers = g.frame.few-producers; producers = g.frame.producers; few-audits = g.frame.few-audits; audits = g.frame.audits; holders = g.frame.holders; mark = g.frame.mark };
    few-subs = omega (arith, n, length-append t.subs (v ∷ []));
    subs = all_more (Sane k N) t.subs v g.subs y;
    ids = ids_more t.subs v g.ids d;
    rows = omega (arith, r, sums-more (rows_m one) t.subs v);
    ok = omega (arith, g.ok, sums-more (rows_m bad) t.subs v, sane-bad k N v y);
    once = thin-once k t (with_subs (t.subs ++ v ∷ []) t) g.once (λ q f w. omega (arith, sums-more (count_m f) t.subs v, c f)) (once-topic k t g.once);
    shared = shared-more k t v g.once c w g.shared;
    agree = λ x. let z = g.agree x in (z.0, omega (arith, z.1, sums-more (rows_m (odd x z.0)) t.subs v, w (odd x z.0)));
    sorted = g.sorted;
    turn = turn_more t.rr (length t.subs) (length (t.subs ++ v ∷ [])) (omega (arith, length-append t.subs (v ∷ []))) g.turn;
    counters = g.counters;
  }

  keep-keep : (p q : Entry → Bool) (l : List Entry) → length (keep q (keep p l)) ≡ tally (λ e. p e && q e) l
  keep-keep p q [] = refl
  keep-keep p q (e ∷ l) = by-test (p e)
      (λ c. by-test (q e) (λ d. rw (c, d) (omega (arith, keep-keep p q l))) (λ d. rw (c, d) (omega (arith, keep-keep p q l))))
      (λ c. rw c (omega (arith, keep-keep p q l)))

  pending-once : (j : Kind) (t : Dest) → Once j t → (x : ℕ) → sum (occ x) t.pending ≤ 1
  pending-once queue t h x = omega (arith, h x)
  pending-once topic t h x = omega (arith, ap (sum (occ x)) h.0)

  pub joined-fine : (N now : ℕ) (p : Spec) (t : Dest) → Fine L U k N t → 1 ≤ N → spec_ok p ≡ true → is_some (sub_of p.id t) ≡ false → length t.subs + 1 ≤ 32 → rows_sum one t + snapshot_rows now p t ≤ 512 → Fine L U k (N + 513) (joined now p t)
  joined-fine N now p t g n h d m r =
      by-if (λ (u : Dest). Fine L U k (N + 513) (with_idle none u)) p.browser _ _
      (λ c. idle-more (N + 512) (N + 513) _ (omega arith) (more-fine (N + 512) browsed (new_sub p (some chosen)) seen
      (new-sane k (N + 512) p (some chosen) (omega arith) h (omega (arith, sum-keep bad wanted live, sum-keep bad fresh t.pending, g.ok)) (λ x. omega (arith, sum-keep (occ x) wanted live, sum-keep (occ x) fresh t.pending, pending-once k t g.once x)) (λ e. ap (λ l. keep wanted (keep fresh l)) (once-topic k t g.once e).0))
      m d (omega (arith, few c, new-rows one p (some chosen), sum_one chosen, sum-keep one fresh t.pending)) (λ f. new-count f p (some chosen)) (λ f. omega (arith, new-rows f p (some chosen), sum-keep f wanted live))))
      (λ c. idle-more N (N + 513) _ (omega arith) (more-fine N t (new_sub p none) g (new-sane k N p none n h (omega arith) (λ x. omega arith) (λ e. refl)) m d (omega (arith, r, new-rows one p none)) (λ f. new-count f p none) (λ f. omega (arith, new-rows f p none))))
    where
      fresh : Entry → Bool
      fresh e = not (expired (pos (due now t)) e)

      wanted : Entry → Bool
      wanted e = selects e.match_word p.selector

      live : List Entry
      live = keep fresh t.pending

      chosen : List Entry
      chosen = keep wanted live

      browsed : Dest
      browsed = count (add_expired (tally (expired (pos (due now t))) t.pending)) (with_pending live t)

      idle-more : (M K : ℕ) (u : Dest) → M + 1 ≤ K → Fine L U k M u → Fine L U k K (with_idle none u)
      idle-more M K u e f = fine_more L U k (M + 1) K (with_idle none u) e (idle-fine L U k M u none refl f)

      few : p.browser ≡ true → rows_sum one t + length chosen ≤ 512
      few c = omega (arith, r, if-true (tally (λ e. fresh e && wanted e) t.pending) 0 c, keep-keep fresh wanted t.pending)

      seen : Fine L U k (N + 512) browsed
      seen = keep-fine L U k N 512 t (t.stats ⊕ add_expired (tally (expired (pos (due now t))) t.pending)) live t.reserved t.idle g (λ f w. omega (arith, sum-keep f fresh t.pending))
          (λ e. let o = once-topic k t g.once e in (ap (keep fresh) o.0, o.1)) (thin-ascending _ _ (thin-keep fresh t.pending) g.sorted) g.frame.holders g.frame.mark
          (under-plus N 512 t.stats (add_expired (tally (expired (pos (due now t))) t.pending)) g.counters (omega (arith, tally-length (expired (pos (due now t))) t.pending, g.rows, sum_one t.pending)))

  pub join-fine : (N now : ℕ) (p : Spec) (t : Dest) → Fine L U k (N + 513) (joined now p t) → Fine L U k (N + 4096) (add_sub now p t).dest
  unfolding add_sub
  join-fine N now p t g = fine_more L U k (N + 513 + 2048) (N + 4096) _ (omega arith) (kind-fine L U k (N + 513) now _ g)
