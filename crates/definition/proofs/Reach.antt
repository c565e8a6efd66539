-- Every accepted call leaves a sound state sound. Assumes nothing.
use Prim.Native.Nat.{ℕ, ◌+◌, ◌-◌, ◌≤◌, ◌^◌}
use native.Mathlib.Omega.{arith}
use mathlib.Core.Path.{◌≡◌, refl, sym, ◌∙◌, ap, subst⁻¹}
use mathlib.Core.Bool.{Bool, true, not, ◌||◌}
use mathlib.Core.List.{List, [], ◌∷◌, ◌++◌, map}
use mathlib.Core.Option.{none}
use lib.Dec.{leb, ltb, eqb}
use lib.IntN.{pos}
use lib.ListN.{length, length-map}
use borrow.Author.Tests.{ltb-true, lt-ltb, eqb-true}
use Rattle.definition.specs.Base.{whether◌then◌else◌, keep, tally}
use Rattle.definition.specs.Types.{Kind, queue, topic, Entry, Sub, Stats, Dest, with_cursor, with_tpending, with_pending}
use Rattle.definition.specs.Consumer.{expired, accepts, ◌⊕◌, add_enqueued, is_browser, snapshot}
use Rattle.definition.specs.Destination.{insert, hold_back, hold_back_all, stored, Trimmed, trim, fan_out, fan_out_all, fanned_out, enqueue_by, dispatch_by, due}
use Rattle.definition.specs.Calls.{entry_ok, flying, rows_of, held, rows_for}
use Rattle.definition.proofs.Tests.{by-if, by-test}
use Rattle.definition.proofs.Lists.{All}
use Rattle.definition.proofs.Thin.{Thin, thin-refl, thin-trans}
use Rattle.definition.proofs.Sums.{from, from-tame, from-few, from-other, odd, odd-tame, odd-own, odd-other, sum-odd-occ, sum, Tame, one, occ, bad, one-tame, occ-tame, bad-tame, sum-append, sum-thin, sum_one, sum-insert, insert-ascending, thin-ascending, thin-keep, thin-drop, kept-length, occ-yes, occ-no, ok-sum, sum-ok, sum-once, once-sum, bad-ok}
use Rattle.definition.proofs.Fit.{total}
use Rattle.definition.proofs.Grown.{counted}
use Rattle.definition.proofs.Whole.{sums, rows_m, count_m, rows_sum, queue_sum, own_sum, Sane, sane-more, under_more, all_map, Agree, Fine, fine_more}
use Rattle.definition.proofs.Each.{Eased, Each, each_map, ids-same, renewed}
use Rattle.definition.proofs.Dispatch.{under-plus, dispatch-fine, cursor_rows, cursor-count, cursor-sane}
use Rattle.definition.proofs.Ops.{subs-fine}

-- ---- cursors moved back

back-eased : (k : Kind) (c : ℕ) (s : Sub) → c ≤ s.cursor → Eased k 0 s (with_cursor c s)
back-eased k c s h = record {
  id = refl;
  sane = λ N n. sane-more k N (N + 0) (with_cursor c s) (omega arith) (cursor-sane k N c s (lt-ltb c (2 ^ 63) (omega (arith, ltb-true s.cursor (2 ^ 63) n.fits.seen))) n);
  rows = λ f t N n. omega (arith, cursor_rows f c s);
  taken = λ e f t N n. omega (arith, cursor-count f c s);
}

pub back-all : (l : List Entry) (s : Sub) → (c : ℕ) × (c ≤ s.cursor) × (hold_back_all l s ≡ with_cursor c s)
back-all [] s = (s.cursor, omega arith, refl)
back-all (e ∷ l) s = let r = back-all l (hold_back e.seq s) in (r.0, omega (arith, r.1), r.2)

pub back-all-eased : (k : Kind) (l : List Entry) (s : Sub) → Eased k 0 s (hold_back_all l s)
back-all-eased k l s = let r = back-all l s in subst⁻¹ (λ (v : Sub). Eased k 0 s v) r.2 (back-eased k r.0 s r.1)

count-rows : (f : Entry → ℕ) (s : Sub) → count_m f s ≤ rows_m f s
unfolding count_m rows_m
count-rows f s = by-test (is_browser s) (λ c. rw c (omega arith)) (λ c. rw c (omega (arith, sum-append f (flying s) (s.tpending ++ snapshot s))))

pub counts-rows : (f : Entry → ℕ) (l : List Sub) → sums (count_m f) l ≤ sums (rows_m f) l
counts-rows f [] = omega arith
counts-rows f (s ∷ l) = omega (arith, count-rows f s, counts-rows f l)

rows-odd : (x z : ℕ) (l : List Sub) → sums (rows_m (odd x z)) l ≤ sums (rows_m (occ x)) l
unfolding rows_m
rows-odd x z [] = omega arith
rows-odd x z (s ∷ l) = omega (arith, sum-odd-occ x z (rows_of s), rows-odd x z l)

-- a size for each number, that of a new entry too
agree-new : (e : Entry) (t : Dest) → Agree t → rows_sum (occ e.seq) t ≤ 0 → (x : ℕ) → (z : ℕ) × (odd x z e ≤ 0) × (rows_sum (odd x z) t ≤ 0)
agree-new e t g o x = by-test (eqb x e.seq)
    (λ c. subst⁻¹ (λ (y : ℕ). (z : ℕ) × (odd y z e ≤ 0) × (rows_sum (odd y z) t ≤ 0)) (eqb-true x e.seq c)
    (e.size, omega (arith, odd-own e), omega (arith, o, rows-odd e.seq e.size t.subs, sum-odd-occ e.seq e.size t.pending, sum-odd-occ e.seq e.size (held t))))
    (λ c. let z = g x in (z.0, omega (arith, odd-other x z.0 e c), z.1))

module _ (L U : ℕ) where
  -- ---- enqueue, on a queue

  insert-fine : (N : ℕ) (e : Entry) (t : Dest) → Fine L U queue N t → entry_ok e ≡ true → rows_sum one t + 1 ≤ 512 → rows_sum (occ e.seq) t ≤ 0 → queue_sum (from e.producer) t + 1 ≤ t.share → Fine L U queue N (with_pending (insert e t.pending) t)
  insert-fine N e t g h r o q = record {
    kind = g.kind;
    frame = record { limit = g.frame.limit; used = g.frame.used; topic_limit = g.frame.topic_limit; allowance = g.frame.allowance; share-low = g.frame.share-low; share-high = g.frame.share-high; few-producers = g.frame.few-producers; producers = g.frame.producers; few-audits = g.frame.few-audits; audits = g.frame.audits; holders = g.frame.holders; mark = g.frame.mark };
    few-subs = g.few-subs;
    subs = g.subs;
    ids = g.ids;
    rows = omega (arith, r, sum-insert one e t.pending);
    ok = omega (arith, g.ok, sum-insert bad e t.pending, bad-ok e h);
    once = λ x. by-test (eqb x e.seq)
        (λ c. let p : rows_sum (occ x) t ≤ 0 = subst⁻¹ (λ y. rows_sum (occ y) t ≤ 0) (eqb-true x e.seq c) o in omega (arith, p, occ-yes x e c, sum-insert (occ x) e t.pending, counts-rows (occ x) t.subs))
        (λ c. omega (arith, g.once x, occ-no x e c, sum-insert (occ x) e t.pending));
    agree = λ x. let z = agree-new e t g.agree o x in (z.0, omega (arith, z.1, z.2, sum-insert (odd x z.0) e t.pending));
    shared = λ c. by-test (eqb c e.producer)
        (λ d. let p : queue_sum (from c) t + 1 ≤ t.share = subst⁻¹ (λ y. queue_sum (from y) t + 1 ≤ t.share) (eqb-true c e.producer d) q in omega (arith, p, from-few c e, sum-insert (from c) e t.pending))
        (λ d. omega (arith, g.shared c, from-other c e d, sum-insert (from c) e t.pending));
    sorted = insert-ascending e t.pending g.sorted;
    turn = g.turn;
    counters = g.counters;
  }

  each-one : (k : Kind) (N : ℕ) (l m : List Sub) → Each k 0 N l m → Each k 1 N l m
  each-one k N l m e = record { ids = e.ids; sane = all_map (Sane k (N + 0)) (Sane k (N + 1)) m (λ s. sane-more k (N + 0) (N + 1) s (omega arith)) e.sane; rows = e.rows; taken = e.taken }

  pub stored-fine : (N : ℕ) (e : Entry) (t : Dest) → Fine L U queue N t → entry_ok e ≡ true → rows_sum one t + 1 ≤ 512 → rows_sum (occ e.seq) t ≤ 0 → queue_sum (from e.producer) t + 1 ≤ t.share → Fine L U queue (N + 1) (stored e t)
  stored-fine N e t g h r o q =
      let m : Each queue 1 N t.subs (map (hold_back e.seq) t.subs) = each-one queue N _ _ (each_map queue 0 N (hold_back e.seq) t.subs (λ s. back-eased queue _ s (omega arith)) g.subs) in
      insert-fine (N + 1) e (renewed t.rr (t.stats ⊕ add_enqueued 1) (map (hold_back e.seq) t.subs) t.pending t.reserved none t)
      (subs-fine L U queue N 1 t (t.stats ⊕ add_enqueued 1) (map (hold_back e.seq) t.subs) none g m refl (under-plus N 1 t.stats (add_enqueued 1) g.counters (omega arith)))
      h (omega (arith, r, m.rows one one-tame)) (omega (arith, o, m.rows (occ e.seq) (occ-tame e.seq))) (omega (arith, q, m.taken refl (from e.producer) (from-tame e.producer)))

  -- ---- enqueue, on a topic

  record Fanned (N now limit : ℕ) (e : Entry) (l : List Sub) : Type 0 where
    ids : map (λ s. s.id) (fan_out_all now limit e l).subs ≡ map (λ s. s.id) l
    sane : All (Sane topic N) (fan_out_all now limit e l).subs
    rows : (f : Entry → ℕ) → Tame f → f e ≤ 1 → sums (rows_m f) (fan_out_all now limit e l).subs ≤ sums (rows_m f) l + tally (λ s. accepts s e) l
    more : (f : Entry → ℕ) → Tame f → f e ≤ 0 → sums (rows_m f) (fan_out_all now limit e l).subs ≤ sums (rows_m f) l
    counts : total (fan_out_all now limit e l).counts ≤ sums (rows_m one) l + length l

  record FannedOne (N : ℕ) (e : Entry) (s : Sub) (a : Bool) (v : Sub) (c : Stats) : Type 0 where
    id : v.id ≡ s.id
    sane : Sane topic N v
    rows : (f : Entry → ℕ) → Tame f → f e ≤ 1 → rows_m f v ≤ rows_m f s + (whether a then 1 else 0)
    more : (f : Entry → ℕ) → Tame f → f e ≤ 0 → rows_m f v ≤ rows_m f s
    counts : total c ≤ rows_m one s + 1

  list-rows : (f : Entry → ℕ) (l : List Entry) (s : Sub) → rows_m f (with_tpending l s) ≡ sum f (flying s) + (sum f l + sum f (snapshot s))
  unfolding rows_m
  list-rows f l s = omega (arith, sum-append f (flying s) (l ++ snapshot s), sum-append f l (snapshot s))

  own-rows : (f : Entry → ℕ) (s : Sub) → rows_m f s ≡ sum f (flying s) + (sum f s.tpending + sum f (snapshot s))
  unfolding rows_m
  own-rows f s = omega (arith, sum-append f (flying s) (s.tpending ++ snapshot s), sum-append f s.tpending (snapshot s))

  fan-sum : (f : Entry → ℕ) → Tame f → (e : Entry) (m : List Entry) (s : Sub) → Thin (insert e s.tpending) m → rows_m f (with_tpending m s) ≤ rows_m f s + f e
  fan-sum f w e m s h = omega (arith, list-rows f m s, own-rows f s, sum-thin f w _ _ h, sum-insert f e s.tpending)

  rows_ok : (N : ℕ) (s : Sub) → Sane topic N s → rows_m bad s ≡ 0
  unfolding rows_m
  rows_ok N s h = ok-sum (rows_of s) h.fits.ok

  rows-once : (N : ℕ) (s : Sub) → Sane topic N s → (x : ℕ) → rows_m (occ x) s ≤ 1
  unfolding rows_m
  rows-once N s h = once-sum (rows_of s) h.fits.apart

  rows_fit : (f : Entry → ℕ) (s : Sub) → sum f (rows_of s) ≡ rows_m f s
  unfolding rows_m
  rows_fit f s = refl

  fan-sane : (N : ℕ) (e : Entry) (m : List Entry) (s : Sub) → Sane topic N s → entry_ok e ≡ true → rows_m (occ e.seq) s ≤ 0 → Thin (insert e s.tpending) m → Sane topic N (with_tpending m s)
  fan-sane N e m s h k o w = record {
    fits = record {
      named = h.fits.named;
      room = h.fits.room;
      selects = h.fits.selects;
      ok = sum-ok (rows_of v) (omega (arith, rows_fit bad v, fan-sum bad bad-tame e m s w, rows_ok N s h, bad-ok e k));
      seen = h.fits.seen;
      apart = sum-once (rows_of v) (λ x. by-test (eqb x e.seq)
          (λ c. let p : rows_m (occ x) s ≤ 0 = subst⁻¹ (λ y. rows_m (occ y) s ≤ 0) (eqb-true x e.seq c) o in omega (arith, p, rows_fit (occ x) v, fan-sum (occ x) (occ-tame x) e m s w, occ-yes x e c))
          (λ c. omega (arith, rows_fit (occ x) v, fan-sum (occ x) (occ-tame x) e m s w, occ-no x e c, rows-once N s h x)));
      counted = h.fits.counted;
      numbered = h.fits.numbered;
      sorted = thin-ascending _ _ w (insert-ascending e s.tpending h.fits.sorted);
      stands = h.fits.stands;
    };
    next = h.next;
    generation = h.generation;
    pulls = h.pulls;
  }
    where
      v : Sub
      v = with_tpending m s

  insert-length : (e : Entry) (s : Sub) → length (insert e s.tpending) ≤ rows_m one s + 1
  insert-length e s = omega (arith, sum_one (insert e s.tpending), sum-insert one e s.tpending, own-rows one s)

  -- what a trimmed list keeps, and what it counts
  record Trims (l : List Entry) (r : Trimmed) : Type 0 where
    thin : Thin l r.list
    counts : total r.counts ≤ length l

  trims : (now limit : ℕ) (l : List Entry) → Trims l (trim now limit l)
  unfolding trim
  trims now limit l = by-if (Trims l) (eqb limit 0 || leb (length l) limit) _ _
      (λ c. record { thin = thin-refl l; counts = omega arith })
      (λ c. record { thin = thin-trans l live _ (thin-keep (λ e. not (expired (pos now) e)) l) (thin-drop (length live - limit) live); counts = omega (arith, kept-length (expired (pos now)) l) })
    where
      live : List Entry
      live = keep (λ e. not (expired (pos now) e)) l

  fan-one : (N now limit : ℕ) (e : Entry) (s : Sub) → Sane topic N s → entry_ok e ≡ true → rows_m (occ e.seq) s ≤ 0 → FannedOne N e s (accepts s e) (fan_out now limit e s).sub (fan_out now limit e s).counts
  unfolding fan_out
  fan-one N now limit e s h k o = by-test (accepts s e)
      (λ c. let w = trims now limit (insert e s.tpending) in let m = (trim now limit (insert e s.tpending)).list in rw c (record {
        id = refl;
        sane = fan-sane N e m s h k o w.thin;
        rows = λ f y z. omega (arith, fan-sum f y e m s w.thin, z);
        more = λ f y z. omega (arith, fan-sum f y e m s w.thin, z);
        counts = omega (arith, w.counts, insert-length e s);
      }))
      (λ c. rw c (record { id = refl; sane = h; rows = λ f y z. omega arith; more = λ f y z. omega arith; counts = omega arith }))

  fan-all : (N now limit : ℕ) (e : Entry) (l : List Sub) → All (Sane topic N) l → entry_ok e ≡ true → sums (rows_m (occ e.seq)) l ≤ 0 → Fanned N now limit e l
  unfolding fan_out_all
  fan-all N now limit e [] a k o = record { ids = refl; sane = tt; rows = λ f y z. omega arith; more = λ f y z. omega arith; counts = omega arith }
  fan-all N now limit e (s ∷ l) a k o =
      let p = fan-one N now limit e s a.0 k (omega (arith, o)) in
      let r = fan-all N now limit e l a.1 k (omega (arith, o)) in
      record {
        ids = ap (λ i. i ∷ map (λ s. s.id) (fan_out_all now limit e l).subs) p.id ∙ ap (λ x. s.id ∷ x) r.ids;
        sane = (p.sane, r.sane);
        rows = λ f y z. omega (arith, p.rows f y z, r.rows f y z);
        more = λ f y z. omega (arith, p.more f y z, r.more f y z);
        counts = omega (arith, p.counts, r.counts);
      }

  pub fanned-fine : (N now : ℕ) (e : Entry) (t : Dest) → Fine L U topic N t → entry_ok e ≡ true → rows_sum one t + tally (λ s. accepts s e) t.subs ≤ 512 → rows_sum (occ e.seq) t ≤ 0 → rows_sum (from e.producer) t + tally (λ s. accepts s e) t.subs ≤ t.share → Fine L U topic (N + 1024) (fanned_out now e t)
  fanned-fine N now e t g k r o q =
      let p = fan-all N now t.topic_limit e t.subs g.subs k (omega (arith, o)) in
      let n : length (fan_out_all now t.topic_limit e t.subs).subs ≡ length t.subs = sym (length-map (fan_out_all now t.topic_limit e t.subs).subs (λ s. s.id)) ∙ ap length p.ids ∙ length-map t.subs (λ s. s.id) in
      record {
        kind = g.kind;
        frame = record { limit = g.frame.limit; used = g.frame.used; topic_limit = g.frame.topic_limit; allowance = g.frame.allowance; share-low = g.frame.share-low; share-high = g.frame.share-high; few-producers = g.frame.few-producers; producers = g.frame.producers; few-audits = g.frame.few-audits; audits = g.frame.audits; holders = g.frame.holders; mark = g.frame.mark };
        few-subs = omega (arith, n, g.few-subs);
        subs = all_map (Sane topic N) (Sane topic (N + 1024)) (fan_out_all now t.topic_limit e t.subs).subs (λ s. sane-more topic N (N + 1024) s (omega arith)) p.sane;
        ids = ids-same t.subs (fan_out_all now t.topic_limit e t.subs).subs p.ids ∙ g.ids;
        rows = omega (arith, r, p.rows one one-tame (omega arith));
        ok = omega (arith, g.ok, p.more bad bad-tame (omega (arith, bad-ok e k)));
        once = g.once;
        agree = λ x. let z = agree-new e t g.agree o x in (z.0, omega (arith, z.2, p.more (odd x z.0) (odd-tame x z.0) z.1));
        shared = λ c. by-test (eqb c e.producer)
            (λ d. let y : rows_sum (from c) t + tally (λ s. accepts s e) t.subs ≤ t.share = subst⁻¹ (λ x. rows_sum (from x) t + tally (λ s. accepts s e) t.subs ≤ t.share) (eqb-true c e.producer d) q in omega (arith, y, p.rows (from c) (from-tame c) (from-few c e)))
            (λ d. omega (arith, g.shared c, p.more (from c) (from-tame c) (omega (arith, from-other c e d))));
        sorted = g.sorted;
        turn = ap (λ n. ltb t.rr n || eqb t.rr 0) n ∙ g.turn;
        counters = under_more (N + 1 + 1000) (N + 1024) _ (omega arith) (under-plus (N + 1) 1000 (t.stats ⊕ add_enqueued 1) (fan_out_all now t.topic_limit e t.subs).counts (under-plus N 1 t.stats (add_enqueued 1) g.counters (omega arith)) (omega (arith, p.counts, g.rows, g.few-subs)));
      }

  pub enqueue-fine : (k : Kind) (N now : ℕ) (e : Entry) (t : Dest) → Fine L U k N t → entry_ok e ≡ true → rows_sum one t + rows_for e t k ≤ 512 → rows_sum (occ e.seq) t ≤ 0 → own_sum k (from e.producer) t + rows_for e t k ≤ t.share → Fine L U k (N + 4096) (enqueue_by now e t k).dest
  unfolding enqueue_by dispatch_by
  enqueue-fine queue N now e t g k r o q = fine_more L U queue (N + 1 + 2048) (N + 4096) _ (omega arith) (dispatch-fine L U queue (N + 1) (due now t) (stored e t) (stored-fine N e t g k r o q))
  enqueue-fine topic N now e t g k r o q = fine_more L U topic (N + 1024 + 2048) (N + 4096) _ (omega arith) (dispatch-fine L U topic (N + 1024) (due now t) (fanned_out (due now t) e t) (fanned-fine N (due now t) e t g k r o q))
