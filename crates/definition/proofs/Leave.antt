-- A leave, a release, a sweep and a clear keep a sound state. Assumes nothing.
use Prim.Native.Nat.{ℕ, zero, suc, ◌+◌, ◌-◌, ◌≤◌}
use native.Mathlib.Omega.{arith}
use mathlib.Core.Path.{◌≡◌, refl, sym, ◌∙◌, ap, subst, subst⁻¹}
use mathlib.Core.Bool.{Bool, true, false, not, ◌||◌, true≢false, or-true}
use mathlib.Core.List.{List, [], ◌∷◌, ◌++◌, map, map-append}
use mathlib.Core.Option.{Option, none, some}
use lib.Dec.{leb, ltb, eqb}
use lib.IntN.{ℤ, pos}
use lib.ListN.{length}
use borrow.Author.Tests.{leb-false, lt-ltb}
use Rattle.definition.specs.Base.{whether◌then◌else◌, keep, tally, all, find, empty, distinct, ascending}
use Rattle.definition.specs.Types.{Kind, queue, topic, Id, Entry, Inflight, Sub, Dest, with_tpending, with_pending, with_subs, with_reserved}
use Rattle.definition.specs.Consumer.{same_id, expired, ◌⊕◌, add_expired, is_browser, shown, snapshot, redelivered}
use Rattle.definition.specs.Destination.{count, is_id, sub_of, insert_all, hold_back_all, room, was_delivered, returned_from, reserved_from, without, drop_sub, returning, remove_at, remove_sub, reinsert, held_by, reserved_of, no_tx, unmarked, return_reserved, Swept, sweep_at, sweep_list, soonest, SweptSubs, sweep_subs, sweep_expired, emptied, cleared, clear, due}
use Rattle.definition.specs.Calls.{entry_ok, id_ok, clock_ok, seqs, flying, rows_of, held, distinct_ids}
use Rattle.definition.proofs.Tests.{if-true, if-false, by-if, by-test, and_left, and_right, and_both}
use Rattle.definition.proofs.Lists.{none-some, some_inj, All, empty-nil, all_append, all_keep}
use Rattle.definition.proofs.Thin.{Thin, done, thin-refl, thin-trans, thin-append, thin-ok, thin-distinct, alike-redelivered, tally-length}
use Rattle.definition.proofs.Sums.{sum, Tame, one, one-tame, sum-append, sum-thin, sum_one, sum-keep, sum-insert_all, insert_all-ascending, thin-ascending, thin-keep, thin-redelivered, held-split}
use Rattle.definition.proofs.Fit.{Fit, Acked, refit}
use Rattle.definition.proofs.Whole.{rows_m, count_m, rows_sum, queue_sum, Sane, sane-more, Under, all_map, Frame, Fine, fine_more, sums-without}
use Rattle.definition.proofs.Each.{Eased, Each, each_nil, each-cons, each_map, each-length, each-fine, ids-same, renewed, frame-renewed}
use Rattle.definition.proofs.Dispatch.{not-topic, under-plus, count-plain, plain_rows}
use Rattle.definition.proofs.Ops.{once-topic, fine-from, subs-fine, touch-fine, kind-fine, under_same, acked-eased}
use Rattle.definition.proofs.Reach.{back-all-eased}
use Rattle.definition.proofs.Join.{by_bool, cleared-count}

-- ---- one consumer less

module _ (p : Sub → Bool) where
  all_without : (P : Sub → Type 0) (l : List Sub) → All P l → All P (without p l)
  all_without P [] h = tt
  all_without P (c ∷ l) h = by-test (p c) (λ e. rw e h.1) (λ e. rw e (h.0, all_without P l h.1))

  test-without : (q : Sub → Bool) (l : List Sub) → all q l ≡ true → all q (without p l) ≡ true
  test-without q [] h = refl
  test-without q (c ∷ l) h = by-test (p c) (λ e. rw e (and_right (q c) (all q l) h)) (λ e. rw e (and_both (q c) _ (and_left (q c) (all q l) h) (test-without q l (and_right (q c) (all q l) h))))

  ids-without : (l : List Sub) → distinct_ids l ≡ true → distinct_ids (without p l) ≡ true
  ids-without [] h = refl
  ids-without (c ∷ l) h = by-test (p c)
      (λ e. rw e (and_right (all (λ r. not (same_id r.id c.id)) l) _ h))
      (λ e. rw e (and_both _ _ (test-without (λ r. not (same_id r.id c.id)) l (and_left _ (distinct_ids l) h)) (ids-without l (and_right (all (λ r. not (same_id r.id c.id)) l) _ h))))

  length_without : (l : List Sub) → length (without p l) ≤ length l
  length_without [] = omega arith
  length_without (c ∷ l) = by-test (p c) (λ e. rw e (omega arith)) (λ e. rw e (omega (arith, length_without l)))

  find-fit : (P : Sub → Type 0) (l : List Sub) (s : Sub) → find p l ≡ some s → All P l → P s
  find-fit P [] s f h = absurd (none-some f)
  find-fit P (c ∷ l) s f h = by-test (p c)
      (λ e. subst P (some_inj (sym (if-true (some c) (find p l) e) ∙ f)) h.0)
      (λ e. find-fit P l s (sym (if-false (some c) (find p l) e) ∙ f) h.1)

turn-less : (r n : ℕ) → (ltb (whether leb n r then 0 else r) n || eqb (whether leb n r then 0 else r) 0) ≡ true
turn-less r n = by-test (leb n r) (λ c. rw c (or-true (ltb 0 n))) (λ c. rw (c, lt-ltb r n (leb-false n r c)))

-- ---- what returns, and what stays reserved

returned-sum : (f : Entry → ℕ) → Tame f → (last : ℤ) (j : Id) (l : List Inflight) → sum f (returned_from last l) + sum f (map (λ h. h.entry) (reserved_from j l)) ≤ sum f (map (λ i. i.entry) l)
returned-sum f w last j [] = omega arith
returned-sum f w last j (i ∷ l) = by_bool
    (λ b. sum f (whether b then returned_from last l else (whether was_delivered last i.entry then redelivered i.entry else i.entry) ∷ returned_from last l)
    + sum f (map (λ h. h.entry) (whether b then record { holder = j; entry = i.entry } ∷ reserved_from j l else reserved_from j l)) ≤ f i.entry + sum f (map (λ i. i.entry) l))
    (omega (arith, returned-sum f w last j l))
    (omega (arith, returned-sum f w last j l, once_more))
    i.tx
  where
    once_more : f (whether was_delivered last i.entry then redelivered i.entry else i.entry) ≤ f i.entry
    once_more = by-if (λ (e : Entry). f e ≤ f i.entry) (was_delivered last i.entry) (redelivered i.entry) i.entry (λ c. w i.entry (redelivered i.entry) (alike-redelivered i.entry)) (λ c. omega arith)

holders-from : (j : Id) (l : List Inflight) → id_ok j ≡ true → all (λ h. id_ok h.holder) (reserved_from j l) ≡ true
holders-from j [] h = refl
holders-from j (i ∷ l) h = by_bool (λ b. all (λ h. id_ok h.holder) (whether b then record { holder = j; entry = i.entry } ∷ reserved_from j l else reserved_from j l) ≡ true)
    (and_both (id_ok j) _ h (holders-from j l h)) (holders-from j l h) i.tx

-- the destination, before entries return
record Before (L U N K : ℕ) (t d : Dest) (es : List Entry) : Type 0 where
  was : Fine L U queue N t
  kind : d.kind ≡ queue
  share : d.share ≡ t.share
  frame : Frame L U d
  few-subs : length d.subs ≤ 32
  subs : All (Sane queue K) d.subs
  ids : distinct_ids d.subs ≡ true
  rows : (f : Entry → ℕ) → Tame f → rows_sum f d + sum f es ≤ rows_sum f t
  taken : (f : Entry → ℕ) → Tame f → queue_sum f d + sum f es ≤ queue_sum f t
  sorted : ascending (seqs d.pending) ≡ true
  turn : (ltb d.rr (length d.subs) || eqb d.rr 0) ≡ true
  counters : Under K d.stats

reinsert-fine : (L U N K now : ℕ) (t d : Dest) (es : List Entry) → Before L U N K t d es → Fine L U queue (K + 512) (reinsert now es d)
unfolding reinsert
reinsert-fine L U N K now t d es b = fine-from L U queue N (K + 512) t _ b.was b.kind b.share
    (frame-renewed L U d.rr (d.stats ⊕ add_expired (tally (expired (pos (due now d))) es)) (map (hold_back_all live) d.subs) (insert_all live d.pending) d.reserved d.idle d b.frame b.frame.holders b.frame.mark)
    (omega (arith, b.few-subs, each-length queue 0 K _ _ e))
    (all_map (Sane queue (K + 0)) (Sane queue (K + 512)) (map (hold_back_all live) d.subs) (λ s. sane-more queue (K + 0) (K + 512) s (omega arith)) e.sane)
    (ids-same d.subs (map (hold_back_all live) d.subs) e.ids ∙ b.ids)
    (λ f w. omega (arith, b.rows f w, sum-insert_all f live d.pending, sum-keep f (λ x. not (expired (pos (due now d)) x)) es, e.rows f w))
    (λ q f w. omega (arith, b.taken f w, sum-insert_all f live d.pending, sum-keep f (λ x. not (expired (pos (due now d)) x)) es, e.taken refl f w))
    (λ q. absurd (not-topic q))
    (insert_all-ascending live d.pending b.sorted)
    (ap (λ n. ltb d.rr n || eqb d.rr 0) (each-length queue 0 K _ _ e) ∙ b.turn)
    (under-plus K 512 d.stats (add_expired (tally (expired (pos (due now d))) es)) b.counters (omega (arith, tally-length (expired (pos (due now d))) es, sum_one es, b.rows one one-tame, b.was.rows)))
  where
    live : List Entry
    live = keep (λ x. not (expired (pos (due now d)) x)) es

    e : Each queue 0 K d.subs (map (hold_back_all live) d.subs)
    e = each_map queue 0 K (hold_back_all live) d.subs (λ s. back-all-eased queue live s) b.subs

module _ (L U : ℕ) where
  -- ---- leave

  drop-frame : (r : ℕ) (l : List Sub) (t : Dest) → Frame L U t → Frame L U (renewed r t.stats l t.pending t.reserved t.idle t)
  drop-frame r l t f = frame-renewed L U r t.stats l t.pending t.reserved t.idle t f f.holders f.mark

  drop-fine : (k : Kind) (N : ℕ) (i : Id) (s : Sub) (t : Dest) → sub_of i t ≡ some s → Fine L U k N t → Fine L U k N (drop_sub i t)
  drop-fine k N i s t f g = fine-from L U k N N t (drop_sub i t) g g.kind refl (drop-frame _ (without (is_id i) t.subs) t g.frame)
      (omega (arith, g.few-subs, length_without (is_id i) t.subs)) (all_without (is_id i) (Sane k N) t.subs g.subs) (ids-without (is_id i) t.subs g.ids)
      (λ h w. omega (arith, sums-without (rows_m h) (is_id i) t.subs s f)) (λ q h w. omega (arith, sums-without (count_m h) (is_id i) t.subs s f)) (once-topic k t g.once) g.sorted
      (turn-less t.rr (length (without (is_id i) t.subs))) g.counters

  back-before : (N : ℕ) (i : Id) (last : ℤ) (s : Sub) (t : Dest) → sub_of i t ≡ some s → is_browser s ≡ false → Fine L U queue N t →
      Before L U N N t (with_reserved (t.reserved ++ reserved_from s.id s.inflight) (drop_sub i t)) (returned_from last s.inflight)
  back-before N i last s t f c g =
      let h = find-fit (is_id i) (Sane queue N) t.subs s f g.subs in
      let held_more : (m : Entry → ℕ) → sum m (map (λ h. h.entry) (t.reserved ++ reserved_from s.id s.inflight)) ≡ sum m (held t) + sum m (map (λ h. h.entry) (reserved_from s.id s.inflight))
      = λ m. ap (sum m) (map-append (λ h. h.entry) t.reserved (reserved_from s.id s.inflight)) ∙ sum-append m (held t) (map (λ h. h.entry) (reserved_from s.id s.inflight)) in
      record {
        was = g;
        kind = g.kind;
        share = refl;
        frame = frame-renewed L U _ t.stats (without (is_id i) t.subs) t.pending (t.reserved ++ reserved_from s.id s.inflight) t.idle t g.frame (all_append (λ h. id_ok h.holder) t.reserved (reserved_from s.id s.inflight) g.frame.holders (holders-from s.id s.inflight h.fits.named)) g.frame.mark;
        few-subs = omega (arith, g.few-subs, length_without (is_id i) t.subs);
        subs = all_without (is_id i) (Sane queue N) t.subs g.subs;
        ids = ids-without (is_id i) t.subs g.ids;
        rows = λ m w. omega (arith, held_more m, returned-sum m w last s.id s.inflight, sums-without (rows_m m) (is_id i) t.subs s f, plain_rows m s h.fits c);
        taken = λ m w. omega (arith, held_more m, returned-sum m w last s.id s.inflight, sums-without (count_m m) (is_id i) t.subs s f, count-plain m s c);
        sorted = g.sorted;
        turn = turn-less t.rr (length (without (is_id i) t.subs));
        counters = g.counters;
      }

  pub returning-fine : (k : Kind) (N now : ℕ) (i : Id) (last : ℤ) (s : Sub) (t : Dest) → sub_of i t ≡ some s → Fine L U k N t → Fine L U k (N + 512) (returning now s last (drop_sub i t) k)
  unfolding returning
  returning-fine topic N now i last s t f g = fine_more L U topic N (N + 512) _ (omega arith) (drop-fine topic N i s t f g)
  returning-fine queue N now i last s t f g = by-test (is_browser s)
      (λ c. rw c (fine_more L U queue N (N + 512) _ (omega arith) (drop-fine queue N i s t f g)))
      (λ c. rw c (reinsert-fine L U N N now t (with_reserved (t.reserved ++ reserved_from s.id s.inflight) (drop_sub i t)) (returned_from last s.inflight) (back-before N i last s t f c g)))

  leave-at : (k : Kind) (N now : ℕ) (i : Id) (last : ℤ) (t : Dest) (o : Option Sub) → sub_of i t ≡ o → clock_ok now ≡ true → Fine L U k N t → Fine L U k (N + 4096) (remove_at now i last t o).dest
  unfolding remove_at
  leave-at k N now i last t none e h g = fine_more L U k N (N + 4096) t (omega arith) g
  leave-at k N now i last t (some s) e h g = fine_more L U k (N + 512 + 1 + 2048) (N + 4096) _ (omega arith) (kind-fine L U k (N + 512 + 1) now _ (touch-fine L U k (N + 512) now _ h
      (subst⁻¹ (λ (j : Kind). Fine L U k (N + 512) (returning now s last (drop_sub i t) j)) g.kind (returning-fine k N now i last s t e g))))

  pub leave-fine : (k : Kind) (N now : ℕ) (i : Id) (last : ℤ) (t : Dest) → clock_ok now ≡ true → Fine L U k N t → Fine L U k (N + 4096) (remove_sub now i last t).dest
  unfolding remove_sub
  leave-fine k N now i last t h g = leave-at k N now i last t (sub_of i t) refl h g

  -- ---- release

  untx : Inflight → Inflight
  untx i = record { dseq = i.dseq; entry = i.entry; freed = i.freed; tx = false }

  map_same : {B : Type 0} (f : Inflight → B) (l : List Inflight) → ((i : Inflight) → f (untx i) ≡ f i) → map f (map untx l) ≡ map f l
  map_same f [] h = refl
  map_same f (i ∷ l) h = ap (λ x. x ∷ map f (map untx l)) (h i) ∙ ap (λ x. f i ∷ x) (map_same f l h)

  tally-same : (l : List Inflight) → tally (λ i. i.freed) (map untx l) ≡ tally (λ i. i.freed) l
  unfolding untx
  tally-same [] = refl
  tally-same (i ∷ l) = ap (λ x. (whether i.freed then 1 else 0) + x) (tally-same l)

  no_tx-acked : (k : Kind) (s : Sub) → Fit k s → Acked k s (no_tx s)
  unfolding untx
  no_tx-acked k s f = refit k s f (map untx s.inflight) s.freed
      (subst⁻¹ (λ (l : List Entry). Thin (flying s) l) (map_same (λ i. i.entry) s.inflight (λ i. refl)) (thin-refl (flying s)))
      (f.counted ∙ sym (tally-same s.inflight))
      (ap (λ (l : List ℕ). ascending (l ++ s.next_dseq ∷ [])) (map_same (λ i. i.dseq) s.inflight (λ i. refl)) ∙ f.numbered)

  unmark-eased : (k : Kind) (i : Id) (s : Sub) → Eased k 1 s (whether is_id i s then no_tx s else s)
  unmark-eased k i s = by-if (λ (v : Sub). Eased k 1 s v) (is_id i s) (no_tx s) s
      (λ c. acked-eased k s (no_tx s) refl (no_tx-acked k s))
      (λ c. record { id = refl; sane = λ N h. sane-more k N (N + 1) s (omega arith) h; rows = λ f w N h. omega arith; taken = λ q f w N h. omega arith })

  unmark-each : (k : Kind) (N : ℕ) (i : Id) (t : Dest) → Fine L U k N t → Each k 1 N t.subs (unmarked i t).subs
  unmark-each k N i t g = each_map k 1 N (λ s. whether is_id i s then no_tx s else s) t.subs (unmark-eased k i) g.subs

  release-before : (N : ℕ) (i : Id) (t : Dest) → Fine L U queue N t → Before L U N N t (with_reserved (keep (λ h. not (held_by i h)) t.reserved) t) (map redelivered (reserved_of i t))
  release-before N i t g = record {
    was = g;
    kind = g.kind;
    share = refl;
    frame = frame-renewed L U t.rr t.stats t.subs t.pending (keep (λ h. not (held_by i h)) t.reserved) t.idle t g.frame (all_keep (λ h. id_ok h.holder) (λ h. not (held_by i h)) t.reserved g.frame.holders) g.frame.mark;
    few-subs = g.few-subs;
    subs = g.subs;
    ids = g.ids;
    rows = λ f w. omega (arith, held-split f (held_by i) t.reserved, sum-thin f w _ _ (thin-redelivered (reserved_of i t)));
    taken = λ f w. omega (arith, held-split f (held_by i) t.reserved, sum-thin f w _ _ (thin-redelivered (reserved_of i t)));
    sorted = g.sorted;
    turn = g.turn;
    counters = g.counters;
  }

  pub release-some : (k : Kind) (N now : ℕ) (i : Id) (t : Dest) → empty (reserved_of i t) ≡ false → Fine L U k N t →
      Fine L U k (N + 512) (reinsert now (map redelivered (reserved_of i t)) (with_reserved (keep (λ h. not (held_by i h)) t.reserved) t))
  release-some topic N now i t c g = absurd (true≢false (sym (ap (λ l. empty (map (λ h. h.entry) (keep (held_by i) l))) g.once.1) ∙ c))
  release-some queue N now i t c g = reinsert-fine L U N N now t (with_reserved (keep (λ h. not (held_by i h)) t.reserved) t) (map redelivered (reserved_of i t)) (release-before N i t g)

  pub unmark-fine : (k : Kind) (N : ℕ) (i : Id) (t : Dest) → Fine L U k N t → Fine L U k (N + 4096) (unmarked i t)
  unmark-fine k N i t g = fine_more L U k (N + 1) (N + 4096) _ (omega arith) (subs-fine L U k N 1 t t.stats (unmarked i t).subs t.idle g (unmark-each k N i t g) g.frame.mark (under_same N 1 t.stats g.counters))

  pub release-fine : (k : Kind) (N now : ℕ) (i : Id) (t : Dest) → Fine L U k N t → Fine L U k (N + 4096) (return_reserved now i t).dest
  unfolding return_reserved
  release-fine k N now i t g = by-test (empty (reserved_of i t))
      (λ c. rw c (fine_more L U k N (N + 4096) t (omega arith) g))
      (λ c. rw c (fine_more L U k (N + 512 + 2048) (N + 4096) _ (omega arith) (kind-fine L U k (N + 512) now _ (release-some k N now i t c g))))

  -- ---- sweep

  record Sweeps (budget : ℕ) (l : List Entry) (w : Swept) : Type 0 where
    thin : Thin l w.list
    gone : w.gone ≤ budget

  sweeps-at : (budget : ℕ) (l : List Entry) (o : Option Entry) (go : Entry → Swept) → ((e : Entry) → Thin l (go e).list × ((go e).gone ≤ budget)) → Sweeps (suc budget) l (sweep_at l go o)
  unfolding sweep_at
  sweeps-at budget l none go h = record { thin = thin-refl l; gone = omega arith }
  sweeps-at budget l (some e) go h = record { thin = (h e).0; gone = omega (arith, (h e).1) }

  sweeps : (budget now : ℕ) (l : List Entry) → Sweeps budget l (sweep_list budget now l)
  unfolding sweep_list
  sweeps zero now l = record { thin = thin-refl l; gone = omega arith }
  sweeps (suc budget) now l = sweeps-at budget l (soonest now l) (λ e. sweep_list budget now (keep (λ f. not (eqb (Entry.seq f) (Entry.seq e))) l))
      (λ e. let r = sweeps budget now (keep (λ f. not (eqb (Entry.seq f) (Entry.seq e))) l) in (thin-trans _ _ _ (thin-keep (λ f. not (eqb (Entry.seq f) (Entry.seq e))) l) r.thin, r.gone))

  thin-nil : (l : List Entry) → Thin [] l → l ≡ []
  thin-nil l done = refl

  list-thin : (s : Sub) (l : List Entry) → Thin s.tpending l → Thin (rows_of s) (rows_of (with_tpending l s))
  list-thin s l h = thin-append _ _ (thin-refl (flying s)) (thin-append _ _ h (thin-refl (snapshot s)))

  list-fit : (k : Kind) (s : Sub) (l : List Entry) → Thin s.tpending l → Fit k s → Fit k (with_tpending l s)
  list-fit k s l h f = record {
    named = f.named;
    room = f.room;
    selects = f.selects;
    ok = thin-ok _ _ (list-thin s l h) f.ok;
    seen = f.seen;
    apart = thin-distinct _ _ (list-thin s l h) f.apart;
    counted = f.counted;
    numbered = f.numbered;
    sorted = thin-ascending s.tpending l h f.sorted;
    stands = stands k f.stands;
  }
    where
      stands : (j : Kind) → Rattle.definition.specs.Calls.sub_placed s j ≡ true → Rattle.definition.specs.Calls.sub_placed (with_tpending l s) j ≡ true
      stands topic e = e
      stands queue e = ap empty (thin-nil l (subst (λ m. Thin m l) (empty-nil s.tpending e) h))

  list-eased : (k : Kind) (s : Sub) (l : List Entry) → Thin s.tpending l → Eased k 0 s (with_tpending l s)
  unfolding rows_m count_m is_browser
  list-eased k s l h = record {
    id = refl;
    sane = λ N n. sane-more k N (N + 0) (with_tpending l s) (omega arith) (record { fits = list-fit k s l h n.fits; next = n.next; generation = n.generation; pulls = n.pulls });
    rows = λ f w N n. sum-thin f w _ _ (list-thin s l h);
    taken = λ q f w N n. omega arith;
  }

  record SweptAll (k : Kind) (N budget now : ℕ) (l : List Sub) : Type 0 where
    each : Each k 0 N l (sweep_subs budget now l).subs
    gone : (sweep_subs budget now l).gone ≤ budget

  sweep-subs : (k : Kind) (N budget now : ℕ) (l : List Sub) → All (Sane k N) l → SweptAll k N budget now l
  unfolding sweep_subs
  sweep-subs k N budget now [] a = record { each = each_nil k 0 N; gone = omega arith }
  sweep-subs k N budget now (s ∷ l) a =
      let w = sweeps budget now s.tpending in
      let r = sweep-subs k N (budget - (sweep_list budget now s.tpending).gone) now l a.1 in
      record { each = each-cons 0 N l _ (omega arith) a.0 (list-eased k s (sweep_list budget now s.tpending).list w.thin) r.each; gone = omega (arith, w.gone, r.gone) }

  pub sweep-fine : (k : Kind) (N now most : ℕ) (t : Dest) → clock_ok now ≡ true → most ≤ 512 → Fine L U k N t → Fine L U k (N + 4096) (sweep_expired now most t).dest
  unfolding sweep_expired
  sweep-fine k N now most t h m g = by-test (ltb 0 (w.gone + r.gone))
      (λ c. rw c (fine_more L U k (N + 512 + 1) (N + 4096) _ (omega arith) (touch-fine L U k (N + 512) now swept h all-swept)))
      (λ c. rw c (fine_more L U k (N + 512) (N + 4096) swept (omega arith) all-swept))
    where
      w : Swept
      w = sweep_list most (due now t) t.pending

      r : SweptSubs
      r = sweep_subs (most - w.gone) (due now t) t.subs

      swept : Dest
      swept = count (add_expired (w.gone + r.gone)) (with_pending w.list (with_subs r.subs t))

      p : Sweeps most t.pending w
      p = sweeps most (due now t) t.pending

      q : SweptAll k N (most - w.gone) (due now t) t.subs
      q = sweep-subs k N (most - w.gone) (due now t) t.subs g.subs

      wider : Each k 0 N t.subs r.subs → Each k 512 N t.subs r.subs
      wider e = record { ids = e.ids; sane = all_map (Sane k (N + 0)) (Sane k (N + 512)) r.subs (λ s. sane-more k (N + 0) (N + 512) s (omega arith)) e.sane; rows = e.rows; taken = e.taken }

      all-swept : Fine L U k (N + 512) swept
      all-swept = each-fine L U k N 512 t g (t.stats ⊕ add_expired (w.gone + r.gone)) r.subs w.list t.reserved t.idle (wider q.each) (λ f x. omega (arith, sum-thin f x _ _ p.thin))
          (λ e. let o = once-topic k t g.once e in (thin-nil w.list (subst (λ m. Thin m w.list) o.0 p.thin), o.1)) (thin-ascending _ _ p.thin g.sorted) g.frame.holders g.frame.mark
          (under-plus N 512 t.stats (add_expired (w.gone + r.gone)) g.counters (omega (arith, p.gone, q.gone)))

  -- ---- clear

  emptied-shown : (o : Option (List Entry)) → shown (emptied o) ≡ []
  emptied-shown none = refl
  emptied-shown (some l) = refl

  cleared-fit : (k : Kind) (s : Sub) → Fit k s → Fit k (cleared s)
  cleared-fit k s f = record {
    named = f.named;
    room = f.room;
    selects = f.selects;
    ok = ap (all entry_ok) (emptied-shown s.browser);
    seen = f.seen;
    apart = ap (λ l. distinct (seqs l)) (emptied-shown s.browser);
    counted = refl;
    numbered = refl;
    sorted = refl;
    stands = stands k;
  }
    where
      stands : (j : Kind) → Rattle.definition.specs.Calls.sub_placed (cleared s) j ≡ true
      stands queue = refl
      stands topic = ap empty (emptied-shown s.browser)

  cleared-rows : (f : Entry → ℕ) (s : Sub) → rows_m f (cleared s) ≡ 0
  unfolding rows_m
  cleared-rows f s = ap (sum f) (emptied-shown s.browser)

  cleared-eased : (k : Kind) (s : Sub) → Eased k 1 s (cleared s)
  cleared-eased k s = record {
    id = refl;
    sane = λ N n. sane-more k N (N + 1) (cleared s) (omega arith) (record { fits = cleared-fit k s n.fits; next = n.next; generation = n.generation; pulls = n.pulls });
    rows = λ f w N n. omega (arith, cleared-rows f s);
    taken = λ q f w N n. omega (arith, cleared-count f s);
  }

  pub clear-fine : (k : Kind) (N : ℕ) (t : Dest) → Fine L U k N t → Fine L U k (N + 1) (clear t).dest
  unfolding clear
  clear-fine k N t g = each-fine L U k N 1 t g t.stats (map cleared t.subs) [] [] t.idle (each_map k 1 N cleared t.subs (cleared-eased k) g.subs) (λ f w. omega arith) (λ e. (refl, refl)) refl refl g.frame.mark (under_same N 1 t.stats g.counters)
