-- The parts of each call keep a sound state. Assumes nothing.
use Prim.Native.Nat.{ℕ, ◌+◌, ◌≤◌, ◌^◌}
use native.Mathlib.Omega.{arith}
use mathlib.Core.Path.{◌≡◌, refl, sym, ◌∙◌, ap, subst⁻¹}
use mathlib.Core.Bool.{Bool, true, not, ◌&&◌, ◌||◌}
use mathlib.Core.List.{List, [], ◌∷◌, map}
use mathlib.Core.Option.{Option, none, some}
use lib.Dec.{leb, ltb, eqb}
use lib.IntN.{ℤ, pos}
use lib.Signed.{lt_z}
use lib.ListN.{length, length-map}
use borrow.Author.Tests.{le-leb}
use Rattle.definition.specs.Base.{keep, all, find, put, empty, ascending}
use Rattle.definition.specs.Types.{Kind, queue, topic, Id, Entry, Sub, Stats, Held, Dest, with_prefetch, with_stats, with_idle}
use Rattle.definition.specs.Consumer.{◌⊕◌, is_browser, send_null, Ack, AckType, Delivered, Poison, Standard, Redelivered, Individual, Unmatched, Expired, Other, ack_type, ack_sub}
use Rattle.definition.specs.Destination.{Out, count, is_id, sub_of, put_sub, room, idle_mark, touch_idle, dispatch, dispatch_by, ack, ack_at, ack_reserved, reserved_hit, reserved_counts, held_by, reserved_of, pull, pull_at, pulled, resumed, fired, timeout_at, pull_timeout, set_prefetch, prefetch_at, due}
use Rattle.definition.specs.Calls.{id_ok, signed_within, optional, clock_ok, seqs, flying, held, distinct_ids, Request, acknowledge, pulling, timed_out, prefetching, request_ok, ack_ok, ask}
use Rattle.definition.proofs.Tests.{if-true, if-false, by-if, by-test, and_left, and_right}
use Rattle.definition.proofs.Lists.{none-some, some_inj, All, keep-length, all_keep}
use Rattle.definition.proofs.Thin.{Thin, tally-length}
use Rattle.definition.proofs.Sums.{sum, Tame, one, bad, one-tame, bad-tame, sum-thin, sum_one}
use Rattle.definition.proofs.Fit.{Waits, Fit, Acked, ack-acked, null-fit, total}
use Rattle.definition.proofs.Own.{ack-id, pulling-sub}
use Rattle.definition.proofs.Grown.{ack-total, prefetch-fit, pulling-fit}
use Rattle.definition.proofs.Whole.{sums, rows_m, count_m, rows_sum, queue_sum, Sane, sane-more, Under, under_more, Once, Frame, Fine, fine_more}
use Rattle.definition.proofs.Each.{Eased, Each, each-refl, each-put, each-fine, renewed, agree_less, shared-less, thin-once}
use Rattle.definition.proofs.Dispatch.{not-topic, under-plus, dispatch-fine, rows-parts}

-- a topic has nothing waiting and nothing reserved
pub once-topic : (k : Kind) (t : Dest) → Once k t → k ≡ topic → (t.pending ≡ []) × (t.reserved ≡ [])
once-topic topic t h e = h
once-topic queue t h e = absurd (not-topic e)

pub fine-from : (L U : ℕ) (k : Kind) (N K : ℕ) (t u : Dest) → Fine L U k N t → u.kind ≡ k → u.share ≡ t.share → Frame L U u → length u.subs ≤ 32 → All (Sane k K) u.subs → distinct_ids u.subs ≡ true →
    ((f : Entry → ℕ) → Tame f → rows_sum f u ≤ rows_sum f t) → (k ≡ queue → (f : Entry → ℕ) → Tame f → queue_sum f u ≤ queue_sum f t) → (k ≡ topic → (u.pending ≡ []) × (u.reserved ≡ [])) →
    ascending (seqs u.pending) ≡ true → (ltb u.rr (length u.subs) || eqb u.rr 0) ≡ true → Under K u.stats → Fine L U k K u
fine-from L U k N K t u g a v b c d e r q n o w y = record {
  kind = a;
  frame = b;
  few-subs = c;
  subs = d;
  ids = e;
  rows = omega (arith, r one one-tame, g.rows);
  ok = omega (arith, r bad bad-tame, g.ok);
  once = thin-once k t u g.once q n;
  agree = agree_less t u g.agree r;
  shared = shared-less k t u v g.shared r q;
  sorted = o;
  turn = w;
  counters = y;
}

-- ---- consumers changed

pub eased-plain : (k : Kind) (x : ℕ) (s v : Sub) → v.id ≡ s.id → (Fit k s → Fit k v) → v.next_dseq ≤ s.next_dseq + x → v.generation ≤ s.generation + x → ((N : ℕ) → Sane k N s → Waits (N + x) v) →
    ((f : Entry → ℕ) → Tame f → rows_m f v ≤ rows_m f s) → ((f : Entry → ℕ) → Tame f → count_m f v ≤ count_m f s) → Eased k x s v
eased-plain k x s v i f n g w r q = record {
  id = i;
  sane = λ N h. record { fits = f h.fits; next = omega (arith, n, h.next); generation = omega (arith, g, h.generation); pulls = w N h };
  rows = λ f t N h. r f t;
  taken = λ e f t N h. q f t;
}

null-eased : (k : Kind) (s : Sub) → Eased k 1 s (send_null s)
unfolding rows_m count_m is_browser
null-eased k s = eased-plain k 1 s (send_null s) refl (null-fit k s) (omega arith) (omega arith) (λ N h. refl) (λ f t. omega arith) (λ f t. omega arith)

pulling-eased : (k : Kind) (s : Sub) → Eased k 1 s (pulling-sub s)
unfolding rows_m count_m is_browser
pulling-eased k s = eased-plain k 1 s (pulling-sub s) refl (pulling-fit k s) (omega arith) (omega arith) (λ N h. le-leb (s.generation + 1) (N + 1) (omega (arith, h.generation))) (λ f t. omega arith) (λ f t. omega arith)

prefetch-eased : (k : Kind) (p : ℤ) (s : Sub) → signed_within (2 ^ 31) p ≡ true → Eased k 1 s (with_prefetch (room p) s)
unfolding rows_m count_m is_browser
prefetch-eased k p s h = eased-plain k 1 s (with_prefetch (room p) s) refl (prefetch-fit k p s h) (omega arith) (omega arith) (λ N n. (sane-more k N (N + 1) s (omega arith) n).pulls) (λ f t. omega arith) (λ f t. omega arith)

acked-count : (f : Entry → ℕ) → Tame f → (s v : Sub) → is_browser v ≡ is_browser s → Thin (flying s) (flying v) → count_m f v ≤ count_m f s
unfolding count_m
acked-count f t s v b h = by-test (is_browser s) (λ c. rw (b, c) (omega arith)) (λ c. rw (b, c) (sum-thin f t _ _ h))

pub acked-eased : (k : Kind) (s v : Sub) → v.id ≡ s.id → (Fit k s → Acked k s v) → Eased k 1 s v
unfolding rows_m
acked-eased k s v i a = record {
  id = i;
  sane = λ N h. let p = a h.fits in record {
    fits = p.less.still;
    next = omega (arith, p.next, h.next);
    generation = omega (arith, p.generation, h.generation);
    pulls = subst⁻¹ (λ (o : Option ℕ). optional (λ g. leb g (N + 1)) o ≡ true) p.pull (sane-more k N (N + 1) s (omega arith) h).pulls;
  };
  rows = λ f t N h. sum-thin f t _ _ (a h.fits).less.rows;
  taken = λ e f t N h. let p = a h.fits in acked-count f t s v p.browser p.flight;
}

ack-eased : (k : Kind) (a : Ack) (s : Sub) → Eased k 1 s (ack_sub a s).sub
ack-eased k a s = acked-eased k s (ack_sub a s).sub (ack-id a s) (λ f. ack-acked k a s f)

-- ---- the destination

pub under_same : (N x : ℕ) (c : Stats) → Under N c → Under (N + x) c
under_same N x c u = under_more N (N + x) c (omega arith) u

marked-ok : (now : ℕ) (o : Option ℕ) → clock_ok now ≡ true → optional clock_ok o ≡ true → optional clock_ok (idle_mark now o) ≡ true
marked-ok now none h g = h
marked-ok now (some k) h g = g

module _ (L U : ℕ) (k : Kind) where
  -- the consumers as they are
  pub keep-fine : (N x : ℕ) (t : Dest) (c : Stats) (p : List Entry) (h : List Held) (i : Option ℕ) → Fine L U k N t →
      ((f : Entry → ℕ) → Tame f → sum f p + sum f (map (λ h. h.entry) h) ≤ sum f t.pending + sum f (held t)) →
      (k ≡ topic → (p ≡ []) × (h ≡ [])) → ascending (seqs p) ≡ true → all (λ h. id_ok h.holder) h ≡ true → optional clock_ok i ≡ true → Under (N + x) c →
      Fine L U k (N + x) (renewed t.rr c t.subs p h i t)
  keep-fine N x t c p h i g = each-fine L U k N x t g c t.subs p h i (each-refl k x N t.subs g.subs)

  -- the consumers anew, and what else a consumer's step changes
  pub subs-fine : (N x : ℕ) (t : Dest) (c : Stats) (l : List Sub) (i : Option ℕ) → Fine L U k N t → Each k x N t.subs l → optional clock_ok i ≡ true → Under (N + x) c →
      Fine L U k (N + x) (renewed t.rr c l t.pending t.reserved i t)
  subs-fine N x t c l i g e m u = each-fine L U k N x t g c l t.pending t.reserved i e (λ f w. omega arith) (once-topic k t g.once) g.sorted g.frame.holders m u

  pub idle-fine : (N : ℕ) (t : Dest) (i : Option ℕ) → optional clock_ok i ≡ true → Fine L U k N t → Fine L U k (N + 1) (with_idle i t)
  idle-fine N t i h g = keep-fine N 1 t t.stats t.pending t.reserved i g (λ f w. omega arith) (once-topic k t g.once) g.sorted g.frame.holders h (under_same N 1 t.stats g.counters)

  pub touch-fine : (N now : ℕ) (t : Dest) → clock_ok now ≡ true → Fine L U k N t → Fine L U k (N + 1) (touch_idle now t)
  unfolding touch_idle
  touch-fine N now t h g = by-test (empty t.pending && (empty t.subs && empty t.producers))
      (λ c. rw c (idle-fine N t (idle_mark now t.idle) (marked-ok now t.idle h g.frame.mark) g))
      (λ c. rw c (idle-fine N t none refl g))

  pub put-fine : (N x : ℕ) (i : Id) (s v : Sub) (c : Stats) (t : Dest) → sub_of i t ≡ some s → Eased k x s v → Under (N + x) c → Fine L U k N t → Fine L U k (N + x) (with_stats c (put_sub i v t))
  put-fine N x i s v c t f e u g = subs-fine N x t c (put (is_id i) v t.subs) t.idle g (each-put k x N (is_id i) t.subs s v f e g.subs) g.frame.mark u

  pub count-fine : (N x : ℕ) (c : Stats) (t : Dest) → total c ≤ x → Fine L U k N t → Fine L U k (N + x) (count c t)
  count-fine N x c t h g = keep-fine N x t (t.stats ⊕ c) t.pending t.reserved t.idle g (λ f w. omega arith) (once-topic k t g.once) g.sorted g.frame.holders g.frame.mark (under-plus N x t.stats c g.counters h)

  pub kind-fine : (N now : ℕ) (t : Dest) → Fine L U k N t → Fine L U k (N + 2048) (dispatch now t).dest
  kind-fine N now t g = subst⁻¹ (λ (j : Kind). Fine L U k (N + 2048) (dispatch_by (due now t) t j).dest) g.kind (dispatch-fine L U k N (due now t) t g)

  -- ---- reserved entries that an acknowledgement takes

  held-keep : (f : Entry → ℕ) (p : Held → Bool) (l : List Held) → sum f (map (λ h. h.entry) (keep p l)) ≤ sum f (map (λ h. h.entry) l)
  held-keep f p [] = omega arith
  held-keep f p (h ∷ l) = by-test (p h) (λ c. rw c (omega (arith, held-keep f p l))) (λ c. rw c (omega (arith, held-keep f p l)))

  reserved-total : (y : AckType) (l : List Entry) → total (reserved_counts l y) ≤ length l
  unfolding reserved_counts
  reserved-total Poison l = omega (arith, tally-length (λ e. not e.persistent) l)
  reserved-total Expired l = omega arith
  reserved-total Standard l = omega arith
  reserved-total Unmatched l = omega arith
  reserved-total Individual l = omega arith
  reserved-total Delivered l = omega arith
  reserved-total Redelivered l = omega arith
  reserved-total Other l = omega arith

  keep-nil : {A : Type 0} (p : A → Bool) (l : List A) → l ≡ [] → keep p l ≡ []
  keep-nil p l h = ap (keep p) h

  pub few-reserved : (N : ℕ) (t : Dest) → Fine L U k N t → length t.reserved ≤ 512
  few-reserved N t g = omega (arith, g.rows, sum_one (held t), length-map t.reserved (λ h. h.entry))

  pub reserved-fine : (N : ℕ) (i : Id) (a : Ack) (t : Dest) (o : Option ℕ) → Fine L U k N t → Fine L U k (N + 512) (ack_reserved i a t o).dest
  unfolding ack_reserved
  reserved-fine N i a t none g = fine_more L U k N (N + 512) t (omega arith) g
  reserved-fine N i a t (some last) g =
      let y = ack_type a.type in
      let taken = keep (λ e. reserved_hit a.first last e (ack_type a.type)) (reserved_of i t) in
      keep-fine N 512 t (t.stats ⊕ reserved_counts taken (ack_type a.type)) t.pending (keep (λ h. not (held_by i h && reserved_hit a.first last h.entry (ack_type a.type))) t.reserved) t.idle g
      (λ f w. omega (arith, held-keep f (λ h. not (held_by i h && reserved_hit a.first last h.entry (ack_type a.type))) t.reserved))
      (λ e. let n = once-topic k t g.once e in (n.0, keep-nil _ t.reserved n.1))
      g.sorted (all_keep (λ h. id_ok h.holder) (λ h. not (held_by i h && reserved_hit a.first last h.entry (ack_type a.type))) t.reserved g.frame.holders) g.frame.mark
      (under-plus N 512 t.stats (reserved_counts taken (ack_type a.type)) g.counters
      (omega (arith, reserved-total (ack_type a.type) taken, keep-length (λ e. reserved_hit a.first last e (ack_type a.type)) (reserved_of i t), length-map (keep (held_by i) t.reserved) (λ h. h.entry), keep-length (held_by i) t.reserved, few-reserved N t g)))

  -- ---- codes 4 to 7

  found_rows : (g : Sub → ℕ) (p : Sub → Bool) (l : List Sub) (s : Sub) → find p l ≡ some s → g s ≤ sums g l
  found_rows g p [] s f = absurd (none-some f)
  found_rows g p (c ∷ l) s f = by-test (p c)
      (λ e. omega (arith, ap g (some_inj (sym (if-true (some c) (find p l) e) ∙ f))))
      (λ e. omega (arith, found_rows g p l s (sym (if-false (some c) (find p l) e) ∙ f)))

  few-flying : (N : ℕ) (i : Id) (s : Sub) (t : Dest) → Fine L U k N t → sub_of i t ≡ some s → length s.inflight ≤ 512
  few-flying N i s t g f = omega (arith, g.rows, found_rows (rows_m one) (is_id i) t.subs s f, rows-parts s, length-map s.inflight (λ i. i.entry))

  -- the consumer after its acknowledgement, before the dispatch
  pub acked-fine : (N : ℕ) (i : Id) (a : Ack) (s : Sub) (t : Dest) → sub_of i t ≡ some s → Fine L U k N t → Fine L U k (N + 513) (count (ack_sub a s).counts (put_sub i (ack_sub a s).sub t))
  acked-fine N i a s t e g =
      put-fine N 513 i s (ack_sub a s).sub (t.stats ⊕ (ack_sub a s).counts) t e (more (ack-eased k a s))
      (under-plus N 513 t.stats (ack_sub a s).counts g.counters (omega (arith, ack-total a s, few-flying N i s t g e))) g
    where
      more : Eased k 1 s (ack_sub a s).sub → Eased k 513 s (ack_sub a s).sub
      more e = record { id = e.id; sane = λ N n. sane-more k (N + 1) (N + 513) _ (omega arith) (e.sane N n); rows = e.rows; taken = e.taken }

  ack-fine : (N now : ℕ) (i : Id) (a : Ack) (t : Dest) (o : Option Sub) → clock_ok now ≡ true → sub_of i t ≡ o → Fine L U k N t → Fine L U k (N + 4096) (ack_at now i a t o).dest
  unfolding ack_at
  ack-fine N now i a t none h e g = by-if (λ (r : Out). Fine L U k (N + 4096) r.dest) (a.transacted || empty (reserved_of i t)) _ _
      (λ c. fine_more L U k N (N + 4096) t (omega arith) g)
      (λ c. fine_more L U k (N + 512 + 1 + 2048) (N + 4096) _ (omega arith) (kind-fine (N + 512 + 1) now _ (touch-fine (N + 512) now _ h (reserved-fine N i a t a.last g))))
  ack-fine N now i a t (some s) h e g =
      fine_more L U k (N + 513 + 1 + 2048) (N + 4096) _ (omega arith) (kind-fine (N + 513 + 1) now _ (touch-fine (N + 513) now _ h (acked-fine N i a s t e g)))

  null-fine : (N : ℕ) (i : Id) (s : Sub) (t : Dest) → sub_of i t ≡ some s → Fine L U k N t → Fine L U k (N + 1) (put_sub i (send_null s) t)
  null-fine N i s t f g = put-fine N 1 i s (send_null s) t.stats t f (null-eased k s) (under_same N 1 t.stats g.counters) g

  pulled-fine : (N : ℕ) (i : Id) (timeout : ℤ) (s : Sub) (r : Out) (o : Option ℕ) → sub_of i r.dest ≡ some s → Fine L U k N r.dest → Fine L U k (N + 1) (pulled i timeout s r o).dest
  unfolding pulled
  pulled-fine N i timeout s r none f g = fine_more L U k N (N + 1) _ (omega arith) g
  pulled-fine N i timeout s r (some x) f g = by-test (lt_z timeout (pos 0))
      (λ c. rw c (null-fine N i s r.dest f g))
      (λ c. rw c (by-test (lt_z (pos 0) timeout) (λ d. rw d (fine_more L U k N (N + 1) _ (omega arith) g)) (λ d. rw d (fine_more L U k N (N + 1) _ (omega arith) g))))

  resumed-fine : (N : ℕ) (i : Id) (timeout : ℤ) (r : Out) (o : Option Sub) → sub_of i r.dest ≡ o → Fine L U k N r.dest → Fine L U k (N + 1) (resumed i timeout r o).dest
  unfolding resumed
  resumed-fine N i timeout r none e g = fine_more L U k N (N + 1) _ (omega arith) g
  resumed-fine N i timeout r (some s) e g = pulled-fine N i timeout s r s.pull e g

  -- a consumer that has begun to pull, before the dispatch
  pub registered-fine : (N : ℕ) (i : Id) (s : Sub) (t : Dest) → sub_of i t ≡ some s → Fine L U k N t → Fine L U k (N + 1) (put_sub i (pulling-sub s) t)
  registered-fine N i s t e g = put-fine N 1 i s (pulling-sub s) t.stats t e (pulling-eased k s) (under_same N 1 t.stats g.counters) g

  pull-fine : (N now : ℕ) (i : Id) (timeout : ℤ) (t : Dest) (o : Option Sub) → sub_of i t ≡ o → Fine L U k N t → Fine L U k (N + 4096) (pull_at now i timeout t o).dest
  unfolding pull_at
  pull-fine N now i timeout t none e g = fine_more L U k N (N + 4096) t (omega arith) g
  pull-fine N now i timeout t (some s) e g = by-test (ltb 0 s.prefetch)
      (λ c. rw c (fine_more L U k N (N + 4096) t (omega arith) g))
      (λ c. rw c (fine_more L U k (N + 1 + 2048 + 1) (N + 4096) _ (omega arith) (resumed-fine (N + 1 + 2048) i timeout (dispatch now (put_sub i (pulling-sub s) t)) _ refl
      (kind-fine (N + 1) now _ (registered-fine N i s t e g)))))

  fired-fine : (N : ℕ) (i : Id) (generation : ℕ) (s : Sub) (t : Dest) (o : Option ℕ) → sub_of i t ≡ some s → Fine L U k N t → Fine L U k (N + 1) (fired i generation s t o).dest
  unfolding fired
  fired-fine N i generation s t none f g = fine_more L U k N (N + 1) t (omega arith) g
  fired-fine N i generation s t (some x) f g = by-test (eqb x generation) (λ c. rw c (null-fine N i s t f g)) (λ c. rw c (fine_more L U k N (N + 1) t (omega arith) g))

  timeout-fine : (N : ℕ) (i : Id) (generation : ℕ) (t : Dest) (o : Option Sub) → sub_of i t ≡ o → Fine L U k N t → Fine L U k (N + 1) (timeout_at i generation t o).dest
  unfolding timeout_at
  timeout-fine N i generation t none e g = fine_more L U k N (N + 1) t (omega arith) g
  timeout-fine N i generation t (some s) e g = fired-fine N i generation s t s.pull e g

  pub prefetch-fine : (N : ℕ) (i : Id) (p : ℤ) (t : Dest) (o : Option Sub) → signed_within (2 ^ 31) p ≡ true → sub_of i t ≡ o → Fine L U k N t → Fine L U k (N + 1) (prefetch_at i p t o)
  prefetch-fine N i p t none h e g = fine_more L U k N (N + 1) t (omega arith) g
  prefetch-fine N i p t (some s) h e g = put-fine N 1 i s (with_prefetch (room p) s) t.stats t e (prefetch-eased k p s h) (under_same N 1 t.stats g.counters) g

  pub ask-fine : (N : ℕ) (i : Id) (q : Request) (t : Dest) → request_ok q ≡ true → Fine L U k N t → Fine L U k (N + 4096) (ask i t q).dest
  unfolding ask ack pull pull_timeout set_prefetch
  ask-fine N i (acknowledge a now) t h g = ack-fine N now i a t (sub_of i t) (and_right (ack_ok a) (clock_ok now) h) refl g
  ask-fine N i (pulling timeout now) t h g = pull-fine N now i timeout t (sub_of i t) refl g
  ask-fine N i (timed_out generation) t h g = fine_more L U k (N + 1) (N + 4096) _ (omega arith) (timeout-fine N i generation t (sub_of i t) refl g)
  ask-fine N i (prefetching p now) t h g = fine_more L U k (N + 1 + 2048) (N + 4096) _ (omega arith) (kind-fine (N + 1) now _ (prefetch-fine N i p t (sub_of i t) (and_left (signed_within (2 ^ 31) p) _ h) refl g))
