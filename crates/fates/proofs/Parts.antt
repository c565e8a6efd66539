-- What each call but an acknowledgement and a clear makes of a queue's entries: none comes but by an enqueue, and what goes has expired. Assumes nothing.
use Prim.Native.Nat.{ℕ, ◌+◌, ◌≤◌}
use native.Mathlib.Omega.{arith}
use mathlib.Core.Path.{◌≡◌, refl, ◌∙◌, ap, subst, subst⁻¹}
use mathlib.Core.Bool.{false, not, ◌&&◌}
use mathlib.Core.List.{List, [], ◌∷◌, ◌++◌, map, map-append}
use mathlib.Core.Option.{Option, none, some}
use lib.Dec.{ltb, eqb}
use lib.IntN.{ℤ, pos}
use lib.Signed.{lt_z}
use lib.ListN.{length, length-append}
use Rattle.definition.specs.Base.{whether◌then◌else◌, keep, empty}
use Rattle.definition.specs.Types.{Kind, queue, Id, Entry, Inflight, Sub, Stats, Dest, with_prefetch, with_idle, with_reserved}
use Rattle.definition.specs.Consumer.{expired, selects, is_browser, redelivered, send_null}
use Rattle.definition.specs.Destination.{Out, Answer, is_id, sub_of, put_sub, idle_mark, touch_idle, dispatch, dispatch_by, hold_back, hold_back_all, stored, due, Spec, new_sub, joined, room, prefetch_at, reinsert, held_by, reserved_of, pull_at, pulled, resumed, fired, timeout_at, was_delivered, returned_from, reserved_from, returning, drop_sub, no_tx, unmarked}
use Rattle.definition.specs.Calls.{held}
use Rattle.definition.proofs.Tests.{by-if}
use Rattle.definition.proofs.Lists.{keep-count}
use Rattle.definition.proofs.Sums.{sum, occ, sum-append, held-split}
use Rattle.definition.proofs.Whole.{sums, count_m, queue_sum, sums-without, sums-more}
use Rattle.definition.proofs.Own.{pulling-sub}
use Rattle.definition.proofs.Dispatch.{count-browser, count-plain, cursor-count}
use Rattle.definition.proofs.Reach.{back-all}
use Rattle.definition.proofs.Join.{by_bool, new-count}
use Rattle.fates.proofs.Measures.{Steady, occ-steady, sum-split, insert-sum, insert_all-sum, sums-put, sums-map, count_same}
use Rattle.fates.proofs.Dispatch.{alive, all-late, Late, Copies, dispatch-late}

-- u is t with the entries b come, n of them enqueued, and some gone; where H holds, all of these had expired
pub record Expires (H : Type 0) (now n : ℕ) (b : List Entry) (t u : Dest) : Type 0 where
  pub gone : List Entry
  pub sums : (f : Entry → ℕ) → Steady f → queue_sum f t + sum f b ≡ queue_sum f u + sum f gone
  pub late : H → sum (alive now) gone ≡ 0
  pub enqueued : u.stats.enqueued ≡ t.stats.enqueued + n
  pub dequeued : u.stats.dequeued ≡ t.stats.dequeued
  pub discarded : u.stats.discarded ≡ t.stats.discarded
  pub expired : u.stats.expired ≡ t.stats.expired + length gone

-- the same entries and counters
pub alike : (H : Type 0) (now : ℕ) (t u : Dest) → ((f : Entry → ℕ) → Steady f → queue_sum f t ≡ queue_sum f u) → u.stats ≡ t.stats → Expires H now 0 [] t u
alike H now t u h c = record {
  gone = [];
  sums = λ f w. omega (arith, h f w);
  late = λ z. refl;
  enqueued = omega (arith, ap (λ (x : Stats). x.enqueued) c);
  dequeued = ap (λ (x : Stats). x.dequeued) c;
  discarded = ap (λ (x : Stats). x.discarded) c;
  expired = omega (arith, ap (λ (x : Stats). x.expired) c);
}

pub then-expires : {H K : Type 0} (now m n k : ℕ) (b c d : List Entry) (t u v : Dest) → m + n ≡ k → ((f : Entry → ℕ) → sum f d ≡ sum f b + sum f c) → Expires H now m b t u → Expires K now n c u v → (H → K) → Expires H now k d t v
then-expires now m n k b c d t u v z s x y h = record {
  gone = x.gone ++ y.gone;
  sums = λ f w. omega (arith, s f, x.sums f w, y.sums f w, sum-append f x.gone y.gone);
  late = λ a. omega (arith, x.late a, y.late (h a), sum-append (alive now) x.gone y.gone);
  enqueued = omega (arith, x.enqueued, y.enqueued);
  dequeued = omega (arith, x.dequeued, y.dequeued);
  discarded = omega (arith, x.discarded, y.discarded);
  expired = omega (arith, x.expired, y.expired, length-append x.gone y.gone);
}

-- the idle mark apart
pub idle-expires : {H : Type 0} (now n : ℕ) (b : List Entry) (t u : Dest) (i : Option ℕ) → Expires H now n b t u → Expires H now n b t (with_idle i u)
idle-expires now n b t u i x = record { gone = x.gone; sums = x.sums; late = x.late; enqueued = x.enqueued; dequeued = x.dequeued; discarded = x.discarded; expired = x.expired }

-- a property of all idle marks
pub touched {ℓ} : (P : Dest → Type ℓ) (now : ℕ) (t : Dest) → ((i : Option ℕ) → P (with_idle i t)) → P (touch_idle now t)
unfolding touch_idle
touched P now t h = by-if P (empty t.pending && (empty t.subs && empty t.producers)) (with_idle (idle_mark now t.idle) t) (with_idle none t) (λ c. h (idle_mark now t.idle)) (λ c. h none)

-- ---- dispatch

pub late-expires : {H : Type 0} (now : ℕ) (t u : Dest) → Late H now t u → Expires H now 0 [] t u
late-expires now t u x = record { gone = x.gone; sums = λ f w. omega (arith, x.sums f); late = x.late; enqueued = omega (arith, x.tells.enqueued); dequeued = x.tells.dequeued; discarded = x.tells.discarded; expired = x.tells.expired }

abbrev pub Seen : ℕ → Dest → Type 0
Seen now t = Copies now t.subs t.pending

dispatch-expires : (now k : ℕ) (t : Dest) → t.kind ≡ queue → due now t ≡ k → Expires (Seen k t) k 0 [] t (dispatch now t).dest
unfolding dispatch_by
dispatch-expires now k t q d = subst (λ k. Expires (Seen k t) k 0 [] t (dispatch now t).dest) d
    (subst⁻¹ (λ (j : Kind). Expires (Seen (due now t) t) (due now t) 0 [] t (dispatch_by (due now t) t j).dest) q (late-expires (due now t) t _ (dispatch-late (due now t) t)))

-- a part by the clock k, and then the dispatch of a call whose clock comes to it
pub served : {H : Type 0} (now k n : ℕ) (b : List Entry) (t u : Dest) → u.kind ≡ queue → due now u ≡ k → Expires H k n b t u → (H → Seen k u) → Expires H k n b t (dispatch now u).dest
served now k n b t u q d x h = then-expires k n 0 n b [] b t u _ (omega arith) (λ f. omega arith) x (dispatch-expires now k u q d) h

-- ---- enqueue

hold_back-same : (f : Entry → ℕ) (q : ℕ) (l : List Sub) → sums (count_m f) (map (hold_back q) l) ≡ sums (count_m f) l
hold_back-same f q l = sums-map (count_m f) (hold_back q) l (λ s. cursor-count f _ s)

pub stored-expires : (H : Type 0) (now : ℕ) (e : Entry) (t : Dest) → sum (occ e.seq) t.pending ≡ 0 → Expires H now 1 (e ∷ []) t (stored e t)
stored-expires H now e t z = record {
  gone = [];
  sums = λ f w. omega (arith, insert-sum f e t.pending z, hold_back-same f e.seq t.subs);
  late = λ h. refl;
  enqueued = refl;
  dequeued = omega arith;
  discarded = omega arith;
  expired = omega arith;
}

-- ---- join

pub joined-expires : (H : Type 0) (now : ℕ) (p : Spec) (t : Dest) → Expires H (due now t) 0 [] t (joined now p t)
joined-expires H now p t = by-if (λ (u : Dest). Expires H k 0 [] t (with_idle none u)) p.browser _ _
    (λ c. record {
      gone = keep (expired (pos k)) t.pending;
      sums = λ f w. omega (arith, sum-split f (expired (pos k)) t.pending, sums-more (count_m f) t.subs (new_sub p (some shows)), new-count f p (some shows));
      late = λ h. all-late k t.pending;
      enqueued = omega arith;
      dequeued = omega arith;
      discarded = omega arith;
      expired = omega (arith, keep-count (expired (pos k)) t.pending);
    })
    (λ c. alike H k t _ (λ f w. omega (arith, sums-more (count_m f) t.subs (new_sub p none), new-count f p none)) refl)
  where
    k : ℕ
    k = due now t

    shows : List Entry
    shows = keep (λ e. selects e.match_word p.selector) (keep (λ e. not (expired (pos k) e)) t.pending)

-- ---- one consumer, with the same entries in flight

pub put-expires : (H : Type 0) (now : ℕ) (i : Id) (s v : Sub) (t : Dest) → sub_of i t ≡ some s → ((f : Entry → ℕ) → count_m f v ≡ count_m f s) → Expires H now 0 [] t (put_sub i v t)
put-expires H now i s v t e h = alike H now t (put_sub i v t) (λ f w. omega (arith, sums-put (count_m f) (is_id i) t.subs s v e, h f)) refl

pub null-same : (f : Entry → ℕ) (s : Sub) → count_m f (send_null s) ≡ count_m f s
unfolding count_m is_browser
null-same f s = refl

pub pulling-same : (f : Entry → ℕ) (s : Sub) → count_m f (pulling-sub s) ≡ count_m f s
unfolding count_m is_browser
pulling-same f s = refl

pub prefetch-same : (f : Entry → ℕ) (k : ℕ) (s : Sub) → count_m f (with_prefetch k s) ≡ count_m f s
unfolding count_m is_browser
prefetch-same f k s = refl

pub prefetch-expires : (H : Type 0) (now : ℕ) (i : Id) (p : ℤ) (t : Dest) (o : Option Sub) → sub_of i t ≡ o → Expires H now 0 [] t (prefetch_at i p t o)
prefetch-expires H now i p t none e = alike H now t t (λ f w. refl) refl
prefetch-expires H now i p t (some s) e = put-expires H now i s (with_prefetch (room p) s) t e (λ f. prefetch-same f (room p) s)

fired-expires : (H : Type 0) (now : ℕ) (i : Id) (generation : ℕ) (s : Sub) (t : Dest) (o : Option ℕ) → sub_of i t ≡ some s → Expires H now 0 [] t (fired i generation s t o).dest
unfolding fired
fired-expires H now i generation s t none e = alike H now t t (λ f w. refl) refl
fired-expires H now i generation s t (some g) e = by-if (λ (r : Out). Expires H now 0 [] t r.dest) (eqb g generation) _ _
    (λ c. put-expires H now i s (send_null s) t e (λ f. null-same f s))
    (λ c. alike H now t t (λ f w. refl) refl)

pub timeout-expires : (H : Type 0) (now : ℕ) (i : Id) (generation : ℕ) (t : Dest) (o : Option Sub) → sub_of i t ≡ o → Expires H now 0 [] t (timeout_at i generation t o).dest
unfolding timeout_at
timeout-expires H now i generation t none e = alike H now t t (λ f w. refl) refl
timeout-expires H now i generation t (some s) e = fired-expires H now i generation s t s.pull e

pulled-expires : (H : Type 0) (now : ℕ) (i : Id) (timeout : ℤ) (s : Sub) (r : Out) (o : Option ℕ) → sub_of i r.dest ≡ some s → Expires H now 0 [] r.dest (pulled i timeout s r o).dest
unfolding pulled
pulled-expires H now i timeout s r none e = alike H now r.dest r.dest (λ f w. refl) refl
pulled-expires H now i timeout s r (some g) e = by-if (λ (x : Answer). Expires H now 0 [] r.dest x.dest) (lt_z timeout (pos 0)) _ _
    (λ c. put-expires H now i s (send_null s) r.dest e (λ f. null-same f s))
    (λ c. by-if (λ (x : Answer). Expires H now 0 [] r.dest x.dest) (lt_z (pos 0) timeout) _ _ (λ d. alike H now r.dest r.dest (λ f w. refl) refl) (λ d. alike H now r.dest r.dest (λ f w. refl) refl))

resumed-expires : (H : Type 0) (now : ℕ) (i : Id) (timeout : ℤ) (r : Out) (o : Option Sub) → sub_of i r.dest ≡ o → Expires H now 0 [] r.dest (resumed i timeout r o).dest
unfolding resumed
resumed-expires H now i timeout r none e = alike H now r.dest r.dest (λ f w. refl) refl
resumed-expires H now i timeout r (some s) e = pulled-expires H now i timeout s r s.pull e

pub pull-expires : (H : Type 0) (now : ℕ) (i : Id) (timeout : ℤ) (t : Dest) (o : Option Sub) → t.kind ≡ queue → sub_of i t ≡ o → (H → (s : Sub) → sub_of i t ≡ some s → Seen (due now t) (put_sub i (pulling-sub s) t)) → Expires H (due now t) 0 [] t (pull_at now i timeout t o).dest
unfolding pull_at
pull-expires H now i timeout t none k e h = alike H _ t t (λ f w. refl) refl
pull-expires H now i timeout t (some s) k e h = by-if (λ (x : Answer). Expires H (due now t) 0 [] t x.dest) (ltb 0 s.prefetch) _ _
    (λ c. alike H _ t t (λ f w. refl) refl)
    (λ c. then-expires (due now t) 0 0 0 [] [] [] t (dispatch now v).dest _ refl (λ f. refl)
    (served now (due now t) 0 [] t v k refl (put-expires H _ i s (pulling-sub s) t e (λ f. pulling-same f s)) (λ z. h z s e))
    (resumed-expires H _ i timeout (dispatch now v) (sub_of i (dispatch now v).dest) refl) (λ z. z))
  where
    v : Dest
    v = put_sub i (pulling-sub s) t

-- ---- entries that return

back_count : (f : Entry → ℕ) (l : List Entry) (s : Sub) → count_m f (hold_back_all l s) ≡ count_m f s
back_count f l s = let r = back-all l s in ap (count_m f) r.2 ∙ cursor-count f r.0 s

-- d is t without the entries es, which return
pub record Taken (t d : Dest) (es : List Entry) : Type 0 where
  pub sums : (f : Entry → ℕ) → Steady f → queue_sum f t ≡ queue_sum f d + sum f es
  pub stats : d.stats ≡ t.stats

pub returns : (H : Type 0) (now : ℕ) (t d : Dest) (es : List Entry) → ((x : ℕ) → queue_sum (occ x) t ≤ 1) → Taken t d es → Expires H (due now d) 0 [] t (reinsert now es d)
unfolding reinsert
returns H now t d es o k = record {
  gone = keep (expired (pos (due now d))) es;
  sums = λ f w. omega (arith, k.sums f w, sum-split f (expired (pos (due now d))) es, insert_all-sum f live d.pending apart, sums-map (count_m f) (hold_back_all live) d.subs (back_count f live));
  late = λ h. all-late (due now d) es;
  enqueued = omega (arith, ap (λ (x : Stats). x.enqueued) k.stats);
  dequeued = omega (arith, ap (λ (x : Stats). x.dequeued) k.stats);
  discarded = omega (arith, ap (λ (x : Stats). x.discarded) k.stats);
  expired = omega (arith, ap (λ (x : Stats). x.expired) k.stats, keep-count (expired (pos (due now d))) es);
}
  where
    live : List Entry
    live = keep (λ e. not (expired (pos (due now d)) e)) es

    apart : (x : ℕ) → sum (occ x) live + sum (occ x) d.pending ≤ 1
    apart x = omega (arith, o x, k.sums (occ x) (occ-steady x), sum-split (occ x) (expired (pos (due now d))) es)

-- ---- leave

returned-sum : (f : Entry → ℕ) → Steady f → (last : ℤ) (j : Id) (l : List Inflight) → sum f (returned_from last l) + sum f (map (λ h. h.entry) (reserved_from j l)) ≡ sum f (map (λ i. i.entry) l)
returned-sum f w last j [] = refl
returned-sum f w last j (i ∷ l) = by_bool
    (λ b. sum f (whether b then returned_from last l else (whether was_delivered last i.entry then redelivered i.entry else i.entry) ∷ returned_from last l)
    + sum f (map (λ h. h.entry) (whether b then record { holder = j; entry = i.entry } ∷ reserved_from j l else reserved_from j l)) ≡ f i.entry + sum f (map (λ i. i.entry) l))
    (omega (arith, returned-sum f w last j l))
    (omega (arith, returned-sum f w last j l, again))
    i.tx
  where
    again : f (whether was_delivered last i.entry then redelivered i.entry else i.entry) ≡ f i.entry
    again = by-if (λ (e : Entry). f e ≡ f i.entry) (was_delivered last i.entry) (redelivered i.entry) i.entry (λ c. w i.entry) (λ c. refl)

left-taken : (i : Id) (last : ℤ) (s : Sub) (t : Dest) → sub_of i t ≡ some s → is_browser s ≡ false → Taken t (with_reserved (t.reserved ++ reserved_from s.id s.inflight) (drop_sub i t)) (returned_from last s.inflight)
left-taken i last s t e c = record {
  sums = λ f w. omega (arith, held_more f, returned-sum f w last s.id s.inflight, sums-without (count_m f) (is_id i) t.subs s e, count-plain f s c);
  stats = refl;
}
  where
    held_more : (f : Entry → ℕ) → sum f (map (λ h. h.entry) (t.reserved ++ reserved_from s.id s.inflight)) ≡ sum f (held t) + sum f (map (λ h. h.entry) (reserved_from s.id s.inflight))
    held_more f = ap (sum f) (map-append (λ h. h.entry) t.reserved (reserved_from s.id s.inflight)) ∙ sum-append f (held t) (map (λ h. h.entry) (reserved_from s.id s.inflight))

pub returning-expires : (H : Type 0) (now : ℕ) (i : Id) (last : ℤ) (s : Sub) (t : Dest) (k : Kind) → k ≡ queue → ((x : ℕ) → queue_sum (occ x) t ≤ 1) → sub_of i t ≡ some s → Expires H (due now t) 0 [] t (returning now s last (drop_sub i t) k)
unfolding returning
returning-expires H now i last s t k q o e = subst⁻¹ (λ (j : Kind). Expires H (due now t) 0 [] t (returning now s last (drop_sub i t) j)) q on_queue
  where
    on_queue : Expires H (due now t) 0 [] t (returning now s last (drop_sub i t) queue)
    on_queue = by-if (λ (u : Dest). Expires H (due now t) 0 [] t u) (is_browser s) (drop_sub i t) _
        (λ c. alike H _ t (drop_sub i t) (λ f w. omega (arith, sums-without (count_m f) (is_id i) t.subs s e, count-browser f s c)) refl)
        (λ c. returns H now t _ _ o (left-taken i last s t e c))

-- ---- release

no-tx : Inflight → Inflight
no-tx i = record { dseq = i.dseq; entry = i.entry; freed = i.freed; tx = false }

unmarked-count : (f : Entry → ℕ) (i : Id) (s : Sub) → count_m f (whether is_id i s then no_tx s else s) ≡ count_m f s
unfolding is_browser no-tx
unmarked-count f i s = by-if (λ (v : Sub). count_m f v ≡ count_m f s) (is_id i s) (no_tx s) s
    (λ c. count_same f s (no_tx s) refl (flown s.inflight))
    (λ c. refl)
  where
    flown : (l : List Inflight) → sum f (map (λ i. i.entry) (map no-tx l)) ≡ sum f (map (λ i. i.entry) l)
    flown [] = refl
    flown (x ∷ l) = omega (arith, flown l)

redelivered-sum : (f : Entry → ℕ) → Steady f → (l : List Entry) → sum f (map redelivered l) ≡ sum f l
redelivered-sum f w [] = refl
redelivered-sum f w (e ∷ l) = omega (arith, w e, redelivered-sum f w l)

unmarked-sum : (f : Entry → ℕ) (i : Id) (t : Dest) → sums (count_m f) (unmarked i t).subs ≡ sums (count_m f) t.subs
unmarked-sum f i t = sums-map (count_m f) (λ s. whether is_id i s then no_tx s else s) t.subs (unmarked-count f i)

pub unmarked-expires : (H : Type 0) (now : ℕ) (i : Id) (t : Dest) → Expires H now 0 [] t (unmarked i t)
unmarked-expires H now i t = alike H now t (unmarked i t) (λ f w. omega (arith, unmarked-sum f i t)) refl

pub released-expires : (H : Type 0) (now : ℕ) (i : Id) (t : Dest) → ((x : ℕ) → queue_sum (occ x) t ≤ 1) → Expires H (due now t) 0 [] t (reinsert now (map redelivered (reserved_of i t)) (with_reserved (keep (λ h. not (held_by i h)) t.reserved) t))
released-expires H now i t o = returns H now t _ _ o (record { sums = λ f w. omega (arith, held-split f (held_by i) t.reserved, redelivered-sum f w (reserved_of i t)); stats = refl })
