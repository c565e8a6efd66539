-- What a consumer's own call makes of a sound consumer. Assumes nothing.
use Prim.Native.Nat.{ℕ, ◌+◌, ◌≤◌, ◌^◌}
use native.Mathlib.Omega.{arith}
use mathlib.Core.Path.{◌≡◌, refl, ◌∙◌, ap, subst, subst⁻¹}
use mathlib.Core.Bool.{Bool, true, false, not, ◌&&◌}
use mathlib.Core.List.{List, [], ◌++◌, map}
use mathlib.Core.Option.{Option, none, some}
use lib.Dec.{leb, ltb, eqb}
use lib.ListN.{length, length-append, length-map}
use lib.IntN.{ℤ, pos, negsuc}
use lib.Signed.{lt_z}
use borrow.Author.Tests.{le-leb}
use Rattle.definition.specs.Base.{whether◌then◌else◌, tally}
use Rattle.definition.specs.Types.{Kind, queue, topic, Entry, Inflight, Sub, Stats, with_prefetch}
use Rattle.definition.specs.Consumer.{◌⊕◌, add_expired, Step, is_browser, snapshot, send_null, Ack, AckType, Delivered, Poison, Standard, Redelivered, Individual, Unmatched, Expired, Other, ack_type, ack_range, ack_last, unless_browser, ack_plain, ack_sub, at_rest, add_dequeued, add_discarded}
use Rattle.definition.specs.Destination.{room}
use Rattle.definition.specs.Calls.{optional, signed_within, flying, rows_of, Request, acknowledge, pulling, timed_out, prefetching, request_ok}
use Rattle.definition.proofs.Tests.{if-true, if-false, by-if, by-test, and_left}
use Rattle.definition.proofs.Local.{serve}
use Rattle.definition.proofs.Own.{own, own_pulled, own_fired, pulling-sub}
use Rattle.definition.proofs.Thin.{Thin, done, thin-refl, thin-none, thin-trans, thin-length, tally-length}
use Rattle.definition.proofs.Fit.{Waits, Fit, Less, less-refl, less-trans, Acked, ack-acked, null-fit, total, serve-little}

-- what counts of a queue's consumer among the queue's entries
abbrev pub counted : Sub → List Entry
counted s = whether is_browser s then [] else flying s

abbrev pub Flight : Kind → Sub → Sub → Type 0
Flight queue s v = Thin (counted s) (counted v)
Flight topic s v = Unit {0}

pub record Grown (k : Kind) (s v : Sub) (c : ℕ) : Type 0 where
  pub less : Less k s v
  pub next : v.next_dseq ≤ s.next_dseq + length (rows_of s)
  pub generation : v.generation ≤ s.generation + 1
  pub pulls : (m : ℕ) → s.generation + 1 ≤ m → Waits m s → Waits m v
  pub counts : c ≤ length (rows_of s) + length (rows_of s)
  pub flight : Flight k s v

-- ---- what an acknowledgement adds to the counters

unless-total : (s : Sub) (c : Stats) (m : ℕ) → total c ≤ m → total (unless_browser s c) ≤ m
unless-total s c m h = by-test (is_browser s) (λ b. rw b (omega arith)) (λ b. rw b h)

plain-total : (y : AckType) (a : Ack) (s : Sub) → total (ack_plain a s y).counts ≤ length s.inflight
unfolding ack_plain
plain-total Delivered a s = omega arith
plain-total Poison a s = unless-total s (add_discarded (tally (λ i. ack_range s a false i && not i.entry.persistent) s.inflight)) (length s.inflight) (omega (arith, tally-length (λ i. ack_range s a false i && not i.entry.persistent) s.inflight))
plain-total Standard a s = unless-total s (add_dequeued (tally (ack_range s a true) s.inflight)) (length s.inflight) (omega (arith, tally-length (ack_range s a true) s.inflight))
plain-total Redelivered a s = omega arith
plain-total Individual a s = unless-total s (add_dequeued (tally (ack_last s a) s.inflight)) (length s.inflight) (omega (arith, tally-length (ack_last s a) s.inflight))
plain-total Unmatched a s = unless-total s (add_dequeued (tally (ack_range s a true) s.inflight)) (length s.inflight) (omega (arith, tally-length (ack_range s a true) s.inflight))
plain-total Expired a s = unless-total s (add_expired (tally (ack_range s a false) s.inflight)) (length s.inflight) (omega (arith, tally-length (ack_range s a false) s.inflight))
plain-total Other a s = omega arith

pub ack-total : (a : Ack) (s : Sub) → total (ack_sub a s).counts ≤ length s.inflight
unfolding ack_sub
ack-total a s = by-if (λ (t : Step). total t.counts ≤ length s.inflight) a.transacted _ _ (λ q. omega arith) (λ q. plain-total (ack_type a.type) a s)

inflight-rows : (s : Sub) → length s.inflight ≤ length (rows_of s)
inflight-rows s = omega (arith, length-append (flying s) (s.tpending ++ snapshot s), length-map s.inflight (λ i. i.entry))

-- ---- what counts among the queue's entries

flight-refl : (k : Kind) (s : Sub) → Flight k s s
flight-refl queue s = thin-refl (counted s)
flight-refl topic s = tt

-- another consumer, with the same entries in flight
flight-same : (k : Kind) (s v : Sub) → is_browser v ≡ is_browser s → v.inflight ≡ s.inflight → Flight k s v
flight-same queue s v p q = subst⁻¹ (λ (b : Bool). Thin (counted s) (whether b then [] else flying v)) p
    (subst⁻¹ (λ (l : List Inflight). Thin (counted s) (whether is_browser s then [] else map (λ i. i.entry) l)) q (thin-refl (counted s)))
flight-same topic s v p q = tt

flight-acked : (k : Kind) (s v : Sub) → Acked k s v → Flight k s v
flight-acked queue s v a = subst⁻¹ (λ (b : Bool). Thin (counted s) (whether b then [] else flying v)) a.browser (both (is_browser s))
  where
    both : (b : Bool) → Thin (whether b then [] else flying s) (whether b then [] else flying v)
    both true = done
    both false = a.flight
flight-acked topic s v a = tt

flight-trans : (k : Kind) (s v w : Sub) → Flight k s v → Flight k v w → Flight k s w
flight-trans queue s v w p q = thin-trans _ _ _ p q
flight-trans topic s v w p q = tt

serve-flight : (k : Kind) (now : ℕ) (s : Sub) → Fit k s → Flight k s (serve k now s).sub
unfolding is_browser
serve-flight topic now s f = tt
serve-flight queue now s f = by-test (is_browser s)
    (λ c. subst⁻¹ (λ (l : List Entry). Thin (counted s) l) (if-true [] (flying (serve queue now s).sub) ((serve-little queue now s f).browser ∙ c)) (thin-none (counted s)))
    (λ c. subst⁻¹ (λ (t : Step). Flight queue s t.sub) (if-false _ (at_rest s) c) (flight-refl queue s))

-- ---- a consumer's own call

grown-refl : (k : Kind) (s : Sub) → Fit k s → Grown k s s 0
grown-refl k s f = record { less = less-refl k s f; next = omega arith; generation = omega arith; pulls = λ m h w. w; counts = omega arith; flight = flight-refl k s }

null-grown : (k : Kind) (s v : Sub) (c : ℕ) → Grown k s v c → Grown k s (send_null v) c
unfolding is_browser
null-grown k s v c g = record {
  less = record { still = null-fit k v g.less.still; rows = g.less.rows };
  next = g.next;
  generation = g.generation;
  pulls = λ m h w. refl;
  counts = g.counts;
  flight = flight-trans k s v (send_null v) g.flight (flight-same k v (send_null v) refl refl);
}

-- a dispatch, after a change of the consumer that touches no entry
served-grown : (k : Kind) (now : ℕ) (s w : Sub) → Fit k w → rows_of w ≡ rows_of s → w.next_dseq ≡ s.next_dseq → w.generation ≤ s.generation + 1 → ((m : ℕ) → s.generation + 1 ≤ m → Waits m s → Waits m w) → Flight k s w →
    Grown k s (serve k now w).sub (total (serve k now w).counts)
served-grown k now s w f r n g u l =
    let d = serve-little k now w f in
    let t : Thin (rows_of s) (rows_of (serve k now w).sub) = subst (λ (x : List Entry). Thin x (rows_of (serve k now w).sub)) r d.less.rows in
    record {
      less = record { still = d.less.still; rows = t };
      next = omega (arith, d.next, ap length r, n);
      generation = omega (arith, d.generation);
      pulls = λ m h x. d.pulls m (u m h x);
      counts = omega (arith, d.counts, ap length r);
      flight = flight-trans k s w (serve k now w).sub l (serve-flight k now w f);
    }

acked-grown : (k : Kind) (now : ℕ) (a : Ack) (s : Sub) → Fit k s → Grown k s (serve k now (ack_sub a s).sub).sub (total ((ack_sub a s).counts ⊕ (serve k now (ack_sub a s).sub).counts))
acked-grown k now a s f =
    let p = ack-acked k a s f in
    let d = serve-little k now (ack_sub a s).sub p.less.still in
    record {
      less = less-trans p.less d.less;
      next = omega (arith, d.next, p.next, thin-length _ _ p.less.rows);
      generation = omega (arith, d.generation, p.generation);
      pulls = λ m h w. d.pulls m (subst⁻¹ (λ (o : Option ℕ). optional (λ g. leb g m) o ≡ true) p.pull w);
      counts = omega (arith, d.counts, ack-total a s, inflight-rows s, thin-length _ _ p.less.rows);
      flight = flight-trans k s (ack_sub a s).sub _ (flight-acked k s (ack_sub a s).sub p) (serve-flight k now (ack_sub a s).sub p.less.still);
    }

pub pulling-fit : (k : Kind) (s : Sub) → Fit k s → Fit k (pulling-sub s)
pulling-fit queue s f = record { named = f.named; room = f.room; selects = f.selects; ok = f.ok; seen = f.seen; apart = f.apart; counted = f.counted; numbered = f.numbered; sorted = f.sorted; stands = f.stands }
pulling-fit topic s f = record { named = f.named; room = f.room; selects = f.selects; ok = f.ok; seen = f.seen; apart = f.apart; counted = f.counted; numbered = f.numbered; sorted = f.sorted; stands = f.stands }

pub room_within : (p : ℤ) → signed_within (2 ^ 31) p ≡ true → ltb (room p) (2 ^ 31) ≡ true
room_within (pos k) h = h
room_within (negsuc k) h = refl

pub prefetch-fit : (k : Kind) (p : ℤ) (s : Sub) → signed_within (2 ^ 31) p ≡ true → Fit k s → Fit k (with_prefetch (room p) s)
prefetch-fit queue p s h f = record { named = f.named; room = room_within p h; selects = f.selects; ok = f.ok; seen = f.seen; apart = f.apart; counted = f.counted; numbered = f.numbered; sorted = f.sorted; stands = f.stands }
prefetch-fit topic p s h f = record { named = f.named; room = room_within p h; selects = f.selects; ok = f.ok; seen = f.seen; apart = f.apart; counted = f.counted; numbered = f.numbered; sorted = f.sorted; stands = f.stands }

pulled-grown : (k : Kind) (timeout : ℤ) (s : Sub) (r : Step) (o : Option ℕ) → Grown k s r.sub (total r.counts) → Grown k s (own_pulled timeout r o).sub (total (own_pulled timeout r o).counts)
unfolding own_pulled
pulled-grown k timeout s r none g = g
pulled-grown k timeout s r (some n) g = by-test (lt_z timeout (pos 0)) (λ c. rw c (null-grown k s r.sub (total r.counts) g)) (λ c. rw c (by-test (lt_z (pos 0) timeout) (λ e. rw e g) (λ e. rw e g)))

fired-grown : (k : Kind) (generation : ℕ) (s : Sub) (o : Option ℕ) → Fit k s → Grown k s (own_fired generation s o).sub (total (own_fired generation s o).counts)
unfolding own_fired
fired-grown k generation s none f = grown-refl k s f
fired-grown k generation s (some n) f = by-test (eqb n generation) (λ c. rw c (null-grown k s s 0 (grown-refl k s f))) (λ c. rw c (grown-refl k s f))

pub own-grown : (k : Kind) (q : Request) (s : Sub) → request_ok q ≡ true → Fit k s → Grown k s (own k q s).sub (total (own k q s).counts)
unfolding own is_browser
own-grown k (acknowledge a now) s h f = acked-grown k now a s f
own-grown k (pulling timeout now) s h f = by-test (ltb 0 s.prefetch)
    (λ c. rw c (grown-refl k s f))
    (λ c. rw c (pulled-grown k timeout s (serve k now (pulling-sub s)) (serve k now (pulling-sub s)).sub.pull
    (served-grown k now s (pulling-sub s) (pulling-fit k s f) refl refl (omega arith) (λ m h w. le-leb (s.generation + 1) m h) (flight-same k s (pulling-sub s) refl refl))))
own-grown k (timed_out generation) s h f = fired-grown k generation s s.pull f
own-grown k (prefetching p now) s h f =
    served-grown k now s (with_prefetch (room p) s) (prefetch-fit k p s (and_left (signed_within (2 ^ 31) p) _ h) f) refl refl (omega arith) (λ m h w. w) (flight-same k s (with_prefetch (room p) s) refl refl)
