-- A consumer's own call keeps the state sound. Assumes nothing.
use Prim.Native.Nat.{ℕ, suc, ◌+◌, ◌≤◌, ◌^◌}
use native.Mathlib.Omega.{arith}
use mathlib.Core.Path.{◌≡◌, refl, sym, ◌∙◌, ap, subst}
use mathlib.Core.Bool.{Bool, true, not, ◌&&◌, ◌||◌}
use mathlib.Core.List.{List, [], ◌∷◌, ◌++◌}
use mathlib.Core.Option.{Option, none, some}
use lib.Dec.{leb, ltb, eqb}
use lib.ListN.{length, length-append}
use borrow.Author.Tests.{leb-true, le-leb}
use Rattle.definition.specs.Base.{all, find, put, ascending}
use Rattle.definition.specs.Types.{Entry, Kind, queue, topic, Id, Sub, Stats, Dest}
use Rattle.definition.specs.Consumer.{same_id, ◌⊕◌}
use Rattle.definition.specs.Destination.{is_id, sub_of}
use Rattle.definition.specs.Calls.{sizes_agree, own_rows, within_share, Request, asking, arguments_ok, request_ok, used, bound, seqs, rows_of, sub_sound, consumer_rows, taken, held, all_rows, distinct_ids, counters_ok, placed, sound_tests, sound, id_ok, entry_ok, optional, clock_ok, audit_ok}
use Rattle.definition.proofs.Tests.{if-true, if-false, by-test, and_left, and_right, and_both}
use Rattle.definition.proofs.Lists.{none-some, some_inj, length-put}
use Rattle.definition.proofs.Thin.{every-all, all-every, Thin, done, thin-refl, thin-append, thin-length, thin-distinct}
use Rattle.definition.proofs.Local.{changed}
use Rattle.definition.proofs.Sums.{odd, odd-tame, from, from-tame, sum-thin, agree-sum, sum-agree, share-sum, sum-share}
use Rattle.definition.proofs.Own.{own, own-id}
use Rattle.definition.proofs.Fit.{Waits, Fit, fit, unfit, total}
use Rattle.definition.proofs.Grown.{Grown, own-grown, counted, Flight}

-- ---- one consumer in the list of consumers

module _ {A : Type 0} (p : A → Bool) where
  pub find-all : (q : A → Bool) (l : List A) (s : A) → find p l ≡ some s → all q l ≡ true → q s ≡ true
  find-all q [] s f h = absurd (none-some f)
  find-all q (c ∷ l) s f h = by-test (p c)
      (λ e. subst (λ (x : A). q x ≡ true) (some_inj (sym (if-true (some c) (find p l) e) ∙ f)) (and_left (q c) (all q l) h))
      (λ e. find-all q l s (sym (if-false (some c) (find p l) e) ∙ f) (and_right (q c) (all q l) h))

  pub all-put-bool : (q r : A → Bool) (l : List A) (v : A) → ((x : A) → q x ≡ true → r x ≡ true) → all q l ≡ true → r v ≡ true → all r (put p v l) ≡ true
  all-put-bool q r [] v m h g = refl
  all-put-bool q r (c ∷ l) v m h g = by-test (p c)
      (λ e. rw e (and_both (r v) (all r l) g (all_more l (and_right (q c) (all q l) h))))
      (λ e. rw e (and_both (r c) (all r (put p v l)) (m c (and_left (q c) (all q l) h)) (all-put-bool q r l v m (and_right (q c) (all q l) h) g)))
    where
      all_more : (l : List A) → all q l ≡ true → all r l ≡ true
      all_more [] h = refl
      all_more (x ∷ l) h = and_both (r x) (all r l) (m x (and_left (q x) (all q l) h)) (all_more l (and_right (q x) (all q l) h))

  -- a test that takes what is put for what was found
  all-put-same : (q : A → Bool) (l : List A) (s v : A) → find p l ≡ some s → q v ≡ q s → all q (put p v l) ≡ all q l
  all-put-same q [] s v f h = refl
  all-put-same q (c ∷ l) s v f h = by-test (p c)
      (λ e. rw e (ap (λ (b : Bool). b && all q l) (h ∙ ap q (sym (some_inj (sym (if-true (some c) (find p l) e) ∙ f))))))
      (λ e. rw e (ap (λ (b : Bool). q c && b) (all-put-same q l s v (sym (if-false (some c) (find p l) e) ∙ f) h)))

ids-put : (p : Sub → Bool) (l : List Sub) (s v : Sub) → find p l ≡ some s → v.id ≡ s.id → distinct_ids (put p v l) ≡ distinct_ids l
ids-put p [] s v f h = refl
ids-put p (c ∷ l) s v f h = by-test (p c)
    (λ e. rw e (ap (λ (i : Id). all (λ r. not (same_id r.id i)) l && distinct_ids l) (h ∙ ap (λ (x : Sub). x.id) (sym (some_inj (sym (if-true (some c) (find p l) e) ∙ f))))))
    (λ e.
    let g = sym (if-false (some c) (find p l) e) ∙ f in
    let a = all-put-same p (λ r. not (same_id r.id c.id)) l s v g (ap (λ (i : Id). not (same_id i c.id)) h) in
    rw e (ap (λ (b : Bool). b && distinct_ids (put p v l)) a ∙ ap (λ (b : Bool). all (λ r. not (same_id r.id c.id)) l && b) (ids-put p l s v g h)))

rows-put : (p : Sub → Bool) (l : List Sub) (s v : Sub) → find p l ≡ some s → Thin (rows_of s) (rows_of v) → Thin (consumer_rows l) (consumer_rows (put p v l))
rows-put p [] s v f t = done
rows-put p (c ∷ l) s v f t = by-test (p c)
    (λ e. rw e (thin-append (consumer_rows l) (consumer_rows l) (subst (λ (x : Sub). Thin (rows_of x) (rows_of v)) (sym (some_inj (sym (if-true (some c) (find p l) e) ∙ f))) t) (thin-refl (consumer_rows l))))
    (λ e. rw e (thin-append (consumer_rows l) (consumer_rows (put p v l)) (thin-refl (rows_of c)) (rows-put p l s v (sym (if-false (some c) (find p l) e) ∙ f) t)))

taken-put : (p : Sub → Bool) (l : List Sub) (s v : Sub) → find p l ≡ some s → Thin (counted s) (counted v) → Thin (taken l) (taken (put p v l))
taken-put p [] s v f t = done
taken-put p (c ∷ l) s v f t = by-test (p c)
    (λ e. rw e (thin-append (taken l) (taken l) (subst (λ (x : Sub). Thin (counted x) (counted v)) (sym (some_inj (sym (if-true (some c) (find p l) e) ∙ f))) t) (thin-refl (taken l))))
    (λ e. rw e (thin-append (taken l) (taken (put p v l)) (thin-refl (counted c)) (taken-put p l s v (sym (if-false (some c) (find p l) e) ∙ f) t)))

rows-found : (p : Sub → Bool) (l : List Sub) (s : Sub) → find p l ≡ some s → length (rows_of s) ≤ length (consumer_rows l)
rows-found p [] s f = absurd (none-some f)
rows-found p (c ∷ l) s f = by-test (p c)
    (λ e. subst (λ (x : Sub). length (rows_of x) ≤ length (consumer_rows (c ∷ l))) (some_inj (sym (if-true (some c) (find p l) e) ∙ f)) (omega (arith, length-append (rows_of c) (consumer_rows l))))
    (λ e. omega (arith, length-append (rows_of c) (consumer_rows l), rows-found p l s (sym (if-false (some c) (find p l) e) ∙ f)))

-- the tests of a sound state, by name
pub record Facts (t : Dest) : Type 0 where
  pub limit-low : leb 1 t.call_limit ≡ true
  pub limit-high : leb t.call_limit (2 ^ 40) ≡ true
  pub calls : leb t.calls_used t.call_limit ≡ true
  pub topic_limit : leb t.topic_limit 512 ≡ true
  pub few-subs : leb (length t.subs) 32 ≡ true
  pub few-producers : leb (length t.producers) 32 ≡ true
  pub producers : all id_ok t.producers ≡ true
  pub few-rows : leb (length (all_rows t)) 512 ≡ true
  pub entries : all entry_ok (t.pending ++ held t) ≡ true
  pub holders : all (λ h. id_ok h.holder) t.reserved ≡ true
  pub sorted : ascending (seqs t.pending) ≡ true
  pub consumers : all (sub_sound t.kind t.calls_used) t.subs ≡ true
  pub ids : distinct_ids t.subs ≡ true
  pub places : placed t t.kind ≡ true
  pub turn : (ltb t.rr (length t.subs) || eqb t.rr 0) ≡ true
  pub counters : counters_ok (bound t.calls_used) t.stats ≡ true
  pub mark : optional clock_ok t.idle ≡ true
  pub few-audits : leb (length t.audits) 8 ≡ true
  pub audits : all audit_ok t.audits ≡ true
  pub allowance : leb t.allowance 86400000 ≡ true
  pub sizes : sizes_agree (all_rows t) ≡ true
  pub share-low : leb 1 t.share ≡ true
  pub share-high : leb t.share 512 ≡ true
  pub shares : within_share t.share (own_rows t t.kind) ≡ true

pub facts : (t : Dest) → sound t ≡ true → Facts t
unfolding sound
facts t e =
    let f = every-all (sound_tests t) e in
    record { limit-low = f.0; limit-high = f.1.0; calls = f.1.1.0; topic_limit = f.1.1.1.0; few-subs = f.1.1.1.1.0; few-producers = f.1.1.1.1.1.0; producers = f.1.1.1.1.1.1.0; few-rows = f.1.1.1.1.1.1.1.0; entries = f.1.1.1.1.1.1.1.1.0; holders = f.1.1.1.1.1.1.1.1.1.0; sorted = f.1.1.1.1.1.1.1.1.1.1.0; consumers = f.1.1.1.1.1.1.1.1.1.1.1.0; ids = f.1.1.1.1.1.1.1.1.1.1.1.1.0; places = f.1.1.1.1.1.1.1.1.1.1.1.1.1.0; turn = f.1.1.1.1.1.1.1.1.1.1.1.1.1.1.0; counters = f.1.1.1.1.1.1.1.1.1.1.1.1.1.1.1.0; mark = f.1.1.1.1.1.1.1.1.1.1.1.1.1.1.1.1.0; few-audits = f.1.1.1.1.1.1.1.1.1.1.1.1.1.1.1.1.1.0; audits = f.1.1.1.1.1.1.1.1.1.1.1.1.1.1.1.1.1.1.0; allowance = f.1.1.1.1.1.1.1.1.1.1.1.1.1.1.1.1.1.1.1.0; sizes = f.1.1.1.1.1.1.1.1.1.1.1.1.1.1.1.1.1.1.1.1.0; share-low = f.1.1.1.1.1.1.1.1.1.1.1.1.1.1.1.1.1.1.1.1.1.0; share-high = f.1.1.1.1.1.1.1.1.1.1.1.1.1.1.1.1.1.1.1.1.1.1.0; shares = f.1.1.1.1.1.1.1.1.1.1.1.1.1.1.1.1.1.1.1.1.1.1.1.0 }

pub from-facts : (t : Dest) → Facts t → sound t ≡ true
unfolding sound
from-facts t f = all-every (sound_tests t) (f.limit-low, (f.limit-high, (f.calls, (f.topic_limit, (f.few-subs, (f.few-producers, (f.producers, (f.few-rows, (f.entries, (f.holders, (f.sorted, (f.consumers, (f.ids, (f.places, (f.turn, (f.counters, (f.mark, (f.few-audits, (f.audits, (f.allowance, (f.sizes, (f.share-low, (f.share-high, (f.shares, tt))))))))))))))))))))))))

-- ---- bounds that rise with the calls used

pub waits-more : (o : Option ℕ) (m n : ℕ) → m ≤ n → optional (λ g. leb g m) o ≡ true → optional (λ g. leb g n) o ≡ true
waits-more none m n h w = refl
waits-more (some g) m n h w = le-leb g n (omega (arith, leb-true g m w))

sub_more : (k : Kind) (u : ℕ) (s : Sub) → sub_sound k u s ≡ true → sub_sound k (u + 1) s ≡ true
sub_more k u s h = let f = fit k u s h in unfit k (u + 1) s f.0 (omega (arith, f.1)) (omega (arith, f.2)) (waits-more s.pull (bound u) (bound (u + 1)) (omega arith) f.3)

bound-more : (u x y : ℕ) → leb x (bound u) ≡ true → y ≤ 1024 → leb (x + y) (bound (u + 1)) ≡ true
bound-more u x y h t = le-leb (x + y) (bound (u + 1)) (omega (arith, leb-true x (bound u) h))

counters-more : (u : ℕ) (a c : Stats) → counters_ok (bound u) a ≡ true → total c ≤ 1024 → counters_ok (bound (u + 1)) (a ⊕ c) ≡ true
counters-more u a c h t =
    let f = every-all (leb a.enqueued (bound u) ∷ leb a.dequeued (bound u) ∷ leb a.expired (bound u) ∷ leb a.discarded (bound u) ∷ leb a.dispatched (bound u) ∷ []) h in
    all-every (leb (a.enqueued + c.enqueued) (bound (u + 1)) ∷ leb (a.dequeued + c.dequeued) (bound (u + 1)) ∷ leb (a.expired + c.expired) (bound (u + 1)) ∷ leb (a.discarded + c.discarded) (bound (u + 1)) ∷ leb (a.dispatched + c.dispatched) (bound (u + 1)) ∷ [])
    (bound-more u _ _ f.0 (omega arith), (bound-more u _ _ f.1.0 (omega arith), (bound-more u _ _ f.1.1.0 (omega arith), (bound-more u _ _ f.1.1.1.0 (omega arith), (bound-more u _ _ f.1.1.1.1.0 (omega arith), tt)))))

thin-share : (S : ℕ) (l m : List Entry) → Thin l m → within_share S l ≡ true → within_share S m ≡ true
thin-share S l m w h = sum-share S m (λ c. omega (arith, share-sum S l h c, sum-thin (from c) (from-tame c) l m w))

placed-put : (k : Kind) (i : Id) (s v : Sub) (c : Stats) (t : Dest) → sub_of i t ≡ some s → Flight k s v → placed t k ≡ true → placed (used (changed i v c t)) k ≡ true
placed-put queue i s v c t found g h =
    thin-distinct _ _ (thin-append _ _ (thin-refl t.pending) (thin-append _ _ (thin-refl (held t)) (taken-put (is_id i) t.subs s v found g))) h
placed-put topic i s v c t found g h = h

shares-put : (k : Kind) (i : Id) (s v : Sub) (c : Stats) (t : Dest) → sub_of i t ≡ some s → Flight k s v → Thin (all_rows t) (all_rows (used (changed i v c t))) → within_share t.share (own_rows t k) ≡ true →
    within_share t.share (own_rows (used (changed i v c t)) k) ≡ true
shares-put queue i s v c t found g w h = thin-share t.share (own_rows t queue) (own_rows (used (changed i v c t)) queue)
    (thin-append _ _ (thin-refl t.pending) (thin-append _ _ (thin-refl (held t)) (taken-put (is_id i) t.subs s v found g))) h
shares-put topic i s v c t found g w h = thin-share t.share (all_rows t) (all_rows (used (changed i v c t))) w h

pub own-sound : (i : Id) (q : Request) (s : Sub) (t : Dest) → sub_of i t ≡ some s → arguments_ok (asking i q) ≡ true → suc t.calls_used ≤ t.call_limit → sound t ≡ true →
    sound (used (changed i (own t.kind q s).sub (own t.kind q s).counts t)) ≡ true
unfolding arguments_ok
own-sound i q s t found a h e = from-facts (used (changed i v c t)) (record {
  limit-low = f.limit-low;
  limit-high = f.limit-high;
  calls = le-leb (t.calls_used + 1) t.call_limit (omega arith);
  topic_limit = f.topic_limit;
  few-subs = rw (length-put (is_id i) t.subs v) f.few-subs;
  few-producers = f.few-producers;
  producers = f.producers;
  few-rows = le-leb (length (t.pending ++ (held t ++ consumer_rows (put (is_id i) v t.subs)))) 512 (omega (arith, thin-length _ _ thinner, leb-true (length (all_rows t)) 512 f.few-rows));
  entries = f.entries;
  holders = f.holders;
  sorted = f.sorted;
  consumers = all-put-bool (is_id i) (sub_sound t.kind t.calls_used) (sub_sound t.kind (t.calls_used + 1)) t.subs v (λ x. sub_more t.kind t.calls_used x) f.consumers
      (unfit t.kind (t.calls_used + 1) v g.less.still (omega (arith, g.next, mine.1, few)) (omega (arith, g.generation, mine.2))
      (g.pulls (bound (t.calls_used + 1)) (omega (arith, mine.2)) (waits-more s.pull (bound t.calls_used) (bound (t.calls_used + 1)) (omega arith) mine.3)));
  ids = ids-put (is_id i) t.subs s v found (own-id t.kind q s) ∙ f.ids;
  places = placed-put t.kind i s v c t found g.flight f.places;
  turn = rw (length-put (is_id i) t.subs v) f.turn;
  counters = counters-more t.calls_used t.stats c f.counters (omega (arith, g.counts, few));
  mark = f.mark;
  few-audits = f.few-audits;
  audits = f.audits;
  allowance = f.allowance;
  sizes = sum-agree (t.pending ++ (held t ++ consumer_rows (put (is_id i) v t.subs))) (λ x. let z = agree-sum (all_rows t) f.sizes x in (z.0, omega (arith, z.1, sum-thin (odd x z.0) (odd-tame x z.0) _ _ thinner)));
  share-low = f.share-low;
  share-high = f.share-high;
  shares = shares-put t.kind i s v c t found g.flight thinner f.shares;
})
  where
    v : Sub
    v = (own t.kind q s).sub

    c : Stats
    c = (own t.kind q s).counts

    f : Facts t
    f = facts t e

    mine : Fit t.kind s × (s.next_dseq ≤ bound t.calls_used) × (s.generation ≤ bound t.calls_used) × Waits (bound t.calls_used) s
    mine = fit t.kind t.calls_used s (find-all (is_id i) (sub_sound t.kind t.calls_used) t.subs s found f.consumers)

    g : Grown t.kind s v (total c)
    g = own-grown t.kind q s (and_right (id_ok i) (request_ok q) a) mine.0

    few : length (rows_of s) ≤ 512
    few = omega (arith, leb-true (length (all_rows t)) 512 f.few-rows, rows-found (is_id i) t.subs s found, length-append t.pending (held t ++ consumer_rows t.subs), length-append (held t) (consumer_rows t.subs))

    thinner : Thin (all_rows t) (t.pending ++ (held t ++ consumer_rows (put (is_id i) v t.subs)))
    thinner = thin-append _ _ (thin-refl t.pending) (thin-append _ _ (thin-refl (held t)) (rows-put (is_id i) t.subs s v found g.less.rows))
