-- Every destination that accepted calls leave is sound. Assumes nothing.
use Prim.Native.Nat.{ℕ, suc, ◌+◌, ◌-◌, ◌≤◌, ◌^◌}
use native.Mathlib.Omega.{arith}
use mathlib.Core.Path.{◌≡◌, refl, ◌∙◌, ap, subst⁻¹}
use mathlib.Core.Bool.{Bool, true, false, not, ◌&&◌}
use mathlib.Core.List.{List, [], ◌∷◌, ◌++◌}
use mathlib.Core.Option.{Option, none, some}
use lib.Dec.{leb, ltb, eqb}
use lib.ListN.{length, length-append, drop}
use borrow.Author.Tests.{leb-true, leb-false, le-leb, ltb-false, eqb-false}
use Rattle.definition.specs.Base.{whether◌then◌else◌, keep, all, find, put, is_some, member}
use Rattle.definition.specs.Types.{Sub, Kind, queue, topic, Id, Entry, Audit, Dest, with_producers, with_audits, with_idle}
use Rattle.definition.specs.Consumer.{same_id, add_discarded, add_expired}
use Rattle.audit.specs.Audit.{seen, recorded}
use Rattle.definition.specs.Destination.{Answer, Spec, joined, sub_of, enqueue_by, is_producer, add_producer, audit_of, remove_producer, test_at, is_duplicate, release_audits}
use Rattle.definition.specs.Calls.{rows_of, held, own_rows, rows_from, within_share, over_share, Lengths, short, entry_ok, id_ok, word, signed_within, optional, clock_ok, bound, seqs, all_rows, free_rows, rows_for, snapshot_rows, audit_ok, placed, sound, Call, enqueuing, joining, leaving, asking, unmarking, releasing, sweeping, clearing, adding, removing, testing, forgetting, discarding, missing, spec_ok, arguments_ok, own_refusal, perform, refusal, used, call, open_ok, opened}
use Rattle.definition.specs.Orders.{Reached}
use Rattle.definition.proofs.Tests.{and-false, by-if, by-test, and_left, and_right}
use Rattle.definition.proofs.Lists.{keep-length, all_end, all_drop, all_keep, length-put}
use Rattle.definition.proofs.Thin.{every-all, all-every}
use Rattle.definition.proofs.Sums.{from, from-length, sum-from, one, occ, sum_one, occ-member}
use Rattle.definition.proofs.Sound.{facts, from-facts, all-put-bool, find-all}
use Rattle.definition.proofs.Whole.{sums, rows_m, own_sum, own-length, rows_sum, Fine, fine, unfine, fine_more, rows-length}
use Rattle.definition.proofs.Ops.{once-topic, fine-from, touch-fine, count-fine, ask-fine}
use Rattle.definition.proofs.Reach.{counts-rows, enqueue-fine}
use Rattle.definition.proofs.Join.{joined-fine, join-fine}
use Rattle.definition.proofs.Leave.{leave-fine, unmark-fine, release-fine, sweep-fine, clear-fine}
use Rattle.definition.proofs.Made.{Made, opens, calls, made}

-- ---- what an accepted call is

pub record Accepted (lent : Lengths) (c : Call) (t : Dest) : Type 0 where
  pub roomy : short lent ≡ false
  pub is-sound : sound t ≡ true
  pub arguments : arguments_ok c ≡ true
  pub left : eqb t.calls_used t.call_limit ≡ false
  pub own : own_refusal t c ≡ 0

pub accepted : (lent : Lengths) (c : Call) (t : Dest) → refusal lent c t ≡ 0 → Accepted lent c t
unfolding refusal
accepted lent c t = by-test (short lent) (λ a. rw a (λ h. absurd (omega arith)))
    (λ a. by-test (sound t)
    (λ b. by-test (arguments_ok c)
    (λ d. by-test (eqb t.calls_used t.call_limit) (λ e. rw (a, b, d, e) (λ h. absurd (omega arith))) (λ e. rw (a, b, d, e) (λ h. record { roomy = a; is-sound = b; arguments = d; left = e; own = h })))
    (λ d. rw (a, b, d) (λ h. absurd (omega arith))))
    (λ b. rw (a, b) (λ h. absurd (omega arith))))

-- a refusal that is not made
not-refused : (b : Bool) (n m : ℕ) → (whether b then suc n else m) ≡ 0 → b ≡ false
not-refused true n m h = absurd (omega (arith, h))
not-refused false n m h = refl

then_next : (b : Bool) (n m : ℕ) → (whether b then suc n else m) ≡ 0 → m ≡ 0
then_next true n m h = absurd (omega (arith, h))
then_next false n m h = h

-- ---- the tables of producers

abbrev tables : List Id → List Audit → Option ℕ → Dest → Dest
tables p a i t = with_producers p (with_audits a (with_idle i t))

tables-fine : (L U : ℕ) (k : Kind) (N : ℕ) (t : Dest) (p : List Id) (a : List Audit) (i : Option ℕ) → Fine L U k N t → leb (length p) 32 ≡ true → all id_ok p ≡ true → leb (length a) 8 ≡ true → all audit_ok a ≡ true → optional clock_ok i ≡ true → Fine L U k N (tables p a i t)
tables-fine L U k N t p a i g b c d e m = fine-from L U k N N t (tables p a i t) g g.kind refl
    (record { limit = g.frame.limit; used = g.frame.used; topic_limit = g.frame.topic_limit; allowance = g.frame.allowance; share-low = g.frame.share-low; share-high = g.frame.share-high; few-producers = b; producers = c; few-audits = d; audits = e; holders = g.frame.holders; mark = m })
    g.few-subs g.subs g.ids (λ f w. omega arith) (λ q f w. omega arith) (once-topic k t g.once) g.sorted g.turn g.counters

fewer : {A : Type 0} (p : A → Bool) (l : List A) (n : ℕ) → leb (length l) n ≡ true → leb (length (keep p l)) n ≡ true
fewer p l n h = le-leb (length (keep p l)) n (omega (arith, keep-length p l, leb-true (length l) n h))

add-fine : (L U : ℕ) (k : Kind) (N : ℕ) (i : Id) (t : Dest) → Fine L U k N t → id_ok i ≡ true → (not (is_producer i t.producers) && leb 32 (length t.producers)) ≡ false → Fine L U k N (add_producer i t)
add-fine L U k N i t g h r = by-if (λ (p : List Id). Fine L U k N (with_idle none (with_producers p t))) (is_producer i t.producers) t.producers (t.producers ++ i ∷ [])
    (λ c. tables-fine L U k N t t.producers t.audits none g g.frame.few-producers g.frame.producers g.frame.few-audits g.frame.audits refl)
    (λ c. tables-fine L U k N t (t.producers ++ i ∷ []) t.audits none g
    (le-leb (length (t.producers ++ i ∷ [])) 32 (omega (arith, length-append t.producers (i ∷ []), leb-false 32 (length t.producers) (and-false _ _ r (ap not c)))))
    (all_end id_ok t.producers i g.frame.producers h) g.frame.few-audits g.frame.audits refl)

remove-fine : (L U : ℕ) (k : Kind) (N now : ℕ) (i : Id) (t : Dest) → Fine L U k N t → clock_ok now ≡ true → Fine L U k (N + 1) (remove_producer now i t)
remove-fine L U k N now i t g h = touch-fine L U k N now _ h (tables-fine L U k N t (keep (λ j. not (same_id j i)) t.producers) (keep (λ a. not (audit_of i a)) t.audits) t.idle g
    (fewer (λ j. not (same_id j i)) t.producers 32 g.frame.few-producers) (all_keep id_ok (λ j. not (same_id j i)) t.producers g.frame.producers)
    (fewer (λ a. not (audit_of i a)) t.audits 8 g.frame.few-audits) (all_keep audit_ok (λ a. not (audit_of i a)) t.audits g.frame.audits) g.frame.mark)

forget-fine : (L U : ℕ) (k : Kind) (N conn : ℕ) (t : Dest) → Fine L U k N t → Fine L U k N (release_audits conn t)
forget-fine L U k N conn t g = tables-fine L U k N t t.producers (keep (λ a. not (eqb (Audit.producer a).conn conn)) t.audits) t.idle g g.frame.few-producers g.frame.producers
    (fewer (λ a. not (eqb (Audit.producer a).conn conn)) t.audits 8 g.frame.few-audits) (all_keep audit_ok (λ a. not (eqb (Audit.producer a).conn conn)) t.audits g.frame.audits) g.frame.mark

-- ---- audits

audit-of : (i : Id) (l : List ℕ) → id_ok i ≡ true → length l ≤ 1024 → all word l ≡ true → audit_ok (record { producer = i; order = l }) ≡ true
audit-of i l h n a = all-every (id_ok i ∷ leb (length l) 1024 ∷ all word l ∷ []) (h, (le-leb (length l) 1024 n, (a, tt)))

drop-one : (l : List ℕ) → length (drop 1 l) ≤ length l - 1
drop-one [] = omega arith
drop-one (z ∷ l) = omega arith

recorded-ok : (q : ℕ) (l : List ℕ) → length l ≤ 1024 → all word l ≡ true → word q ≡ true → (length (recorded q l) ≤ 1024) × (all word (recorded q l) ≡ true)
recorded-ok q l n a h = by-test (ltb 1024 (length (l ++ q ∷ [])))
    (λ c. rw c (omega (arith, drop-one (l ++ q ∷ []), length-append l (q ∷ [])), all_drop word (l ++ q ∷ []) (all_end word l q a h)))
    (λ c. rw c (omega (arith, ltb-false 1024 (length (l ++ q ∷ [])) c), all_end word l q a h))

test-fine : (L U : ℕ) (k : Kind) (N : ℕ) (i : Id) (q : ℕ) (t : Dest) (o : Option Audit) → find (audit_of i) t.audits ≡ o → Fine L U k N t → id_ok i ≡ true → word q ≡ true → (is_some o ≡ false → length t.audits + 1 ≤ 8) → Fine L U k N (test_at i q t o).dest
unfolding test_at
test-fine L U k N i q t none f g h w n = tables-fine L U k N t t.producers (t.audits ++ record { producer = i; order = q ∷ [] } ∷ []) t.idle g g.frame.few-producers g.frame.producers
    (le-leb (length (t.audits ++ record { producer = i; order = q ∷ [] } ∷ [])) 8 (omega (arith, length-append t.audits (record { producer = i; order = q ∷ [] } ∷ []), n refl)))
    (all_end audit_ok t.audits (record { producer = i; order = q ∷ [] }) g.frame.audits (audit-of i (q ∷ []) h (omega arith) (rw w))) g.frame.mark
test-fine L U k N i q t (some a) f g h w n = by-test (seen q a.order)
    (λ c. rw c g)
    (λ c. rw c (tables-fine L U k N t t.producers (put (audit_of i) (record { producer = i; order = recorded q a.order }) t.audits) t.idle g g.frame.few-producers g.frame.producers
    (ap (λ x. leb x 8) (length-put (audit_of i) t.audits (record { producer = i; order = recorded q a.order })) ∙ g.frame.few-audits)
    (all-put-bool (audit_of i) audit_ok audit_ok t.audits (record { producer = i; order = recorded q a.order }) (λ x e. e) g.frame.audits (audit-of i (recorded q a.order) h fits.0 fits.1)) g.frame.mark))
  where
    was : audit_ok a ≡ true
    was = find-all (audit_of i) audit_ok t.audits a f g.frame.audits

    parts : (leb (length a.order) 1024 ≡ true) × (all word a.order ≡ true)
    parts = let p = every-all (id_ok a.producer ∷ leb (length a.order) 1024 ∷ all word a.order ∷ []) was in (p.1.0, p.1.1.0)

    fits : (length (recorded q a.order) ≤ 1024) × (all word (recorded q a.order) ≡ true)
    fits = recorded-ok q a.order (leb-true (length a.order) 1024 parts.0) parts.1 w

-- ---- each call

free-rows : (t : Dest) (n : ℕ) → rows_sum one t ≤ 512 → ltb (free_rows t) n ≡ false → rows_sum one t + n ≤ 512
free-rows t n r h = omega (arith, r, ltb-false (free_rows t) n h, rows-length one t, sum_one (all_rows t))

not-held : (x : ℕ) (t : Dest) → member x (seqs (all_rows t)) ≡ false → rows_sum (occ x) t ≤ 0
not-held x t h = omega (arith, occ-member x (all_rows t) h, rows-length (occ x) t)

kind-rows : (k : Kind) (e : Entry) (t : Dest) → t.kind ≡ k → rows_for e t t.kind ≡ rows_for e t k
kind-rows k e t h = ap (λ j. rows_for e t j) h

-- a connection's rows are not more than all rows
sums-from : (c : ℕ) (l : List Sub) → sums (rows_m (from c)) l ≤ sums (rows_m one) l
unfolding rows_m
sums-from c [] = omega arith
sums-from c (s ∷ l) = omega (arith, from-length c (rows_of s), sum_one (rows_of s), sums-from c l)

pub own-few : (k : Kind) (c : ℕ) (t : Dest) → own_sum k (from c) t ≤ rows_sum one t
own-few queue c t = omega (arith, from-length c t.pending, sum_one t.pending, from-length c (held t), sum_one (held t), counts-rows (from c) t.subs, sums-from c t.subs)
own-few topic c t = omega (arith, from-length c t.pending, sum_one t.pending, from-length c (held t), sum_one (held t), sums-from c t.subs)

-- an enqueue that 14 does not refuse is within its connection's share, of 512 too
in-share : (k : Kind) (e : Entry) (t : Dest) → t.kind ≡ k → rows_sum one t + rows_for e t k ≤ 512 → over_share e t ≡ false → own_sum k (from e.producer) t + rows_for e t k ≤ t.share
in-share k e t h f v = by-test (ltb t.share 512)
    (λ c. omega (arith, ltb-false t.share (rows_from e.producer (own_rows t t.kind) + rows_for e t t.kind) (and-false (ltb t.share 512) _ v c), kind-rows k e t h, ap (λ j. rows_from e.producer (own_rows t j)) h, sum-from e.producer (own_rows t k), own-length k (from e.producer) t))
    (λ c. omega (arith, ltb-false t.share 512 c, f, own-few k e.producer t))

-- a join's consumer in its place
pub joins : (L U : ℕ) (k : Kind) (N : ℕ) (p : Spec) (now : ℕ) (t : Dest) → 1 ≤ N → Fine L U k N t → arguments_ok (joining p now) ≡ true → own_refusal t (joining p now) ≡ 0 → Fine L U k (N + 513) (joined now p t)
unfolding arguments_ok own_refusal
joins L U k N p now t n g a o =
    let m = not-refused (is_some (sub_of p.id t)) 5 _ o in
    let o1 = then_next (is_some (sub_of p.id t)) 5 _ o in
    let f = not-refused (leb 32 (length t.subs)) 6 _ o1 in
    let r = not-refused (ltb (free_rows t) (snapshot_rows now p t)) 4 0 (then_next (leb 32 (length t.subs)) 6 _ o1) in
    joined-fine L U k N now p t g n (and_left (spec_ok p) _ a) m (omega (arith, leb-false 32 (length t.subs) f)) (free-rows t (snapshot_rows now p t) g.rows r)

-- what an enqueue needs
pub record Stores (k : Kind) (e : Entry) (t : Dest) : Type 0 where
  pub ok : entry_ok e ≡ true
  pub fits : rows_sum one t + rows_for e t k ≤ 512
  pub new : rows_sum (occ e.seq) t ≤ 0
  pub shared : own_sum k (from e.producer) t + rows_for e t k ≤ t.share

pub stores : (L U : ℕ) (k : Kind) (N : ℕ) (e : Entry) (now : ℕ) (t : Dest) → Fine L U k N t → arguments_ok (enqueuing e now) ≡ true → own_refusal t (enqueuing e now) ≡ 0 → Stores k e t
unfolding arguments_ok own_refusal
stores L U k N e now t g a o =
    let m : member e.seq (seqs (all_rows t)) ≡ false = not-refused (member e.seq (seqs (all_rows t))) 3 _ o in
    let o1 = then_next (member e.seq (seqs (all_rows t))) 3 _ o in
    let v : over_share e t ≡ false = not-refused (over_share e t) 13 _ o1 in
    let r : ltb (free_rows t) (rows_for e t t.kind) ≡ false = not-refused (ltb (free_rows t) (rows_for e t t.kind)) 4 0 (then_next (over_share e t) 13 _ o1) in
    let f : rows_sum one t + rows_for e t k ≤ 512 = omega (arith, free-rows t (rows_for e t t.kind) g.rows r, kind-rows k e t g.kind) in
    record { ok = and_left (entry_ok e) _ a; fits = f; new = not-held e.seq t m; shared = in-share k e t g.kind f v }

pub perform-fine : (L U : ℕ) (k : Kind) (N : ℕ) (c : Call) (t : Dest) → 1 ≤ N → Fine L U k N t → arguments_ok c ≡ true → own_refusal t c ≡ 0 → Fine L U k (N + 4096) (perform t c).dest
unfolding perform arguments_ok own_refusal is_duplicate
perform-fine L U k N (enqueuing e now) t n g a o =
    let y = stores L U k N e now t g a o in
    subst⁻¹ (λ (j : Kind). Fine L U k (N + 4096) (enqueue_by now e t j).dest) g.kind (enqueue-fine L U k N now e t g y.ok y.fits y.new y.shared)
perform-fine L U k N (joining p now) t n g a o =
    join-fine L U k N now p t (joins L U k N p now t n g a o)
perform-fine L U k N (leaving i last now) t n g a o = leave-fine L U k N now i last t (and_right (signed_within (2 ^ 63) last) _ (and_right (id_ok i) _ a)) g
perform-fine L U k N (asking i q) t n g a o = ask-fine L U k N i q t (and_right (id_ok i) _ a) g
perform-fine L U k N (unmarking i) t n g a o = unmark-fine L U k N i t g
perform-fine L U k N (releasing i now) t n g a o = release-fine L U k N now i t g
perform-fine L U k N (sweeping now most) t n g a o = sweep-fine L U k N now most t (and_left (clock_ok now) _ a) (leb-true most 512 (and_right (clock_ok now) _ a)) g
perform-fine L U k N clearing t n g a o = fine_more L U k (N + 1) (N + 4096) _ (omega arith) (clear-fine L U k N t g)
perform-fine L U k N (adding i) t n g a o = fine_more L U k N (N + 4096) _ (omega arith) (add-fine L U k N i t g a (not-refused _ 7 0 o))
perform-fine L U k N (removing i now) t n g a o = fine_more L U k (N + 1) (N + 4096) _ (omega arith) (remove-fine L U k N now i t g (and_right (id_ok i) _ a))
perform-fine L U k N (testing i q) t n g a o = fine_more L U k N (N + 4096) _ (omega arith) (by-if (λ (r : Answer). Fine L U k N r.dest) (eqb i.conn 0) _ (is_duplicate i q t)
    (λ c. g)
    (λ c. tested (and-false (not (eqb i.conn 0)) _ (not-refused _ 7 0 o) (ap not c))))
  where
    tested : (not (is_some (find (audit_of i) t.audits)) && leb 8 (length t.audits)) ≡ false → Fine L U k N (is_duplicate i q t).dest
    tested r = test-fine L U k N i q t (find (audit_of i) t.audits) refl g (and_left (id_ok i) _ a) (and_right (id_ok i) _ a) (λ s. omega (arith, leb-false 8 (length t.audits) (and-false _ _ r (ap not s))))
perform-fine L U k N (forgetting conn) t n g a o = fine_more L U k N (N + 4096) _ (omega arith) (forget-fine L U k N conn t g)
perform-fine L U k N discarding t n g a o = count-fine L U k N 4096 (add_discarded 1) t (omega arith) g
perform-fine L U k N missing t n g a o = count-fine L U k N 4096 (add_expired 1) t (omega arith) g

pub call-sound : (lent : Lengths) (c : Call) (t : Dest) → refusal lent c t ≡ 0 → sound (call lent c t).dest ≡ true
unfolding call
call-sound lent c t z =
    let q = accepted lent c t z in
    let f = facts t q.is-sound in
    rw z (unfine t.call_limit t.calls_used t.kind (bound t.calls_used + 4096) (perform t c).dest f.limit-low f.limit-high
    (omega (arith, leb-true t.calls_used t.call_limit f.calls, eqb-false t.calls_used t.call_limit q.left)) (omega arith)
    (perform-fine t.call_limit t.calls_used t.kind (bound t.calls_used) c t (omega arith) (fine t q.is-sound) q.arguments q.own))

open-sound : (k : Kind) (topic_limit call_limit now allowance share : ℕ) → open_ok k topic_limit call_limit now allowance share ≡ true → sound (opened k topic_limit call_limit now allowance share) ≡ true
open-sound k topic_limit call_limit now allowance share h =
    let f = every-all (leb topic_limit 512 ∷ leb 1 call_limit ∷ leb call_limit (2 ^ 40) ∷ clock_ok now ∷ leb allowance 86400000 ∷ leb 1 share ∷ leb share 512 ∷ []) h in
    from-facts (opened k topic_limit call_limit now allowance share) (record {
      limit-low = f.1.0;
      limit-high = f.1.1.0;
      calls = le-leb 0 call_limit (omega arith);
      topic_limit = f.0;
      few-subs = refl;
      few-producers = refl;
      producers = refl;
      few-rows = refl;
      entries = refl;
      holders = refl;
      sorted = refl;
      consumers = refl;
      ids = refl;
      places = stands k;
      turn = refl;
      counters = all-every (leb 0 1 ∷ leb 0 1 ∷ leb 0 1 ∷ leb 0 1 ∷ leb 0 1 ∷ []) (refl, (refl, (refl, (refl, (refl, tt)))));
      mark = f.1.1.1.0;
      few-audits = refl;
      audits = refl;
      allowance = f.1.1.1.1.0;
      sizes = refl;
      share-low = f.1.1.1.1.1.0;
      share-high = f.1.1.1.1.1.1.0;
      shares = none-held k;
    })
  where
    stands : (j : Kind) → placed (opened k topic_limit call_limit now allowance share) j ≡ true
    stands queue = refl
    stands topic = refl

    none-held : (j : Kind) → within_share share (own_rows (opened k topic_limit call_limit now allowance share) j) ≡ true
    none-held queue = refl
    none-held topic = refl

made-sound : (b : Bool) (t : Dest) → Made b t → sound t ≡ true
made-sound b t (opens k topic_limit call_limit now allowance share e) = open-sound k topic_limit call_limit now allowance share e
made-sound b t (calls {t = u} lent c r e) = call-sound lent c u e

pub reached-sound : (b : Bool) (t : Dest) → Reached b t → sound t ≡ true
reached-sound b t r = made-sound b t (made b t r)
