-- Consumers changed one by one, with no row more: what that keeps of a sound state. Assumes nothing.
use Prim.Native.Nat.{ℕ, ◌+◌, ◌≤◌}
use native.Mathlib.Omega.{arith}
use mathlib.Core.Path.{◌≡◌, refl, sym, ◌∙◌, ap, subst⁻¹}
use mathlib.Core.Bool.{Bool, true, not, ◌&&◌, ◌||◌}
use mathlib.Core.List.{List, [], ◌∷◌, map}
use mathlib.Core.Option.{Option, some}
use lib.Dec.{ltb, eqb}
use lib.ListN.{length, length-map}
use Rattle.definition.specs.Base.{all, find, put, ascending}
use Rattle.definition.specs.Types.{Kind, queue, topic, Id, Entry, Sub, Stats, Held, Dest, with_pending, with_subs, with_rr, with_stats, with_idle, with_reserved}
use Rattle.definition.specs.Consumer.{same_id}
use Rattle.definition.specs.Calls.{distinct_ids, seqs, held, id_ok, optional, clock_ok}
use Rattle.definition.proofs.Tests.{if-true, if-false, by-test}
use Rattle.definition.proofs.Lists.{some_inj, All}
use Rattle.definition.proofs.Sums.{sum, Tame, one, occ, bad, odd, from, one-tame, occ-tame, bad-tame, odd-tame, from-tame}
use Rattle.definition.proofs.Whole.{sums, rows_m, count_m, rows_sum, queue_sum, Sane, sane-more, Under, Once, Agree, Shared, Frame, Fine}

-- ---- IDs

abbrev ids_of : List Sub → List Id
ids_of l = map (λ s. s.id) l

ids_distinct : List Id → Bool
ids_distinct [] = true
ids_distinct (i ∷ l) = all (λ j. not (same_id j i)) l && ids_distinct l

ids-list : (l : List Sub) → distinct_ids l ≡ ids_distinct (ids_of l)
unfolding ids_distinct
ids-list [] = refl
ids-list (s ∷ l) = ap (λ b. all (λ r. not (same_id r.id s.id)) l && b) (ids-list l) ∙ ap (λ b. b && ids_distinct (ids_of l)) (alike l)
  where
    alike : (m : List Sub) → all (λ r. not (same_id r.id s.id)) m ≡ all (λ j. not (same_id j s.id)) (ids_of m)
    alike [] = refl
    alike (r ∷ m) = ap (λ b. not (same_id r.id s.id) && b) (alike m)

pub ids-same : (l m : List Sub) → ids_of m ≡ ids_of l → distinct_ids m ≡ distinct_ids l
ids-same l m h = ids-list m ∙ ap ids_distinct h ∙ sym (ids-list l)

-- ---- one consumer

-- v is s after a step that adds at most x to its numbers, and no row
pub record Eased (k : Kind) (x : ℕ) (s v : Sub) : Type 0 where
  pub id : v.id ≡ s.id
  pub sane : (N : ℕ) → Sane k N s → Sane k (N + x) v
  pub rows : (f : Entry → ℕ) → Tame f → (N : ℕ) → Sane k N s → rows_m f v ≤ rows_m f s
  pub taken : k ≡ queue → (f : Entry → ℕ) → Tame f → (N : ℕ) → Sane k N s → count_m f v ≤ count_m f s

pub eased-refl : (k : Kind) (s : Sub) → Eased k 0 s s
eased-refl k s = record { id = refl; sane = λ N h. sane-more k N (N + 0) s (omega arith) h; rows = λ f h N n. omega arith; taken = λ q f h N n. omega arith }

-- ---- all consumers

pub record Each (k : Kind) (x N : ℕ) (l m : List Sub) : Type 0 where
  pub ids : ids_of m ≡ ids_of l
  pub sane : All (Sane k (N + x)) m
  pub rows : (f : Entry → ℕ) → Tame f → sums (rows_m f) m ≤ sums (rows_m f) l
  pub taken : k ≡ queue → (f : Entry → ℕ) → Tame f → sums (count_m f) m ≤ sums (count_m f) l

pub each_nil : (k : Kind) (x N : ℕ) → Each k x N [] []
each_nil k x N = record { ids = refl; sane = tt; rows = λ f h. omega arith; taken = λ q f h. omega arith }

pub each-cons : {k : Kind} {y : ℕ} {s v : Sub} (x N : ℕ) (l m : List Sub) → y ≤ x → Sane k N s → Eased k y s v → Each k x N l m → Each k x N (s ∷ l) (v ∷ m)
each-cons {k} {y} {s} {v} x N l m h n e r = record {
  ids = ap (λ i. i ∷ ids_of m) e.id ∙ ap (λ t. s.id ∷ t) r.ids;
  sane = (sane-more k (N + y) (N + x) v (omega arith) (e.sane N n), r.sane);
  rows = λ f t. omega (arith, e.rows f t N n, r.rows f t);
  taken = λ q f t. omega (arith, e.taken q f t N n, r.taken q f t);
}

pub each-refl : (k : Kind) (x N : ℕ) (l : List Sub) → All (Sane k N) l → Each k x N l l
each-refl k x N [] h = each_nil k x N
each-refl k x N (s ∷ l) h = each-cons x N l l (omega arith) h.0 (eased-refl k s) (each-refl k x N l h.1)

pub each-put : (k : Kind) (x N : ℕ) (p : Sub → Bool) (l : List Sub) (s v : Sub) → find p l ≡ some s → Eased k x s v → All (Sane k N) l → Each k x N l (put p v l)
each-put k x N p [] s v f e h = each_nil k x N
each-put k x N p (c ∷ l) s v f e h = by-test (p c)
    (λ q. rw q (each-cons x N l l (omega arith) h.0 (subst⁻¹ (λ (r : Sub). Eased k x r v) (some_inj (sym (if-true (some c) (find p l) q) ∙ f)) e) (each-refl k x N l h.1)))
    (λ q. rw q (each-cons x N l (put p v l) (omega arith) h.0 (eased-refl k c) (each-put k x N p l s v (sym (if-false (some c) (find p l) q) ∙ f) e h.1)))

pub each_map : (k : Kind) (x N : ℕ) (g : Sub → Sub) (l : List Sub) → ((s : Sub) → Eased k x s (g s)) → All (Sane k N) l → Each k x N l (map g l)
each_map k x N g [] e h = each_nil k x N
each_map k x N g (s ∷ l) e h = each-cons x N l (map g l) (omega arith) h.0 (e s) (each_map k x N g l e h.1)

pub each-length : (k : Kind) (x N : ℕ) (l m : List Sub) → Each k x N l m → length m ≡ length l
each-length k x N l m e = sym (length-map m (λ s. s.id)) ∙ ap length e.ids ∙ length-map l (λ s. s.id)

-- ---- the destination

-- the destination with these fields anew
abbrev pub renewed : ℕ → Stats → List Sub → List Entry → List Held → Option ℕ → Dest → Dest
renewed r c l p h i t = with_rr r (with_stats c (with_subs l (with_pending p (with_reserved h (with_idle i t)))))

pub frame-renewed : (L U r : ℕ) (c : Stats) (l : List Sub) (p : List Entry) (h : List Held) (i : Option ℕ) (t : Dest) → Frame L U t → all (λ h. id_ok h.holder) h ≡ true → optional clock_ok i ≡ true → Frame L U (renewed r c l p h i t)
frame-renewed L U r c l p h i t f a b = record { limit = f.limit; used = f.used; topic_limit = f.topic_limit; allowance = f.allowance; share-low = f.share-low; share-high = f.share-high; few-producers = f.few-producers; producers = f.producers; few-audits = f.few-audits; audits = f.audits; holders = a; mark = b }

pub agree_less : (t u : Dest) → Agree t → ((f : Entry → ℕ) → Tame f → rows_sum f u ≤ rows_sum f t) → Agree u
agree_less t u h r = λ x. let z = h x in (z.0, omega (arith, z.1, r (odd x z.0) (odd-tame x z.0)))

pub shared-less : (k : Kind) (t u : Dest) → u.share ≡ t.share → Shared k t → ((f : Entry → ℕ) → Tame f → rows_sum f u ≤ rows_sum f t) → (k ≡ queue → (f : Entry → ℕ) → Tame f → queue_sum f u ≤ queue_sum f t) → Shared k u
shared-less queue t u e h r q = λ c. omega (arith, e, h c, q refl (from c) (from-tame c))
shared-less topic t u e h r q = λ c. omega (arith, e, h c, r (from c) (from-tame c))

pub thin-once : (k : Kind) (t u : Dest) → Once k t → (k ≡ queue → (f : Entry → ℕ) → Tame f → queue_sum f u ≤ queue_sum f t) → (k ≡ topic → (u.pending ≡ []) × (u.reserved ≡ [])) → Once k u
thin-once queue t u h q n = λ x. omega (arith, h x, q refl (occ x) (occ-tame x))
thin-once topic t u h q n = n refl

-- nothing more in any row
module _ (L U : ℕ) (k : Kind) (N x : ℕ) (t : Dest) (g : Fine L U k N t) where
  pub each-fine : (c : Stats) (l : List Sub) (p : List Entry) (h : List Held) (i : Option ℕ) → Each k x N t.subs l →
      ((f : Entry → ℕ) → Tame f → sum f p + sum f (map (λ h. h.entry) h) ≤ sum f t.pending + sum f (held t)) →
      (k ≡ topic → (p ≡ []) × (h ≡ [])) → ascending (seqs p) ≡ true → all (λ h. id_ok h.holder) h ≡ true → optional clock_ok i ≡ true → Under (N + x) c →
      Fine L U k (N + x) (renewed t.rr c l p h i t)
  each-fine c l p h i e m n o a b u = record {
    kind = g.kind;
    frame = frame-renewed L U t.rr c l p h i t g.frame a b;
    few-subs = omega (arith, g.few-subs, each-length k x N t.subs l e);
    subs = e.sane;
    ids = ids-same t.subs l e.ids ∙ g.ids;
    rows = omega (arith, g.rows, m one one-tame, e.rows one one-tame);
    ok = omega (arith, g.ok, m bad bad-tame, e.rows bad bad-tame);
    once = thin-once k t (renewed t.rr c l p h i t) g.once (λ q f w. omega (arith, m f w, e.taken q f w)) n;
    agree = agree_less t (renewed t.rr c l p h i t) g.agree (λ f w. omega (arith, m f w, e.rows f w));
    shared = shared-less k t (renewed t.rr c l p h i t) refl g.shared (λ f w. omega (arith, m f w, e.rows f w)) (λ q f w. omega (arith, m f w, e.taken q f w));
    sorted = o;
    turn = ap (λ n. ltb t.rr n || eqb t.rr 0) (each-length k x N t.subs l e) ∙ g.turn;
    counters = u;
  }
