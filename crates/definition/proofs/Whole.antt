-- A sound state by measures, whatever its calls used, and that a dispatch keeps it. Assumes nothing.
use Prim.Native.Nat.{ℕ, ◌+◌, ◌≤◌, ◌^◌, zero, suc}
use native.Mathlib.Omega.{arith}
use mathlib.Core.Path.{◌≡◌, refl, ◌∙◌, ap, sym}
use mathlib.Core.Bool.{true, ◌||◌, Bool}
use mathlib.Core.List.{List, [], ◌∷◌, ◌++◌}
use lib.Dec.{leb, ltb, eqb}
use lib.ListN.{length, set}
use borrow.Author.Tests.{leb-true, le-leb}
use mathlib.Core.Option.{some}
use Rattle.definition.specs.Base.{all, empty, ascending, find, nth}
use Rattle.definition.specs.Types.{Kind, queue, topic, Entry, Sub, Stats, Dest}
use Rattle.definition.specs.Consumer.{expired}
use Rattle.definition.specs.Calls.{used, bound, id_ok, optional, clock_ok, audit_ok, seqs, rows_of, sub_sound, consumer_rows, taken, held, all_rows, distinct_ids, counters_ok, placed, own_rows, within_share, sound}
use Rattle.definition.specs.Destination.{without}
use Rattle.definition.proofs.Tests.{and_left, and_right, and_both, by-test, if-true, if-false}
use Rattle.definition.proofs.Lists.{All, empty-nil, none-some, some_inj}
use Rattle.definition.proofs.Thin.{every-all, all-every}
use Rattle.definition.proofs.Sums.{sum, one, occ, bad, odd, from, agree-sum, sum-agree, share-sum, sum-share, sum-append, sum_one, ok-sum, sum-ok, once-sum, sum-once}
use Rattle.definition.proofs.Fit.{Waits, Fit, fit, unfit}
use Rattle.definition.proofs.Grown.{counted}
use Rattle.definition.proofs.Sound.{facts, from-facts, waits-more}

-- ---- sums over consumers

abbrev pub sums : (Sub → ℕ) → List Sub → ℕ
sums g [] = 0
sums g (s ∷ l) = g s + sums g l

-- a measure of one consumer's rows, and of those that count among a queue's entries
unfoldable pub rows_m : (Entry → ℕ) → Sub → ℕ
rows_m f s = sum f (rows_of s)

unfoldable pub count_m : (Entry → ℕ) → Sub → ℕ
count_m f s = sum f (counted s)

pub sums-rows : (f : Entry → ℕ) (l : List Sub) → sum f (consumer_rows l) ≡ sums (rows_m f) l
unfolding rows_m
sums-rows f [] = refl
sums-rows f (s ∷ l) = omega (arith, sum-append f (rows_of s) (consumer_rows l), sums-rows f l)

pub sums-taken : (f : Entry → ℕ) (l : List Sub) → sum f (taken l) ≡ sums (count_m f) l
unfolding count_m
sums-taken f [] = refl
sums-taken f (s ∷ l) = omega (arith, sum-append f (counted s) (taken l), sums-taken f l)

-- one consumer changed, one more, one less
module _ (g : Sub → ℕ) where
  pub sums-set : (i : ℕ) (l : List Sub) (s v : Sub) → nth i l ≡ some s → sums g (set l i v) + g s ≡ sums g l + g v
  sums-set i [] s v e = absurd (none-some e)
  sums-set zero (r ∷ l) s v e = omega (arith, ap g (some_inj e))
  sums-set (suc i) (r ∷ l) s v e = omega (arith, sums-set i l s v e)

  pub sums-more : (l : List Sub) (v : Sub) → sums g (l ++ v ∷ []) ≡ sums g l + g v
  sums-more [] v = omega arith
  sums-more (s ∷ l) v = omega (arith, sums-more l v)

  pub sums-without : (p : Sub → Bool) (l : List Sub) (s : Sub) → find p l ≡ some s → sums g (without p l) + g s ≡ sums g l
  sums-without p [] s f = absurd (none-some f)
  sums-without p (c ∷ l) s f = by-test (p c)
      (λ e. rw e (omega (arith, ap g (some_inj (sym (if-true (some c) (find p l) e) ∙ f)))))
      (λ e. rw e (omega (arith, sums-without p l s (sym (if-false (some c) (find p l) e) ∙ f))))

-- of a whole destination
abbrev pub rows_sum : (Entry → ℕ) → Dest → ℕ
rows_sum f t = sum f t.pending + sum f (held t) + sums (rows_m f) t.subs

abbrev pub queue_sum : (Entry → ℕ) → Dest → ℕ
queue_sum f t = sum f t.pending + sum f (held t) + sums (count_m f) t.subs

-- ---- a sound state, with N for the bound of counters, delivery numbers and generations

pub record Sane (k : Kind) (N : ℕ) (s : Sub) : Type 0 where
  pub fits : Fit k s
  pub next : s.next_dseq ≤ N
  pub generation : s.generation ≤ N
  pub pulls : Waits N s

pub record Under (N : ℕ) (c : Stats) : Type 0 where
  pub enqueued : c.enqueued ≤ N
  pub dequeued : c.dequeued ≤ N
  pub expired : c.expired ≤ N
  pub discarded : c.discarded ≤ N
  pub dispatched : c.dispatched ≤ N

abbrev pub Once : Kind → Dest → Type 0
Once queue t = (x : ℕ) → queue_sum (occ x) t ≤ 1
Once topic t = (t.pending ≡ []) × (t.reserved ≡ [])

-- copies with one number have one size
abbrev pub Agree : Dest → Type 0
Agree t = (x : ℕ) → (z : ℕ) × (rows_sum (odd x z) t ≤ 0)

-- the rows that belong to connections, and that each holds no more than its share
abbrev pub own_sum : Kind → (Entry → ℕ) → Dest → ℕ
own_sum queue f t = queue_sum f t
own_sum topic f t = rows_sum f t

abbrev pub Shared : Kind → Dest → Type 0
Shared k t = (c : ℕ) → own_sum k (from c) t ≤ t.share

-- the fields that no dispatch touches
pub record Frame (L U : ℕ) (t : Dest) : Type 0 where
  pub limit : t.call_limit ≡ L
  pub used : t.calls_used ≡ U
  pub topic_limit : leb t.topic_limit 512 ≡ true
  pub allowance : leb t.allowance 86400000 ≡ true
  pub share-low : leb 1 t.share ≡ true
  pub share-high : leb t.share 512 ≡ true
  pub few-producers : leb (length t.producers) 32 ≡ true
  pub producers : all id_ok t.producers ≡ true
  pub few-audits : leb (length t.audits) 8 ≡ true
  pub audits : all audit_ok t.audits ≡ true
  pub holders : all (λ h. id_ok h.holder) t.reserved ≡ true
  pub mark : optional clock_ok t.idle ≡ true

pub record Fine (L U : ℕ) (k : Kind) (N : ℕ) (t : Dest) : Type 0 where
  pub kind : t.kind ≡ k
  pub frame : Frame L U t
  pub few-subs : length t.subs ≤ 32
  pub subs : All (Sane k N) t.subs
  pub ids : distinct_ids t.subs ≡ true
  pub rows : rows_sum one t ≤ 512
  pub ok : rows_sum bad t ≤ 0
  pub once : Once k t
  pub agree : Agree t
  pub shared : Shared k t
  pub sorted : ascending (seqs t.pending) ≡ true
  pub turn : (ltb t.rr (length t.subs) || eqb t.rr 0) ≡ true
  pub counters : Under N t.stats

-- ---- and back

pub sane-more : (k : Kind) (M N : ℕ) (s : Sub) → M ≤ N → Sane k M s → Sane k N s
sane-more k M N s h q = record { fits = q.fits; next = omega (arith, q.next); generation = omega (arith, q.generation); pulls = waits-more s.pull M N h q.pulls }

pub all_map : {A : Type 0} (P Q : A → Type 0) (l : List A) → ((a : A) → P a → Q a) → All P l → All Q l
all_map P Q [] h p = tt
all_map P Q (a ∷ l) h p = (h a p.0, all_map P Q l h p.1)

pub under_more : (M N : ℕ) (c : Stats) → M ≤ N → Under M c → Under N c
under_more M N c h u = record { enqueued = omega (arith, u.enqueued); dequeued = omega (arith, u.dequeued); expired = omega (arith, u.expired); discarded = omega (arith, u.discarded); dispatched = omega (arith, u.dispatched) }

pub fine_more : (L U : ℕ) (k : Kind) (M N : ℕ) (t : Dest) → M ≤ N → Fine L U k M t → Fine L U k N t
fine_more L U k M N t h f = record {
  kind = f.kind;
  frame = f.frame;
  few-subs = f.few-subs;
  subs = all_map (Sane k M) (Sane k N) t.subs (λ s. sane-more k M N s h) f.subs;
  ids = f.ids;
  rows = f.rows;
  ok = f.ok;
  once = f.once;
  agree = f.agree;
  shared = f.shared;
  sorted = f.sorted;
  turn = f.turn;
  counters = under_more M N t.stats h f.counters;
}

sane-sound : (k : Kind) (u N : ℕ) (l : List Sub) → N ≤ bound u → All (Sane k N) l → all (sub_sound k u) l ≡ true
sane-sound k u N [] h p = refl
sane-sound k u N (s ∷ l) h p = and_both (sub_sound k u s) _ (unfit k u s p.0.fits (omega (arith, p.0.next)) (omega (arith, p.0.generation)) (waits-more s.pull N (bound u) h p.0.pulls)) (sane-sound k u N l h p.1)

sound-sane : (k : Kind) (u : ℕ) (l : List Sub) → all (sub_sound k u) l ≡ true → All (Sane k (bound u)) l
sound-sane k u [] h = tt
sound-sane k u (s ∷ l) h =
    let f = fit k u s (and_left (sub_sound k u s) _ h) in
    (record { fits = f.0; next = f.1; generation = f.2; pulls = f.3 }, sound-sane k u l (and_right (sub_sound k u s) _ h))

rows-bad : (k : Kind) (N : ℕ) (l : List Sub) → All (Sane k N) l → sums (rows_m bad) l ≡ 0
unfolding rows_m
rows-bad k N [] p = refl
rows-bad k N (s ∷ l) p = omega (arith, ok-sum (rows_of s) p.0.fits.ok, rows-bad k N l p.1)

pub rows-length : (f : Entry → ℕ) (t : Dest) → sum f (all_rows t) ≡ rows_sum f t
rows-length f t = omega (arith, sum-append f t.pending (held t ++ consumer_rows t.subs), sum-append f (held t) (consumer_rows t.subs), sums-rows f t.subs)

queue-length : (f : Entry → ℕ) (t : Dest) → sum f (t.pending ++ (held t ++ taken t.subs)) ≡ queue_sum f t
queue-length f t = omega (arith, sum-append f t.pending (held t ++ taken t.subs), sum-append f (held t) (taken t.subs), sums-taken f t.subs)

pub own-length : (k : Kind) (f : Entry → ℕ) (t : Dest) → sum f (own_rows t k) ≡ own_sum k f t
own-length queue f t = queue-length f t
own-length topic f t = rows-length f t

nil-empty : {A : Type 0} (l : List A) → l ≡ [] → empty l ≡ true
nil-empty l h = ap empty h

placed-once : (k : Kind) (t : Dest) → placed t k ≡ true → Once k t
placed-once queue t h = λ x. omega (arith, once-sum (t.pending ++ (held t ++ taken t.subs)) h x, queue-length (occ x) t)
placed-once topic t h = (empty-nil t.pending (and_left _ _ h), empty-nil t.reserved (and_right (empty t.pending) _ h))

once-placed : (k : Kind) (t : Dest) → Once k t → placed t k ≡ true
once-placed queue t h = sum-once (t.pending ++ (held t ++ taken t.subs)) (λ x. omega (arith, h x, queue-length (occ x) t))
once-placed topic t h = and_both _ _ (nil-empty t.pending h.0) (nil-empty t.reserved h.1)

counters-under : (N : ℕ) (c : Stats) → counters_ok N c ≡ true → Under N c
counters-under N c h =
    let f = every-all (leb c.enqueued N ∷ leb c.dequeued N ∷ leb c.expired N ∷ leb c.discarded N ∷ leb c.dispatched N ∷ []) h in
    record { enqueued = leb-true _ _ f.0; dequeued = leb-true _ _ f.1.0; expired = leb-true _ _ f.1.1.0; discarded = leb-true _ _ f.1.1.1.0; dispatched = leb-true _ _ f.1.1.1.1.0 }

under-counters : (N M : ℕ) (c : Stats) → N ≤ M → Under N c → counters_ok M c ≡ true
under-counters N M c h u =
    all-every (leb c.enqueued M ∷ leb c.dequeued M ∷ leb c.expired M ∷ leb c.discarded M ∷ leb c.dispatched M ∷ [])
    (le-leb c.enqueued M (omega (arith, u.enqueued)), (le-leb c.dequeued M (omega (arith, u.dequeued)), (le-leb c.expired M (omega (arith, u.expired)), (le-leb c.discarded M (omega (arith, u.discarded)), (le-leb c.dispatched M (omega (arith, u.dispatched)), tt)))))

pub fine : (t : Dest) → sound t ≡ true → Fine t.call_limit t.calls_used t.kind (bound t.calls_used) t
fine t e =
    let f = facts t e in
    let s = sound-sane t.kind t.calls_used t.subs f.consumers in
    record {
      kind = refl;
      frame = record { limit = refl; used = refl; topic_limit = f.topic_limit; allowance = f.allowance; share-low = f.share-low; share-high = f.share-high; few-producers = f.few-producers; producers = f.producers; few-audits = f.few-audits; audits = f.audits; holders = f.holders; mark = f.mark };
      few-subs = leb-true _ _ f.few-subs;
      subs = s;
      ids = f.ids;
      rows = omega (arith, leb-true (length (all_rows t)) 512 f.few-rows, rows-length one t, sum_one (all_rows t));
      ok = omega (arith, ok-sum (t.pending ++ held t) f.entries, sum-append bad t.pending (held t), rows-bad t.kind (bound t.calls_used) t.subs s);
      once = placed-once t.kind t f.places;
      agree = λ x. let z = agree-sum (all_rows t) f.sizes x in (z.0, omega (arith, z.1, rows-length (odd x z.0) t));
      shared = λ c. omega (arith, share-sum t.share (own_rows t t.kind) f.shares c, own-length t.kind (from c) t);
      sorted = f.sorted;
      turn = f.turn;
      counters = counters-under _ _ f.counters;
    }

pub unfine : (L U : ℕ) (k : Kind) (N : ℕ) (t : Dest) → leb 1 L ≡ true → leb L (2 ^ 40) ≡ true → U + 1 ≤ L → N ≤ bound (U + 1) → Fine L U k N t → sound (used t) ≡ true
unfine L U k N t a b c n f =
    let u : bound (t.calls_used + 1) ≡ bound (U + 1) = ap (λ x. bound (x + 1)) f.frame.used in
    from-facts (used t) (record {
      limit-low = rw f.frame.limit a;
      limit-high = rw f.frame.limit b;
      calls = le-leb (t.calls_used + 1) t.call_limit (omega (arith, f.frame.limit, f.frame.used));
      topic_limit = f.frame.topic_limit;
      few-subs = le-leb _ _ f.few-subs;
      few-producers = f.frame.few-producers;
      producers = f.frame.producers;
      few-rows = le-leb (length (all_rows t)) 512 (omega (arith, f.rows, rows-length one t, sum_one (all_rows t)));
      entries = sum-ok (t.pending ++ held t) (omega (arith, f.ok, sum-append bad t.pending (held t)));
      holders = f.frame.holders;
      sorted = f.sorted;
      consumers = ap (λ j. all (sub_sound j (t.calls_used + 1)) t.subs) f.kind ∙ sane-sound k (t.calls_used + 1) N t.subs (omega (arith, n, u)) f.subs;
      ids = f.ids;
      places = ap (λ j. placed (used t) j) f.kind ∙ once-placed k (used t) (again k f.once);
      turn = f.turn;
      counters = under-counters N (bound (t.calls_used + 1)) t.stats (omega (arith, n, u)) f.counters;
      mark = f.frame.mark;
      few-audits = f.frame.few-audits;
      audits = f.frame.audits;
      allowance = f.frame.allowance;
      sizes = sum-agree (all_rows t) (λ x. let z = f.agree x in (z.0, omega (arith, z.1, rows-length (odd x z.0) t)));
      share-low = f.frame.share-low;
      share-high = f.frame.share-high;
      shares = ap (λ j. within_share t.share (own_rows (used t) j)) f.kind ∙ sum-share t.share (own_rows (used t) k) (λ c. omega (arith, f.shared c, used-length k (from c)));
    })
  where
    again : (j : Kind) → Once j t → Once j (used t)
    again queue h = h
    again topic h = h

    used-length : (j : Kind) (m : Entry → ℕ) → sum m (own_rows (used t) j) ≡ own_sum j m t
    used-length queue m = queue-length m t
    used-length topic m = rows-length m t
