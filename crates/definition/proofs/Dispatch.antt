-- A dispatch keeps a sound state. Assumes nothing.
use Prim.Native.Nat.{ℕ, zero, suc, ◌+◌, ◌-◌, ◌%◌, ◌≤◌, ◌^◌}
use native.Mathlib.Omega.{arith}
use native.Mathlib.Nat.{mod-lt}
use mathlib.Core.Path.{◌≡◌, refl, sym, ◌∙◌, ap}
use mathlib.Core.Bool.{true, false, not, ◌||◌, true≢false}
use mathlib.Core.List.{List, [], ◌∷◌, ◌++◌, map, map-append}
use mathlib.Core.Option.{Option, none, some}
use lib.Dec.{leb, ltb, eqb}
use lib.ListN.{length, set, length-append, length-set}
use borrow.Author.Tests.{lt-ltb}
use lib.IntN.{pos}
use Rattle.definition.specs.Base.{all, nth, empty, ascending, is_some}
use Rattle.definition.specs.Types.{Kind, queue, topic, Entry, Sub, Stats, Dest, with_cursor, with_pending, with_subs}
use Rattle.definition.specs.Consumer.{expired, accepts, ◌⊕◌, add_expired, add_dispatched, is_browser, shown, snapshot, has_credit, send, inflight_of, at_rest, serve_topic, Browse, drain_browser, dispatch_browser, meet_browser, close_browser}
use Rattle.definition.specs.Destination.{visit_at, count, Look, look, given, visit, scan, turns, rounds, Browsed, browsers, dispatch_queue, serve_all, dispatch_topic, dispatch_by}
use Rattle.definition.specs.Calls.{entry_ok, seqs, flying, rows_of}
use Rattle.definition.proofs.Tests.{or-no-left, by-if, by-test, and_left, and_right}
use Rattle.definition.proofs.Lists.{none-some, some_inj, All, empty-nil, all_set, all-nth}
use Rattle.definition.proofs.Thin.{alike_refl, Thin, done, skip, stay, thin-refl, thin-trans, tally-append, ascending-more}
use Rattle.definition.proofs.Sums.{odd, from, sum, Tame, one, occ, bad, sum-append, sum-thin, sum_one, ok-sum, sum-ok, sum-once, thin-ascending, thin-keep, bad-ok}
use Rattle.definition.proofs.Fit.{Fit, Little, total, met, dseqs, drain-little, browses-little}
use Rattle.definition.proofs.Grown.{counted}
use Rattle.definition.proofs.Local.{drained-id, browsed-id, alone, browsed}
use Rattle.definition.proofs.Whole.{sums, rows_m, count_m, Sane, sane-more, Under, all_map, Fine, fine_more, sums-set}
use Rattle.definition.proofs.Each.{Eased, eased-refl, Each, each_nil, each-cons, ids-same, renewed, frame-renewed, each-fine}

pub not-queue : topic ≡ queue → ⊥
not-queue e = let z : ◌≡◌ {A = ℕ} 0 1 = cc in omega arith

pub not-topic : queue ≡ topic → ⊥
not-topic e = let z : ◌≡◌ {A = ℕ} 0 1 = cc in omega arith

pub under-plus : (N x : ℕ) (a c : Stats) → Under N a → total c ≤ x → Under (N + x) (a ⊕ c)
under-plus N x a c u h = record { enqueued = omega (arith, u.enqueued); dequeued = omega (arith, u.dequeued); expired = omega (arith, u.expired); discarded = omega (arith, u.discarded); dispatched = omega (arith, u.dispatched) }

-- ---- topics

little-eased : (k : Kind) (x : ℕ) (s v : Sub) (c d : ℕ) → v.id ≡ s.id → (Fit k s → Little k x c s v d) → (k ≡ queue → (f : Entry → ℕ) → Tame f → Fit k s → count_m f v ≤ count_m f s) → Eased k x s v
unfolding rows_m
little-eased k x s v c d i m q = record {
  id = i;
  sane = λ N h. let l = m h.fits in let n = sane-more k N (N + x) s (omega arith) h in record { fits = l.less.still; next = omega (arith, l.next, h.next); generation = omega (arith, l.generation, h.generation); pulls = l.pulls (N + x) n.pulls };
  rows = λ f t N h. sum-thin f t _ _ (m h.fits).less.rows;
  taken = λ e f t N h. q e f t h.fits;
}

topic-eased : (now : ℕ) (s : Sub) → Eased topic (length s.tpending) s (serve_topic now s).sub
topic-eased now s = little-eased topic (length s.tpending) s _ _ _ (drained-id now s.tpending (at_rest s)) (λ f. drain-little now s.tpending (at_rest s) refl f) (λ e. absurd (not-queue e))

-- a consumer's lists, among its rows
pub rows-parts : (s : Sub) → rows_m one s ≡ length (flying s) + length s.tpending + length (snapshot s)
unfolding rows_m
rows-parts s = omega (arith, sum_one (rows_of s), length-append (flying s) (s.tpending ++ snapshot s), length-append s.tpending (snapshot s))

record Served (N x : ℕ) (now : ℕ) (l : List Sub) : Type 0 where
  each : Each topic x N l (serve_all now l).subs
  counts : total (serve_all now l).counts ≤ sums (rows_m one) l

serve-all : (N x now : ℕ) (l : List Sub) → sums (rows_m one) l ≤ x → All (Sane topic N) l → Served N x now l
unfolding serve_all
serve-all N x now [] h a = record { each = each_nil topic x N; counts = omega arith }
serve-all N x now (s ∷ l) h a =
    let r = serve-all N x now l (omega arith) a.1 in
    let m = drain-little now s.tpending (at_rest s) refl a.0.fits in
    record {
      each = each-cons x N l (serve_all now l).subs (omega (arith, rows-parts s)) a.0 (topic-eased now s) r.each;
      counts = omega (arith, m.counts, r.counts, rows-parts s);
    }

-- ---- browsers

pub count-browser : (f : Entry → ℕ) (s : Sub) → is_browser s ≡ true → count_m f s ≡ 0
unfolding count_m
count-browser f s c = rw c

pub count-plain : (f : Entry → ℕ) (s : Sub) → is_browser s ≡ false → count_m f s ≡ sum f (flying s)
unfolding count_m
count-plain f s c = rw c

browse-eased : (now : ℕ) (p : List Entry) (s : Sub) → is_browser s ≡ true → Eased queue (length (snapshot s)) s (dispatch_browser now p s).sub
browse-eased now p s c = little-eased queue (length (snapshot s)) s _ _ _ (browsed-id now (snapshot s) (alone p s)) (λ f. browses-little now (snapshot s) (alone p s) refl f)
    (λ e f t h. omega (arith, count-browser f (dispatch_browser now p s).sub ((browses-little now (snapshot s) (alone p s) refl h).browser ∙ c)))

browse-thin : (now : ℕ) (l : List Entry) (b : Browse) → Thin b.pending (drain_browser now l b).pending
unfolding drain_browser close_browser meet_browser
browse-thin now [] b = by-test (has_credit b.sub) (λ c. rw c closed) (λ c. rw c (thin-refl b.pending))
  where
    closed : Thin b.pending (close_browser b).pending
    closed = by-if (λ (x : Browse). Thin b.pending x.pending) b.sub.finished b _ (λ c. thin-refl b.pending) (λ c. thin-refl b.pending)
browse-thin now (e ∷ es) b = by-test (has_credit b.sub)
    (λ c. rw c (thin-trans _ _ _ met-thin (browse-thin now es (meet_browser now e es b))))
    (λ c. rw c (thin-refl b.pending))
  where
    met-thin : Thin b.pending (meet_browser now e es b).pending
    met-thin = by-test (expired (pos now) e) (λ c. rw c (thin-keep _ b.pending)) (λ c. rw c (thin-refl b.pending))

record Showed (N : ℕ) (p : List Entry) (s : Sub) (b : Browse) : Type 0 where
  eased : Eased queue (rows_m one s) s b.sub
  thin : Thin p b.pending
  counts : Sane queue N s → met b ≤ length p + rows_m one s

eased-more : (k : Kind) (x y : ℕ) (s v : Sub) → x ≤ y → Eased k x s v → Eased k y s v
eased-more k x y s v h e = record { id = e.id; sane = λ N n. sane-more k (N + x) (N + y) v (omega arith) (e.sane N n); rows = e.rows; taken = e.taken }

browsed-showed : (N now : ℕ) (p : List Entry) (s : Sub) → Showed N p s (browsed now p s)
browsed-showed N now p s = by-if (Showed N p s) (is_browser s) (dispatch_browser now p s) _
    (λ c. record {
      eased = eased-more queue (length (snapshot s)) (rows_m one s) s (dispatch_browser now p s).sub (omega (arith, rows-parts s)) (browse-eased now p s c);
      thin = browse-thin now (snapshot s) (alone p s);
      counts = λ h. omega (arith, (browses-little now (snapshot s) (alone p s) refl h.fits).counts, rows-parts s);
    })
    (λ c. record { eased = eased-more queue 0 (rows_m one s) s s (omega arith) (eased-refl queue s); thin = thin-refl p; counts = λ h. omega arith })

record Shown (N x now : ℕ) (l : List Sub) (p : List Entry) : Type 0 where
  each : Each queue x N l (browsers now l p).subs
  thin : Thin p (browsers now l p).pending
  counts : total (browsers now l p).counts + length (browsers now l p).pending ≤ length p + sums (rows_m one) l

browse-all : (N x now : ℕ) (l : List Sub) (p : List Entry) → sums (rows_m one) l ≤ x → All (Sane queue N) l → Shown N x now l p
unfolding browsers
browse-all N x now [] p h a = record { each = each_nil queue x N; thin = thin-refl p; counts = omega arith }
browse-all N x now (s ∷ l) p h a =
    let b = browsed-showed N now p s in
    let r = browse-all N x now l (browsed now p s).pending (omega arith) a.1 in
    record {
      each = each-cons x N l (browsers now l (browsed now p s).pending).subs (omega arith) a.0 b.eased r.each;
      thin = thin-trans _ _ _ b.thin r.thin;
      counts = omega (arith, b.counts a.0, r.counts);
    }

-- ---- the look along the queue

abbrev pub fo : (Entry → ℕ) → Option Entry → ℕ
fo f none = 0
fo f (some e) = f e

record Looked (c : ℕ) (l : List Entry) (r : Look) : Type 0 where
  thin : Thin l r.pending
  sums : (f : Entry → ℕ) → sum f r.pending + fo f r.chosen ≤ sum f l
  gone : r.gone + fo one r.chosen + length r.pending ≤ length l
  cursor : ltb c (2 ^ 63) ≡ true → sum bad l ≤ 0 → ltb r.cursor (2 ^ 63) ≡ true

seq-ok : (e : Entry) → entry_ok e ≡ true → ltb e.seq (2 ^ 63) ≡ true
seq-ok e h = and_left (ltb e.seq (2 ^ 63)) _ (and_right (leb 1 e.seq) _ h)

head_ok : (e : Entry) (l : List Entry) → sum bad (e ∷ l) ≤ 0 → entry_ok e ≡ true
head_ok e l h = and_left (entry_ok e) (all entry_ok l) (sum-ok (e ∷ l) h)

looks : (now : ℕ) (s : Sub) (c : ℕ) (l : List Entry) → Looked c l (look now s c l)
unfolding look
looks now s c [] = record { thin = done; sums = λ f. omega arith; gone = omega arith; cursor = λ h b. h }
looks now s c (e ∷ es) = by-test (leb e.seq s.cursor)
    (λ x. rw x (let r = looks now s c es in record { thin = stay (alike_refl e) r.thin; sums = λ f. omega (arith, r.sums f); gone = omega (arith, r.gone); cursor = λ h b. r.cursor h (omega arith) }))
    (λ x. rw x (by-test (expired (pos now) e)
    (λ y. rw y (let r = looks now s c es in record { thin = skip r.thin; sums = λ f. omega (arith, r.sums f); gone = omega (arith, r.gone); cursor = λ h b. r.cursor h (omega arith) }))
    (λ y. rw y (by-test (accepts s e)
    (λ z. rw z (record { thin = skip (thin-refl es); sums = λ f. omega arith; gone = omega arith; cursor = λ h b. seq-ok e (head_ok e es b) }))
    (λ z. rw z (let r = looks now s e.seq es in record { thin = stay (alike_refl e) r.thin; sums = λ f. omega (arith, r.sums f); gone = omega (arith, r.gone); cursor = λ h b. r.cursor (seq-ok e (head_ok e es b)) (omega arith) }))))))

-- ---- one consumer in its place

module _ (g : Sub → ℕ) where
  sums-nth : (i : ℕ) (l : List Sub) (s : Sub) → nth i l ≡ some s → g s ≤ sums g l
  sums-nth i [] s e = absurd (none-some e)
  sums-nth zero (r ∷ l) s e = omega (arith, ap g (some_inj e))
  sums-nth (suc i) (r ∷ l) s e = omega (arith, sums-nth i l s e)

ids_set : (i : ℕ) (l : List Sub) (s v : Sub) → nth i l ≡ some s → v.id ≡ s.id → map (λ r. r.id) (set l i v) ≡ map (λ r. r.id) l
ids_set i [] s v e h = refl
ids_set zero (r ∷ l) s v e h = ap (λ x. x ∷ map (λ r. r.id) l) (h ∙ ap (λ x. x.id) (sym (some_inj e)))
ids_set (suc i) (r ∷ l) s v e h = ap (λ x. r.id ∷ x) (ids_set i l s v e h)

-- ---- an entry off the queue

no-snapshot : (s : Sub) → is_browser s ≡ false → snapshot s ≡ []
unfolding is_browser
no-snapshot s c = go s.browser c
  where
    go : (o : Option (List Entry)) → is_some o ≡ false → shown o ≡ []
    go none h = refl
    go (some l) h = absurd (true≢false h)

pub plain_rows : (f : Entry → ℕ) (s : Sub) → Fit queue s → is_browser s ≡ false → rows_m f s ≡ sum f (flying s)
unfolding rows_m
plain_rows f s h c = omega (arith, sum-append f (flying s) (s.tpending ++ snapshot s), sum-append f s.tpending (snapshot s), ap (sum f) (empty-nil s.tpending h.stands), ap (sum f) (no-snapshot s c))

pub send-flying : (s : Sub) (e : Entry) → flying (send e s) ≡ flying s ++ e ∷ []
send-flying s e = map-append (λ i. i.entry) s.inflight (inflight_of s.next_dseq e ∷ [])

-- what a consumer that is no browser takes
take-fit : (s : Sub) (c : ℕ) (e : Entry) → Fit queue s → is_browser s ≡ false → ltb c (2 ^ 63) ≡ true → entry_ok e ≡ true → ((x : ℕ) → sum (occ x) (flying s) + occ x e ≤ 1) → Fit queue (send e (with_cursor c s))
unfolding rows_m is_browser
take-fit s c e h b k o a = record {
  named = h.named;
  room = h.room;
  selects = h.selects;
  ok = sum-ok (rows_of v) (omega (arith, whole bad, ok-sum (rows_of s) h.ok, plain_rows bad s h b, bad-ok e o));
  seen = k;
  apart = sum-once (rows_of v) (λ x. omega (arith, whole (occ x), a x));
  counted = omega (arith, h.counted, tally-append (λ i. i.freed) s.inflight (inflight_of s.next_dseq e ∷ []));
  numbered = ap (λ (x : List ℕ). ascending (x ++ (s.next_dseq + 1) ∷ [])) (map-append (λ i. i.dseq) s.inflight (inflight_of s.next_dseq e ∷ [])) ∙ ascending-more s.next_dseq (dseqs s) h.numbered;
  sorted = h.sorted;
  stands = h.stands;
}
  where
    v : Sub
    v = send e (with_cursor c s)

    whole : (f : Entry → ℕ) → sum f (rows_of v) ≡ sum f (flying s) + f e
    whole f = omega (arith, sum-append f (flying v) (s.tpending ++ snapshot s), ap (sum f) (send-flying s e), sum-append f (flying s) (e ∷ []), sum-append f s.tpending (snapshot s), ap (sum f) (empty-nil s.tpending h.stands), ap (sum f) (no-snapshot s b))

take-sums : (f : Entry → ℕ) (s : Sub) (c : ℕ) (e : Entry) → Fit queue s → is_browser s ≡ false → rows_m f (send e (with_cursor c s)) ≡ sum f (flying s) + f e
unfolding rows_m is_browser
take-sums f s c e h b = omega (arith, sum-append f (flying (send e (with_cursor c s))) (s.tpending ++ snapshot s), ap (sum f) (send-flying s e), sum-append f (flying s) (e ∷ []), sum-append f s.tpending (snapshot s), ap (sum f) (empty-nil s.tpending h.stands), ap (sum f) (no-snapshot s b))

take_count : (f : Entry → ℕ) (s : Sub) (c : ℕ) (e : Entry) → is_browser s ≡ false → count_m f (send e (with_cursor c s)) ≡ sum f (flying s) + f e
unfolding is_browser
take_count f s c e b = omega (arith, count-plain f (send e (with_cursor c s)) b, ap (sum f) (send-flying s e), sum-append f (flying s) (e ∷ []))

nth-length : (i : ℕ) (l : List Sub) (s : Sub) → nth i l ≡ some s → 1 ≤ length l
nth-length i [] s e = absurd (none-some e)
nth-length i (r ∷ l) s e = omega arith

pub cursor_rows : (f : Entry → ℕ) (c : ℕ) (s : Sub) → rows_m f (with_cursor c s) ≡ rows_m f s
unfolding rows_m
cursor_rows f c s = refl

pub cursor-count : (f : Entry → ℕ) (c : ℕ) (s : Sub) → count_m f (with_cursor c s) ≡ count_m f s
unfolding count_m is_browser
cursor-count f c s = refl

pub cursor-sane : (k : Kind) (N c : ℕ) (s : Sub) → ltb c (2 ^ 63) ≡ true → Sane k N s → Sane k N (with_cursor c s)
cursor-sane k N c s h n = record { fits = go k n.fits; next = n.next; generation = n.generation; pulls = n.pulls }
  where
    go : (j : Kind) → Fit j s → Fit j (with_cursor c s)
    go queue f = record { named = f.named; room = f.room; selects = f.selects; ok = f.ok; seen = h; apart = f.apart; counted = f.counted; numbered = f.numbered; sorted = f.sorted; stands = f.stands }
    go topic f = record { named = f.named; room = f.room; selects = f.selects; ok = f.ok; seen = h; apart = f.apart; counted = f.counted; numbered = f.numbered; sorted = f.sorted; stands = f.stands }

module _ (L U : ℕ) where
  set-fine : (N K i r : ℕ) (s v : Sub) (c : Stats) (p : List Entry) (t : Dest) → Fine L U queue N t → nth i t.subs ≡ some s → v.id ≡ s.id → N ≤ K → Sane queue K v →
      ((f : Entry → ℕ) → rows_m f v + sum f p ≤ rows_m f s + sum f t.pending) → ((f : Entry → ℕ) → count_m f v + sum f p ≤ count_m f s + sum f t.pending) →
      ascending (seqs p) ≡ true → (ltb r (length t.subs) || eqb r 0) ≡ true → Under K c → Fine L U queue K (renewed r c (set t.subs i v) p t.reserved t.idle t)
  set-fine N K i r s v c p t g e d n y a b o w u = record {
    kind = g.kind;
    frame = frame-renewed L U r c (set t.subs i v) p t.reserved t.idle t g.frame g.frame.holders g.frame.mark;
    few-subs = omega (arith, g.few-subs, length-set t.subs i v);
    subs = all_set (Sane queue K) i t.subs v (all_map (Sane queue N) (Sane queue K) t.subs (λ x. sane-more queue N K x n) g.subs) y;
    ids = ids-same t.subs (set t.subs i v) (ids_set i t.subs s v e d) ∙ g.ids;
    rows = omega (arith, g.rows, a one, sums-set (rows_m one) i t.subs s v e);
    ok = omega (arith, g.ok, a bad, sums-set (rows_m bad) i t.subs s v e);
    once = λ x. omega (arith, g.once x, b (occ x), sums-set (count_m (occ x)) i t.subs s v e);
    shared = λ c. omega (arith, g.shared c, b (from c), sums-set (count_m (from c)) i t.subs s v e);
    agree = λ x. let z = g.agree x in (z.0, omega (arith, z.1, a (odd x z.0), sums-set (rows_m (odd x z.0)) i t.subs s v e));
    sorted = o;
    turn = ap (λ n. ltb r n || eqb r 0) (length-set t.subs i v) ∙ w;
    counters = u;
  }

  Bounded : ℕ → Dest → Type 0
  Bounded M t = (K : ℕ) × Fine L U queue K t × (K + length t.pending ≤ M)

  given-fine : (N i : ℕ) (s : Sub) (l : Look) (t : Dest) (o : Option Entry) → Fine L U queue N t → nth i t.subs ≡ some s → is_browser s ≡ false → l.chosen ≡ o → Looked s.cursor t.pending l →
      Bounded (N + length t.pending) (given i s l t o).dest
  unfolding Bounded given
  given-fine N i s l t none g e b h k =
      let n = all-nth (Sane queue N) i t.subs s g.subs e in
      let z : ltb l.cursor (2 ^ 63) ≡ true = k.cursor n.fits.seen (omega (arith, g.ok)) in
      let K : ℕ = N + (length t.pending - length l.pending) in (
        K,
        set-fine N K i t.rr s (with_cursor l.cursor s) (t.stats ⊕ add_expired l.gone) l.pending t g e refl (omega arith)
            (sane-more queue N K (with_cursor l.cursor s) (omega arith) (cursor-sane queue N l.cursor s z n))
            (λ f. omega (arith, k.sums f, cursor_rows f l.cursor s))
            (λ f. omega (arith, k.sums f, cursor-count f l.cursor s))
            (thin-ascending t.pending l.pending k.thin g.sorted) g.turn
            (under-plus N (length t.pending - length l.pending) t.stats (add_expired l.gone) g.counters (omega (arith, k.gone))),
        omega (arith, k.gone),
      )
  given-fine N i s l t (some x) g e b h k =
      let n = all-nth (Sane queue N) i t.subs s g.subs e in
      let z : ltb l.cursor (2 ^ 63) ≡ true = k.cursor n.fits.seen (omega (arith, g.ok)) in
      let one-gone : l.gone + 1 + length l.pending ≤ length t.pending = omega (arith, k.gone, ap (fo one) h) in
      let more : (f : Entry → ℕ) → sum f l.pending + f x ≤ sum f t.pending = λ f. omega (arith, k.sums f, ap (fo f) h) in
      let K : ℕ = N + (length t.pending - length l.pending) in
      let good : entry_ok x ≡ true = head_ok x [] (omega (arith, more bad, g.ok)) in
      let fits : Fit queue (send x (with_cursor l.cursor s)) = take-fit s l.cursor x n.fits b z good
      (λ y. omega (arith, g.once y, more (occ y), sums-nth (count_m (occ y)) i t.subs s e, count-plain (occ y) s b)) in (
        K,
        set-fine N K i ((i + 1) % length t.subs) s (send x (with_cursor l.cursor s)) ((t.stats ⊕ add_expired l.gone) ⊕ add_dispatched 1) l.pending t g e refl (omega arith)
            (record { fits = fits; next = omega (arith, n.next, one-gone); generation = omega (arith, n.generation); pulls = refl })
            (λ f. omega (arith, more f, take-sums f s l.cursor x n.fits b, plain_rows f s n.fits b))
            (λ f. omega (arith, more f, take_count f s l.cursor x b, count-plain f s b))
            (thin-ascending t.pending l.pending k.thin g.sorted)
            (ap (λ v. v || eqb ((i + 1) % length t.subs) 0) (lt-ltb ((i + 1) % length t.subs) (length t.subs) (mod-lt (i + 1) (nth-length i t.subs s e))))
            (record { enqueued = omega (arith, g.counters.enqueued); dequeued = omega (arith, g.counters.dequeued); expired = omega (arith, g.counters.expired, one-gone); discarded = omega (arith, g.counters.discarded); dispatched = omega (arith, g.counters.dispatched, one-gone) }),
        omega (arith, one-gone),
      )

  bounded-more : (M P : ℕ) (t : Dest) → M ≤ P → Bounded M t → Bounded P t
  unfolding Bounded
  bounded-more M P t h b = (b.0, b.1, omega (arith, b.2))

  visit-fine : (M now i : ℕ) (t : Dest) → Bounded M t → Bounded M (visit now i t).dest
  unfolding visit visit_at Bounded
  visit-fine M now i t b = go (nth i t.subs) refl
    where
      go : (o : Option Sub) → nth i t.subs ≡ o → Bounded M (visit now i t).dest
      go none e = rw e b
      go (some s) e = rw e (by-test (is_browser s || not (has_credit s)) (λ c. rw c b)
          (λ c. rw c (bounded-more (b.0 + length t.pending) M _ b.2 (given-fine b.0 i s (look now s s.cursor t.pending) t (look now s s.cursor t.pending).chosen b.1 e (or-no-left (is_browser s) _ c) refl (looks now s s.cursor t.pending)))))

  scan-fine : (M now : ℕ) (is : List ℕ) (t : Dest) → Bounded M t → Bounded M (scan now is t).dest
  unfolding scan
  scan-fine M now [] t b = b
  scan-fine M now (i ∷ is) t b = by-test (visit now i t).took
      (λ c. rw c (visit-fine M now i t b))
      (λ c. rw c (scan-fine M now is (visit now i t).dest (visit-fine M now i t b)))

  rounds-fine : (M fuel now : ℕ) (t : Dest) → Bounded M t → Bounded M (rounds fuel now t).dest
  unfolding rounds
  rounds-fine M zero now t b = b
  rounds-fine M (suc fuel) now t b = by-test (not (scan now (turns t) t).took || empty (scan now (turns t) t).dest.pending)
      (λ c. rw c (scan-fine M now (turns t) t b))
      (λ c. rw c (rounds-fine M fuel now (scan now (turns t) t).dest (scan-fine M now (turns t) t b)))

  -- ---- the dispatch

  queue-fine : (N now : ℕ) (t : Dest) → Fine L U queue N t → Fine L U queue (N + 2048) (dispatch_queue now t).dest
  unfolding dispatch_queue Bounded
  queue-fine N now t g = by-test (empty t.subs)
      (λ c. rw c (fine_more L U queue N (N + 2048) t (omega arith) g))
      (λ c. rw c (let r = rounds-fine (N + 2048) (suc (length q.pending)) now u start in fine_more L U queue r.0 (N + 2048) _ (omega (arith, r.2)) r.1))
    where
      q : Browsed
      q = browsers now t.subs t.pending

      b : Shown N 1024 now t.subs t.pending
      b = browse-all N 1024 now t.subs t.pending (omega (arith, g.rows)) g.subs

      u : Dest
      u = count q.counts (with_pending q.pending (with_subs q.subs t))

      few : length t.pending ≤ 512
      few = omega (arith, g.rows, sum_one t.pending)

      start : Bounded (N + 2048) u
      start = (
        N + 1024,
        each-fine L U queue N 1024 t g (t.stats ⊕ q.counts) q.subs q.pending t.reserved t.idle b.each
            (λ f w. omega (arith, sum-thin f w _ _ b.thin)) (λ e. absurd (not-topic e)) (thin-ascending _ _ b.thin g.sorted) g.frame.holders g.frame.mark
            (under-plus N 1024 t.stats q.counts g.counters (omega (arith, b.counts, few, g.rows))),
        omega (arith, b.counts, few, g.rows),
      )

  topic-fine : (N now : ℕ) (t : Dest) → Fine L U topic N t → Fine L U topic (N + 512) (dispatch_topic now t).dest
  unfolding dispatch_topic
  topic-fine N now t g =
      let r = serve-all N 512 now t.subs (omega (arith, g.rows)) g.subs in
      each-fine L U topic N 512 t g (t.stats ⊕ (serve_all now t.subs).counts) (serve_all now t.subs).subs t.pending t.reserved t.idle r.each
      (λ f w. omega arith) (λ e. g.once) g.sorted g.frame.holders g.frame.mark
      (under-plus N 512 t.stats (serve_all now t.subs).counts g.counters (omega (arith, r.counts, g.rows)))

  pub dispatch-fine : (k : Kind) (N now : ℕ) (t : Dest) → Fine L U k N t → Fine L U k (N + 2048) (dispatch_by now t k).dest
  unfolding dispatch_by
  dispatch-fine queue N now t g = queue-fine N now t g
  dispatch-fine topic N now t g = fine_more L U topic (N + 512) (N + 2048) _ (omega arith) (topic-fine N now t g)
