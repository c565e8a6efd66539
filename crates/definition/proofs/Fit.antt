-- What a sound consumer is, by itself, and that each step of a consumer's own call keeps it. Assumes nothing.
use Prim.Native.Nat.{ℕ, suc, ◌+◌, ◌≤◌, ◌^◌}
use native.Mathlib.Omega.{arith}
use mathlib.Core.Path.{◌≡◌, refl, sym, ◌∙◌, ap, subst, subst⁻¹}
use mathlib.Core.Bool.{Bool, true, false, not, ◌&&◌}
use mathlib.Core.List.{List, [], ◌∷◌, ◌++◌, map, append_assoc, map-append}
use lib.Dec.{leb, ltb}
use lib.ListN.{length, length-append}
use borrow.Author.Tests.{leb-true, le-leb, eqb-true, eq-eqb}
use lib.IntN.{pos}
use Rattle.definition.specs.Base.{is_some, keep, tally, all, distinct, ascending}
use Rattle.definition.specs.Types.{Kind, queue, topic, Entry, Inflight, Sub, Stats, with_tpending, with_inflight, with_freed}
use Rattle.definition.specs.Consumer.{expired, Step, is_browser, shown, snapshot, with_snapshot, has_credit, send, send_null, inflight_of, Ack, AckType, Delivered, Poison, Standard, Redelivered, Individual, Unmatched, Expired, Other, ack_type, ack_range, ack_last, freed_as, free, remove_inflight, bumped, redeliver, ack_transacted, ack_plain, ack_sub, meet_topic, drain_topic, at_rest, Browse, meet_browser, close_browser, drain_browser, dispatch_browser, same_seq}
use Rattle.definition.specs.Destination.{room}
use Rattle.definition.specs.Calls.{id_ok, optional, entry_ok, bound, seqs, flying, rows_of, sub_placed, sub_tests, sub_sound}
use Rattle.definition.proofs.Tests.{by-if, by-test}
use Rattle.definition.proofs.Lists.{empty-nil}
use mathlib.Core.Option.{Option, none, some}
use Rattle.definition.proofs.Reorder.{nil-cons}
use Rattle.definition.proofs.Sums.{kept-length}
use Rattle.definition.proofs.Local.{serve, alone, meet-tpending}
use Rattle.definition.proofs.Thin.{every-all, all-every, alike_refl, alike_same, alike-redelivered, Thin, done, skip, stay, thin-refl, thin-append, thin-trans, thin-ok, thin-distinct, ascending-keep, ascending-more, ascending-tail, tally-append}

-- the pull that waits is at most m
abbrev pub Waits : ℕ → Sub → Type 0
Waits m s = optional (λ g. leb g m) s.pull ≡ true

abbrev pub dseqs : Sub → List ℕ
dseqs s = map (λ i. i.dseq) s.inflight

-- a sound consumer, its bounds by calls used apart
pub record Fit (k : Kind) (s : Sub) : Type 0 where
  pub named : id_ok s.id ≡ true
  pub room : ltb s.prefetch (2 ^ 31) ≡ true
  pub selects : leb s.selector 64 ≡ true
  pub ok : all entry_ok (rows_of s) ≡ true
  pub seen : ltb s.cursor (2 ^ 63) ≡ true
  pub apart : distinct (seqs (rows_of s)) ≡ true
  pub counted : s.freed ≡ tally (λ i. i.freed) s.inflight
  pub numbered : ascending (dseqs s ++ s.next_dseq ∷ []) ≡ true
  pub sorted : ascending (seqs s.tpending) ≡ true
  pub stands : sub_placed s k ≡ true

pub fit : (k : Kind) (u : ℕ) (s : Sub) → sub_sound k u s ≡ true → Fit k s × (s.next_dseq ≤ bound u) × (s.generation ≤ bound u) × Waits (bound u) s
unfolding sub_sound
fit k u s h =
    let f = every-all (sub_tests k u s) h in (
      record {
        named = f.0;
        room = f.1.0;
        selects = f.1.1.0;
        ok = f.1.1.1.0;
        seen = f.1.1.1.1.0;
        apart = f.1.1.1.1.1.0;
        counted = eqb-true _ _ f.1.1.1.1.1.1.0;
        numbered = f.1.1.1.1.1.1.1.0;
        sorted = f.1.1.1.1.1.1.1.1.0;
        stands = f.1.1.1.1.1.1.1.1.1.1.1.1.0;
      },
      leb-true _ _ f.1.1.1.1.1.1.1.1.1.0,
      leb-true _ _ f.1.1.1.1.1.1.1.1.1.1.0,
      f.1.1.1.1.1.1.1.1.1.1.1.0,
    )

pub unfit : (k : Kind) (u : ℕ) (s : Sub) → Fit k s → s.next_dseq ≤ bound u → s.generation ≤ bound u → Waits (bound u) s → sub_sound k u s ≡ true
unfolding sub_sound
unfit k u s f p q w =
    all-every (sub_tests k u s)
    (f.named, (f.room, (f.selects, (f.ok, (f.seen, (f.apart, (eq-eqb _ _ f.counted, (f.numbered, (f.sorted, (le-leb _ _ p, (le-leb _ _ q, (w, (f.stands, tt)))))))))))))

-- what a step makes of a consumer: a fit one, with thinner rows
pub record Less (k : Kind) (s v : Sub) : Type 0 where
  pub still : Fit k v
  pub rows : Thin (rows_of s) (rows_of v)

-- ---- acknowledgements

-- what an acknowledgement makes of it: less in flight, and the rest as it was
pub record Acked (k : Kind) (s v : Sub) : Type 0 where
  pub less : Less k s v
  pub flight : Thin (flying s) (flying v)
  pub next : v.next_dseq ≡ s.next_dseq
  pub generation : v.generation ≡ s.generation
  pub pull : v.pull ≡ s.pull
  pub browser : is_browser v ≡ is_browser s
  pub list : v.tpending ≡ s.tpending
  pub shown : snapshot v ≡ snapshot s

-- what is in flight changes, and the rest stays
module _ (k : Kind) (s : Sub) (f : Fit k s) (l : List Inflight) (c : ℕ)
    (thin : Thin (flying s) (map (λ i. i.entry) l)) (counts : c ≡ tally (λ i. i.freed) l) (rises : ascending (map (λ i. i.dseq) l ++ s.next_dseq ∷ []) ≡ true) where
  pub refit : Acked k s (with_inflight l (with_freed c s))
  unfolding is_browser
  refit =
      let r : Thin (rows_of s) (map (λ i. i.entry) l ++ (s.tpending ++ snapshot s)) = thin-append (s.tpending ++ snapshot s) (s.tpending ++ snapshot s) thin (thin-refl (s.tpending ++ snapshot s)) in
      record {
        less = record {
          still = record {
            named = f.named;
            room = f.room;
            selects = f.selects;
            ok = thin-ok _ _ r f.ok;
            seen = f.seen;
            apart = thin-distinct _ _ r f.apart;
            counted = counts;
            numbered = rises;
            sorted = f.sorted;
            stands = stands k f.stands;
          };
          rows = r;
        };
        flight = thin;
        next = refl;
        generation = refl;
        pull = refl;
        browser = refl;
        list = refl;
        shown = refl;
      }
    where
      stands : (j : Kind) → sub_placed s j ≡ true → sub_placed (with_inflight l (with_freed c s)) j ≡ true
      stands queue h = h
      stands topic h = h

-- freed
pub marked-entry : (hit : Inflight → Bool) (tx : Bool) (i : Inflight) → (freed_as hit tx i).entry ≡ i.entry
marked-entry hit tx i = by-test (hit i) (λ c. rw c) (λ c. rw c)

marked-thin : (hit : Inflight → Bool) (tx : Bool) (l : List Inflight) → Thin (map (λ i. i.entry) l) (map (λ i. i.entry) (map (freed_as hit tx) l))
marked-thin hit tx [] = done
marked-thin hit tx (i ∷ l) =
    stay (alike_same i.entry (freed_as hit tx i).entry (marked-entry hit tx i)) (marked-thin hit tx l)

marked-dseqs : (hit : Inflight → Bool) (tx : Bool) (l : List Inflight) → map (λ i. i.dseq) (map (freed_as hit tx) l) ≡ map (λ i. i.dseq) l
marked-dseqs hit tx [] = refl
marked-dseqs hit tx (i ∷ l) = by-test (hit i) (λ c. rw (c, marked-dseqs hit tx l)) (λ c. rw (c, marked-dseqs hit tx l))

marked-count : (hit : Inflight → Bool) (tx : Bool) (l : List Inflight) → tally (λ i. i.freed) l + tally (λ i. hit i && not i.freed) l ≡ tally (λ i. i.freed) (map (freed_as hit tx) l)
marked-count hit tx [] = refl
marked-count hit tx (i ∷ l) = by-test (hit i)
    (λ c. rw c (by-test i.freed (λ d. rw d (omega (arith, marked-count hit tx l))) (λ d. rw d (omega (arith, marked-count hit tx l)))))
    (λ c. rw c (by-test i.freed (λ d. rw d (omega (arith, marked-count hit tx l))) (λ d. rw d (omega (arith, marked-count hit tx l)))))

free-acked : (k : Kind) (hit : Inflight → Bool) (tx : Bool) (s : Sub) → Fit k s → Acked k s (free hit tx s)
free-acked k hit tx s f = refit k s f (map (freed_as hit tx) s.inflight) _ (marked-thin hit tx s.inflight)
    (ap (λ (c : ℕ). c + tally (λ i. hit i && not i.freed) s.inflight) f.counted ∙ marked-count hit tx s.inflight)
    (ap (λ (l : List ℕ). ascending (l ++ s.next_dseq ∷ [])) (marked-dseqs hit tx s.inflight) ∙ f.numbered)

-- removed
kept-thin : (p : Inflight → Bool) (l : List Inflight) → Thin (map (λ i. i.entry) l) (map (λ i. i.entry) (keep p l))
kept-thin p [] = done
kept-thin p (i ∷ l) = by-test (p i) (λ c. rw c (stay (alike_refl i.entry) (kept-thin p l))) (λ c. rw c (skip (kept-thin p l)))

kept-count : (hit : Inflight → Bool) (l : List Inflight) → tally (λ i. i.freed) l ≡ tally (λ i. hit i && i.freed) l + tally (λ i. i.freed) (keep (λ i. not (hit i)) l)
kept-count hit [] = refl
kept-count hit (i ∷ l) = by-test (hit i)
    (λ c. rw c (omega (arith, kept-count hit l)))
    (λ c. rw c (omega (arith, kept-count hit l)))

remove-acked : (k : Kind) (hit : Inflight → Bool) (s : Sub) → Fit k s → Acked k s (remove_inflight hit s)
remove-acked k hit s f = refit k s f (keep (λ i. not (hit i)) s.inflight) _ (kept-thin (λ i. not (hit i)) s.inflight)
    (omega (arith, f.counted, kept-count hit s.inflight))
    (ascending-keep (λ i. i.dseq) (λ i. not (hit i)) s.next_dseq s.inflight f.numbered)

-- redelivered
bumped-thin : (hit : Inflight → Bool) (l : List Inflight) → Thin (map (λ i. i.entry) l) (map (λ i. i.entry) (map (bumped hit) l))
bumped-thin hit [] = done
bumped-thin hit (i ∷ l) = by-test (hit i)
    (λ c. rw c (stay (alike-redelivered i.entry) (bumped-thin hit l)))
    (λ c. rw c (stay (alike_refl i.entry) (bumped-thin hit l)))

bumped-dseqs : (hit : Inflight → Bool) (l : List Inflight) → map (λ i. i.dseq) (map (bumped hit) l) ≡ map (λ i. i.dseq) l
bumped-dseqs hit [] = refl
bumped-dseqs hit (i ∷ l) = by-test (hit i) (λ c. rw (c, bumped-dseqs hit l)) (λ c. rw (c, bumped-dseqs hit l))

bumped-count : (hit : Inflight → Bool) (l : List Inflight) → tally (λ i. i.freed) l ≡ tally (λ i. i.freed) (map (bumped hit) l)
bumped-count hit [] = refl
bumped-count hit (i ∷ l) = by-test (hit i) (λ c. rw c (omega (arith, bumped-count hit l))) (λ c. rw c (omega (arith, bumped-count hit l)))

redeliver-acked : (k : Kind) (hit : Inflight → Bool) (s : Sub) → Fit k s → Acked k s (redeliver hit s)
redeliver-acked k hit s f = refit k s f (map (bumped hit) s.inflight) s.freed (bumped-thin hit s.inflight)
    (f.counted ∙ bumped-count hit s.inflight)
    (ap (λ (l : List ℕ). ascending (l ++ s.next_dseq ∷ [])) (bumped-dseqs hit s.inflight) ∙ f.numbered)

pub less-refl : (k : Kind) (s : Sub) → Fit k s → Less k s s
less-refl k s f = record { still = f; rows = thin-refl (rows_of s) }

pub less-trans : {k : Kind} {s v w : Sub} → Less k s v → Less k v w → Less k s w
less-trans p q = record { still = q.still; rows = thin-trans _ _ _ p.rows q.rows }

transacted-acked : (k : Kind) (y : AckType) (a : Ack) (s : Sub) → Fit k s → Acked k s (ack_transacted a s y)
unfolding ack_transacted
transacted-acked k Delivered a s f = free-acked k (ack_range s a false) false s f
transacted-acked k Poison a s f = free-acked k (ack_range s a false) true s f
transacted-acked k Standard a s f = free-acked k (ack_range s a true) true s f
transacted-acked k Redelivered a s f = free-acked k (ack_range s a false) true s f
transacted-acked k Individual a s f = free-acked k (ack_last s a) true s f
transacted-acked k Unmatched a s f = free-acked k (ack_range s a true) true s f
transacted-acked k Expired a s f = free-acked k (ack_range s a false) true s f
transacted-acked k Other a s f = free-acked k (ack_range s a false) true s f

plain-acked : (k : Kind) (y : AckType) (a : Ack) (s : Sub) → Fit k s → Acked k s (ack_plain a s y).sub
unfolding ack_plain
plain-acked k Delivered a s f = free-acked k (ack_range s a false) false s f
plain-acked k Poison a s f = remove-acked k (ack_range s a false) s f
plain-acked k Standard a s f = remove-acked k (ack_range s a true) s f
plain-acked k Redelivered a s f = redeliver-acked k (ack_range s a false) s f
plain-acked k Individual a s f = remove-acked k (ack_last s a) s f
plain-acked k Unmatched a s f = remove-acked k (ack_range s a true) s f
plain-acked k Expired a s f = remove-acked k (ack_range s a false) s f
plain-acked k Other a s f = record { less = less-refl k s f; flight = thin-refl (flying s); next = refl; generation = refl; pull = refl; browser = refl; list = refl; shown = refl }

pub ack-acked : (k : Kind) (a : Ack) (s : Sub) → Fit k s → Acked k s (ack_sub a s).sub
unfolding ack_sub
ack-acked k a s f = by-if (λ (t : Step). Acked k s t.sub) a.transacted _ _ (λ q. transacted-acked k (ack_type a.type) a s f) (λ q. plain-acked k (ack_type a.type) a s f)

-- ---- dispatch

-- the first of a topic consumer's list, or of a browser's snapshot, is popped
pop-topic : (s : Sub) (e : Entry) (es : List Entry) → s.tpending ≡ e ∷ es → Fit topic s → Less topic s (with_tpending es s)
pop-topic s e es q f =
    let r : Thin (rows_of s) (flying s ++ (es ++ snapshot s))
    = subst⁻¹ (λ (x : List Entry). Thin (flying s ++ (x ++ snapshot s)) (flying s ++ (es ++ snapshot s))) q
    (thin-append (e ∷ (es ++ snapshot s)) (es ++ snapshot s) (thin-refl (flying s)) (skip (thin-refl (es ++ snapshot s)))) in
    let o : ascending (seqs (e ∷ es)) ≡ true = subst (λ (x : List Entry). ascending (seqs x) ≡ true) q f.sorted in
    record {
      still = record {
        named = f.named;
        room = f.room;
        selects = f.selects;
        ok = thin-ok _ _ r f.ok;
        seen = f.seen;
        apart = thin-distinct _ _ r f.apart;
        counted = f.counted;
        numbered = f.numbered;
        sorted = ascending-tail e.seq (seqs es) o;
        stands = f.stands;
      };
      rows = r;
    }

pop-browser : (s : Sub) (e : Entry) (es : List Entry) → snapshot s ≡ e ∷ es → Fit queue s → Less queue s (with_snapshot es s)
pop-browser s e es q f =
    let r : Thin (rows_of s) (flying s ++ (s.tpending ++ es))
    = subst⁻¹ (λ (x : List Entry). Thin (flying s ++ (s.tpending ++ x)) (flying s ++ (s.tpending ++ es))) q
    (thin-append (s.tpending ++ e ∷ es) (s.tpending ++ es) (thin-refl (flying s)) (thin-append (e ∷ es) es (thin-refl s.tpending) (skip (thin-refl es)))) in
    record {
      still = record {
        named = f.named;
        room = f.room;
        selects = f.selects;
        ok = thin-ok _ _ r f.ok;
        seen = f.seen;
        apart = thin-distinct _ _ r f.apart;
        counted = f.counted;
        numbered = f.numbered;
        sorted = f.sorted;
        stands = f.stands;
      };
      rows = r;
    }

-- what was popped is sent
send-less : (k : Kind) (s p : Sub) (e : Entry) → Fit k s → Fit k p → Thin (rows_of s) (flying p ++ (e ∷ (p.tpending ++ snapshot p))) → Less k s (send e p)
send-less k s p e f g r =
    let rows_are : rows_of (send e p) ≡ flying p ++ (e ∷ (p.tpending ++ snapshot p))
    = ap (λ (x : List Entry). x ++ (p.tpending ++ snapshot p)) (map-append (λ i. i.entry) p.inflight (inflight_of p.next_dseq e ∷ []))
    ∙ append_assoc (flying p) (e ∷ []) (p.tpending ++ snapshot p) in
    let t : Thin (rows_of s) (rows_of (send e p)) = subst⁻¹ (λ (x : List Entry). Thin (rows_of s) x) rows_are r in
    record {
      still = record {
        named = g.named;
        room = g.room;
        selects = g.selects;
        ok = thin-ok _ _ t f.ok;
        seen = g.seen;
        apart = thin-distinct _ _ t f.apart;
        counted = omega (arith, g.counted, tally-append (λ i. i.freed) p.inflight (inflight_of p.next_dseq e ∷ []));
        numbered = ap (λ (x : List ℕ). ascending (x ++ (p.next_dseq + 1) ∷ [])) (map-append (λ i. i.dseq) p.inflight (inflight_of p.next_dseq e ∷ [])) ∙ ascending-more p.next_dseq (dseqs p) g.numbered;
        sorted = g.sorted;
        stands = stood k g.stands;
      };
      rows = t;
    }
  where
    stood : (j : Kind) → sub_placed p j ≡ true → sub_placed (send e p) j ≡ true
    stood queue h = h
    stood topic h = h

meet-less : (now : ℕ) (e : Entry) (es : List Entry) (t : Step) → t.sub.tpending ≡ e ∷ es → Fit topic t.sub → Less topic t.sub (meet_topic now e es t).sub
unfolding meet_topic
meet-less now e es t q f = by-test (expired (pos now) e)
    (λ c. rw c (pop-topic t.sub e es q f))
    (λ c. rw c (send-less topic t.sub (with_tpending es t.sub) e f (pop-topic t.sub e es q f).still
    (subst⁻¹ (λ (x : List Entry). Thin (flying t.sub ++ (x ++ snapshot t.sub)) (flying t.sub ++ (e ∷ (es ++ snapshot t.sub)))) q (thin-refl (flying t.sub ++ (e ∷ (es ++ snapshot t.sub)))))))

abbrev pub total : Stats → ℕ
total c = c.enqueued + c.dequeued + c.expired + c.discarded + c.dispatched

-- what a dispatch to one consumer comes to, by the number of entries that it may meet
pub record Little (k : Kind) (most : ℕ) (c : ℕ) (s : Sub) (r : Sub) (c' : ℕ) : Type 0 where
  pub less : Less k s r
  pub next : r.next_dseq ≤ s.next_dseq + most
  pub generation : r.generation ≡ s.generation
  pub pulls : (m : ℕ) → Waits m s → Waits m r
  pub browser : is_browser r ≡ is_browser s
  pub counts : c' ≤ c + most

little-refl : (k : Kind) (most c : ℕ) (s : Sub) → Fit k s → Little k most c s s c
little-refl k most c s f = record { less = less-refl k s f; next = omega arith; generation = refl; pulls = λ m w. w; browser = refl; counts = omega arith }

little-trans : {k : Kind} {m n c d e : ℕ} {s v w : Sub} → Little k m c s v d → Little k n d v w e → Little k (m + n) c s w e
little-trans p q = record {
  less = less-trans p.less q.less;
  next = omega (arith, p.next, q.next);
  generation = q.generation ∙ p.generation;
  pulls = λ m w. q.pulls m (p.pulls m w);
  browser = q.browser ∙ p.browser;
  counts = omega (arith, p.counts, q.counts);
}

meet-little : (now : ℕ) (e : Entry) (es : List Entry) (t : Step) → t.sub.tpending ≡ e ∷ es → Fit topic t.sub →
    Little topic 1 (total t.counts) t.sub (meet_topic now e es t).sub (total (meet_topic now e es t).counts)
unfolding meet_topic is_browser
meet-little now e es t q f =
    let l = meet-less now e es t q f in
    record {
      less = l;
      next = by-test (expired (pos now) e) (λ c. rw c (omega arith)) (λ c. rw c (omega arith));
      generation = by-test (expired (pos now) e) (λ c. rw c) (λ c. rw c);
      pulls = λ m. by-test (expired (pos now) e) (λ c. rw c (λ w. w)) (λ c. rw c (λ w. refl));
      browser = by-test (expired (pos now) e) (λ c. rw c) (λ c. rw c);
      counts = by-test (expired (pos now) e) (λ c. rw c (omega arith)) (λ c. rw c (omega arith));
    }

pub drain-little : (now : ℕ) (l : List Entry) (t : Step) → t.sub.tpending ≡ l → Fit topic t.sub →
    Little topic (length l) (total t.counts) t.sub (drain_topic now l t).sub (total (drain_topic now l t).counts)
unfolding drain_topic
drain-little now [] t q f = little-refl topic 0 (total t.counts) t.sub f
drain-little now (e ∷ es) t q f = by-test (has_credit t.sub)
    (λ c. rw c
    (let m = meet-little now e es t q f in
    let r = little-trans m (drain-little now es (meet_topic now e es t) (meet-tpending now e es t) m.less.still) in
    record { less = r.less; next = omega (arith, r.next); generation = r.generation; pulls = r.pulls; browser = r.browser; counts = omega (arith, r.counts) }))
    (λ c. rw c (little-refl topic (suc (length es)) (total t.counts) t.sub f))

thin-path : {l m : List Entry} → l ≡ m → Thin l m
thin-path {l} p = subst (λ (x : List Entry). Thin l x) p (thin-refl l)

rows-browser : (s : Sub) (e : Entry) (es : List Entry) → s.tpending ≡ [] → snapshot s ≡ e ∷ es → rows_of s ≡ flying s ++ (e ∷ (s.tpending ++ es))
rows-browser s e es p q =
    ap (λ (x : List Entry). flying s ++ (x ++ snapshot s)) p ∙ ap (λ (x : List Entry). flying s ++ x) q ∙ sym (ap (λ (x : List Entry). flying s ++ (e ∷ (x ++ es))) p)

browse-less : (now : ℕ) (e : Entry) (es : List Entry) (b : Browse) → snapshot b.sub ≡ e ∷ es → Fit queue b.sub → Less queue b.sub (meet_browser now e es b).sub
unfolding meet_browser
browse-less now e es b q f = by-test (expired (pos now) e)
    (λ c. rw c (pop-browser b.sub e es q f))
    (λ c. rw c (send-less queue b.sub (with_snapshot es b.sub) e f (pop-browser b.sub e es q f).still (thin-path (rows-browser b.sub e es (empty-nil b.sub.tpending f.stands) q))))

-- what a browser has counted, and what still waits: together they do not rise
abbrev pub met : Browse → ℕ
met b = total b.counts + length b.pending

-- what shows an entry is a browser
shows-browser : (o : Option (List Entry)) (e : Entry) (es : List Entry) → shown o ≡ e ∷ es → is_some o ≡ true
shows-browser none e es q = absurd (nil-cons q)
shows-browser (some l) e es q = refl

browse-little : (now : ℕ) (e : Entry) (es : List Entry) (b : Browse) → snapshot b.sub ≡ e ∷ es → Fit queue b.sub →
    Little queue 1 (met b) b.sub (meet_browser now e es b).sub (met (meet_browser now e es b))
unfolding meet_browser is_browser
browse-little now e es b q f = record {
  less = browse-less now e es b q f;
  next = by-test (expired (pos now) e) (λ c. rw c (omega arith)) (λ c. rw c (omega arith));
  generation = by-test (expired (pos now) e) (λ c. rw c) (λ c. rw c);
  pulls = λ m. by-test (expired (pos now) e) (λ c. rw c (λ w. w)) (λ c. rw c (λ w. refl));
  browser = by-test (expired (pos now) e) (λ c. rw c (sym (shows-browser b.sub.browser e es q))) (λ c. rw c (sym (shows-browser b.sub.browser e es q)));
  counts = by-test (expired (pos now) e) (λ c. rw c (omega (arith, kept-length (same_seq e) b.pending))) (λ c. rw c (omega arith));
}

browse-rest : (now : ℕ) (e : Entry) (es : List Entry) (b : Browse) → snapshot (meet_browser now e es b).sub ≡ es
unfolding meet_browser
browse-rest now e es b = by-test (expired (pos now) e) (λ c. rw c) (λ c. rw c)

pub null-fit : (k : Kind) (s : Sub) → Fit k s → Fit k (send_null s)
null-fit queue s f = record { named = f.named; room = f.room; selects = f.selects; ok = f.ok; seen = f.seen; apart = f.apart; counted = f.counted; numbered = f.numbered; sorted = f.sorted; stands = f.stands }
null-fit topic s f = record { named = f.named; room = f.room; selects = f.selects; ok = f.ok; seen = f.seen; apart = f.apart; counted = f.counted; numbered = f.numbered; sorted = f.sorted; stands = f.stands }

close-little : (b : Browse) → Fit queue b.sub → Little queue 0 (met b) b.sub (close_browser b).sub (met (close_browser b))
unfolding close_browser is_browser
close-little b f = by-if (λ (t : Browse). Little queue 0 (met b) b.sub t.sub (met t)) b.sub.finished b _
    (λ c. little-refl queue 0 (met b) b.sub f)
    (λ c. record {
      less = record {
        still = record { named = f.named; room = f.room; selects = f.selects; ok = f.ok; seen = f.seen; apart = f.apart; counted = f.counted; numbered = f.numbered; sorted = f.sorted; stands = f.stands };
        rows = thin-refl (rows_of b.sub);
      };
      next = omega arith;
      generation = refl;
      pulls = λ m w. refl;
      browser = refl;
      counts = omega arith;
    })

pub browses-little : (now : ℕ) (l : List Entry) (b : Browse) → snapshot b.sub ≡ l → Fit queue b.sub →
    Little queue (length l) (met b) b.sub (drain_browser now l b).sub (met (drain_browser now l b))
unfolding drain_browser
browses-little now [] b q f = by-test (has_credit b.sub) (λ c. rw c (close-little b f)) (λ c. rw c (little-refl queue 0 (met b) b.sub f))
browses-little now (e ∷ es) b q f = by-test (has_credit b.sub)
    (λ c. rw c
    (let m = browse-little now e es b q f in
    let r = little-trans m (browses-little now es (meet_browser now e es b) (browse-rest now e es b) m.less.still) in
    record { less = r.less; next = omega (arith, r.next); generation = r.generation; pulls = r.pulls; browser = r.browser; counts = omega (arith, r.counts) }))
    (λ c. rw c (little-refl queue (suc (length es)) (met b) b.sub f))

wider : {k : Kind} {m c d : ℕ} {s v : Sub} (n : ℕ) → m ≤ n → Little k m c s v d → Little k n c s v d
wider n h r = record { less = r.less; next = omega (arith, r.next); generation = r.generation; pulls = r.pulls; browser = r.browser; counts = omega (arith, r.counts) }

unmet : {k : Kind} {m c d : ℕ} {s v : Sub} (e : ℕ) → e ≤ d → Little k m c s v d → Little k m c s v e
unmet e h r = record { less = r.less; next = r.next; generation = r.generation; pulls = r.pulls; browser = r.browser; counts = omega (arith, r.counts) }

pub serve-little : (k : Kind) (now : ℕ) (s : Sub) → Fit k s → Little k (length (rows_of s)) 0 s (serve k now s).sub (total (serve k now s).counts)
serve-little topic now s f = wider (length (rows_of s)) (omega (arith, length-append (flying s) (s.tpending ++ snapshot s), length-append s.tpending (snapshot s))) (drain-little now s.tpending (at_rest s) refl f)
serve-little queue now s f = by-test (is_browser s)
    (λ c. rw c (wider (length (rows_of s)) (omega (arith, length-append (flying s) (s.tpending ++ snapshot s), length-append s.tpending (snapshot s))) (unmet (total (dispatch_browser now [] s).counts) (omega arith) (browses-little now (snapshot s) (alone [] s) refl f))))
    (λ c. rw c (little-refl queue (length (rows_of s)) 0 s f))
