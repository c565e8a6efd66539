-- Calls of one queue, an accepted one and then letters that are stored at its clock: one look at the state after them all tells what left in each. Assumes nothing.
use Prim.Native.Nat.{ℕ, ◌+◌, ◌-◌, ◌≤◌, ◌<◌, ◌%◌, min}
use native.Mathlib.Omega.{arith}
use mathlib.Core.Path.{◌≡◌, refl, sym, ◌∙◌, ap, ap₂, subst, subst⁻¹}
use mathlib.Core.Bool.{Bool, true, false, not, ◌&&◌, ◌||◌, true≢false}
use mathlib.Core.List.{List, [], ◌∷◌, ◌++◌, map, map-append, append-nil, append_assoc}
use mathlib.Core.Option.{Option, none, some}
use lib.Dec.{leb, ltb, eqb}
use borrow.Author.Tests.{ne_eqb, leb-true, leb-false, ltb-true}
use Rattle.definition.specs.Base.{whether◌then◌else◌, keep, all, empty, member}
use Rattle.definition.specs.Types.{Kind, queue, Id, Entry, Sub, Dest}
use Rattle.definition.specs.Consumer.{ack_type, Ack, ack_sub}
use Rattle.definition.specs.Destination.{Out, count, sub_of, put_sub, due, dispatch_queue, dispatch_by, dispatch, touch_idle, hold_back, stored, enqueue_by, reserved_of, reserved_hit, ack_reserved, ack_at, ack}
use Rattle.definition.specs.Calls.{seqs, taken, held, acknowledge, Call, enqueuing, asking, brought, Result, used, ask, perform, call}
use Rattle.definition.specs.Queries.{is_queue}
use Rattle.definition.specs.Words.{at, decode}
use Rattle.definition.proofs.Tests.{by-test, by-if, if-true, if-false, and_left, and_right}
use Rattle.definition.proofs.Lists.{All, all_join}
use Rattle.definition.proofs.Sums.{sum, occ, occ-no, occ-member, occ-no-member, sum-insert}
use Rattle.definition.proofs.Whole.{count_m, queue_sum, sums-taken}
use Rattle.definition.proofs.Dispatch.{cursor-count}
use Rattle.definition.proofs.Reorder.{keep_append, nil-cons}
use Rattle.definition.proofs.Made.{call-accepted}
use Rattle.fates.specs.Fates.{holding, expires, fate_by, leavers, departing, departures}
use Rattle.fates.specs.Blocks.{Block, block_at, held_blocks, acked_as, comes, went_as, leaves_as, is_gone, left_blocks}
use Rattle.fates.specs.Books.{left_block}
use Rattle.fates.proofs.Measures.{occ-steady, mine-occ, yes-member, member-occ, sums-map}
use Rattle.fates.proofs.Dispatch.{dispatch-late}
use Rattle.fates.proofs.Sweeps.{holding-sum}
use Rattle.fates.proofs.Calls.{decode-coded}
use Rattle.fates.proofs.Run.{called, call-made, queue-once, moved}
use Rattle.fates.proofs.Blocks.{decode-says, blocks-leave}
use Rattle.definition_station.specs.Letters.{is_poison, lasting, taken_reserved, rejected_of, rejected_by, whole}
use Rattle.definition_station.proofs.Reached.{letter_words, stored-decodes}
use Rattle.definition_stationfates.specs.Books.{Makes}
use Rattle.definition_stationblocks.specs.StationBlocks.{blocks_gone, storings, Rising, held_under, gone_along, CallIsTold, AckAndLettersAreTold, LettersAreToldOnce}
use Rattle.definition_stationblocks.proofs.Settled.{Settled, dispatch-settles, dispatch-allowance, store-holds}

-- ---- numbers that are held

-- none from low on
abbrev pub Below : ℕ → Dest → Type 0
Below low t = (x : ℕ) → low ≤ x → queue_sum (occ x) t ≡ 0

pub below-lists : (low : ℕ) (t : Dest) (l : List Entry) → ((x : ℕ) → sum (occ x) l ≤ queue_sum (occ x) t) → Below low t → All (λ v. v.seq < low) l
below-lists low t l h b = mine-occ (λ x. x < low) l (λ x g. by-test (leb low x) (λ c. absurd (omega (arith, g, h x, b x (leb-true low x c)))) (λ c. leb-false low x c))

-- the same of a number is held
pub same-member : (q : ℕ) (t u : Dest) → queue_sum (occ q) u ≡ queue_sum (occ q) t → member q (seqs (holding u)) ≡ member q (seqs (holding t))
same-member q t u h = by-test (member q (seqs (holding t)))
    (λ c. yes-member q (holding u) (omega (arith, h, member-occ q (holding t) c, holding-sum (occ q) t, holding-sum (occ q) u)) ∙ sym c)
    (λ c. occ-no-member q (holding u) (omega (arith, h, occ-member q (holding t) c, holding-sum (occ q) t, holding-sum (occ q) u)) ∙ sym c)

-- ---- letters, one after another

-- not held by u
abbrev pub out : Dest → Entry → Bool
out u e = not (member e.seq (seqs (holding u)))

-- a queue between calls at a clock: no consumer has anything left to look for by it
pub record Ready (now low : ℕ) (t : Dest) : Type 0 where
  pub kind : t.kind ≡ queue
  pub settled : Settled (due now t) t
  pub below : Below low t

-- an entry that is stored next
module _ (now low : ℕ) (e : Entry) (t : Dest) (h : (call whole (enqueuing e now) t).refusal ≡ 0) (k : t.kind ≡ queue) where
  abbrev after : Dest
  after = (call whole (enqueuing e now) t).dest

  after_is : after ≡ used (dispatch_queue (due now t) (stored e t)).dest
  unfolding perform enqueue_by
  after_is = call-made whole (enqueuing e now) t (call-accepted whole (enqueuing e now) t h) ∙ ap (λ (j : Kind). used (enqueue_by now e t j).dest) k

  after-due : due now after ≡ due now t
  after-due = ap (λ (u : Dest). due now u) after_is ∙ ap (λ (a : ℕ). now - a) (dispatch-allowance (due now t) (stored e t))

  after-settled : Settled (due now after) after
  after-settled =
      let z = dispatch-settles (due now t) (stored e t) in
      subst⁻¹ (λ (n : ℕ). Settled n after) after-due
      (subst⁻¹ (Settled (due now t)) after_is (record { rests = z.rests; finds = z.finds }))

  after-kind : after.kind ≡ queue
  after-kind = (moved whole (enqueuing e now) t (decode-coded 1 (letter_words e now) (enqueuing e now) (stored-decodes e now t h)) k h).1

  module _ (n : low ≤ e.seq) (r : Ready now low t) where
    -- every other number is held as before
    after_holds : (q : ℕ) → eqb q e.seq ≡ false → queue_sum (occ q) after ≡ queue_sum (occ q) t
    after_holds q d =
        subst⁻¹ (λ (u : Dest). queue_sum (occ q) u ≡ queue_sum (occ q) t) after_is
        (store-holds (due now t) e t q r.settled (below-lists e.seq t t.pending (λ x. omega arith) (λ x g. r.below x (omega (arith, n, g)))) d)

    after-ready : Ready now (e.seq + 1) after
    after-ready = record {
      kind = after-kind;
      settled = after-settled;
      below = λ x g. after_holds x (ne_eqb x e.seq (λ q. omega (arith, q, g))) ∙ r.below x (omega (arith, n, g));
    }

    -- none of what was held leaves
    kept-all : keep (out after) (holding t) ≡ []
    kept-all = keep-none (holding t) (mine-occ (λ x. not (member x (seqs (holding after))) ≡ false) (holding t)
        (λ x g. ap not (yes-member x (holding after) (omega (arith, g, holding-sum (occ x) t, holding-sum (occ x) after, after_holds x (ne_eqb x e.seq (λ q. omega (arith, q, g, holding-sum (occ x) t, r.below x (omega (arith, q, n))))))))))
      where
        keep-none : (l : List Entry) → All (λ v. out after v ≡ false) l → keep (out after) l ≡ []
        keep-none [] a = refl
        keep-none (v ∷ l) a = rw a.0 (keep-none l a.1)

    -- at most the entry itself
    after-left : map left_block (departures (enqueuing e now) t after) ≡ map (block_at 4) (keep (out after) (e ∷ []))
    unfolding leavers fate_by
    after-left =
        ap (λ (l : List Entry). map left_block (map (departing t expires) l)) (keep_append (out after) (holding t) (e ∷ []) ∙ ap (λ (l : List Entry). l ++ keep (out after) (e ∷ [])) kept-all)
        ∙ all-expire (keep (out after) (e ∷ []))
      where
        all-expire : (l : List Entry) → map left_block (map (departing t expires) l) ≡ map (block_at 4) l
        all-expire [] = refl
        all-expire (v ∷ l) = ap (λ (bs : List Block). block_at 4 v ∷ bs) (all-expire l)

-- ---- many

letters-hold : (now low : ℕ) (es : List Entry) (t u : Dest) → Ready now low t → Rising low es → Makes (storings now es) t u → (q : ℕ) → q < low → queue_sum (occ q) u ≡ queue_sum (occ q) t
letters-hold now low [] t u r w m q h = ap (queue_sum (occ q)) m
letters-hold now low (e ∷ es) t u r w m q h =
    let v = (call whole (enqueuing e now) t).dest in
    letters-hold now (e.seq + 1) es v u (after-ready now low e t m.0 r.kind w.0 r) w.1 m.1 q (omega (arith, h, w.0))
    ∙ after_holds now low e t m.0 r.kind w.0 r q (ne_eqb q e.seq (λ d. omega (arith, d, h, w.0)))

pub letters-left : (now low : ℕ) (es : List Entry) (t u : Dest) → Ready now low t → Rising low es → Makes (storings now es) t u → map left_block (gone_along (storings now es) t) ≡ map (block_at 4) (keep (out u) es)
letters-left now low [] t u r w m = refl
letters-left now low (e ∷ es) t u r w m =
    let v = (call whole (enqueuing e now) t).dest in
    let y = after-ready now low e t m.0 r.kind w.0 r in
    let same : out v e ≡ out u e = ap not (sym (same-member e.seq v u (letters-hold now (e.seq + 1) es v u y w.1 m.1 e.seq (omega arith)))) in
    map-append left_block (departures (enqueuing e now) t v) (gone_along (storings now es) v)
    ∙ ap₂ (λ (a b : List Block). a ++ b) (after-left now low e t m.0 r.kind w.0 r ∙ ap (λ (b : Bool). map (block_at 4) (whether b then e ∷ [] else [])) same) (letters-left now (e.seq + 1) es v u y w.1 m.1)
    ∙ joins (out u e)
  where
    joins : (b : Bool) → map (block_at 4) (whether b then e ∷ [] else []) ++ map (block_at 4) (keep (out u) es) ≡ map (block_at 4) (whether b then e ∷ keep (out u) es else keep (out u) es)
    joins true = refl
    joins false = refl

-- ---- blocks

keep_same : (u v : Dest) (bs : List Block) → All (λ b. is_gone u b ≡ is_gone v b) bs → keep (is_gone u) bs ≡ keep (is_gone v) bs
keep_same u v [] h = refl
keep_same u v (b ∷ bs) h = ap₂ (λ (x : Bool) (l : List Block). whether x then b ∷ l else l) h.0 (keep_same u v bs h.1)

keep-nothing : (u : Dest) (bs : List Block) → All (λ b. is_gone u b ≡ false) bs → keep (is_gone u) bs ≡ []
keep-nothing u [] h = refl
keep-nothing u (b ∷ bs) h = rw h.0 (keep-nothing u bs h.1)

blocks-all : (P : ℕ → Type 0) (p : ℕ) (l : List Entry) → ((x : ℕ) → 1 ≤ sum (occ x) l → P x) → All (λ b. P (at 0 b)) (map (block_at p) l)
blocks-all P p l h = go l (mine-occ P l h)
  where
    go : (l : List Entry) → All (λ e. P e.seq) l → All (λ b. P (at 0 b)) (map (block_at p) l)
    go [] a = tt
    go (e ∷ l) a = (a.0, go l a.1)

held_all : (P : ℕ → Type 0) (t : Dest) → ((x : ℕ) → 1 ≤ queue_sum (occ x) t → P x) → All (λ b. P (at 0 b)) (held_blocks t)
held_all P t h = all_join (λ b. P (at 0 b)) (map (block_at 0) t.pending) _ (blocks-all P 0 t.pending (λ x g. h x (omega (arith, g))))
    (all_join (λ b. P (at 0 b)) (map (block_at 2) (held t)) _ (blocks-all P 2 (held t) (λ x g. h x (omega (arith, g)))) (blocks-all P 1 (taken t.subs) (λ x g. h x (omega (arith, g, sums-taken (occ x) t.subs)))))

-- what is held is not gone
pub none-gone : (t : Dest) → keep (is_gone t) (held_blocks t) ≡ []
none-gone t = keep-nothing t (held_blocks t) (held_all (λ x. not (member x (seqs (holding t))) ≡ false) t (λ x g. ap not (yes-member x (holding t) (omega (arith, g, holding-sum (occ x) t)))))

-- letters' blocks leave as expired in an acknowledgement's report
letters-go : (ws : List ℕ) (u : Dest) (es : List Entry) → map (went_as 4 ws) (keep (is_gone u) (map (block_at 0) es)) ≡ map (block_at 4) (keep (out u) es)
unfolding went_as leaves_as
letters-go ws u [] = refl
letters-go ws u (e ∷ es) = by-test (out u e)
    (λ c. rw c (ap (λ (bs : List Block). block_at 4 e ∷ bs) (letters-go ws u es)))
    (λ c. rw c (letters-go ws u es))

left_is : (code : ℕ) (ws : List ℕ) (u : Dest) (bs : List Block) → 1 ≤ code → u.kind ≡ queue → left_blocks code ws u bs ≡ map (went_as code ws) (keep (is_gone u) (bs ++ comes code ws))
unfolding left_blocks
left_is code ws u bs low q = if-false [] _ (ap₂ (λ x y. x || not (is_queue y)) (ne_eqb code 0 (λ z. omega (arith, z, low))) q)

-- of one call
pub call-told : (code : ℕ) (ws : List ℕ) (c : Call) (t : Dest) → 1 ≤ code → decode code ws ≡ some c → t.kind ≡ queue → (call whole c t).refusal ≡ 0
    → map (went_as code ws) (keep (is_gone (call whole c t).dest) (held_blocks t ++ comes code ws)) ≡ map left_block (departures c t (call whole c t).dest)
call-told code ws c t n e k h =
    let s = called whole code ws c t n e in
    sym (left_is code ws (call whole c t).dest (held_blocks t) n (moved whole c t (decode-coded code ws c e) k h).1)
    ∙ subst (λ (r : Result). left_blocks code ws r.dest (held_blocks t) ≡ map left_block (departures c t r.dest)) s (blocks-leave whole code ws c t k n e (ap (λ (r : Result). r.refusal) s ∙ h))

-- ---- an acknowledgement and the letters that its own destination stores

module _ (ws : List ℕ) (c : Call) (now low : ℕ) (t : Dest) (d : decode 4 ws ≡ some c) (k : t.kind ≡ queue) (h : (call whole c t).refusal ≡ 0) (b : Below low t) where
  abbrev first : Dest
  first = (call whole c t).dest

  pub own-told : Settled (due now first) first → (es : List Entry) (u : Dest) → Rising low es → Makes (storings now es) first u
      → map (went_as 4 ws) (keep (is_gone u) (held_blocks t ++ map (block_at 0) es)) ≡ map left_block (gone_along (c ∷ storings now es) t)
  own-told z es u w m =
      ap (map (went_as 4 ws)) (keep_append (is_gone u) (held_blocks t) (map (block_at 0) es))
      ∙ map-append (went_as 4 ws) (keep (is_gone u) (held_blocks t)) (keep (is_gone u) (map (block_at 0) es))
      ∙ ap₂ (λ (x y : List Block). x ++ y) own (letters-go ws u es ∙ sym (letters-left now low es first u ready w m))
      ∙ sym (map-append left_block (departures c t first) (gone_along (storings now es) first))
    where
      says : comes 4 ws ≡ map (block_at 0) (brought c)
      says = (decode-says 4 ws c d).brings

      brings-none : (l : List Entry) → [] ≡ map (block_at 0) l → (x : ℕ) → sum (occ x) l ≡ 0
      brings-none [] q x = refl
      brings-none (v ∷ l) q x = absurd (nil-cons q)

      ready : Ready now low first
      ready = let v = moved whole c t (decode-coded 4 ws c d) k h in record { kind = v.1; settled = z; below = λ x g. omega (arith, v.0.sums (occ x) (occ-steady x), brings-none (brought c) says x, b x g) }

      own : map (went_as 4 ws) (keep (is_gone u) (held_blocks t)) ≡ map left_block (departures c t first)
      own =
          ap (map (went_as 4 ws)) (keep_same u first (held_blocks t) (held_all (λ x. not (member x (seqs (holding u))) ≡ not (member x (seqs (holding first)))) t
          (λ x g. ap not (same-member x first u (letters-hold now low es first u ready w m x (by-test (leb low x) (λ q. absurd (omega (arith, g, b x (leb-true low x q)))) (λ q. leb-false low x q)))))))
          ∙ ap (λ (bs : List Block). map (went_as 4 ws) (keep (is_gone first) bs)) (sym (append-nil (held_blocks t)))
          ∙ call-told 4 ws c t (omega arith) d k h

-- ---- letters that another destination stores

module _ (ws : List ℕ) (now low : ℕ) (e : Entry) (t : Dest) (k : t.kind ≡ queue) (h : (call whole (enqueuing e now) t).refusal ≡ 0) (b : Below low t) (n : low ≤ e.seq) where
  abbrev next : Dest
  next = (call whole (enqueuing e now) t).dest

  -- what did not wait stays
  apart-stays : (x : ℕ) → 1 ≤ sum (occ x) (held t) + sum (occ x) (taken t.subs) → 1 ≤ queue_sum (occ x) next
  apart-stays x g =
      let l = dispatch-late (due now t) (stored e t) in
      let once = queue-once whole (enqueuing e now) t k h x in
      let other : occ x e ≡ 0 = occ-no x e (ne_eqb x e.seq (λ q. omega (arith, g, q, sums-taken (occ x) t.subs, b x (omega (arith, q, n))))) in
      subst⁻¹ (λ (u : Dest). 1 ≤ queue_sum (occ x) u) (after_is now low e t h k)
      (omega (arith, g, once, other, sums-taken (occ x) t.subs, sum-insert (occ x) e t.pending, l.sums (occ x), l.waited (occ x), sums-map (count_m (occ x)) (hold_back e.seq) t.subs (λ s. cursor-count (occ x) (min s.cursor (e.seq - 1)) s)))

  -- a block that is gone had waited
  abbrev Waited : Block → Type 0
  Waited v = is_gone next v ≡ true → eqb (at 1 v) 0 ≡ true

  apart-waited : (p : ℕ) (l : List Entry) → ((x : ℕ) → 1 ≤ sum (occ x) l → 1 ≤ sum (occ x) (held t) + sum (occ x) (taken t.subs)) → All Waited (map (block_at p) l)
  apart-waited p l g = go (map (block_at p) l) (blocks-all (λ x. not (member x (seqs (holding next))) ≡ false) p l (λ x y. ap not (yes-member x (holding next) (omega (arith, apart-stays x (g x y), holding-sum (occ x) next)))))
    where
      go : (bs : List Block) → All (λ v. is_gone next v ≡ false) bs → All Waited bs
      go [] a = tt
      go (v ∷ bs) a = ((λ q. absurd (true≢false (sym q ∙ a.0))), go bs a.1)

  first-waited : (l : List Entry) → All Waited (map (block_at 0) l)
  first-waited [] = tt
  first-waited (v ∷ l) = ((λ q. refl), first-waited l)

  all-waited : All Waited (held_blocks t ++ block_at 0 e ∷ [])
  all-waited = all_join Waited (held_blocks t) (block_at 0 e ∷ [])
      (all_join Waited (map (block_at 0) t.pending) _ (first-waited t.pending) (all_join Waited (map (block_at 2) (held t)) _ (apart-waited 2 (held t) (λ x g. omega (arith, g))) (apart-waited 1 (taken t.subs) (λ x g. omega (arith, g)))))
      (first-waited (e ∷ []))

  went-same : (bs : List Block) → All Waited bs → map (went_as 4 ws) (keep (is_gone next) bs) ≡ map (went_as 1 (letter_words e now)) (keep (is_gone next) bs)
  unfolding went_as leaves_as
  went-same [] a = refl
  went-same (v ∷ bs) a = by-test (is_gone next v)
      (λ c. rw c (ap₂ (λ (w : Bool) (l : List Block). (at 0 v ∷ (whether eqb 4 4 && not w then acked_as (at 3 ws % 256) else 4) ∷ at 2 v ∷ []) ∷ l) (a.0 c) (went-same bs a.1)))
      (λ c. rw c (went-same bs a.1))

  next-told : map (went_as 4 ws) (keep (is_gone next) (held_blocks t ++ block_at 0 e ∷ [])) ≡ map left_block (departures (enqueuing e now) t next)
  next-told =
      let d = stored-decodes e now t h in
      went-same (held_blocks t ++ block_at 0 e ∷ []) all-waited
      ∙ ap (λ (bs : List Block). map (went_as 1 (letter_words e now)) (keep (is_gone next) (held_blocks t ++ bs))) (sym (decode-says 1 (letter_words e now) (enqueuing e now) d).brings)
      ∙ call-told 1 (letter_words e now) (enqueuing e now) t (omega arith) d k h

  pub other-told : (es : List Entry) (u : Dest) → Rising (e.seq + 1) es → Makes (storings now es) next u
      → map (went_as 4 ws) (keep (is_gone u) (held_blocks t ++ map (block_at 0) (e ∷ es))) ≡ map left_block (gone_along (storings now (e ∷ es)) t)
  other-told es u w m =
      ap (λ (bs : List Block). map (went_as 4 ws) (keep (is_gone u) bs)) (sym (append_assoc (held_blocks t) (block_at 0 e ∷ []) (map (block_at 0) es)))
      ∙ ap (map (went_as 4 ws)) (keep_append (is_gone u) (held_blocks t ++ block_at 0 e ∷ []) (map (block_at 0) es))
      ∙ map-append (went_as 4 ws) (keep (is_gone u) (held_blocks t ++ block_at 0 e ∷ [])) (keep (is_gone u) (map (block_at 0) es))
      ∙ ap₂ (λ (x y : List Block). x ++ y) own (letters-go ws u es ∙ sym (letters-left now (e.seq + 1) es next u ready w m))
      ∙ sym (map-append left_block (departures (enqueuing e now) t next) (gone_along (storings now es) next))
    where
      ready : Ready now (e.seq + 1) next
      ready = let v = moved whole (enqueuing e now) t (decode-coded 1 (letter_words e now) (enqueuing e now) (stored-decodes e now t h)) k h in record {
        kind = after-kind now low e t h k;
        settled = after-settled now low e t h k;
        below = λ x g. omega (arith, v.0.sums (occ x) (occ-steady x), occ-no x e (ne_eqb x e.seq (λ q. omega (arith, q, g))), b x (omega (arith, n, g)));
      }

      still : (x : ℕ) → x < e.seq + 1 → not (member x (seqs (holding u))) ≡ not (member x (seqs (holding next)))
      still x g = ap not (same-member x next u (letters-hold now (e.seq + 1) es next u ready w m x g))

      low_held : (x : ℕ) → 1 ≤ queue_sum (occ x) t → x < e.seq + 1
      low_held x g = by-test (leb low x) (λ q. absurd (omega (arith, g, b x (leb-true low x q)))) (λ q. omega (arith, leb-false low x q, n))

      own : map (went_as 4 ws) (keep (is_gone u) (held_blocks t ++ block_at 0 e ∷ [])) ≡ map left_block (departures (enqueuing e now) t next)
      own =
          ap (map (went_as 4 ws)) (keep_same u next (held_blocks t ++ block_at 0 e ∷ []) (all_join (λ v. is_gone u v ≡ is_gone next v) (held_blocks t) (block_at 0 e ∷ [])
          (held_all (λ x. not (member x (seqs (holding u))) ≡ not (member x (seqs (holding next)))) t (λ x g. still x (low_held x g))) (still e.seq (omega arith), tt)))
          ∙ next-told

-- ---- after an acknowledgement that rejects something

touch-kind : (now : ℕ) (t : Dest) → (touch_idle now t).kind ≡ t.kind
unfolding touch_idle
touch-kind now t = by-if (λ (u : Dest). u.kind ≡ t.kind) (empty t.pending && (empty t.subs && empty t.producers)) _ _ (λ c. refl) (λ c. refl)

reserved-kind : (i : Id) (a : Ack) (t : Dest) (o : Option ℕ) → (ack_reserved i a t o).dest.kind ≡ t.kind
unfolding ack_reserved
reserved-kind i a t none = refl
reserved-kind i a t (some l) = refl

-- a queue that a call has dispatched
abbrev Done : ℕ → Dest → Type 0
Done now u = Settled (due now (used u)) (used u)

dispatched : (now : ℕ) (x : Dest) → x.kind ≡ queue → Done now (dispatch now x).dest
unfolding dispatch_by
dispatched now x k =
    let z = dispatch-settles (due now x) x in
    subst⁻¹ (λ (j : Kind). Done now (dispatch_by (due now x) x j).dest) k
    (subst⁻¹ (λ (n : ℕ). Settled n (used (dispatch_queue (due now x) x).dest)) (ap (λ (m : ℕ). now - m) (dispatch-allowance (due now x) x)) (record { rests = z.rests; finds = z.finds }))

taken_none : (i : Id) (a : Ack) (t : Dest) (o : Option ℕ) → empty (reserved_of i t) ≡ true → taken_reserved i a t o ≡ []
taken_none i a t none h = refl
taken_none i a t (some l) h = go (reserved_of i t) h
  where
    go : (es : List Entry) → empty es ≡ true → keep (λ e. reserved_hit a.first l e (ack_type a.type)) es ≡ []
    go [] q = refl
    go (e ∷ es) q = absurd (true≢false (sym q))

rejects-none : (i : Id) (a : Ack) (t : Dest) → sub_of i t ≡ none → (a.transacted || empty (reserved_of i t)) ≡ true → rejected_by i a t ≡ []
unfolding rejected_by rejected_of
rejects-none i a t e h = by-test a.transacted (λ c. rw c)
    (λ c. by-if (λ (l : List Entry). l ≡ []) (not a.transacted && is_poison (ack_type a.type)) _ []
    (λ d. ap (rejected_of i a t) e ∙ ap lasting (taken_none i a t a.last (sym (ap (λ b. b || empty (reserved_of i t)) c) ∙ h))) (λ d. refl))

ack-done : (now : ℕ) (i : Id) (a : Ack) (t : Dest) → t.kind ≡ queue → (rejected_by i a t ≡ [] → ⊥) → (o : Option Sub) → sub_of i t ≡ o → Done now (ack_at now i a t o).dest
unfolding ack_at
ack-done now i a t k r none e = by-if (λ (x : Out). Done now x.dest) (a.transacted || empty (reserved_of i t)) _ _
    (λ c. absurd (r (rejects-none i a t e c)))
    (λ c. dispatched now _ (touch-kind now (ack_reserved i a t a.last).dest ∙ reserved-kind i a t a.last ∙ k))
ack-done now i a t k r (some s) e = dispatched now _ (touch-kind now (count (ack_sub a s).counts (put_sub i (ack_sub a s).sub t)) ∙ k)

pub ack-settled : (now : ℕ) (i : Id) (a : Ack) (t : Dest) → t.kind ≡ queue → (call whole (asking i (acknowledge a now)) t).refusal ≡ 0 → (rejected_by i a t ≡ [] → ⊥)
    → let u = (call whole (asking i (acknowledge a now)) t).dest in Settled (due now u) u
unfolding perform ask ack
ack-settled now i a t k h r =
    subst⁻¹ (λ (u : Dest). Settled (due now u) u) (call-made whole (asking i (acknowledge a now)) t (call-accepted whole (asking i (acknowledge a now)) t h)) (ack-done now i a t k r (sub_of i t) refl)

-- ---- what is claimed

under-below : (low : ℕ) (t : Dest) → held_under low t → Below low t
under-below low t h x g = sym (holding-sum (occ x) t) ∙ go (holding t) h
  where
    go : (l : List Entry) → all (λ n. ltb n low) (seqs l) ≡ true → sum (occ x) l ≡ 0
    go [] a = refl
    go (v ∷ l) a = omega (arith, occ-no x v (ne_eqb x v.seq (λ q. omega (arith, q, g, ltb-true v.seq low (and_left (ltb v.seq low) _ a)))), go l (and_right (ltb v.seq low) _ a))

gone-is : (code : ℕ) (ws : List ℕ) (u : Dest) (bs came : List Block) → u.kind ≡ queue → blocks_gone code ws u bs came ≡ map (went_as code ws) (keep (is_gone u) (bs ++ came))
unfolding blocks_gone
gone-is code ws u bs came k = if-true _ [] (ap is_queue k)

letters-kind : (now : ℕ) (es : List Entry) (t u : Dest) → t.kind ≡ queue → Makes (storings now es) t u → u.kind ≡ queue
letters-kind now [] t u k m = ap (λ (v : Dest). v.kind) m ∙ k
letters-kind now (e ∷ es) t u k m = letters-kind now es (call whole (enqueuing e now) t).dest u (after-kind now 0 e t m.0 k) m.1

pub call-is-told : CallIsTold
call-is-told code ws c t n e k h = gone-is code ws _ (held_blocks t) (comes code ws) (moved whole c t (decode-coded code ws c e) k h).1 ∙ call-told code ws c t n e k h

pub ack-and-letters-are-told : AckAndLettersAreTold
ack-and-letters-are-told ws i a now low t u es d k r b w m =
    let c = asking i (acknowledge a now) in
    gone-is 4 ws u (held_blocks t) (map (block_at 0) es) (letters-kind now es (call whole c t).dest u (moved whole c t (decode-coded 4 ws c d) k m.0).1 m.1)
    ∙ own-told ws c now low t d k m.0 (under-below low t b) (ack-settled now i a t k m.0 r) es u w m.1

-- no call at all
pub rest-is-told : (code : ℕ) (ws : List ℕ) (t : Dest) → t.kind ≡ queue → blocks_gone code ws t (held_blocks t) [] ≡ []
rest-is-told code ws t k =
    gone-is code ws t (held_blocks t) [] k
    ∙ ap (λ (bs : List Block). map (went_as code ws) (keep (is_gone t) bs)) (append-nil (held_blocks t))
    ∙ ap (map (went_as code ws)) (none-gone t)

pub letters-are-told-once : LettersAreToldOnce
letters-are-told-once ws now low t u [] k b w m = ap (λ (v : Dest). blocks_gone 4 ws v (held_blocks t) []) m ∙ rest-is-told 4 ws t k
letters-are-told-once ws now low t u (e ∷ es) k b w m =
    gone-is 4 ws u (held_blocks t) (map (block_at 0) (e ∷ es)) (letters-kind now (e ∷ es) t u k m)
    ∙ other-told ws now low e t k m.0 (under-below low t b) w.0 es u w.1 m.1
