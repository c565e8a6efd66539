-- Codes 4 to 7 change places: document 01's claim on lists of calls. Assumes nothing.
use Prim.Native.Nat.{ℕ, suc, ◌+◌, ◌-◌, ◌≤◌, ◌^◌}
use native.Mathlib.Omega.{arith}
use mathlib.Core.Path.{◌≡◌, refl, sym, ◌∙◌, ap, subst, subst⁻¹}
use mathlib.Core.Bool.{Bool, true, false, true≢false}
use mathlib.Core.List.{List, [], ◌∷◌}
use mathlib.Core.Option.{Option, none, some}
use lib.Dec.{eqb}
use lib.ListN.{length}
use borrow.Author.Tests.{ne_eqb, leb-true, le-leb}
use Rattle.model.proofs.Ids.{same_id_lem, same-id-refl}
use Rattle.definition.specs.Base.{whether◌then◌else◌, find, put, empty, is_some}
use Rattle.definition.specs.Types.{Kind, Id, Sub, Stats, Dest, with_subs, with_stats, with_calls_used}
use Rattle.definition.specs.Consumer.{same_id, ◌⊕◌}
use Rattle.definition.specs.Destination.{is_id, sub_of}
use Rattle.definition.specs.Calls.{Lengths, short, signed_within, id_ok, clock_ok, ack_ok, request_ok, Request, acknowledge, pulling, timed_out, prefetching, asking, Result, refused, used, sound, arguments_ok, own_refusal, perform, refusal, call}
use Rattle.definition.specs.Words.{call_step}
use Rattle.definition.specs.Orders.{Lent, caller, Reply, result, reply, dest_left, calls_of, AllPresent, SameRuns, Reordering}
use Rattle.definition.proofs.Tests.{if-true, if-false, by-test, and_left, and_right, and_both}
use Rattle.definition.proofs.Lists.{find-passes, find-put-same, find-put-other, put-put, All, all-put, all-find}
use Rattle.definition.proofs.Local.{⊕-assoc, ⊕-comm, Rests, changed, Resting}
use Rattle.definition.proofs.Own.{Own, same, own, lessened, own-id, own-rests, ask-own}
use Rattle.definition.proofs.Calm.{Calm, reached-calm}
use Rattle.definition.proofs.Sound.{own-sound}
use Rattle.definition.proofs.Kept.{reached-sound}
use Rattle.definition.proofs.Made.{request_of, asks, step_call, decode-asks, asked-ok}
use Rattle.definition.proofs.Reorder as Reorder

-- no consumer has two IDs
two-ids : (i j : Id) → same_id i j ≡ false → (c : Sub) → is_id i c ≡ true → is_id j c ≡ true → ⊥
two-ids i j n c p q = true≢false (sym (same-id-refl i) ∙ ap (λ (x : Id). same_id i x) (sym (same_id_lem c.id i p) ∙ same_id_lem c.id j q) ∙ n)

other-id : (i j : Id) → same_id i j ≡ false → (c : Sub) → is_id i c ≡ true → is_id j c ≡ false
other-id i j n c p = by-test (is_id j c) (λ q. absurd (two-ids i j n c p q)) (λ q. q)

-- ---- one call

-- what it asks
abbrev request : Lent → Option Request
request c = request_of c.code c.words

-- a call's refusal, where the state is sound and a call is left
abbrev verdict : Lent → ℕ
verdict c = whether short c.lengths then 1 else whether is_some (request c) then 0 else 3

abbrev Coded : Lent → Type 0
Coded c = (4 ≤ c.code) × (c.code ≤ 7)

record Ready (k : ℕ) (t : Dest) : Type 0 where
  resting : Resting t
  is-sound : sound t ≡ true
  calls : k + t.calls_used ≤ t.call_limit

Here : Lent → Dest → Type 0
Here c t = (s : Sub) × (sub_of (caller c) t ≡ some s) × Coded c

refusal-own : (k : ℕ) (lent : Lengths) (i : Id) (q : Request) (t : Dest) → Ready (suc k) t → arguments_ok (asking i q) ≡ true → refusal lent (asking i q) t ≡ whether short lent then 1 else 0
unfolding refusal own_refusal
refusal-own k lent i q t r a =
    let n : eqb t.calls_used t.call_limit ≡ false = ne_eqb t.calls_used t.call_limit (λ e. omega (arith, r.calls)) in
    rw (r.is-sound, a, n)

-- the consumer's own step
abbrev own_of : Kind → ℕ → Sub → Option Request → Own
own_of k w s none = same s
own_of k w s (some q) = own k (lessened w q) s

abbrev mine : Lent → Sub → Dest → Own
mine c s t = own_of t.kind t.allowance s (request c)

abbrev moved : Lent → Sub → Dest → Dest
moved c s t = used (changed (caller c) (mine c s t).sub (mine c s t).counts t)

own_of-id : (k : Kind) (w : ℕ) (s : Sub) (o : Option Request) → (own_of k w s o).sub.id ≡ s.id
own_of-id k w s none = refl
own_of-id k w s (some q) = own-id k (lessened w q) s

own_of-rests : (k : Kind) (w : ℕ) (s : Sub) (o : Option Request) → Rests k s → Rests k (own_of k w s o).sub
own_of-rests k w s none h = h
own_of-rests k w s (some q) h = own-rests k (lessened w q) s h

-- the step, by what is asked
asked-own : (k : ℕ) (lent : Lengths) (i : Id) (s : Sub) (t : Dest) (o : Option Request) → ((q : Request) → o ≡ some q → arguments_ok (asking i q) ≡ true) → Ready (suc k) t → sub_of i t ≡ some s →
    call_step lent t (asks i o) ≡ (let m = own_of t.kind t.allowance s o in let v = whether short lent then 1 else whether is_some o then 0 else 3 in
    whether eqb v 0 then record { refusal = 0; answer = m.answer; events = m.events; dest = used (changed i m.sub m.counts t) } else refused v t)
unfolding call_step call perform
asked-own k lent i s t none a r f = by-test (short lent) (λ e. rw e) (λ e. rw (e, r.is-sound))
asked-own k lent i s t (some q) a r f = rw (refusal-own k lent i q t r (a q refl), ask-own i q s t r.resting f)

call-own : (k : ℕ) (c : Lent) (s : Sub) (t : Dest) → Ready (suc k) t → Coded c → sub_of (caller c) t ≡ some s →
    result c t ≡ whether eqb (verdict c) 0 then record { refusal = 0; answer = (mine c s t).answer; events = (mine c s t).events; dest = moved c s t } else refused (verdict c) t
call-own k c s t r d f =
    step_call c.lengths c.code c.words t (omega (arith, d.0))
    ∙ ap (call_step c.lengths t) (decode-asks c.code c.words d.0 d.1)
    ∙ asked-own k c.lengths (caller c) s t (request c) (λ q e. asked-ok c.code c.words q d.0 d.1 e) r f

-- what it gets, and what it leaves, by whether it is accepted
yes-reply : (k : ℕ) (c : Lent) (s : Sub) (t : Dest) → Ready (suc k) t → Coded c → sub_of (caller c) t ≡ some s → eqb (verdict c) 0 ≡ true →
    reply c t ≡ record { refusal = 0; answer = (mine c s t).answer; events = (mine c s t).events }
yes-reply k c s t r d f e = let p = call-own k c s t r d f ∙ if-true _ _ e in λ j. record { refusal = (p j).refusal; answer = (p j).answer; events = (p j).events }

yes-left : (k : ℕ) (c : Lent) (s : Sub) (t : Dest) → Ready (suc k) t → Coded c → sub_of (caller c) t ≡ some s → eqb (verdict c) 0 ≡ true → dest_left c t ≡ moved c s t
yes-left k c s t r d f e = ap (λ (x : Result). x.dest) (call-own k c s t r d f ∙ if-true _ _ e)

no-reply : (k : ℕ) (c : Lent) (s : Sub) (t : Dest) → Ready (suc k) t → Coded c → sub_of (caller c) t ≡ some s → eqb (verdict c) 0 ≡ false →
    reply c t ≡ record { refusal = verdict c; answer = 0; events = [] }
no-reply k c s t r d f e = let p = call-own k c s t r d f ∙ if-false _ _ e in λ j. record { refusal = (p j).refusal; answer = (p j).answer; events = (p j).events }

no-left : (k : ℕ) (c : Lent) (s : Sub) (t : Dest) → Ready (suc k) t → Coded c → sub_of (caller c) t ≡ some s → eqb (verdict c) 0 ≡ false → dest_left c t ≡ t
no-left k c s t r d f e = ap (λ (x : Result). x.dest) (call-own k c s t r d f ∙ if-false _ _ e)

-- an accepted call asks something
asks-some : (c : Lent) → eqb (verdict c) 0 ≡ true → is_some (request c) ≡ true
asks-some c e = by-test (short c.lengths)
    (λ p. absurd (true≢false (sym e ∙ rw p)))
    (λ p. by-test (is_some (request c)) (λ q. q) (λ q. absurd (true≢false (sym e ∙ rw (p, q)))))

own-is-id : (c : Lent) (s : Sub) (t : Dest) → sub_of (caller c) t ≡ some s → is_id (caller c) (mine c s t).sub ≡ true
own-is-id c s t f = ap (λ (x : Id). same_id x (caller c)) (own_of-id t.kind t.allowance s (request c)) ∙ find-passes (is_id (caller c)) t.subs s f

-- another consumer is not touched
moved_other : (c : Lent) (s : Sub) (t : Dest) (j : Id) → sub_of (caller c) t ≡ some s → same_id (caller c) j ≡ false → sub_of j (moved c s t) ≡ sub_of j t
moved_other c s t j f n = find-put-other (is_id j) (is_id (caller c)) t.subs (mine c s t).sub (λ x p q. two-ids (caller c) j n x q p) (other-id (caller c) j n (mine c s t).sub (own-is-id c s t f))

-- ---- ready for the next

clock-less : (now w : ℕ) → clock_ok now ≡ true → clock_ok (now - w) ≡ true
clock-less now w h = le-leb (now - w) (2 ^ 62) (omega (arith, leb-true now (2 ^ 62) h))

request-less : (w : ℕ) (q : Request) → request_ok q ≡ true → request_ok (lessened w q) ≡ true
request-less w (acknowledge a now) h = and_both (ack_ok a) _ (and_left (ack_ok a) _ h) (clock-less now w (and_right (ack_ok a) _ h))
request-less w (pulling timeout now) h = and_both (signed_within (2 ^ 63) timeout) _ (and_left (signed_within (2 ^ 63) timeout) _ h) (clock-less now w (and_right (signed_within (2 ^ 63) timeout) _ h))
request-less w (timed_out generation) h = h
request-less w (prefetching p now) h = and_both (signed_within (2 ^ 31) p) _ (and_left (signed_within (2 ^ 31) p) _ h) (clock-less now w (and_right (signed_within (2 ^ 31) p) _ h))

lessened-ok : (w : ℕ) (i : Id) (q : Request) → arguments_ok (asking i q) ≡ true → arguments_ok (asking i (lessened w q)) ≡ true
unfolding arguments_ok
lessened-ok w i q h = and_both (id_ok i) _ (and_left (id_ok i) _ h) (request-less w q (and_right (id_ok i) _ h))

own_of-sound : (i : Id) (s : Sub) (t : Dest) (o : Option Request) → sub_of i t ≡ some s → ((q : Request) → o ≡ some q → arguments_ok (asking i q) ≡ true) → is_some o ≡ true → suc t.calls_used ≤ t.call_limit → sound t ≡ true →
    sound (used (changed i (own_of t.kind t.allowance s o).sub (own_of t.kind t.allowance s o).counts t)) ≡ true
own_of-sound i s t none f a e h y = absurd (true≢false (sym e))
own_of-sound i s t (some q) f a e h y = own-sound i (lessened t.allowance q) s t f (lessened-ok t.allowance i q (a q refl)) h y

moved_ready : (k : ℕ) (c : Lent) (s : Sub) (t : Dest) → Ready (suc k) t → Coded c → sub_of (caller c) t ≡ some s → eqb (verdict c) 0 ≡ true → Ready k (moved c s t)
moved_ready k c s t r d f e = record {
  resting = record {
    subs = all-put (Rests t.kind) (is_id (caller c)) t.subs (mine c s t).sub r.resting.subs (own_of-rests t.kind t.allowance s (request c) (all-find (Rests t.kind) (is_id (caller c)) t.subs s r.resting.subs f));
    none-waits = r.resting.none-waits;
    idle = r.resting.idle;
  };
  is-sound = own_of-sound (caller c) s t (request c) f (λ q x. asked-ok c.code c.words q d.0 d.1 x) (asks-some c e) (omega (arith, r.calls)) r.is-sound;
  calls = omega (arith, r.calls);
}

ready-less : (k : ℕ) (t : Dest) → Ready (suc k) t → Ready k t
ready-less k t r = record { resting = r.resting; is-sound = r.is-sound; calls = omega (arith, r.calls) }

on : (k : ℕ) (t : Dest) (a : Lent) → Ready (suc k) t → Here a t → Ready k (dest_left a t)
unfolding Here
on k t a r h = by-test (eqb (verdict a) 0)
    (λ e. subst⁻¹ (Ready k) (yes-left k a h.0 t r h.2 h.1 e) (moved_ready k a h.0 t r h.2 h.1 e))
    (λ e. subst⁻¹ (Ready k) (no-left k a h.0 t r h.2 h.1 e) (ready-less k t r))

stay-moved : (a b : Lent) (s : Sub) (t : Dest) → sub_of (caller a) t ≡ some s → Here b t → Here b (moved a s t)
unfolding Here
stay-moved a b s t f h = by-test (same_id (caller a) (caller b))
    (λ e. ((mine a s t).sub, subst (λ (j : Id). sub_of j (moved a s t) ≡ some (mine a s t).sub) (same_id_lem (caller a) (caller b) e) (find-put-same (is_id (caller a)) t.subs s (mine a s t).sub f (own-is-id a s t f)), h.2))
    (λ e. (h.0, moved_other a s t (caller b) f e ∙ h.1, h.2))

stay : (k : ℕ) (t : Dest) (a b : Lent) → Ready (suc k) t → Here a t → Here b t → Here b (dest_left a t)
unfolding Here
stay k t a b r h g = by-test (eqb (verdict a) 0)
    (λ e. subst⁻¹ (Here b) (yes-left k a h.0 t r h.2 h.1 e) (stay-moved a b h.0 t h.1 g))
    (λ e. subst⁻¹ (Here b) (no-left k a h.0 t r h.2 h.1 e) g)

-- ---- two calls of two consumers

moved-swap : (a b : Lent) (s v : Sub) (t : Dest) → sub_of (caller a) t ≡ some s → sub_of (caller b) t ≡ some v → same_id (caller a) (caller b) ≡ false →
    moved b v (moved a s t) ≡ moved a s (moved b v t)
moved-swap a b s v t f g n =
    let m : same_id (caller b) (caller a) ≡ false = by-test (same_id (caller b) (caller a)) (λ e. absurd (true≢false (sym (same-id-refl (caller b)) ∙ ap (λ (x : Id). same_id x (caller b)) (same_id_lem (caller b) (caller a) e) ∙ n))) (λ e. e) in
    let u : put (is_id (caller b)) (mine b v t).sub (put (is_id (caller a)) (mine a s t).sub t.subs) ≡ put (is_id (caller a)) (mine a s t).sub (put (is_id (caller b)) (mine b v t).sub t.subs)
    = put-put (is_id (caller a)) (is_id (caller b)) t.subs (mine a s t).sub (mine b v t).sub (two-ids (caller a) (caller b) n) (other-id (caller a) (caller b) n (mine a s t).sub (own-is-id a s t f)) (other-id (caller b) (caller a) m (mine b v t).sub (own-is-id b v t g)) in
    let c : (t.stats ⊕ (mine a s t).counts) ⊕ (mine b v t).counts ≡ (t.stats ⊕ (mine b v t).counts) ⊕ (mine a s t).counts
    = ⊕-assoc t.stats (mine a s t).counts (mine b v t).counts ∙ ap (λ (x : Stats). t.stats ⊕ x) (⊕-comm (mine a s t).counts (mine b v t).counts) ∙ sym (⊕-assoc t.stats (mine b v t).counts (mine a s t).counts) in
    λ j. with_calls_used (t.calls_used + 1 + 1) (with_stats (c j) (with_subs (u j) t))

apart : (k : ℕ) (t : Dest) (a b : Lent) → Ready (suc (suc k)) t → Here a t → Here b t → same_id (caller a) (caller b) ≡ false → reply b (dest_left a t) ≡ reply b t
unfolding Here
apart k t a b r h g n = by-test (eqb (verdict a) 0) first (λ e. ap (reply b) (no-left (suc k) a h.0 t r h.2 h.1 e))
  where
    first : eqb (verdict a) 0 ≡ true → reply b (dest_left a t) ≡ reply b t
    first e =
        let f : sub_of (caller b) (moved a h.0 t) ≡ some g.0 = moved_other a h.0 t (caller b) h.1 n ∙ g.1 in
        let q : Ready (suc k) (moved a h.0 t) = moved_ready (suc k) a h.0 t r h.2 h.1 e in
        ap (reply b) (yes-left (suc k) a h.0 t r h.2 h.1 e)
        ∙ by-test (eqb (verdict b) 0)
        (λ x. yes-reply k b g.0 (moved a h.0 t) q g.2 f x ∙ sym (yes-reply (suc k) b g.0 t r g.2 g.1 x))
        (λ x. no-reply k b g.0 (moved a h.0 t) q g.2 f x ∙ sym (no-reply (suc k) b g.0 t r g.2 g.1 x))

swap : (k : ℕ) (t : Dest) (a b : Lent) → Ready (suc (suc k)) t → Here a t → Here b t → same_id (caller a) (caller b) ≡ false → dest_left b (dest_left a t) ≡ dest_left a (dest_left b t)
unfolding Here
swap k t a b r h g n = by-test (eqb (verdict a) 0)
    (λ e. by-test (eqb (verdict b) 0) (both e) (λ x.
    ap (dest_left b) (la e) ∙ no-left k b g.0 (moved a h.0 t) (ra e) g.2 fb x ∙ sym (ap (dest_left a) (no-left (suc k) b g.0 t r g.2 g.1 x) ∙ la e)))
    (λ e. by-test (eqb (verdict b) 0)
    (λ x. ap (dest_left b) (no-left (suc k) a h.0 t r h.2 h.1 e) ∙ lb x ∙ sym (ap (dest_left a) (lb x) ∙ no-left k a h.0 (moved b g.0 t) (rb x) h.2 fa e))
    (λ x. ap (dest_left b) (no-left (suc k) a h.0 t r h.2 h.1 e) ∙ no-left (suc k) b g.0 t r g.2 g.1 x ∙ sym (ap (dest_left a) (no-left (suc k) b g.0 t r g.2 g.1 x) ∙ no-left (suc k) a h.0 t r h.2 h.1 e)))
  where
    m : same_id (caller b) (caller a) ≡ false
    m = by-test (same_id (caller b) (caller a)) (λ e. absurd (true≢false (sym (same-id-refl (caller b)) ∙ ap (λ (x : Id). same_id x (caller b)) (same_id_lem (caller b) (caller a) e) ∙ n))) (λ e. e)

    la : eqb (verdict a) 0 ≡ true → dest_left a t ≡ moved a h.0 t
    la e = yes-left (suc k) a h.0 t r h.2 h.1 e

    lb : eqb (verdict b) 0 ≡ true → dest_left b t ≡ moved b g.0 t
    lb e = yes-left (suc k) b g.0 t r g.2 g.1 e

    ra : eqb (verdict a) 0 ≡ true → Ready (suc k) (moved a h.0 t)
    ra e = moved_ready (suc k) a h.0 t r h.2 h.1 e

    rb : eqb (verdict b) 0 ≡ true → Ready (suc k) (moved b g.0 t)
    rb e = moved_ready (suc k) b g.0 t r g.2 g.1 e

    fb : sub_of (caller b) (moved a h.0 t) ≡ some g.0
    fb = moved_other a h.0 t (caller b) h.1 n ∙ g.1

    fa : sub_of (caller a) (moved b g.0 t) ≡ some h.0
    fa = moved_other b g.0 t (caller a) g.1 m ∙ h.1

    both : eqb (verdict a) 0 ≡ true → eqb (verdict b) 0 ≡ true → dest_left b (dest_left a t) ≡ dest_left a (dest_left b t)
    both e x =
        ap (dest_left b) (la e) ∙ yes-left k b g.0 (moved a h.0 t) (ra e) g.2 fb x
        ∙ moved-swap a b h.0 g.0 t h.1 g.1 n
        ∙ sym (ap (dest_left a) (lb x) ∙ yes-left k a h.0 (moved b g.0 t) (rb x) h.2 fa e)

-- ---- the claim

sound-order : (l m : List Lent) (t : Dest) → ((i : Id) → calls_of i l ≡ calls_of i m) → Ready (length l) t → All (λ (c : Lent). Here c t) l → SameRuns l m t
sound-order l m t h r p =
    let q = Reorder.reorder Lent Id same_id same-id-refl same_id_lem caller Reply Dest reply dest_left Ready Here on stay swap apart l m t h r p in
    record { replies = q.results; states = q.ends }

present : (o : Option Sub) → is_some o ≡ true → (s : Sub) × (o ≡ some s)
present none e = absurd (true≢false (sym e))
present (some s) e = (s, refl)

all_here : (l : List Lent) (t : Dest) → AllPresent l t → All (λ (c : Lent). Here c t) l
unfolding Here
all_here [] t p = tt
all_here (c ∷ l) t p = let s = present (sub_of (caller c) t) p.0.there in ((s.0, s.1, (p.0.low, p.0.high)), all_here l t p.1)

not-empty : (p : Sub → Bool) (l : List Sub) → is_some (find p l) ≡ true → empty l ≡ false
not-empty p [] e = sym e
not-empty p (s ∷ l) e = refl

agree-nil : (m : List Lent) → ((i : Id) → calls_of i [] ≡ calls_of i m) → m ≡ []
agree-nil [] h = refl
agree-nil (c ∷ m) h = absurd (Reorder.nil-cons (h (caller c) ∙ Reorder.keep-yes (λ (x : Lent). same_id (caller x) (caller c)) c m (same-id-refl (caller c))))

pub reordering : Reordering
reordering cleared t reached fits l m p calls h = go l p calls h (reached-sound cleared t reached)
  where
    k : Calm cleared t
    k = reached-calm cleared t reached

    go : (l : List Lent) → AllPresent l t → length l ≤ t.call_limit - t.calls_used → ((i : Id) → calls_of i l ≡ calls_of i m) → sound t ≡ true → SameRuns l m t
    go [] p calls h e = subst (λ (k : List Lent). SameRuns [] k t) (sym (agree-nil m h)) (record { replies = λ i. refl; states = refl })
    go (c ∷ l) p calls h e =
        let r : Ready (length (c ∷ l)) t = record {
          resting = record { subs = k.subs (λ q. (fits q).0); none-waits = λ q. (fits q).1; idle = k.idle (not-empty (is_id (caller c)) t.subs p.0.there) };
          is-sound = e;
          calls = omega (arith, calls);
        } in
        sound-order (c ∷ l) m t h r (all_here (c ∷ l) t p)
