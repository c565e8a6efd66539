-- Shares suffice: within its share an enqueue finds rows, where the shares of all connections fit into them. Assumes nothing.
use Prim.Native.Nat.{ℕ, zero, suc, ◌+◌, ◌*◌, ◌≤◌}
use native.Mathlib.Nat.{mul-suc}
use native.Mathlib.Omega.{arith}
use mathlib.Core.Path.{◌≡◌, refl, sym, ◌∙◌, ap, subst⁻¹}
use mathlib.Core.Bool.{Bool, true, false, not, ◌&&◌, ◌||◌, true≢false}
use mathlib.Core.List.{List, [], ◌∷◌, ◌++◌, map}
use mathlib.Core.Option.{none}
use lib.Dec.{ltb, eqb}
use lib.ListN.{length}
use borrow.Author.Tests.{eqb-true, eq-eqb, leb-true, ltb-true}
use Rattle.definition.specs.Base.{whether◌then◌else◌, tally, all, empty, member}
use Rattle.definition.specs.Types.{Kind, queue, topic, Entry, Sub, Dest}
use Rattle.definition.specs.Consumer.{is_browser}
use Rattle.definition.specs.Calls.{Lengths, short, seqs, rows_of, all_rows, own_rows, rows_from, within_share, rows_for, over_share, free_rows, sound, Call, enqueuing, arguments_ok, own_refusal, refusal, refused, Result, call}
use Rattle.definition.specs.Words.{at, entry_in, provided, read, ranged_call, decode, call_step, step}
use Rattle.definition.specs.Layout.{view, formed, lengths_of, buffer_step}
use Rattle.definition.specs.Claims.{connections, holders, browsers_empty, SharesSuffice, BufferSharesSuffice, FullShare, FullShareSound}
use Rattle.definition.proofs.Tests.{if-false, by-if, by-test, and_left, and_right}
use Rattle.definition.proofs.Lists.{All, empty-nil}
use Rattle.definition.proofs.Thin.{tally-append}
use Rattle.definition.proofs.Sums.{sum, one, from, from-own, from-other, from-length, sum-from, sum-append, sum_one, sum-share}
use Rattle.definition.proofs.Whole.{sums, rows_m, count_m, rows_sum, own_sum, own-length, rows-length, Sane, Fine, fine}
use Rattle.definition.proofs.Dispatch.{plain_rows, count-plain}
use Rattle.definition.proofs.Kept.{own-few}

-- ---- rows by connection

abbrev among : List ℕ → Entry → Bool
among cs e = member e.producer cs

among-nil : (l : List Entry) → tally (among []) l ≡ 0
among-nil [] = refl
among-nil (e ∷ l) = omega (arith, among-nil l)

-- one connection more has its own rows more
among-more : (c : ℕ) (cs : List ℕ) (l : List Entry) → tally (among (c ∷ cs)) l ≤ sum (from c) l + tally (among cs) l
among-more c cs [] = omega arith
among-more c cs (e ∷ l) = by-test (eqb e.producer c)
    (λ d. rw d (omega (arith, among-more c cs l, ap (λ x. from x e) (sym (eqb-true e.producer c d)), from-own e)))
    (λ d. rw d (omega (arith, among-more c cs l)))

-- one that is there has none more
among-again : (c : ℕ) (cs : List ℕ) → member c cs ≡ true → (l : List Entry) → tally (among (c ∷ cs)) l ≤ tally (among cs) l
among-again c cs h [] = omega arith
among-again c cs h (e ∷ l) = by-test (eqb e.producer c)
    (λ d. rw (d, ap (λ x. member x cs) (eqb-true e.producer c d) ∙ h) (omega (arith, among-again c cs h l)))
    (λ d. rw d (omega (arith, among-again c cs h l)))

-- no more than a share for each
capacity : (S : ℕ) (l : List Entry) → ((c : ℕ) → sum (from c) l ≤ S) → (cs : List ℕ) → tally (among cs) l ≤ S * connections cs
capacity S l h [] = omega (arith, among-nil l)
capacity S l h (c ∷ cs) = by-test (member c cs)
    (λ d. rw d (omega (arith, among-again c cs d l, capacity S l h cs, ap (λ k. S * k) (plain (connections cs)))))
    (λ d. rw d (omega (arith, among-more c cs l, capacity S l h cs, h c, ap (λ k. S * k) (next (connections cs)), mul-suc S (connections cs))))
  where
    plain : (k : ℕ) → 0 + k ≡ k
    plain k = omega arith

    next : (k : ℕ) → 1 + k ≡ suc k
    next k = omega arith

-- every row is of a connection that holds rows
covered : (cs : List ℕ) (l : List Entry) → ((x : ℕ) → member x (map (λ e. e.producer) l) ≡ true → member x cs ≡ true) → tally (among cs) l ≡ length l
covered cs [] h = refl
covered cs (e ∷ l) h =
    let m : member e.producer cs ≡ true = h e.producer (ap (λ b. b || member e.producer (map (λ e. e.producer) l)) (eq-eqb e.producer e.producer refl)) in
    rw m (omega (arith, covered cs l (λ x k. h x (later (eqb x e.producer) _ k))))
  where
    later : (a b : Bool) → b ≡ true → (a || b) ≡ true
    later true b k = refl
    later false b k = k

-- the rows that are asked for, as entries
copies : ℕ → Entry → List Entry
copies zero e = []
copies (suc n) e = e ∷ copies n e

copies_length : (n : ℕ) (e : Entry) → length (copies n e) ≡ n
unfolding copies
copies_length zero e = refl
copies_length (suc n) e = omega (arith, copies_length n e)

copies-other : (c n : ℕ) (e : Entry) → eqb c e.producer ≡ false → sum (from c) (copies n e) ≡ 0
unfolding copies
copies-other c zero e h = refl
copies-other c (suc n) e h = omega (arith, from-other c e h, copies-other c n e h)

copies-among : (cs : List ℕ) (n : ℕ) (e : Entry) → member e.producer cs ≡ true → tally (among cs) (copies n e) ≡ n
unfolding copies
copies-among cs zero e h = refl
copies-among cs (suc n) e h = rw h (omega (arith, copies-among cs n e h))

-- those held and those asked for fit, where each connection's do
fit_all : (S n : ℕ) (e : Entry) (l : List Entry) → ((c : ℕ) → sum (from c) l ≤ S) → sum (from e.producer) l + n ≤ S → length l + n ≤ S * connections (e.producer ∷ map (λ e. e.producer) l)
fit_all S n e l h a =
    omega (arith, capacity S (copies n e ++ l) each cs, tally-append (among cs) (copies n e) l, copies-among cs n e mine, covered cs l theirs)
  where
    cs : List ℕ
    cs = e.producer ∷ map (λ e. e.producer) l

    mine : member e.producer cs ≡ true
    mine = ap (λ b. b || member e.producer (map (λ e. e.producer) l)) (eq-eqb e.producer e.producer refl)

    theirs : (x : ℕ) → member x (map (λ e. e.producer) l) ≡ true → member x cs ≡ true
    theirs x k = by-test (eqb x e.producer) (λ d. rw d) (λ d. rw d k)

    each : (c : ℕ) → sum (from c) (copies n e ++ l) ≤ S
    each c = by-test (eqb c e.producer)
        (λ d. let y : sum (from c) l + n ≤ S = subst⁻¹ (λ x. sum (from x) l + n ≤ S) (eqb-true c e.producer d) a in omega (arith, y, sum-append (from c) (copies n e) l, from-length c (copies n e), copies_length n e))
        (λ d. omega (arith, h c, sum-append (from c) (copies n e) l, copies-other c n e d))

-- ---- all rows belong to connections, where a queue's browsers have none

own-sub : (N : ℕ) (s : Sub) → Sane queue N s → (not (is_browser s) || empty (rows_of s)) ≡ true → rows_m one s ≤ count_m one s
unfolding rows_m
own-sub N s n h = by-test (is_browser s)
    (λ c. omega (arith, ap (sum one) (empty-nil (rows_of s) (sym (ap (λ b. not b || empty (rows_of s)) c) ∙ h))))
    (λ c. omega (arith, plain_rows one s n.fits c, count-plain one s c))

own-subs : (N : ℕ) (l : List Sub) → All (Sane queue N) l → all (λ s. not (is_browser s) || empty (rows_of s)) l ≡ true → sums (rows_m one) l ≤ sums (count_m one) l
own-subs N [] n h = omega arith
own-subs N (s ∷ l) n h = omega (arith, own-sub N s n.0 (and_left (not (is_browser s) || empty (rows_of s)) _ h), own-subs N l n.1 (and_right (not (is_browser s) || empty (rows_of s)) _ h))

own-all : (L U : ℕ) (k : Kind) (N : ℕ) (t : Dest) → Fine L U k N t → browsers_empty t k ≡ true → rows_sum one t ≤ own_sum k one t
own-all L U queue N t g h = omega (arith, own-subs N t.subs g.subs h)
own-all L U topic N t g h = omega arith

-- ---- a refusal with 5

not-this : (b : Bool) (n m k : ℕ) → (n ≡ k → ⊥) → (whether b then n else m) ≡ k → m ≡ k
not-this true n m k x h = absurd (x h)
not-this false n m k x h = h

was-not : (b : Bool) (n m k : ℕ) → (n ≡ k → ⊥) → (whether b then n else m) ≡ k → b ≡ false
was-not true n m k x h = absurd (x h)
was-not false n m k x h = refl

last_one : (b : Bool) (n : ℕ) → (whether b then suc n else 0) ≡ suc n → b ≡ true
last_one true n h = refl
last_one false n h = absurd (omega (arith, h))

none-five : (lent : Lengths) (t : Dest) → (call_step lent t none).refusal ≡ 5 → ⊥
unfolding call_step
none-five lent t = by-test (short lent) (λ e. rw e (λ h. omega (arith, h))) (λ e. by-test (sound t) (λ f. rw (e, f) (λ h. omega (arith, h))) (λ f. rw (e, f) (λ h. omega (arith, h))))

call-five : (lent : Lengths) (c : Call) (t : Dest) → (call lent c t).refusal ≡ 5 → refusal lent c t ≡ 5
unfolding call
call-five lent c t = by-test (eqb (refusal lent c t) 0) (λ e. rw e (λ h. absurd (omega (arith, h)))) (λ e h. sym (ap (λ (r : Result). r.refusal) (if-false _ (refused (refusal lent c t) t) e)) ∙ h)

step-five : (lent : Lengths) (t : Dest) (b : Bool) (c : Call) → (call_step lent t (ranged_call (provided b c))).refusal ≡ 5 → refusal lent c t ≡ 5
unfolding provided call_step
step-five lent t true c = by-test (arguments_ok c) (λ e. rw e (call-five lent c t)) (λ e. rw e (λ h. absurd (none-five lent t h)))
step-five lent t false c = λ h. absurd (none-five lent t h)

-- the state was sound, and rows were too few
found : (lent : Lengths) (e : Entry) (now : ℕ) (t : Dest) → refusal lent (enqueuing e now) t ≡ 5 → (sound t ≡ true) × (ltb (free_rows t) (rows_for e t t.kind) ≡ true)
unfolding refusal own_refusal
found lent e now t h =
    let a = not-this (short lent) 1 _ 5 (λ x. omega (arith, x)) h in
    let s = was-not (not (sound t)) 2 _ 5 (λ x. omega (arith, x)) a in
    let b = not-this (not (sound t)) 2 _ 5 (λ x. omega (arith, x)) a in
    let c = not-this (not (arguments_ok (enqueuing e now))) 3 _ 5 (λ x. omega (arith, x)) b in
    let d = not-this (eqb t.calls_used t.call_limit) 9 _ 5 (λ x. omega (arith, x)) c in
    let f = not-this (member e.seq (seqs (all_rows t))) 4 _ 5 (λ x. omega (arith, x)) d in
    let g = not-this (over_share e t) 14 _ 5 (λ x. omega (arith, x)) f in
    (is_true (sound t) s, last_one (ltb (free_rows t) (rows_for e t t.kind)) 4 g)
  where
    is_true : (b : Bool) → not b ≡ false → b ≡ true
    is_true true k = refl
    is_true false k = absurd (true≢false k)

suffice : (e : Entry) (t : Dest) → sound t ≡ true → browsers_empty t t.kind ≡ true → t.share * connections (e.producer ∷ holders t) ≤ 512 →
    rows_from e.producer (own_rows t t.kind) + rows_for e t t.kind ≤ t.share → ltb (free_rows t) (rows_for e t t.kind) ≡ true → ⊥
suffice e t s b m w h =
    let g = fine t s in
    let all_fit = fit_all t.share (rows_for e t t.kind) e (own_rows t t.kind) (λ c. omega (arith, g.shared c, own-length t.kind (from c) t)) (omega (arith, w, sum-from e.producer (own_rows t t.kind))) in
    omega (arith, all_fit, m, own-all t.call_limit t.calls_used t.kind _ t g b, own-length t.kind one t, sum_one (own_rows t t.kind), rows-length one t, sum_one (all_rows t), ltb-true (free_rows t) (rows_for e t t.kind) h)

pub shares-suffice : SharesSuffice
unfolding step read decode
shares-suffice lent words t b m w h =
    let f = found lent (entry_in words) (at 6 words) t (step-five lent t _ (enqueuing (entry_in words) (at 6 words)) h) in
    suffice (entry_in words) t f.0 b m w f.1

pub full-share : FullShare
full-share e t h = ap (λ n. ltb n 512 && ltb n (rows_from e.producer (own_rows t t.kind) + rows_for e t t.kind)) h

-- ---- and on buffers

pub buffer-shares-suffice : BufferSharesSuffice
unfolding buffer_step
buffer-shares-suffice b events words f m w = by-if (λ (r : Result). r.refusal ≡ 5 → ⊥) (not (short (lengths_of b events)) && (not (eqb 1 0) && not (formed b))) _ _
    (λ c h. omega (arith, h))
    (λ c h. shares-suffice (lengths_of b events) words (view b) f m w h)

-- ---- a share of 512

pub full-share-sound : FullShareSound
full-share-sound t h r = subst⁻¹ (λ n. within_share n (own_rows t t.kind) ≡ true) h
    (sum-share 512 (own_rows t t.kind) (λ c. omega (arith, own-few t.kind c t, own-length t.kind (from c) t, rows-length one t, sum_one (all_rows t), leb-true (length (all_rows t)) 512 r)))
