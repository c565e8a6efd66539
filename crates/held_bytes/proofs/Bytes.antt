-- What a call does to the bytes held. Assumes nothing.
use Prim.Native.Nat.{ℕ, ◌+◌, ◌≤◌}
use native.Mathlib.Omega.{arith}
use mathlib.Core.Path.{◌≡◌, refl, sym, ◌∙◌, ap, subst⁻¹}
use mathlib.Core.Bool.{Bool, true, false, not, ◌||◌, true≢false}
use mathlib.Core.List.{List, [], ◌∷◌, ◌++◌, map}
use lib.Dec.{eqb}
use borrow.Author.Tests.{eqb-true, eq-eqb}
use Rattle.definition.specs.Base.{whether◌then◌else◌, keep, all, member}
use Rattle.definition.specs.Types.{Entry, Inflight, Held, Sub, Dest}
use Rattle.definition.specs.Consumer.{snapshot, redelivered}
use Rattle.definition.specs.Calls.{Lengths, Call, enqueuing, joining, leaving, asking, unmarking, releasing, sweeping, clearing, adding, removing, testing, forgetting, discarding, missing, seqs, flying, rows_of, held, consumer_rows, all_rows, sizes_agree, own_refusal, perform, used, refusal, refused, Result, call, brought}
use Rattle.definition.specs.Queries.{bytes_of, bytes_held}
use Rattle.definition.proofs.Tests.{by-test, if-true, if-false, and_left, and_right, and_both, or-no-left, or-no-right}
use Rattle.definition.proofs.Lists.{All, all_join, all_keep}
use Rattle.definition.proofs.Reorder.{keep-yes, keep-no}
use Rattle.definition.proofs.Sums.{sum, odd, agree-sum, like, one-like, odd-like}
use Rattle.definition.proofs.Sound.{facts}
use Rattle.definition.proofs.Made.{call-accepted}
use Rattle.definition.proofs.Kept.{Accepted, accepted}
use Rattle.words.proofs.Tests.{eqb_comm}
use Rattle.held_bytes.specs.Claims.{has_copy, sized, BytesMove, SizesStay}
use Rattle.held_bytes.proofs.Rows.{mapped, Flies, Kept, Mine, Holds, Brings, performs}

-- ---- one number taken out

keep_all : (p : Entry → Bool) (l : List Entry) → all p l ≡ true → keep p l ≡ l
keep_all p [] h = refl
keep_all p (e ∷ l) h = keep-yes p e l (and_left (p e) _ h) ∙ ap (λ (k : List Entry). e ∷ k) (keep_all p l (and_right (p e) _ h))

-- a number that is not left out
member-keep : (x : ℕ) (p : ℕ → Bool) (l : List Entry) → p x ≡ true → member x (seqs (keep (λ e. p e.seq) l)) ≡ member x (seqs l)
member-keep x p [] h = refl
member-keep x p (e ∷ l) h = by-test (p e.seq)
    (λ c. ap (λ (k : List Entry). member x (seqs k)) (keep-yes (λ f. p f.seq) e l c) ∙ ap (λ b. eqb x e.seq || b) (member-keep x p l h))
    (λ c.
    let n : eqb x e.seq ≡ false = by-test (eqb x e.seq) (λ d. absurd (true≢false (sym h ∙ ap p (eqb-true x e.seq d) ∙ c))) (λ d. d) in
    ap (λ (k : List Entry). member x (seqs k)) (keep-no (λ f. p f.seq) e l c) ∙ member-keep x p l h ∙ ap (λ b. b || member x (seqs l)) (sym n))

new-other : (x : ℕ) (l : List Entry) → member x (seqs l) ≡ false → all (λ e. not (eqb x e.seq)) l ≡ true
new-other x [] h = refl
new-other x (e ∷ l) h = and_both (not (eqb x e.seq)) _ (ap not (or-no-left (eqb x e.seq) _ h)) (new-other x l (or-no-right (eqb x e.seq) _ h))

bytes-in : (e : Entry) (l : List Entry) → member e.seq (seqs l) ≡ true → bytes_of (e ∷ l) ≡ bytes_of l
bytes-in e l h = let z : ◌≡◌ {A = ℕ} (whether member e.seq (seqs l) then 0 else e.size) 0 = if-true 0 e.size h in omega arith

bytes-new : (e : Entry) (l : List Entry) → member e.seq (seqs l) ≡ false → bytes_of (e ∷ l) ≡ e.size + bytes_of l
bytes-new e l h = let z : ◌≡◌ {A = ℕ} (whether member e.seq (seqs l) then 0 else e.size) e.size = if-false 0 e.size h in omega arith

bytes-out : (x z : ℕ) (l : List Entry) → member x (seqs l) ≡ true → all (like x z) l ≡ true → bytes_of l ≡ z + bytes_of (keep (λ e. not (eqb x e.seq)) l)
bytes-out x z [] h g = absurd (true≢false (sym h))
bytes-out x z (e ∷ l) h g = by-test (eqb x e.seq)
    (λ c. here (eqb-true x e.seq c) c (bytes-out x z l))
    (λ c. there c (bytes-out x z l (sym (ap (λ b. b || member x (seqs l)) c) ∙ h) (and_right (like x z e) _ g)))
  where
    here : x ≡ e.seq → eqb x e.seq ≡ true → (member x (seqs l) ≡ true → all (like x z) l ≡ true → bytes_of l ≡ z + bytes_of (keep (λ f. not (eqb x f.seq)) l)) → bytes_of (e ∷ l) ≡ z + bytes_of (keep (λ f. not (eqb x f.seq)) (e ∷ l))
    here q c ih =
        let s : z ≡ e.size = eqb-true z e.size (sym (ap (λ b. not b || eqb z e.size) c) ∙ and_left (like x z e) _ g) in
        let k : bytes_of (keep (λ f. not (eqb x f.seq)) (e ∷ l)) ≡ bytes_of (keep (λ f. not (eqb x f.seq)) l) = ap bytes_of (keep-no (λ f. not (eqb x f.seq)) e l (ap not c)) in
        by-test (member x (seqs l))
        (λ m. omega (arith, bytes-in e l (ap (λ (y : ℕ). member y (seqs l)) (sym q) ∙ m), ih m (and_right (like x z e) _ g), k))
        (λ m. omega (arith, bytes-new e l (ap (λ (y : ℕ). member y (seqs l)) (sym q) ∙ m), s, k, ap bytes_of (keep_all (λ f. not (eqb x f.seq)) l (new-other x l m))))

    there : eqb x e.seq ≡ false → bytes_of l ≡ z + bytes_of (keep (λ f. not (eqb x f.seq)) l) → bytes_of (e ∷ l) ≡ z + bytes_of (keep (λ f. not (eqb x f.seq)) (e ∷ l))
    there c ih =
        let k : bytes_of (keep (λ f. not (eqb x f.seq)) (e ∷ l)) ≡ bytes_of (e ∷ keep (λ f. not (eqb x f.seq)) l) = ap bytes_of (keep-yes (λ f. not (eqb x f.seq)) e l (ap not c)) in
        let m : member e.seq (seqs (keep (λ f. not (eqb x f.seq)) l)) ≡ member e.seq (seqs l) = member-keep e.seq (λ y. not (eqb x y)) l (ap not c) in
        by-test (member e.seq (seqs l))
        (λ d. omega (arith, bytes-in e l d, ih, k, bytes-in e (keep (λ f. not (eqb x f.seq)) l) (m ∙ d)))
        (λ d. omega (arith, bytes-new e l d, ih, k, bytes-new e (keep (λ f. not (eqb x f.seq)) l) (m ∙ d)))

-- ---- rows that come from others, and what is left of those

keep_same : (p q : Entry → Bool) → ((e : Entry) → p e ≡ q e) → (l : List Entry) → keep p l ≡ keep q l
keep_same p q h [] = refl
keep_same p q h (e ∷ l) = by-test (q e)
    (λ c. keep-yes p e l (h e ∙ c) ∙ ap (λ (k : List Entry). e ∷ k) (keep_same p q h l) ∙ sym (keep-yes q e l c))
    (λ c. keep-no p e l (h e ∙ c) ∙ keep_same p q h l ∙ sym (keep-no q e l c))

keep-keep : (p q : Entry → Bool) (l : List Entry) → keep (λ e. not (p e || q e)) l ≡ keep (λ e. not (p e)) (keep (λ e. not (q e)) l)
keep-keep p q [] = refl
keep-keep p q (e ∷ l) = by-test (q e)
    (λ c. keep-no (λ f. not (p f || q f)) e l (by-test (p e) (λ d. rw d) (λ d. rw (c, d))) ∙ keep-keep p q l ∙ ap (keep (λ f. not (p f))) (sym (keep-no (λ f. not (q f)) e l (ap not c))))
    (λ c. by-test (p e)
    (λ d. keep-no (λ f. not (p f || q f)) e l (rw d) ∙ keep-keep p q l ∙ sym (keep-no (λ f. not (p f)) e (keep (λ f. not (q f)) l) (ap not d)) ∙ ap (keep (λ f. not (p f))) (sym (keep-yes (λ f. not (q f)) e l (ap not c))))
    (λ d. keep-yes (λ f. not (p f || q f)) e l (rw (c, d)) ∙ ap (λ (k : List Entry). e ∷ k) (keep-keep p q l) ∙ sym (keep-yes (λ f. not (p f)) e (keep (λ f. not (q f)) l) (ap not d)) ∙ ap (keep (λ f. not (p f))) (sym (keep-yes (λ f. not (q f)) e l (ap not c)))))

-- those of l that are not among these
abbrev rest : List Entry → List Entry → List Entry
rest m l = keep (λ e. not (member e.seq (seqs m))) l

moves : (m l : List Entry) → All (λ f. sized f.seq f.size l ≡ true) m → bytes_of m + bytes_of (rest m l) ≡ bytes_of l
moves [] l h = omega (arith, ap bytes_of (keep_all (λ e. true) l (yes l)))
  where
    yes : (k : List Entry) → all (λ (e : Entry). true) k ≡ true
    yes [] = refl
    yes (e ∷ k) = yes k
moves (f ∷ m) l h = by-test (member f.seq (seqs m))
    (λ c. omega (arith, bytes-in f m c, ap bytes_of (keep_same (λ e. not (eqb e.seq f.seq || member e.seq (seqs m))) (λ e. not (member e.seq (seqs m))) (λ e. ap not (held-twice c e)) l), moves m l h.1))
    (λ c. omega (arith, bytes-new f m c, moves m l h.1, bytes-out f.seq f.size (rest m l) (member-keep f.seq (λ x. not (member x (seqs m))) l (ap not c) ∙ and_left (member f.seq (seqs l)) _ h.0) (all_keep (like f.seq f.size) (λ e. not (member e.seq (seqs m))) l (and_right (member f.seq (seqs l)) _ h.0)), ap bytes_of (one_less)))
  where
    held-twice : member f.seq (seqs m) ≡ true → (e : Entry) → (eqb e.seq f.seq || member e.seq (seqs m)) ≡ member e.seq (seqs m)
    held-twice c e = by-test (eqb e.seq f.seq) (λ d. rw d (sym (ap (λ (x : ℕ). member x (seqs m)) (eqb-true e.seq f.seq d) ∙ c))) (λ d. rw d)

    one_less : rest (f ∷ m) l ≡ keep (λ e. not (eqb f.seq e.seq)) (rest m l)
    one_less = keep-keep (λ e. eqb e.seq f.seq) (λ e. member e.seq (seqs m)) l ∙ keep_same (λ e. not (eqb e.seq f.seq)) (λ e. not (eqb f.seq e.seq)) (λ e. ap not (eqb_comm e.seq f.seq)) (rest m l)

-- ---- every row of a destination

split : {A : Type 0} (P : A → Type 0) (l m : List A) → All P (l ++ m) → All P l × All P m
split P [] m h = (tt, h)
split P (a ∷ l) m h = let r = split P l m h.1 in ((h.0, r.0), r.1)

unmapped : {A B : Type 0} (P : B → Type 0) (f : A → B) (l : List A) → All P (map f l) → All (λ a. P (f a)) l
unmapped P f [] h = tt
unmapped P f (a ∷ l) h = (h.0, unmapped P f l h.1)

module _ (P : Entry → Type 0) (again : (e : Entry) → P e → P (redelivered e)) where
  mine : (l : List Sub) → All P (consumer_rows l) → All (Mine P again) l
  mine [] h = tt
  mine (s ∷ l) h =
      let r = split P (rows_of s) (consumer_rows l) h in
      let f = split P (flying s) (s.tpending ++ snapshot s) r.0 in
      let w = split P s.tpending (snapshot s) f.1 in
      (record { flies = unmapped P (λ (i : Inflight). i.entry) s.inflight f.0; waits = w.0; shows = w.1 }, mine l r.1)

  of-rows : (t : Dest) → All P (all_rows t) → Holds P again t
  of-rows t h =
      let r = split P t.pending (held t ++ consumer_rows t.subs) h in
      let k = split P (held t) (consumer_rows t.subs) r.1 in
      record { pending = r.0; reserved = unmapped P (λ (x : Held). x.entry) t.reserved k.0; subs = mine t.subs k.1 }

  ours : (l : List Sub) → All (Mine P again) l → All P (consumer_rows l)
  ours [] h = tt
  ours (s ∷ l) h =
      all_join P (rows_of s) (consumer_rows l)
      (all_join P (flying s) (s.tpending ++ snapshot s) (mapped (Flies P again) P (λ (i : Inflight). i.entry) (λ i p. p) s.inflight h.0.flies) (all_join P s.tpending (snapshot s) h.0.waits h.0.shows))
      (ours l h.1)

  to-rows : (t : Dest) → Holds P again t → All P (all_rows t)
  to-rows t h = all_join P t.pending (held t ++ consumer_rows t.subs) h.pending
      (all_join P (held t) (consumer_rows t.subs) (mapped (Kept P again) P (λ (x : Held). x.entry) (λ x p. p) t.reserved h.reserved) (ours t.subs h.subs))

-- ---- rows that agree

-- each of some rows of an agreeing list
each : (l m : List Entry) → ((x : ℕ) → (z : ℕ) × (sum (odd x z) l ≤ 0)) → ((x z : ℕ) → sum (odd x z) m ≤ sum (odd x z) l) → ((x : ℕ) → member x (seqs m) ≡ true → member x (seqs l) ≡ true) → All (λ f. sized f.seq f.size l ≡ true) m
each l [] h g k = tt
each l (e ∷ m) h g k =
    let r = h e.seq in
    let here : eqb e.seq e.seq ≡ true = eq-eqb e.seq e.seq refl in
    let own : like e.seq r.0 e ≡ true = one-like e.seq r.0 e (omega (arith, g e.seq r.0, r.1)) in
    let z : r.0 ≡ e.size = eqb-true r.0 e.size (sym (ap (λ b. not b || eqb r.0 e.size) here) ∙ own) in (
      and_both (member e.seq (seqs l)) _ (k e.seq (ap (λ b. b || member e.seq (seqs m)) here)) (ap (λ (n : ℕ). all (like e.seq n) l) (sym z) ∙ odd-like e.seq r.0 l r.1),
      each l m h (λ x y. omega (arith, g x y)) (λ x n. k x (by-test (eqb x e.seq) (λ c. rw c) (λ c. rw c n))),
    )

agree-each : (l : List Entry) → sizes_agree l ≡ true → All (λ f. sized f.seq f.size l ≡ true) l
agree-each l h = each l l (agree-sum l h) (λ x z. omega arith) (λ x n. n)

-- ---- an accepted call

after : (lent : Lengths) (c : Call) (t : Dest) → (call lent c t).refusal ≡ 0 → (call lent c t).dest ≡ used (perform t c).dest
unfolding call
after lent c t h = let z = call-accepted lent c t h in ap (λ (r : Result). r.dest) (if-true _ (refused (refusal lent c t) t) (eq-eqb (refusal lent c t) 0 z))

-- by what it brings
by-brought : (R : List Entry → Type 0) (c : Call) → R [] → ((e : Entry) (now : ℕ) → c ≡ enqueuing e now → R (e ∷ [])) → R (brought c)
by-brought R (enqueuing e now) none one = one e now refl
by-brought R (joining p now) none one = none
by-brought R (leaving i last now) none one = none
by-brought R (asking i q) none one = none
by-brought R (unmarking i) none one = none
by-brought R (releasing i now) none one = none
by-brought R (sweeping now most) none one = none
by-brought R clearing none one = none
by-brought R (adding i) none one = none
by-brought R (removing i now) none one = none
by-brought R (testing i q) none one = none
by-brought R (forgetting conn) none one = none
by-brought R discarding none one = none
by-brought R missing none one = none

new-number : (e : Entry) (now : ℕ) (t : Dest) → own_refusal t (enqueuing e now) ≡ 0 → member e.seq (seqs (all_rows t)) ≡ false
unfolding own_refusal
new-number e now t = by-test (member e.seq (seqs (all_rows t))) (λ c. rw c (λ h. absurd (omega (arith, h)))) (λ c h. c)

new-like : (x z : ℕ) (l : List Entry) → member x (seqs l) ≡ false → all (like x z) l ≡ true
new-like x z [] h = refl
new-like x z (e ∷ l) h = and_both (like x z e) _ (ap (λ b. not b || eqb z e.size) (or-no-left (eqb x e.seq) _ h)) (new-like x z l (or-no-right (eqb x e.seq) _ h))

module _ (lent : Lengths) (c : Call) (t : Dest) (h : (call lent c t).refusal ≡ 0) where
  abbrev Comes : Entry → Type 0
  Comes f = sized f.seq f.size (brought c ++ all_rows t) ≡ true

  again : (e : Entry) → Comes e → Comes (redelivered e)
  again e p = p

  taken : Accepted lent c t
  taken = accepted lent c t (call-accepted lent c t h)

  is-new : (e : Entry) (now : ℕ) → c ≡ enqueuing e now → member e.seq (seqs (all_rows t)) ≡ false
  unfolding taken
  is-new e now q = new-number e now t (ap (own_refusal t) (sym q) ∙ taken.own)

  agreed : sizes_agree (brought c ++ all_rows t) ≡ true
  unfolding taken
  agreed =
      let s = (facts t taken.is-sound).sizes in
      by-brought (λ n. sizes_agree (n ++ all_rows t) ≡ true) c s (λ e now q. and_both (all (like e.seq e.size) (all_rows t)) _ (new-like e.seq e.size (all_rows t) (is-new e now q)) s)

  comes : All Comes (all_rows (call lent c t).dest)
  comes =
      let r = split Comes (brought c) (all_rows t) (agree-each (brought c ++ all_rows t) agreed) in
      subst⁻¹ (λ (u : Dest). All Comes (all_rows u)) (after lent c t h) (to-rows Comes again (used (perform t c).dest) (same (performs Comes again t c (brings c r.0) (of-rows Comes again t r.1))))
    where
      same : Holds Comes again (perform t c).dest → Holds Comes again (used (perform t c).dest)
      same g = record { pending = g.pending; reserved = g.reserved; subs = g.subs }

      brings : (d : Call) → All Comes (brought d) → Brings Comes again d
      brings (enqueuing e now) g = g.0
      brings (joining p now) g = tt
      brings (leaving i last now) g = tt
      brings (asking i q) g = tt
      brings (unmarking i) g = tt
      brings (releasing i now) g = tt
      brings (sweeping now most) g = tt
      brings clearing g = tt
      brings (adding i) g = tt
      brings (removing i now) g = tt
      brings (testing i q) g = tt
      brings (forgetting conn) g = tt
      brings discarding g = tt
      brings missing g = tt

  all-test : {A : Type 0} (p : A → Bool) (l : List A) → All (λ a. p a ≡ true) l → all p l ≡ true
  all-test p [] g = refl
  all-test p (a ∷ l) g = and_both (p a) _ g.0 (all-test p l g.1)

  pub bytes : let u = (call lent c t).dest in bytes_held u + bytes_of (keep (λ e. not (has_copy u e)) (all_rows t)) ≡ bytes_held t + bytes_of (keep (has_copy u) (brought c))
  bytes = by-brought (λ n. bytes_of (n ++ all_rows t) ≡ bytes_of (all_rows u) + bytes_of (rest (all_rows u) (n ++ all_rows t)) → bytes_held u + bytes_of (rest (all_rows u) (all_rows t)) ≡ bytes_held t + bytes_of (keep (has_copy u) n)) c
      (λ m. omega (arith, m)) one (sym (moves (all_rows u) (brought c ++ all_rows t) comes))
    where
      u : Dest
      u = (call lent c t).dest

      one : (e : Entry) (now : ℕ) → c ≡ enqueuing e now → bytes_of (e ∷ all_rows t) ≡ bytes_of (all_rows u) + bytes_of (rest (all_rows u) (e ∷ all_rows t)) → bytes_held u + bytes_of (rest (all_rows u) (all_rows t)) ≡ bytes_held t + bytes_of (keep (has_copy u) (e ∷ []))
      one e now q m =
          let n = is-new e now q in
          by-test (has_copy u e)
          (λ d. omega (arith, m, bytes-new e (all_rows t) n, ap bytes_of (keep-no (λ f. not (has_copy u f)) e (all_rows t) (ap not d)), ap bytes_of (keep-yes (has_copy u) e [] d)))
          (λ d. omega (
            arith,
            m,
            bytes-new e (all_rows t) n,
            ap bytes_of (keep-yes (λ f. not (has_copy u f)) e (all_rows t) (ap not d)),
            bytes-new e (rest (all_rows u) (all_rows t)) (member-keep e.seq (λ x. not (member x (seqs (all_rows u)))) (all_rows t) (ap not d) ∙ n),
            ap bytes_of (keep-no (has_copy u) e [] d),
          ))

pub bytes-move : BytesMove
bytes-move lent c t h = bytes lent c t h

pub sizes-stay : SizesStay
sizes-stay lent c t h = all-test lent c t h (λ f. sized f.seq f.size (brought c ++ all_rows t)) (all_rows (call lent c t).dest) (comes lent c t h)
