-- Measures of lists of entries: a sum over the entries, whatever their order. Assumes nothing.
use Prim.Native.Nat.{ℕ, suc, ◌+◌, ◌≤◌}
use native.Mathlib.Omega.{arith}
use mathlib.Core.Path.{◌≡◌, refl, sym, ◌∙◌, ap, subst, subst⁻¹}
use mathlib.Core.Bool.{Bool, true, false, not, ◌||◌, true≢false}
use mathlib.Core.List.{List, [], ◌∷◌, ◌++◌, map}
use lib.Dec.{leb, ltb, eqb}
use lib.ListN.{length, drop}
use borrow.Author.Tests.{eqb-true, eqb-false, eq-eqb, leb-true, le-leb, ltb-true, ltb-false, lt-ltb, not-true}
use Rattle.definition.specs.Base.{whether◌then◌else◌, keep, tally, all, member, distinct, rising, ascending}
use Rattle.definition.specs.Types.{Entry, Held}
use Rattle.definition.specs.Consumer.{redelivered}
use Rattle.definition.specs.Destination.{insert, insert_all}
use Rattle.definition.specs.Calls.{entry_ok, seqs, sizes_agree, rows_from, within_share}
use Rattle.definition.proofs.Tests.{by-test, and_left, and_right, and_both}
use Rattle.definition.proofs.Thin.{Alike, alike_refl, alike-redelivered, Thin, done, skip, stay, thin-refl}

abbrev pub sum : (Entry → ℕ) → List Entry → ℕ
sum f [] = 0
sum f (e ∷ l) = f e + sum f l

-- a measure that does not rise when an entry's other fields change within their ranges
abbrev pub Tame : (Entry → ℕ) → Type 0
Tame f = (e g : Entry) → Alike e g → f g ≤ f e

-- the number of entries, of those with the number x, of those out of range
abbrev pub one : Entry → ℕ
one e = 1

unfoldable pub occ : ℕ → Entry → ℕ
occ x e = whether eqb x e.seq then 1 else 0

unfoldable pub bad : Entry → ℕ
bad e = whether entry_ok e then 0 else 1

pub one-tame : Tame one
one-tame e g a = omega arith

pub occ-tame : (x : ℕ) → Tame (occ x)
unfolding occ
occ-tame x e g a = by-test (eqb x e.seq) (λ c. rw (a.seq, c) (omega arith)) (λ c. rw (a.seq, c) (omega arith))

pub bad-tame : Tame bad
unfolding bad
bad-tame e g a = by-test (entry_ok e) (λ c. rw (c, a.ok c) (omega arith)) (λ c. rw c (by-test (entry_ok g) (λ d. rw d (omega arith)) (λ d. rw d (omega arith))))

-- ---- sums of lists

module _ (f : Entry → ℕ) where
  pub sum-append : (l m : List Entry) → sum f (l ++ m) ≡ sum f l + sum f m
  sum-append [] m = omega arith
  sum-append (e ∷ l) m = omega (arith, sum-append l m)

  pub sum-thin : Tame f → (l m : List Entry) → Thin l m → sum f m ≤ sum f l
  sum-thin h l m done = omega arith
  sum-thin h l m (skip {e = e} {l = l'} r) = omega (arith, sum-thin h l' m r)
  sum-thin h l m (stay {e = e} {f = g} {l = l'} {m = m'} a r) = omega (arith, h e g a, sum-thin h l' m' r)

  pub sum-insert : (e : Entry) (l : List Entry) → sum f (insert e l) ≤ f e + sum f l
  sum-insert e [] = omega arith
  sum-insert e (g ∷ l) = by-test (ltb e.seq g.seq) (λ c. rw c (omega arith))
      (λ c. rw c (by-test (eqb e.seq g.seq) (λ d. rw d (omega arith)) (λ d. rw d (omega (arith, sum-insert e l)))))

  pub sum-insert_all : (l m : List Entry) → sum f (insert_all l m) ≤ sum f l + sum f m
  sum-insert_all [] m = omega arith
  sum-insert_all (e ∷ l) m = omega (arith, sum-insert_all l (insert e m), sum-insert e m)

  pub sum-keep : (p : Entry → Bool) (l : List Entry) → sum f (keep p l) ≤ sum f l
  sum-keep p [] = omega arith
  sum-keep p (e ∷ l) = by-test (p e) (λ c. rw c (omega (arith, sum-keep p l))) (λ c. rw c (omega (arith, sum-keep p l)))

pub sum_one : (l : List Entry) → sum one l ≡ length l
sum_one [] = refl
sum_one (e ∷ l) = omega (arith, sum_one l)

-- ---- in range

pub bad-ok : (e : Entry) → entry_ok e ≡ true → bad e ≡ 0
unfolding bad
bad-ok e h = rw h

bad-no : (e : Entry) → entry_ok e ≡ false → bad e ≡ 1
unfolding bad
bad-no e h = rw h

pub ok-sum : (l : List Entry) → all entry_ok l ≡ true → sum bad l ≡ 0
ok-sum [] h = refl
ok-sum (e ∷ l) h = omega (arith, bad-ok e (and_left (entry_ok e) (all entry_ok l) h), ok-sum l (and_right (entry_ok e) (all entry_ok l) h))

pub sum-ok : (l : List Entry) → sum bad l ≤ 0 → all entry_ok l ≡ true
sum-ok [] h = refl
sum-ok (e ∷ l) h = by-test (entry_ok e) (λ c. and_both (entry_ok e) (all entry_ok l) c (sum-ok l (omega arith))) (λ c. absurd (omega (arith, bad-no e c)))

-- ---- no number twice

pub occ-yes : (x : ℕ) (e : Entry) → eqb x e.seq ≡ true → occ x e ≡ 1
unfolding occ
occ-yes x e h = rw h

pub occ-no : (x : ℕ) (e : Entry) → eqb x e.seq ≡ false → occ x e ≡ 0
unfolding occ
occ-no x e h = rw h

pub occ-member : (x : ℕ) (l : List Entry) → member x (seqs l) ≡ false → sum (occ x) l ≡ 0
occ-member x [] h = refl
occ-member x (e ∷ l) h = by-test (eqb x e.seq)
    (λ c. absurd (true≢false (sym (ap (λ b. b || member x (seqs l)) c) ∙ h)))
    (λ c. omega (arith, occ-no x e c, occ-member x l (sym (ap (λ b. b || member x (seqs l)) c) ∙ h)))

pub occ-no-member : (x : ℕ) (l : List Entry) → sum (occ x) l ≡ 0 → member x (seqs l) ≡ false
occ-no-member x [] h = refl
occ-no-member x (e ∷ l) h = by-test (eqb x e.seq) (λ c. absurd (omega (arith, occ-yes x e c))) (λ c. rw c (occ-no-member x l (omega arith)))

pub once-sum : (l : List Entry) → distinct (seqs l) ≡ true → (x : ℕ) → sum (occ x) l ≤ 1
once-sum [] h x = omega arith
once-sum (e ∷ l) h x = by-test (eqb x e.seq)
    (λ c. omega (arith, occ-yes x e c, occ-member x l (ap (λ y. member y (seqs l)) (eqb-true x e.seq c) ∙ not-true (member e.seq (seqs l)) (and_left (not (member e.seq (seqs l))) (distinct (seqs l)) h))))
    (λ c. omega (arith, occ-no x e c, once-sum l (and_right (not (member e.seq (seqs l))) (distinct (seqs l)) h) x))

pub sum-once : (l : List Entry) → ((x : ℕ) → sum (occ x) l ≤ 1) → distinct (seqs l) ≡ true
sum-once [] h = refl
sum-once (e ∷ l) h =
    let m : member e.seq (seqs l) ≡ false = occ-no-member e.seq l (omega (arith, h e.seq, occ-yes e.seq e (eq-eqb e.seq e.seq refl))) in
    rw m (sum-once l (λ x. omega (arith, h x)))

-- ---- one size for a number

-- those with the number x that have another size than z
unfoldable pub odd : ℕ → ℕ → Entry → ℕ
odd x z e = whether eqb x e.seq then (whether eqb z e.size then 0 else 1) else 0

pub odd-tame : (x z : ℕ) → Tame (odd x z)
unfolding odd
odd-tame x z e g a = rw (a.seq, a.size) (omega arith)

pub odd-occ : (x z : ℕ) (e : Entry) → odd x z e ≤ occ x e
unfolding odd occ
odd-occ x z e = by-test (eqb x e.seq) (λ c. by-test (eqb z e.size) (λ d. rw (c, d) (omega arith)) (λ d. rw (c, d) (omega arith))) (λ c. rw c (omega arith))

-- its own size is not odd, nor is another number
pub odd-own : (e : Entry) → odd e.seq e.size e ≡ 0
unfolding odd
odd-own e = rw (eq-eqb e.seq e.seq refl, eq-eqb e.size e.size refl)

pub odd-other : (x z : ℕ) (e : Entry) → eqb x e.seq ≡ false → odd x z e ≡ 0
unfolding odd
odd-other x z e h = rw h

odd-size : (z : ℕ) (e : Entry) → odd e.seq z e ≡ 0 → z ≡ e.size
unfolding odd
odd-size z e = rw (eq-eqb e.seq e.seq refl) (by-test (eqb z e.size) (λ c h. eqb-true z e.size c) (λ c. rw c (λ h. absurd (omega (arith, h)))))

pub sum-odd-occ : (x z : ℕ) (l : List Entry) → sum (odd x z) l ≤ sum (occ x) l
sum-odd-occ x z [] = omega arith
sum-odd-occ x z (e ∷ l) = omega (arith, odd-occ x z e, sum-odd-occ x z l)

-- another number, or this size
abbrev pub like : ℕ → ℕ → Entry → Bool
like x z f = not (eqb x f.seq) || eqb z f.size

like_one : (x z : ℕ) (f : Entry) → like x z f ≡ true → odd x z f ≡ 0
unfolding odd
like_one x z f = by-test (eqb x f.seq) (λ c. rw c (λ d. rw d)) (λ c. rw c (λ d. refl))

like-odd : (x z : ℕ) (l : List Entry) → all (like x z) l ≡ true → sum (odd x z) l ≡ 0
like-odd x z [] h = refl
like-odd x z (f ∷ l) h = omega (arith, like_one x z f (and_left (like x z f) _ h), like-odd x z l (and_right (like x z f) _ h))

pub one-like : (x z : ℕ) (f : Entry) → odd x z f ≡ 0 → like x z f ≡ true
unfolding odd
one-like x z f = by-test (eqb x f.seq) (λ c. rw c (by-test (eqb z f.size) (λ d. rw d (λ h. refl)) (λ d. rw d (λ h. absurd (omega (arith, h)))))) (λ c. rw c (λ h. refl))

pub odd-like : (x z : ℕ) (l : List Entry) → sum (odd x z) l ≤ 0 → all (like x z) l ≡ true
odd-like x z [] h = refl
odd-like x z (f ∷ l) h = and_both (like x z f) _ (one-like x z f (omega (arith, h))) (odd-like x z l (omega (arith, h)))

pub agree-sum : (l : List Entry) → sizes_agree l ≡ true → (x : ℕ) → (z : ℕ) × (sum (odd x z) l ≤ 0)
agree-sum [] h x = (0, omega arith)
agree-sum (e ∷ l) h x = by-test (eqb x e.seq)
    (λ c. subst⁻¹ (λ (y : ℕ). (z : ℕ) × (sum (odd y z) (e ∷ l) ≤ 0)) (eqb-true x e.seq c) (e.size, omega (arith, odd-own e, like-odd e.seq e.size l (and_left (all (like e.seq e.size) l) _ h))))
    (λ c. let r = agree-sum l (and_right (all (like e.seq e.size) l) _ h) x in (r.0, omega (arith, odd-other x r.0 e c, r.1)))

pub sum-agree : (l : List Entry) → ((x : ℕ) → (z : ℕ) × (sum (odd x z) l ≤ 0)) → sizes_agree l ≡ true
sum-agree [] h = refl
sum-agree (e ∷ l) h =
    let r = h e.seq in
    let z : r.0 ≡ e.size = odd-size r.0 e (omega (arith, r.1)) in
    let m : sum (odd e.seq e.size) l ≤ 0 = subst (λ (y : ℕ). sum (odd e.seq y) l ≤ 0) z (omega (arith, r.1)) in
    and_both (all (like e.seq e.size) l) _ (odd-like e.seq e.size l m) (sum-agree l (λ x. ((h x).0, omega (arith, (h x).1))))

-- ---- a share for each connection

-- those of the connection c
unfoldable pub from : ℕ → Entry → ℕ
from c e = whether eqb c e.producer then 1 else 0

pub from-tame : (c : ℕ) → Tame (from c)
unfolding from
from-tame c e g a = rw a.producer (omega arith)

pub from-few : (c : ℕ) (e : Entry) → from c e ≤ 1
unfolding from
from-few c e = by-test (eqb c e.producer) (λ d. rw d (omega arith)) (λ d. rw d (omega arith))

pub from-own : (e : Entry) → from e.producer e ≡ 1
unfolding from
from-own e = rw (eq-eqb e.producer e.producer refl)

pub from-other : (c : ℕ) (e : Entry) → eqb c e.producer ≡ false → from c e ≡ 0
unfolding from
from-other c e h = rw h

pub sum-from : (c : ℕ) (l : List Entry) → sum (from c) l ≡ rows_from c l
unfolding from
sum-from c [] = refl
sum-from c (e ∷ l) = ap (λ n. (whether eqb c e.producer then 1 else 0) + n) (sum-from c l)

pub from-length : (c : ℕ) (l : List Entry) → sum (from c) l ≤ length l
from-length c [] = omega arith
from-length c (e ∷ l) = omega (arith, from-few c e, from-length c l)

-- a test of the connections that hold rows is one of all
module _ (S : ℕ) (l : List Entry) where
  abbrev share_test : Entry → Bool
  share_test e = leb (rows_from e.producer l) S

  share-some : (m : List Entry) → all share_test m ≡ true → (c : ℕ) → 1 ≤ sum (from c) m → sum (from c) l ≤ S
  share-some [] h c n = absurd (omega (arith, n))
  share-some (e ∷ m) h c n = by-test (eqb c e.producer)
      (λ d. subst⁻¹ (λ (x : ℕ). sum (from x) l ≤ S) (eqb-true c e.producer d) (omega (arith, sum-from e.producer l, leb-true (rows_from e.producer l) S (and_left (share_test e) _ h))))
      (λ d. share-some m (and_right (share_test e) _ h) c (omega (arith, n, from-other c e d)))

  pub share-sum : within_share S l ≡ true → (c : ℕ) → sum (from c) l ≤ S
  share-sum h c = by-test (eqb (sum (from c) l) 0) (λ d. omega (arith, eqb-true (sum (from c) l) 0 d)) (λ d. share-some l h c (omega (arith, eqb-false (sum (from c) l) 0 d)))

  sum-some : (m : List Entry) → ((c : ℕ) → sum (from c) l ≤ S) → all share_test m ≡ true
  sum-some [] h = refl
  sum-some (e ∷ m) h = and_both (share_test e) _ (le-leb (rows_from e.producer l) S (omega (arith, sum-from e.producer l, h e.producer))) (sum-some m h)

  pub sum-share : ((c : ℕ) → sum (from c) l ≤ S) → within_share S l ≡ true
  sum-share h = sum-some l h

-- ---- rising numbers

thin-rising : (k : ℕ) (l m : List Entry) → Thin l m → rising k (seqs l) ≡ true → rising k (seqs m) ≡ true
thin-rising k l m done h = h
thin-rising k l m (skip {e = e} {l = l'} r) h = thin-rising k l' m r (lower k e.seq (seqs l') (and_left (ltb k e.seq) _ h) (and_right (ltb k e.seq) _ h))
  where
    lower : (j i : ℕ) (n : List ℕ) → ltb j i ≡ true → rising i n ≡ true → rising j n ≡ true
    lower j i [] a b = refl
    lower j i (x ∷ n) a b = and_both (ltb j x) (rising x n) (lt-ltb j x (omega (arith, ltb-true j i a, ltb-true i x (and_left (ltb i x) (rising x n) b)))) (and_right (ltb i x) (rising x n) b)
thin-rising k l m (stay {e = e} {f = g} {l = l'} {m = m'} a r) h =
    rw a.seq (and_both (ltb k e.seq) (rising e.seq (seqs m')) (and_left (ltb k e.seq) _ h) (thin-rising e.seq l' m' r (and_right (ltb k e.seq) _ h)))

pub thin-ascending : (l m : List Entry) → Thin l m → ascending (seqs l) ≡ true → ascending (seqs m) ≡ true
thin-ascending l m done h = h
thin-ascending l m (skip {e = e} {l = l'} r) h = thin-ascending l' m r (from (seqs l') h)
  where
    from : (n : List ℕ) → rising e.seq n ≡ true → ascending n ≡ true
    from [] h = refl
    from (x ∷ n) h = and_right (ltb e.seq x) (rising x n) h
thin-ascending l m (stay {e = e} {f = g} {l = l'} {m = m'} a r) h = rw a.seq (thin-rising e.seq l' m' r h)

-- an insertion
insert-rising : (k : ℕ) (e : Entry) (l : List Entry) → ltb k e.seq ≡ true → rising k (seqs l) ≡ true → rising k (seqs (insert e l)) ≡ true
insert-rising k e [] a h = and_both (ltb k e.seq) true a refl
insert-rising k e (g ∷ l) a h = by-test (ltb e.seq g.seq)
    (λ c. rw c (and_both (ltb k e.seq) _ a (and_both (ltb e.seq g.seq) _ c (and_right (ltb k g.seq) _ h))))
    (λ c. rw c (by-test (eqb e.seq g.seq)
    (λ d. rw d (and_both (ltb k e.seq) _ a (ap (λ y. rising y (seqs l)) (eqb-true e.seq g.seq d) ∙ and_right (ltb k g.seq) _ h)))
    (λ d. rw d (and_both (ltb k g.seq) _ (and_left (ltb k g.seq) _ h) (insert-rising g.seq e l (lt-ltb g.seq e.seq (above e.seq g.seq c d)) (and_right (ltb k g.seq) _ h))))))
  where
    above : (x y : ℕ) → ltb x y ≡ false → eqb x y ≡ false → suc y ≤ x
    above x y c d = omega (arith, ltb-false x y c, eqb-false x y d)

pub insert-ascending : (e : Entry) (l : List Entry) → ascending (seqs l) ≡ true → ascending (seqs (insert e l)) ≡ true
insert-ascending e [] h = refl
insert-ascending e (g ∷ l) h = by-test (ltb e.seq g.seq)
    (λ c. rw c (and_both (ltb e.seq g.seq) _ c h))
    (λ c. rw c (by-test (eqb e.seq g.seq)
    (λ d. rw d (ap (λ y. rising y (seqs l)) (eqb-true e.seq g.seq d) ∙ h))
    (λ d. rw d (insert-rising g.seq e l (lt-ltb g.seq e.seq (omega (arith, ltb-false e.seq g.seq c, eqb-false e.seq g.seq d))) h))))

pub insert_all-ascending : (l m : List Entry) → ascending (seqs m) ≡ true → ascending (seqs (insert_all l m)) ≡ true
insert_all-ascending [] m h = h
insert_all-ascending (e ∷ l) m h = insert_all-ascending l (insert e m) (insert-ascending e m h)

-- ---- thinner lists

pub thin-keep : (p : Entry → Bool) (l : List Entry) → Thin l (keep p l)
thin-keep p [] = done
thin-keep p (e ∷ l) = by-test (p e) (λ c. rw c (stay (alike_refl e) (thin-keep p l))) (λ c. rw c (skip (thin-keep p l)))

pub thin-drop : (n : ℕ) (l : List Entry) → Thin l (drop n l)
thin-drop ℕ.zero [] = done
thin-drop (ℕ.suc n) [] = done
thin-drop ℕ.zero (e ∷ l) = stay (alike_refl e) (thin-refl l)
thin-drop (ℕ.suc n) (e ∷ l) = skip (thin-drop n l)

pub thin-redelivered : (l : List Entry) → Thin l (map redelivered l)
thin-redelivered [] = done
thin-redelivered (e ∷ l) = stay (alike-redelivered e) (thin-redelivered l)

pub kept-length : {A : Type 0} (p : A → Bool) (l : List A) → length (keep (λ e. not (p e)) l) + tally p l ≡ length l
kept-length p [] = refl
kept-length p (e ∷ l) = by-test (p e) (λ c. rw c (omega (arith, kept-length p l))) (λ c. rw c (omega (arith, kept-length p l)))

-- what is set aside, in two parts
pub held-split : (f : Entry → ℕ) (p : Held → Bool) (l : List Held) → sum f (map (λ h. h.entry) (keep (λ h. not (p h)) l)) + sum f (map (λ h. h.entry) (keep p l)) ≡ sum f (map (λ h. h.entry) l)
held-split f p [] = refl
held-split f p (h ∷ l) = by-test (p h) (λ c. rw c (omega (arith, held-split f p l))) (λ c. rw c (omega (arith, held-split f p l)))
