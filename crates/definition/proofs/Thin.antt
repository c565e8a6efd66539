-- Entries of which some are gone, and some redelivered: what that keeps of a sound state. Assumes nothing.
use Prim.Native.Nat.{ℕ, zero, suc, ◌+◌, ◌≤◌, ◌^◌, ◌<◌}
use native.Mathlib.Omega.{arith}
use mathlib.Core.Path.{◌≡◌, refl, ◌∙◌, ap}
use mathlib.Core.Bool.{Bool, true, false, not}
use mathlib.Core.List.{List, [], ◌∷◌, ◌++◌, map}
use lib.Dec.{leb, ltb, eqb}
use lib.ListN.{length}
use lib.IntN.{ℤ, pos, negsuc}
use borrow.Author.Tests.{ltb-true, lt-ltb, not-true, ne_eqb}
use Rattle.definition.specs.Base.{keep, tally, all, every, member, distinct, rising, ascending}
use Rattle.definition.specs.Types.{Entry}
use Rattle.definition.specs.Consumer.{one_more, redelivered}
use Rattle.definition.specs.Calls.{entry_ok, signed_within, seqs}
use Rattle.definition.proofs.Tests.{or-no-left, or-no-right, and_left, and_right, and_both, by-test}
use Rattle.definition.proofs.Lists.{All}
pub use mathlib.Core.List.{map-append}

-- ---- tests joined

abbrev pub IsTrue : Bool → Type 0
IsTrue b = b ≡ true

pub every-all : (l : List Bool) → every l ≡ true → All IsTrue l
every-all [] e = tt
every-all (b ∷ l) e = (and_left b (every l) e, every-all l (and_right b (every l) e))

pub all-every : (l : List Bool) → All IsTrue l → every l ≡ true
all-every [] h = refl
all-every (b ∷ l) h = and_both b (every l) h.0 (all-every l h.1)

-- ---- a redelivery more is in range

more_within : (r : ℤ) → signed_within (2 ^ 31) r ≡ true → signed_within (2 ^ 31) (one_more r) ≡ true
unfolding one_more
more_within (pos k) h = by-test (ltb k 2147483647) (λ c. rw c (lt-ltb (suc k) (2 ^ 31) (omega (arith, ltb-true k 2147483647 c)))) (λ c. rw c h)
more_within (negsuc zero) h = refl
more_within (negsuc (suc k)) h = lt-ltb k (2 ^ 31) (omega (arith, ltb-true (suc k) (2 ^ 31) h))

pub redelivered-ok : (e : Entry) → entry_ok e ≡ true → entry_ok (redelivered e) ≡ true
redelivered-ok e h =
    let f = every-all (leb 1 e.seq ∷ ltb e.seq (2 ^ 63) ∷ signed_within (2 ^ 63) e.expiration ∷ ltb e.producer (2 ^ 64) ∷ ltb e.match_word (2 ^ 64) ∷ signed_within (2 ^ 31) e.redelivery ∷ ltb e.size (2 ^ 32) ∷ []) h in
    all-every (leb 1 e.seq ∷ ltb e.seq (2 ^ 63) ∷ signed_within (2 ^ 63) e.expiration ∷ ltb e.producer (2 ^ 64) ∷ ltb e.match_word (2 ^ 64) ∷ signed_within (2 ^ 31) (one_more e.redelivery) ∷ ltb e.size (2 ^ 32) ∷ [])
    (f.0, (f.1.0, (f.1.1.0, (f.1.1.1.0, (f.1.1.1.1.0, (more_within e.redelivery f.1.1.1.1.1.0, (f.1.1.1.1.1.1.0, tt)))))))

-- ---- an entry that changes no more than a redelivery does

pub record Alike (e f : Entry) : Type 0 where
  pub seq : f.seq ≡ e.seq
  pub size : f.size ≡ e.size
  pub producer : f.producer ≡ e.producer
  pub ok : entry_ok e ≡ true → entry_ok f ≡ true

pub alike_refl : (e : Entry) → Alike e e
alike_refl e = record { seq = refl; size = refl; producer = refl; ok = λ h. h }

pub alike_same : (e f : Entry) → f ≡ e → Alike e f
alike_same e f h = record { seq = ap (λ (x : Entry). x.seq) h; size = ap (λ (x : Entry). x.size) h; producer = ap (λ (x : Entry). x.producer) h; ok = λ k. ap entry_ok h ∙ k }

pub alike-redelivered : (e : Entry) → Alike e (redelivered e)
alike-redelivered e = record { seq = refl; size = refl; producer = refl; ok = redelivered-ok e }

pub alike-trans : (e f g : Entry) → Alike e f → Alike f g → Alike e g
alike-trans e f g a b = record { seq = b.seq ∙ a.seq; size = b.size ∙ a.size; producer = b.producer ∙ a.producer; ok = λ h. b.ok (a.ok h) }

-- ---- thinner lists of entries

pub data Thin : List Entry → List Entry → Type 0 where
  done : Thin [] []
  skip : {e : Entry} {l m : List Entry} → Thin l m → Thin (e ∷ l) m
  stay : {e f : Entry} {l m : List Entry} → Alike e f → Thin l m → Thin (e ∷ l) (f ∷ m)

pub thin-refl : (l : List Entry) → Thin l l
thin-refl [] = done
thin-refl (e ∷ l) = stay (alike_refl e) (thin-refl l)

pub thin-append : {l m : List Entry} (p q : List Entry) → Thin l m → Thin p q → Thin (l ++ p) (m ++ q)
thin-append p q done t = t
thin-append p q (skip r) t = skip (thin-append p q r t)
thin-append p q (stay a r) t = stay a (thin-append p q r t)

pub thin-none : (l : List Entry) → Thin l []
thin-none [] = done
thin-none (e ∷ l) = skip (thin-none l)

pub thin-trans : (l m k : List Entry) → Thin l m → Thin m k → Thin l k
thin-trans l m k done t = t
thin-trans l m k (skip {l = l'} r) t = skip (thin-trans l' m k r t)
thin-trans l m k (stay {e = e} {f = f} {l = l'} {m = m'} a r) t = go k t (λ k' t'. thin-trans l' m' k' r t')
  where
    go : (k : List Entry) → Thin (f ∷ m') k → ((k' : List Entry) → Thin m' k' → Thin l' k') → Thin (e ∷ l') k
    go k (skip u) ih = skip (ih k u)
    go k (stay {f = g} {m = k'} c u) ih = stay (alike-trans e f g a c) (ih k' u)

pub thin-length : (l m : List Entry) → Thin l m → length m ≤ length l
thin-length l m done = omega arith
thin-length l m (skip {l = l'} r) = omega (arith, thin-length l' m r)
thin-length l m (stay {l = l'} {m = m'} a r) = omega (arith, thin-length l' m' r)

pub thin-ok : (l m : List Entry) → Thin l m → all entry_ok l ≡ true → all entry_ok m ≡ true
thin-ok l m done h = h
thin-ok l m (skip {e = e} {l = l'} r) h = thin-ok l' m r (and_right (entry_ok e) (all entry_ok l') h)
thin-ok l m (stay {e = e} {f = f} {l = l'} {m = m'} a r) h =
    and_both (entry_ok f) (all entry_ok m') (a.ok (and_left (entry_ok e) (all entry_ok l') h)) (thin-ok l' m' r (and_right (entry_ok e) (all entry_ok l') h))

pub thin-member : (x : ℕ) (l m : List Entry) → Thin l m → member x (seqs l) ≡ false → member x (seqs m) ≡ false
thin-member x l m done h = h
thin-member x l m (skip {e = e} {l = l'} r) h = thin-member x l' m r (or-no-right (eqb x e.seq) (member x (seqs l')) h)
thin-member x l m (stay {e = e} {f = f} {l = l'} {m = m'} a r) h =
    let p : eqb x f.seq ≡ false = ap (λ (y : ℕ). eqb x y) a.seq ∙ or-no-left (eqb x e.seq) (member x (seqs l')) h in
    rw p (thin-member x l' m' r (or-no-right (eqb x e.seq) (member x (seqs l')) h))

pub thin-distinct : (l m : List Entry) → Thin l m → distinct (seqs l) ≡ true → distinct (seqs m) ≡ true
thin-distinct l m done h = h
thin-distinct l m (skip {e = e} {l = l'} r) h = thin-distinct l' m r (and_right (not (member e.seq (seqs l'))) (distinct (seqs l')) h)
thin-distinct l m (stay {e = e} {f = f} {l = l'} {m = m'} a r) h =
    let p : member f.seq (seqs m') ≡ false
    = ap (λ (y : ℕ). member y (seqs m')) a.seq ∙ thin-member e.seq l' m' r (not-true (member e.seq (seqs l')) (and_left (not (member e.seq (seqs l'))) (distinct (seqs l')) h)) in
    rw p (thin-distinct l' m' r (and_right (not (member e.seq (seqs l'))) (distinct (seqs l')) h))

-- ---- rising numbers

pub rising-from : (j k : ℕ) (l : List ℕ) → j ≤ k → rising k l ≡ true → rising j l ≡ true
rising-from j k [] h r = refl
rising-from j k (x ∷ l) h r =
    and_both (ltb j x) (rising x l) (lt-ltb j x (omega (arith, ltb-true k x (and_left (ltb k x) (rising x l) r)))) (and_right (ltb k x) (rising x l) r)

module _ {A : Type 0} (f : A → ℕ) where
  -- some gone
  pub rising-keep : (p : A → Bool) (k n : ℕ) (l : List A) → rising k (map f l ++ n ∷ []) ≡ true → rising k (map f (keep p l) ++ n ∷ []) ≡ true
  rising-keep p k n [] h = h
  rising-keep p k n (x ∷ l) h = by-test (p x)
      (λ c. rw c (and_both (ltb k (f x)) _ (and_left (ltb k (f x)) (rising (f x) (map f l ++ n ∷ [])) h) (rising-keep p (f x) n l (and_right (ltb k (f x)) (rising (f x) (map f l ++ n ∷ [])) h))))
      (λ c. rw c (rising-keep p k n l (rising-from k (f x) (map f l ++ n ∷ []) (omega (arith, ltb-true k (f x) (and_left (ltb k (f x)) (rising (f x) (map f l ++ n ∷ [])) h))) (and_right (ltb k (f x)) (rising (f x) (map f l ++ n ∷ [])) h))))

-- one more at the end
pub rising-more : (k n : ℕ) (l : List ℕ) → rising k (l ++ n ∷ []) ≡ true → rising k ((l ++ n ∷ []) ++ (n + 1) ∷ []) ≡ true
rising-more k n [] h = and_both (ltb k n) _ (and_left (ltb k n) true h) (and_both (ltb n (n + 1)) true (lt-ltb n (n + 1) (omega arith)) refl)
rising-more k n (x ∷ l) h = and_both (ltb k x) _ (and_left (ltb k x) (rising x (l ++ n ∷ [])) h) (rising-more x n l (and_right (ltb k x) (rising x (l ++ n ∷ [])) h))

rising-ascends : (k : ℕ) (l : List ℕ) → rising k l ≡ true → ascending l ≡ true
rising-ascends k [] h = refl
rising-ascends k (x ∷ l) h = and_right (ltb k x) (rising x l) h

pub ascending-keep : {A : Type 0} (f : A → ℕ) (p : A → Bool) (n : ℕ) (l : List A) → ascending (map f l ++ n ∷ []) ≡ true → ascending (map f (keep p l) ++ n ∷ []) ≡ true
ascending-keep f p n [] h = h
ascending-keep f p n (x ∷ l) h = by-test (p x)
    (λ c. rw c (rising-keep f p (f x) n l h))
    (λ c. rw c (rising-ascends (f x) (map f (keep p l) ++ n ∷ []) (rising-keep f p (f x) n l h)))

pub ascending-more : (n : ℕ) (l : List ℕ) → ascending (l ++ n ∷ []) ≡ true → ascending ((l ++ n ∷ []) ++ (n + 1) ∷ []) ≡ true
ascending-more n [] h = and_both (ltb n (n + 1)) true (lt-ltb n (n + 1) (omega arith)) refl
ascending-more n (x ∷ l) h = rising-more x n l h

pub ascending-tail : (x : ℕ) (l : List ℕ) → ascending (x ∷ l) ≡ true → ascending l ≡ true
ascending-tail x l h = rising-ascends x l h

-- those above k do not meet what is not above it
pub rising-new : (k x : ℕ) (l : List ℕ) → rising k l ≡ true → x ≤ k → member x l ≡ false
rising-new k x [] e h = refl
rising-new k x (y ∷ l) e h =
    let t : k < y = ltb-true k y (and_left (ltb k y) (rising y l) e) in
    rw (ne_eqb x y (λ q. omega (arith, q))) (rising-new y x l (and_right (ltb k y) (rising y l) e) (omega arith))

pub rising-distinct : (k : ℕ) (l : List ℕ) → rising k l ≡ true → distinct l ≡ true
rising-distinct k [] e = refl
rising-distinct k (y ∷ l) e =
    let r : rising y l ≡ true = and_right (ltb k y) (rising y l) e in
    rw (rising-new y y l r (omega arith)) (rising-distinct y l r)

pub ascending-distinct : (l : List ℕ) → ascending l ≡ true → distinct l ≡ true
ascending-distinct [] h = refl
ascending-distinct (x ∷ l) h = rw (rising-new x x l h (omega arith)) (rising-distinct x l h)

-- ---- lists

pub tally-append : {A : Type 0} (p : A → Bool) (l m : List A) → tally p (l ++ m) ≡ tally p l + tally p m
tally-append p [] m = omega arith
tally-append p (x ∷ l) m = omega (arith, tally-append p l m)

pub tally-length : {A : Type 0} (p : A → Bool) (l : List A) → tally p l ≤ length l
tally-length p [] = omega arith
tally-length p (x ∷ l) = by-test (p x) (λ c. rw c (omega (arith, tally-length p l))) (λ c. rw c (omega (arith, tally-length p l)))

-- a test that passes less often counts less
pub tally-less : {A : Type 0} (p q : A → Bool) (l : List A) → ((a : A) → p a ≡ true → q a ≡ true) → tally p l ≤ tally q l
tally-less p q [] h = omega arith
tally-less p q (x ∷ l) h = by-test (p x)
    (λ c. rw (c, h x c) (omega (arith, tally-less p q l h)))
    (λ c. rw c (by-test (q x) (λ d. rw d (omega (arith, tally-less p q l h))) (λ d. rw d (omega (arith, tally-less p q l h)))))
