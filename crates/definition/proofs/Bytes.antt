-- The bytes that rows hold: their bound, and that the order of the rows is all one. Assumes nothing.
use Prim.Native.Nat.{ℕ, ◌+◌, ◌*◌, ◌≤◌, ◌^◌}
use native.Mathlib.Omega.{arith}
use mathlib.Core.Path.{◌≡◌, refl, sym, ◌∙◌, ap}
use mathlib.Core.Bool.{Bool, true, false, not, ◌||◌}
use mathlib.Core.List.{List, [], ◌∷◌, ◌++◌, append-nil}
use lib.Dec.{leb, ltb, eqb}
use lib.ListN.{length}
use borrow.Author.Tests.{eqb-true, ltb-true}
use Rattle.words.proofs.Tests.{eqb_comm}
use Rattle.definition.specs.Base.{whether◌then◌else◌, all, member}
use Rattle.definition.specs.Types.{Entry}
use Rattle.definition.specs.Calls.{entry_ok, word, signed_within, seqs, all_rows, sizes_agree}
use Rattle.definition.specs.Queries.{bytes_of}
use Rattle.definition.specs.Claims.{BytesFit, BytesAnyOrder}
use Rattle.definition.proofs.Tests.{by-if, by-test, and_left, and_right}
use Rattle.definition.proofs.Thin.{every-all}
use Rattle.definition.proofs.Sums.{one, bad, odd, sum-append, sum_one, sum-ok, agree-sum, sum-agree}
use Rattle.definition.proofs.Whole.{fine, rows-length}

-- ---- the bound

size_ok : (e : Entry) → entry_ok e ≡ true → e.size ≤ 4294967295
size_ok e h =
    let f = every-all (leb 1 e.seq ∷ ltb e.seq (2 ^ 63) ∷ signed_within (2 ^ 63) e.expiration ∷ word e.producer ∷ word e.match_word ∷ signed_within (2 ^ 31) e.redelivery ∷ ltb e.size (2 ^ 32) ∷ []) h in
    omega (arith, ltb-true e.size (2 ^ 32) f.1.1.1.1.1.1.0)

few_bytes : (l : List Entry) → all entry_ok l ≡ true → bytes_of l ≤ length l * 4294967295
few_bytes [] h = omega arith
few_bytes (e ∷ l) h =
    let x : (whether member e.seq (seqs l) then 0 else e.size) ≤ 4294967295 = by-if (λ n. n ≤ 4294967295) (member e.seq (seqs l)) 0 e.size (λ c. omega arith) (λ c. size_ok e (and_left (entry_ok e) _ h)) in
    omega (arith, x, few_bytes l (and_right (entry_ok e) _ h))

pub bytes_fit : BytesFit
bytes_fit t h =
    let g = fine t h in
    omega (arith, few_bytes (all_rows t) (sum-ok (all_rows t) (omega (arith, g.ok, rows-length bad t))), g.rows, rows-length one t, sum_one (all_rows t))

-- ---- the order

member-middle : (x : ℕ) (l : List Entry) (e : Entry) (m : List Entry) → member x (seqs (l ++ e ∷ m)) ≡ (eqb x e.seq || member x (seqs (l ++ m)))
member-middle x [] e m = refl
member-middle x (f ∷ l) e m = by-test (eqb x f.seq)
    (λ c. by-test (eqb x e.seq) (λ d. rw (c, d)) (λ d. rw (c, d)))
    (λ c. rw c (member-middle x l e m))

all_middle : (p : Entry → Bool) (l : List Entry) (e : Entry) (m : List Entry) → all p (l ++ e ∷ m) ≡ true → p e ≡ true
all_middle p [] e m h = and_left (p e) _ h
all_middle p (f ∷ l) e m h = all_middle p l e m (and_right (p f) _ h)

-- two numbers that may be one, each counted unless it is held below
two : (s p r : Bool) (x y b : ℕ) → (s ≡ true → (p ≡ r) × (x ≡ y)) → (whether s || p then 0 else x) + ((whether r then 0 else y) + b) ≡ (whether s || r then 0 else y) + ((whether p then 0 else x) + b)
two true p r x y b h = let e = h refl in ap (λ z. 0 + ((whether r then 0 else z) + b)) (sym e.1) ∙ ap (λ q. 0 + ((whether q then 0 else x) + b)) (sym e.0)
two false true true x y b h = omega arith
two false true false x y b h = omega arith
two false false true x y b h = omega arith
two false false false x y b h = omega arith

bytes-middle : (l : List Entry) (e : Entry) (m : List Entry) → sizes_agree (l ++ e ∷ m) ≡ true → bytes_of (l ++ e ∷ m) ≡ (whether member e.seq (seqs (l ++ m)) then 0 else e.size) + bytes_of (l ++ m)
bytes-middle [] e m h = refl
bytes-middle (f ∷ l) e m h =
    ap (λ b. (whether b then 0 else f.size) + bytes_of (l ++ e ∷ m)) (member-middle f.seq l e m)
    ∙ ap (λ n. (whether eqb f.seq e.seq || member f.seq (seqs (l ++ m)) then 0 else f.size) + n) (bytes-middle l e m (and_right (all like (l ++ e ∷ m)) _ h))
    ∙ two (eqb f.seq e.seq) (member f.seq (seqs (l ++ m))) (member e.seq (seqs (l ++ m))) f.size e.size (bytes_of (l ++ m)) one_size
    ∙ ap (λ b. (whether b || member e.seq (seqs (l ++ m)) then 0 else e.size) + ((whether member f.seq (seqs (l ++ m)) then 0 else f.size) + bytes_of (l ++ m))) (eqb_comm f.seq e.seq)
  where
    like : Entry → Bool
    like g = not (eqb f.seq g.seq) || eqb f.size g.size

    one_size : eqb f.seq e.seq ≡ true → (member f.seq (seqs (l ++ m)) ≡ member e.seq (seqs (l ++ m))) × (f.size ≡ e.size)
    one_size c = (ap (λ x. member x (seqs (l ++ m))) (eqb-true f.seq e.seq c), eqb-true f.size e.size (sym (ap (λ b. not b || eqb f.size e.size) c) ∙ all_middle like l e m (and_left (all like (l ++ e ∷ m)) _ h)))

member-swap : (x : ℕ) (l m : List Entry) → member x (seqs (l ++ m)) ≡ member x (seqs (m ++ l))
member-swap x [] m = ap (λ k. member x (seqs k)) (sym (append-nil m))
member-swap x (e ∷ l) m = ap (λ b. eqb x e.seq || b) (member-swap x l m) ∙ sym (member-middle x m e l)

-- the agreement does not look at the order either
agree-swap : (l m : List Entry) → sizes_agree (l ++ m) ≡ true → sizes_agree (m ++ l) ≡ true
agree-swap l m h = sum-agree (m ++ l) (λ x. let z = agree-sum (l ++ m) h x in (z.0, omega (arith, z.1, sum-append (odd x z.0) l m, sum-append (odd x z.0) m l)))

pub bytes-any-order : BytesAnyOrder
bytes-any-order [] m h = ap bytes_of (sym (append-nil m))
bytes-any-order (e ∷ l) m h =
    ap (λ n. (whether member e.seq (seqs (l ++ m)) then 0 else e.size) + n) (bytes-any-order l m (and_right (all (λ f. not (eqb e.seq f.seq) || eqb e.size f.size) (l ++ m)) _ h))
    ∙ ap (λ b. (whether b then 0 else e.size) + bytes_of (m ++ l)) (member-swap e.seq l m)
    ∙ sym (bytes-middle m e l (agree-swap (e ∷ l) m h))
