-- The tests of equality on signed numbers and identifiers decide equality, at all values; and they are those of the words.
-- Assumes nothing.
use mathlib.Core.Path.{◌≡◌, refl, sym, ap, ◌∙◌}
use mathlib.Core.Bool.{Bool, true, false, ◌&&◌, and_comm, and_assoc, and-eq-true_iff, false≢true}
use Prim.Native.Nat.{ℕ, ◌<◌, ◌^◌}
use native.Mathlib.Nat.{le_refl}
use native.Mathlib.Omega.{arith}
use borrow.Author.Tests.{leb-true, le-leb, eqb-true, eqb-false, eq-eqb}
use lib.Dec.{leb, eqb}
use lib.IntN.{ℤ, pos, negsuc}
use Rattle.std.specs.Ordering.{int_eq}
use Rattle.std.proofs.lemmas.Bool.Decides.{Decides-int_eq}
use Rattle.std.specs.Bool.{one_answer}
use Rattle.words.specs.Words.{signed}
use Rattle.words.proofs.Tests.{by-test}
use Rattle.words.proofs.Words.{signed-eq}
use Rattle.model.specs.declared.Id.{Id}
use Rattle.model.specs.Model.{new_id, id_of, same_signed, same_id}

both-le : (m n : ℕ) → (leb m n && leb n m) ≡ true → m ≡ n
both-le m n t = let p = (and-eq-true_iff (leb m n) (leb n m)).0 t in omega (arith, leb-true m n p.0, leb-true n m p.1)

leb-refl : (n : ℕ) → leb n n ≡ true
leb-refl n = le-leb n n (le_refl n)

pub same-signed : (a b : ℤ) → same_signed a b ≡ true → a ≡ b
same-signed (pos m) (pos n) t = ap pos (both-le m n t)
same-signed (pos m) (negsuc n) t = absurd (false≢true t)
same-signed (negsuc m) (pos n) t = absurd (false≢true t)
same-signed (negsuc m) (negsuc n) t = ap negsuc (sym (both-le n m t))

pub same-signed-refl : (a : ℤ) → same_signed a a ≡ true
same-signed-refl (pos n) = rw (leb-refl n)
same-signed-refl (negsuc n) = rw (leb-refl n)

-- an identifier is its three numbers
pub id-eq : {c d : ℕ} {s t v w : ℤ} → c ≡ d → s ≡ t → v ≡ w → new_id c s v ≡ new_id d t w
id-eq p q r = rw (p, q, r)

pub same_id_lem : (a b : Id) → same_id a b ≡ true → a ≡ b
same_id_lem a b t =
    let p = (and-eq-true_iff (eqb a.conn b.conn) (same_signed a.session b.session && same_signed a.value b.value)).0 t in
    let q = (and-eq-true_iff (same_signed a.session b.session) (same_signed a.value b.value)).0 p.1 in
    let x : a.conn ≡ b.conn = eqb-true a.conn b.conn p.0 in
    let y : a.session ≡ b.session = same-signed a.session b.session q.0 in
    let z : a.value ≡ b.value = same-signed a.value b.value q.1 in
    id-eq x y z

pub same-id-refl : (a : Id) → same_id a a ≡ true
same-id-refl a = rw (eq-eqb a.conn a.conn refl, same-signed-refl a.session, same-signed-refl a.value)

pub same-signed-no : (a b : ℤ) → (a ≡ b → ⊥) → same_signed a b ≡ false
same-signed-no a b h = by-test (same_signed a b) (λ t. absurd (h (same-signed a b t))) (λ t. t)

-- by the words that hold them
pub same-signed-words : (v w : ℕ) → v < 2 ^ 64 → w < 2 ^ 64 → same_signed (signed v) (signed w) ≡ eqb v w
same-signed-words v w h k = by-test (eqb v w)
    (λ t. rw (t, eqb-true v w t) (same-signed-refl (signed w)))
    (λ t. rw t (same-signed-no (signed v) (signed w) (λ e. eqb-false v w t (signed-eq v w h k e))))

pub same-id-words : (a b c x y z : ℕ) → b < 2 ^ 64 → c < 2 ^ 64 → y < 2 ^ 64 → z < 2 ^ 64
    → same_id (id_of a b c) (id_of x y z) ≡ (eqb a x && (eqb b y && eqb c z))
same-id-words a b c x y z hb hc hy hz = rw (same-signed-words b y hb hy, same-signed-words c z hc hz)

-- `==` of identifiers as the code has it
signed-equal : (a b : ℤ) → int_eq a b ≡ same_signed a b
signed-equal a b = one_answer _ _ (Decides-int_eq a b) (same-signed a b, λ e. rw e (same-signed-refl b))

pub id-equal : (a b : Id) → (int_eq a.value b.value && (int_eq a.session b.session && eqb a.conn b.conn)) ≡ same_id a b
id-equal a b =
    rw (signed-equal a.value b.value, signed-equal a.session b.session)
    (and_comm v (s && c) ∙ ap (λ (x : Bool). x && v) (and_comm s c) ∙ and_assoc c s v)
  where
    v : Bool
    v = same_signed a.value b.value

    s : Bool
    s = same_signed a.session b.session

    c : Bool
    c = eqb a.conn b.conn
