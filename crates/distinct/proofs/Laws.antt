-- Laws of `member` and `distinct`: of two lists one after the other, of one more element, of a part; and the turns of the loops that find them.
-- Assumes nothing.
use mathlib.Core.Path.{◌≡◌, refl, sym, ap, ap₂, ◌∙◌}
use mathlib.Core.Bool.{Bool, true, false, not, ◌&&◌, ◌||◌, and-true, and-false, or-false, or_assoc}
use mathlib.Core.List.{List, [], ◌∷◌, ◌++◌, map-append}
use Prim.Native.Nat.{ℕ, zero, suc, ◌+◌, ◌%◌, ◌≤◌, ◌<◌}
use native.Mathlib.Numerals.{add-one}
use native.Mathlib.Omega.{arith}
use borrow.Author.Tests.{eqb-true, eq-eqb, ne_eqb, lt-ltb, le-ltb}
use lib.Dec.{ltb, eqb}
use lib.ListN.{length, take, drop, get_or, set, take-append-drop}
use lib.Seq.{slice, slice_empty, slice-cons, drop-cons, take-suc, take-take, take-length, take_all, get_or-set_same}
use Rattle.std.specs.List.{list_any}
use Rattle.std.proofs.lemmas.List.{drop_all}
use mir.Val.{bool_byte}
use Rattle.words.specs.Pick.{whether◌then◌else◌}
use Rattle.words.proofs.Tests.{by-test}
use Rattle.definition.specs.Base.{all, member, distinct, rising}
use Rattle.definition.proofs.Tests.{and_left}
use Rattle.definition.specs.Types.{Entry}
use Rattle.definition.specs.Calls.{seqs}
pub use Rattle.words.proofs.Tests.{eqb_comm}
pub use Rattle.definition.proofs.Thin.{rising-new, rising-distinct}

-- ---- tests

pub iff : (a b : Bool) → (a ≡ true → b ≡ true) → (b ≡ true → a ≡ true) → a ≡ b
iff true b f g = sym (f refl)
iff false true f g = g refl
iff false false f g = refl

pub one : (b : Bool) → bool_byte b ≡ (whether b then 1 else 0)
one true = refl
one false = refl

-- ---- one more element, and two lists one after the other

pub member-append : (x : ℕ) (a b : List ℕ) → member x (a ++ b) ≡ (member x a || member x b)
member-append x [] b = refl
member-append x (y ∷ a) b = ap (λ (t : Bool). eqb x y || t) (member-append x a b) ∙ sym (or_assoc (eqb x y) (member x a) (member x b))

pub member-seqs : (x : ℕ) (l m : List Entry) → member x (seqs (l ++ m)) ≡ (member x (seqs l) || member x (seqs m))
member-seqs x l m = ap (member x) (map-append (λ e. e.seq) l m) ∙ member-append x (seqs l) (seqs m)

-- no number of the one is in the other
abbrev pub apart : List ℕ → List ℕ → Bool
apart a b = all (λ x. not (member x b)) a

regroup : (p q d e f : Bool) → (not (p || q) && (d && (e && f))) ≡ ((not p && d) && (e && (not q && f)))
regroup true q d e f = refl
regroup false true true e f = sym (and-false e)
regroup false true false e f = refl
regroup false false d e f = refl

pub distinct_append : (a b : List ℕ) → distinct (a ++ b) ≡ (distinct a && (distinct b && apart a b))
distinct_append [] b = sym (and-true (distinct b))
distinct_append (x ∷ a) b =
    ap₂ (λ (s t : Bool). not s && t) (member-append x a b) (distinct_append a b)
    ∙ regroup (member x a) (member x b) (distinct a) (distinct b) (apart a b)

apart-nil : (b : List ℕ) → apart b [] ≡ true
apart-nil [] = refl
apart-nil (y ∷ b) = apart-nil b

apart_cons : (x : ℕ) (a b : List ℕ) → apart b (x ∷ a) ≡ (not (member x b) && apart b a)
apart_cons x a [] = refl
apart_cons x a (y ∷ b) =
    ap₂ (λ (s t : Bool). not (s || member y a) && t) (eqb_comm y x) (apart_cons x a b)
    ∙ across (eqb x y) (member y a) (member x b) (apart b a)
  where
    across : (p q r s : Bool) → (not (p || q) && (not r && s)) ≡ (not (p || r) && (not q && s))
    across true q r s = refl
    across false true true s = refl
    across false true false s = refl
    across false false true s = refl
    across false false false s = refl

pub apart-swap : (a b : List ℕ) → apart a b ≡ apart b a
apart-swap [] b = sym (apart-nil b)
apart-swap (x ∷ a) b = ap (λ (t : Bool). not (member x b) && t) (apart-swap a b) ∙ sym (apart_cons x a b)

-- the order of two blocks does not matter
pub distinct-swap : (a b : List ℕ) → distinct (a ++ b) ≡ distinct (b ++ a)
distinct-swap a b =
    distinct_append a b
    ∙ ap (λ (t : Bool). distinct a && (distinct b && t)) (apart-swap a b)
    ∙ turn (distinct a) (distinct b) (apart b a)
    ∙ sym (distinct_append b a)
  where
    turn : (p q r : Bool) → (p && (q && r)) ≡ (q && (p && r))
    turn true q r = refl
    turn false true r = refl
    turn false false r = refl

-- a block of different numbers
pub distinct-left : (a b : List ℕ) → distinct (a ++ b) ≡ true → distinct a ≡ true
distinct-left a b h = and_left (distinct a) (distinct b && apart a b) (sym (distinct_append a b) ∙ h)

pub distinct-right : (a b : List ℕ) → distinct (a ++ b) ≡ true → distinct b ≡ true
distinct-right a b h = distinct-left b a (distinct-swap b a ∙ h)

pub distinct_snoc : (l : List ℕ) (x : ℕ) → distinct (l ++ x ∷ []) ≡ (distinct l && not (member x l))
distinct_snoc l x = distinct_append l (x ∷ []) ∙ ap (λ (t : Bool). distinct l && t) (apart_cons x [] l ∙ ap (λ (t : Bool). not (member x l) && t) (apart-nil l) ∙ and-true (not (member x l)))

-- ---- the loops: the first n numbers of a list

-- the search for a number, from i on
module _ (x : ℕ) (xs : List ℕ) (i n : ℕ) (k : n ≤ length xs) (e : member x (slice i n xs) ≡ member x (take n xs)) where
  member-turn : i < n → (eqb x (get_or xs i 0) || member x (slice (i + 1) n xs)) ≡ member x (take n xs)
  member-turn h = sym (ap (member x) (slice-cons i n xs 0 h k ∙ ap (λ (j : ℕ). get_or xs i 0 ∷ slice j n xs) (sym (add-one i)))) ∙ e

  pub member-found : i < n → get_or xs i 0 ≡ x → true ≡ member x (take n xs)
  member-found h q = sym (ap (λ (b : Bool). b || member x (slice (i + 1) n xs)) (eq-eqb x (get_or xs i 0) (sym q))) ∙ member-turn h

  pub member-next : i < n → (get_or xs i 0 ≡ x → ⊥) → member x (slice (i + 1) n xs) ≡ member x (take n xs)
  member-next h q = sym (ap (λ (b : Bool). b || member x (slice (i + 1) n xs)) (ne_eqb x (get_or xs i 0) (λ p. q (sym p)))) ∙ member-turn h

  pub member-nowhere : i ≡ n → false ≡ member x (take n xs)
  member-nowhere q = sym (ap (member x) (ap (λ (j : ℕ). slice j n xs) q ∙ slice_empty n xs)) ∙ e

-- the first i numbers, and one more
distinct-turn : (xs : List ℕ) (i : ℕ) → i < length xs → distinct (take i xs) ≡ true → distinct (take (i + 1) xs) ≡ not (member (get_or xs i 0) (take i xs))
distinct-turn xs i h e =
    ap (λ (j : ℕ). distinct (take j xs)) (add-one i)
    ∙ ap distinct (take-suc xs i 0 h)
    ∙ distinct_snoc (take i xs) (get_or xs i 0)
    ∙ ap (λ (t : Bool). t && not (member (get_or xs i 0) (take i xs))) e

distinct-take : (xs : List ℕ) (i n : ℕ) → i ≤ n → distinct (take i xs) ≡ false → distinct (take n xs) ≡ false
distinct-take xs i n h e = by-test (distinct (take n xs))
    (λ t.
    let u : distinct (take i xs) ≡ true =
    ap distinct (sym (take-take i n xs h)) ∙ distinct-left (take i (take n xs)) (drop i (take n xs)) (ap distinct (take-append-drop i (take n xs)) ∙ t) in
    absurd (let z : ◌≡◌ {A = ℕ} 0 1 = cc in omega arith))
    (λ t. t)

-- the next number has been met, or not
module _ (xs : List ℕ) (i : ℕ) (h : i < length xs) (e : distinct (take i xs) ≡ true) where
  pub distinct-met : member (get_or xs i 0) (take i xs) ≡ true → false ≡ distinct xs
  distinct-met m = sym (ap distinct (sym (take-length xs)) ∙ distinct-take xs (i + 1) (length xs) (omega (arith, h)) (distinct-turn xs i h e ∙ ap not m))

  pub distinct-next : member (get_or xs i 0) (take i xs) ≡ false → distinct (take (i + 1) xs) ≡ true
  distinct-next m = distinct-turn xs i h e ∙ ap not m

-- all of them
pub distinct-end : (xs : List ℕ) (i : ℕ) → length xs ≤ i → distinct (take i xs) ≡ true → true ≡ distinct xs
distinct-end xs i h e = sym (ap distinct (sym (take_all i xs h)) ∙ e)

-- ---- a chain

pub any-member : (x : ℕ) (xs : List ℕ) → list_any (eqb x) xs ≡ member x xs
any-member x [] = refl
any-member x (y ∷ xs) = ap (λ (b : Bool). eqb x y || b) (any-member x xs)

-- ---- numbers that rise

module _ (xs : List ℕ) (i k : ℕ) (total : Bool) (h : i < length xs) (e : rising k (drop i xs) ≡ total) where
  rising-turn : (ltb k (get_or xs i 0) && rising (get_or xs i 0) (drop (i + 1) xs)) ≡ total
  rising-turn = sym (ap (rising k) (drop-cons xs i 0 h ∙ ap (λ (j : ℕ). get_or xs i 0 ∷ drop j xs) (sym (add-one i)))) ∙ e

  pub rising-stop : get_or xs i 0 ≤ k → false ≡ total
  rising-stop q = rw (le-ltb k (get_or xs i 0) q) at rising-turn

  pub rising-next : k < get_or xs i 0 → rising (get_or xs i 0) (drop (i + 1) xs) ≡ total
  rising-next q = rw (lt-ltb k (get_or xs i 0) q) at rising-turn

pub rising-end : (xs : List ℕ) (i k : ℕ) (total : Bool) → length xs ≤ i → rising k (drop i xs) ≡ total → true ≡ total
rising-end xs i k total h e = sym (ap (rising k) (drop_all i xs h)) ∙ e

-- ---- the table of remainders

-- the remainder of each number met is set
pub Marked : ℕ → List Bool → List ℕ → Type 0
Marked m slots l = (x : ℕ) → member x l ≡ true → get_or slots (x % m) false ≡ true

-- the table where nothing was met
pub marked-none : (m : ℕ) (slots : List Bool) (xs : List ℕ) → Marked m slots (take 0 xs)
unfolding Marked
marked-none m slots xs x h = absurd (let z : ◌≡◌ {A = ℕ} 0 1 = cc in omega arith)

-- a number whose remainder is not set was not met
pub marked-new : (m : ℕ) (slots : List Bool) (l : List ℕ) (x : ℕ) → Marked m slots l → get_or slots (x % m) false ≡ false → member x l ≡ false
unfolding Marked
marked-new m slots l x k e = by-test (member x l)
    (λ t. let u : get_or slots (x % m) false ≡ true = k x t in absurd (let z : ◌≡◌ {A = ℕ} 0 1 = cc in omega arith))
    (λ t. t)

-- what is set stays so
pub mark-kept : (l : List Bool) (j k : ℕ) → get_or l k false ≡ true → get_or (set l j true) k false ≡ true
mark-kept [] j k e = e
mark-kept (b ∷ l) zero zero e = refl
mark-kept (b ∷ l) zero (suc k) e = e
mark-kept (b ∷ l) (suc j) zero e = e
mark-kept (b ∷ l) (suc j) (suc k) e = mark-kept l j k e

-- one more number is met
pub marked_more : (m : ℕ) → ((x : ℕ) → x % m < m) → (slots : List Bool) (xs : List ℕ) (i : ℕ) → length slots ≡ m → i < length xs → Marked m slots (take i xs)
    → Marked m (set slots (get_or xs i 0 % m) true) (take (i + 1) xs)
unfolding Marked
marked_more m below slots xs i n h k x t = by-test (eqb x (get_or xs i 0))
    (λ e.
    let f : x % m ≡ get_or xs i 0 % m = ap (λ (j : ℕ). j % m) (eqb-true x (get_or xs i 0) e) in
    ap (λ (j : ℕ). get_or (set slots (get_or xs i 0 % m) true) j false) f
    ∙ get_or-set_same slots (get_or xs i 0 % m) true false (rw n (below (get_or xs i 0))))
    (λ e.
    let u : member x (take i xs) ≡ true =
    sym (ap (λ (j : ℕ). member x (take j xs)) (add-one i) ∙ ap (member x) (take-suc xs i 0 h) ∙ member-append x (take i xs) (get_or xs i 0 ∷ [])
    ∙ ap (λ (b : Bool). member x (take i xs) || (b || false)) e ∙ or-false (member x (take i xs))) ∙ t in
    mark-kept slots (get_or xs i 0 % m) (x % m) (k x u))
