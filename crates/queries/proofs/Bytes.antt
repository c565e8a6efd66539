-- Bytes of rows: what the definitions say, the turns of the loops, and the order of three blocks. Assumes nothing.
use mathlib.Core.Path.{◌≡◌, refl, sym, ap, ap₂, ◌∙◌}
use mathlib.Core.Bool.{Bool, true, false, not, ◌||◌, or_comm}
use mathlib.Core.List.{List, [], ◌∷◌, ◌++◌, map, append_assoc}
use Prim.Native.Nat.{ℕ, zero, suc, ◌+◌, ◌-◌, ◌≤◌, ◌<◌, ◌^◌}
use native.Mathlib.Omega.{arith}
use borrow.Author.Tests.{ltb-true, not-true}
use lib.Dec.{leb, ltb, eqb}
use lib.ListN.{length, take, drop, get_or, get_or-map, length-map}
use lib.Seq.{slice, slice_empty, get_or-take, length-take-le}
use Rattle.std.specs.List.{list_any}
use Rattle.words.specs.Pick.{whether◌then◌else◌}
use Rattle.words.proofs.Tests.{by-test}
use Rattle.entry.specs.Entry.{entry_of}
use Rattle.definition.specs.Base.{all, member, distinct}
use Rattle.definition.specs.Types.{Entry}
use Rattle.definition.specs.Calls.{entry_ok, word, signed_within, seqs, sizes_agree}
use Rattle.definition.specs.Queries.{bytes_of}
use Rattle.definition.specs.Words.{at}
use Rattle.definition.specs.Layout.{Row}
use Rattle.definition.proofs.Tests.{and_left, and_right}
use Rattle.definition.proofs.Thin.{every-all}
use Rattle.definition.proofs.Sums.{bad, occ, odd, sum, sum-append, ok-sum, sum-ok, once-sum, sum-once, agree-sum, sum-agree}
use Rattle.definition.proofs.Bytes.{bytes-any-order}
use Rattle.definition.proofs.Stored.{seqs-rows}
use Rattle.distinct.proofs.Laws.{member-seqs}
use Rattle.copies.proofs.Laws.{row_more}
use Rattle.subrows.proofs.Subs.{item-turn}
use Rattle.std.proofs.lemmas.List.{drop_all}
use Rattle.queries.specs.Bytes.{bytes_at, sizes_of, Small}

-- ---- what the definitions say

pub bytes-means : (l : List Row) → bytes_at l ≡ bytes_of (map entry_of l)
unfolding entry_of
bytes-means [] = refl
bytes-means (w ∷ l) = ap₂ (λ (m : List ℕ) (n : ℕ). (whether member (at 0 w) m then 0 else at 9 w) + n) (seqs-rows l) (bytes-means l)

-- different numbers
pub bytes-lone : (l : List Row) → distinct (map (at 0) l) ≡ true → sizes_of l ≡ bytes_at l
bytes-lone [] h = refl
bytes-lone (w ∷ l) h =
    let m : member (at 0 w) (map (at 0) l) ≡ false = not-true (member (at 0 w) (map (at 0) l)) (and_left (not (member (at 0 w) (map (at 0) l))) (distinct (map (at 0) l)) h) in
    ap₂ ◌+◌ (ap (λ (b : Bool). whether b then 0 else at 9 w) (sym m)) (bytes-lone l (and_right (not (member (at 0 w) (map (at 0) l))) (distinct (map (at 0) l)) h))

-- ---- the loops

-- a number is looked for
pub any-met : (x : ℕ) (l : List Row) → list_any (λ (w : Row). eqb x (at 0 w)) l ≡ member x (map (at 0) l)
any-met x [] = refl
any-met x (w ∷ l) = ap (λ (b : Bool). eqb x (at 0 w) || b) (any-met x l)

-- one more size, from the end
module _ (rows : List Row) (i n : ℕ) (b : n ≤ length rows) (h : 0 < i) (k : i ≤ n) where
  abbrev w : Row
  w = get_or rows (i - 1) []

  pub bytes-more : (sum x : ℕ) → sum ≡ bytes_at (slice i n rows) → x ≡ (whether member (at 0 w) (map (at 0) (slice i n rows)) then 0 else at 9 w) → sum + x ≡ bytes_at (slice (i - 1) n rows)
  bytes-more sum x e f =
      let more : bytes_at (slice (i - 1) n rows) ≡ (whether member (at 0 w) (map (at 0) (slice i n rows)) then 0 else at 9 w) + bytes_at (slice i n rows) = ap bytes_at (row_more rows i n b h k) in
      omega (arith, e, f, more)

  pub added-small : Small n rows → (x : ℕ) → x ≡ (whether member (at 0 w) (map (at 0) (slice i n rows)) then 0 else at 9 w) → x ≤ 4294967295
  added-small s x f = by-test (member (at 0 w) (map (at 0) (slice i n rows)))
      (λ t. omega (arith, f ∙ ap (λ (c : Bool). whether c then 0 else at 9 w) t))
      (λ t. omega (arith, f ∙ ap (λ (c : Bool). whether c then 0 else at 9 w) t, s (i - 1) (omega arith)))

pub bytes-none : (n : ℕ) (rows : List Row) → 0 ≡ bytes_at (slice n n rows)
bytes-none n rows = sym (ap bytes_at (slice_empty n rows))

-- and from the first on
pub sizes-turn : (us : List Row) (i : ℕ) → i < length us → sizes_of (drop i us) ≡ at 9 (get_or us i []) + sizes_of (drop (i + 1) us)
sizes-turn us i h = ap sizes_of (item-turn us i h)

pub sizes-end : (us : List Row) (i : ℕ) → length us ≤ i → sizes_of (drop i us) ≡ 0
sizes-end us i h = ap sizes_of (drop_all i us h)

-- ---- sizes in range

size_small : (v : Row) → entry_ok (entry_of v) ≡ true → at 9 v ≤ 4294967295
unfolding entry_of
size_small v o =
    let e : Entry = entry_of v in
    let f = every-all (leb 1 e.seq ∷ ltb e.seq (2 ^ 63) ∷ signed_within (2 ^ 63) e.expiration ∷ word e.producer ∷ word e.match_word ∷ signed_within (2 ^ 31) e.redelivery ∷ ltb e.size (2 ^ 32) ∷ []) o in
    omega (arith, ltb-true (at 9 v) (2 ^ 32) f.1.1.1.1.1.1.0)

pub rows-small : (n : ℕ) (rows : List Row) → n ≤ length rows → all entry_ok (map entry_of (take n rows)) ≡ true → Small n rows
rows-small n rows b h k below =
    let m : List Row = take n rows in
    let g : get_or m k [] ≡ get_or rows k [] = get_or-take n rows k [] below in
    let o : entry_ok (entry_of (get_or m k [])) ≡ true = ap entry_ok (sym (get_or-map entry_of m k [])) ∙ at_place (map entry_of m) k (entry_of []) h (omega (arith, below, length-map m entry_of, length-take-le n rows b)) in
    size_small (get_or rows k []) (ap (λ (v : Row). entry_ok (entry_of v)) (sym g) ∙ o)
  where
    at_place : (l : List Entry) (j : ℕ) (z : Entry) → all entry_ok l ≡ true → j < length l → entry_ok (get_or l j z) ≡ true
    at_place [] j z e t = absurd (omega arith)
    at_place (x ∷ l) zero z e t = and_left (entry_ok x) (all entry_ok l) e
    at_place (x ∷ l) (suc j) z e t = at_place l j z (and_right (entry_ok x) (all entry_ok l) e) (omega arith)

-- ---- three blocks in another order

module _ (a b c : List Entry) where
  pub ok-turned : all entry_ok (a ++ (b ++ c)) ≡ true → all entry_ok (c ++ (b ++ a)) ≡ true
  ok-turned h = sum-ok (c ++ (b ++ a)) (omega (arith, ok-sum (a ++ (b ++ c)) h, sum-append bad a (b ++ c), sum-append bad b c, sum-append bad c (b ++ a), sum-append bad b a))

  pub distinct-turned : distinct (seqs (a ++ (b ++ c))) ≡ true → distinct (seqs (c ++ (b ++ a))) ≡ true
  distinct-turned h = sum-once (c ++ (b ++ a)) (λ x. omega (arith, once-sum (a ++ (b ++ c)) h x, sum-append (occ x) a (b ++ c), sum-append (occ x) b c, sum-append (occ x) c (b ++ a), sum-append (occ x) b a))

  agree-inner : sizes_agree (a ++ (b ++ c)) ≡ true → sizes_agree (a ++ (c ++ b)) ≡ true
  agree-inner h = sum-agree (a ++ (c ++ b)) (λ x.
      let r = agree-sum (a ++ (b ++ c)) h x in
      let f = odd x r.0 in
      (r.0, omega (arith, r.1, sum-append f a (b ++ c), sum-append f b c, sum-append f a (c ++ b), sum-append f c b)))

bytes-inner : (a b c : List Entry) → sizes_agree (a ++ (b ++ c)) ≡ true → bytes_of (a ++ (b ++ c)) ≡ bytes_of (a ++ (c ++ b))
bytes-inner [] b c h = bytes-any-order b c h
bytes-inner (e ∷ a) b c h =
    let m : member e.seq (seqs (a ++ (b ++ c))) ≡ member e.seq (seqs (a ++ (c ++ b))) =
    member-seqs e.seq a (b ++ c)
    ∙ ap (λ (t : Bool). member e.seq (seqs a) || t) (member-seqs e.seq b c ∙ or_comm (member e.seq (seqs b)) (member e.seq (seqs c)) ∙ sym (member-seqs e.seq c b))
    ∙ sym (member-seqs e.seq a (c ++ b)) in
    ap₂ (λ (t : Bool) (n : ℕ). (whether t then 0 else e.size) + n) m (bytes-inner a b c (and_right (all (λ f. not (eqb e.seq f.seq) || eqb e.size f.size) (a ++ (b ++ c))) _ h))

pub bytes-turned : (a b c : List Entry) → sizes_agree (a ++ (b ++ c)) ≡ true → bytes_of (a ++ (b ++ c)) ≡ bytes_of (c ++ (b ++ a))
bytes-turned a b c h = bytes-inner a b c h ∙ bytes-any-order a (c ++ b) (agree-inner a b c h) ∙ ap bytes_of (append_assoc c b a)
