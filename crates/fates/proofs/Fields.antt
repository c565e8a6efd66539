-- What stands in a place is the accepted entry with its number, redelivery apart; and so is what a block says. Assumes nothing.
use Prim.Native.Nat.{ℕ, ◌+◌, ◌≤◌}
use native.Mathlib.Omega.{arith}
use mathlib.Core.Path.{◌≡◌, refl, sym, ◌∙◌, ap}
use mathlib.Core.Bool.{Bool, true, false, ◌&&◌, true≢false}
use mathlib.Core.List.{List, [], ◌∷◌, ◌++◌, map}
use mathlib.Core.Option.{Option, none, some}
use lib.Dec.{eqb}
use lib.IntN.{ℤ, ℤ_discrete}
use borrow.Author.Tests.{eqb-true, eq-eqb, ne_eqb}
use Rattle.definition.specs.Base.{whether◌then◌else◌, find, member}
use Rattle.definition.specs.Types.{Entry, Dest, with_redelivery}
use Rattle.definition.specs.Consumer.{redelivered}
use Rattle.definition.specs.Calls.{seqs, taken, held}
use Rattle.definition.specs.Words.{at}
use Rattle.definition.proofs.Tests.{by-test, and_left, and_right, and_both, if-true, if-false}
use Rattle.definition.proofs.Lists.{find-passes, All, all-nth, all_join}
use Rattle.definition.proofs.Sums.{sum, occ, occ-yes}
use Rattle.definition.proofs.Whole.{sums-taken}
use Rattle.fates.proofs.Measures.{Steady, mine-occ, member-occ, yes-member}
use Rattle.fates.proofs.Run.{Kept, kept}
use Rattle.fates.proofs.Claims.{left-next, all_left}
use Rattle.fates.specs.Fates.{dequeued, expired, discarded, dead_lettered, cleared, rank, Departure}
use Rattle.fates.specs.Account.{Account, Place, waiting, in_flight, reserved, left, left_as, entries_at, numbers_at}
use Rattle.fates.specs.Blocks.{Block, block_at, place_number, held_blocks}
use Rattle.fates.specs.Books.{left_block, all_blocks, BlocksAreRight, FieldsStay}

-- ---- two entries that differ in their redelivery only

said : {A : Type 0} → Dec A → Bool
said (yes a) = true
said (no a) = false

said-yes : {A : Type 0} (d : Dec A) → said d ≡ true → A
unfolding said
said-yes (yes a) h = a
said-yes (no a) h = absurd (true≢false (sym h))

said-self : (x : ℤ) (d : Dec (x ≡ x)) → said d ≡ true
unfolding said
said-self x (yes a) = refl
said-self x (no a) = absurd (a refl)

abbrev bit_of : Bool → ℕ
bit_of b = whether b then 1 else 0

bit-same : (a b : Bool) → eqb (bit_of a) (bit_of b) ≡ true → a ≡ b
bit-same true true h = refl
bit-same true false h = absurd (true≢false (sym h))
bit-same false true h = absurd (true≢false (sym h))
bit-same false false h = refl

-- by expiration, persistence, producer, match word and size
abbrev fields : Entry → Entry → Bool
fields e f = said (ℤ_discrete f.expiration e.expiration) && (eqb (bit_of f.persistent) (bit_of e.persistent) && (eqb f.producer e.producer && (eqb f.match_word e.match_word && eqb f.size e.size)))

fields-self : (e : Entry) → fields e e ≡ true
fields-self e = and_both _ _ (said-self e.expiration (ℤ_discrete e.expiration e.expiration)) (and_both _ _ (eq-eqb (bit_of e.persistent) (bit_of e.persistent) refl) (and_both _ _ (eq-eqb e.producer e.producer refl) (and_both _ _ (eq-eqb e.match_word e.match_word refl) (eq-eqb e.size e.size refl))))

rebuilt : (e f : Entry) → f.seq ≡ e.seq → fields e f ≡ true → with_redelivery e.redelivery f ≡ e
rebuilt e f n h =
    let p = said-yes (ℤ_discrete f.expiration e.expiration) (and_left _ _ h) in
    let h1 = and_right (said (ℤ_discrete f.expiration e.expiration)) _ h in
    let q = bit-same f.persistent e.persistent (and_left _ _ h1) in
    let h2 = and_right (eqb (bit_of f.persistent) (bit_of e.persistent)) _ h1 in
    let r = eqb-true f.producer e.producer (and_left _ _ h2) in
    let h3 = and_right (eqb f.producer e.producer) _ h2 in
    let s = eqb-true f.match_word e.match_word (and_left _ _ h3) in
    let z = eqb-true f.size e.size (and_right (eqb f.match_word e.match_word) _ h3) in
    λ i. record { seq = n i; expiration = p i; producer = r i; match_word = s i; redelivery = e.redelivery; persistent = q i; size = z i }

-- ---- the accepted entry with a number

abbrev numbered : Entry → List Entry → Option Entry
numbered e a = find (λ g. eqb g.seq e.seq) a

matches : Entry → Option Entry → Bool
matches e none = false
matches e (some f) = fields e f

-- 1 for an entry that is none of these
odd : List Entry → Entry → ℕ
odd a e = whether matches e (numbered e a) then 0 else 1

odd-steady : (a : List Entry) → Steady (odd a)
unfolding odd matches
odd-steady a e = again (numbered e a)
  where
    again : (o : Option Entry) → ◌≡◌ {A = ℕ} (whether matches (redelivered e) o then 0 else 1) (whether matches e o then 0 else 1)
    again none = refl
    again (some f) = refl

-- where no number is twice, the one with an entry's number is the entry
mine-later : (x : Entry) (a b : List Entry) → All (λ e. eqb x.seq e.seq ≡ false) b → All (λ e. numbered e a ≡ some e) b → All (λ e. numbered e (x ∷ a) ≡ some e) b
mine-later x a [] h g = tt
mine-later x a (e ∷ b) h g = (if-false (some x) (numbered e a) h.0 ∙ g.0, mine-later x a b h.1 g.1)

mine : (a : List Entry) → ((x : ℕ) → sum (occ x) a ≤ 1) → All (λ e. numbered e a ≡ some e) a
mine [] o = tt
mine (x ∷ a) o = (
  if-true (some x) (numbered x a) (eq-eqb x.seq x.seq refl),
  mine-later x a a (mine-occ (λ y. eqb x.seq y ≡ false) a (λ y h. ne_eqb x.seq y (λ q. omega (arith, o y, occ-yes y x (eq-eqb y x.seq (sym q)), h)))) (mine a (λ y. omega (arith, o y))),
)

none-odd : (a b : List Entry) → All (λ e. numbered e a ≡ some e) b → sum (odd a) b ≡ 0
unfolding odd matches
none-odd a [] h = refl
none-odd a (e ∷ b) h = rw (h.0, fields-self e) (omega (arith, none-odd a b h.1))

-- ---- an account

few : (a : List Entry) (l : List Departure) (t : Dest) → Kept a l t → (f : Entry → ℕ) → Steady f → (p : Place) → sum f (entries_at p l t) ≤ sum f a
few a l t k f w p = by_place p
  where
    parts : sum f a ≡ sum f t.pending + (sum f (taken t.subs) + (sum f (held t) + (sum f (left_as dequeued l) + (sum f (left_as expired l) + (sum f (left_as discarded l) + (sum f (left_as dead_lettered l) + sum f (left_as cleared l)))))))
    parts = omega (arith, k.sums f w, all_left f l, sums-taken f t.subs)

    by_place : (p : Place) → sum f (entries_at p l t) ≤ sum f a
    by_place waiting = omega (arith, parts)
    by_place in_flight = omega (arith, parts)
    by_place reserved = omega (arith, parts)
    by_place (left dequeued) = omega (arith, parts)
    by_place (left expired) = omega (arith, parts)
    by_place (left discarded) = omega (arith, parts)
    by_place (left dead_lettered) = omega (arith, parts)
    by_place (left cleared) = omega (arith, parts)

-- an accepted entry, redelivery apart
abbrev Same : List Entry → Entry → Type 0
Same a e = (f : Entry) × (numbered e a ≡ some f) × (with_redelivery e.redelivery f ≡ e)

not-odd : (a : List Entry) (e : Entry) → odd a e ≡ 0 → Same a e
unfolding odd matches
not-odd a e h = go (numbered e a) refl (by-test (matches e (numbered e a)) (λ c. c) (λ c. absurd (omega (arith, h, if-false {A = ℕ} 0 1 c))))
  where
    go : (o : Option Entry) → numbered e a ≡ o → matches e (numbered e a) ≡ true → Same a e
    go none q m = absurd (true≢false (sym m ∙ ap (matches e) q))
    go (some f) q m = (f, q, rebuilt e f (eqb-true f.seq e.seq (find-passes (λ g. eqb g.seq e.seq) a f q)) (sym (ap (matches e) q) ∙ m))

all_same : (a b : List Entry) → sum (odd a) b ≡ 0 → All (Same a) b
all_same a [] h = tt
all_same a (e ∷ b) h = (not-odd a e (omega (arith, h)), all_same a b (omega (arith, h)))

module _ (a : List Entry) (l : List Departure) (t : Dest) (r : Account a l t) where
  k : Kept a l t
  k = kept a l t r

  none_in : sum (odd a) a ≡ 0
  none_in = none-odd a a (mine a k.once)

  same_at : (p : Place) → All (Same a) (entries_at p l t)
  same_at p = all_same a (entries_at p l t) (omega (arith, few a l t k (odd a) (odd-steady a) p, none_in))

  same_left : All (Same a) (map (λ d. d.entry) l)
  same_left = all_same a (map (λ d. d.entry) l) (omega (arith, k.sums (odd a) (odd-steady a), none_in))

pub fields-stay : FieldsStay
fields-stay a l t r p i e h = all-nth (Same a) i (entries_at p l t) e (same_at a l t r p) h

-- ---- blocks

abbrev Right : List Entry → List Departure → Dest → Block → Type 0
Right a l t b = (p : Place) × (f : Entry) × (find (λ g. eqb g.seq (at 0 b)) a ≡ some f) × (b ≡ block_at (place_number p) f) × (member (at 0 b) (numbers_at p l t) ≡ true)

right-one : (a : List Entry) (l : List Departure) (t : Dest) (p : Place) (e : Entry) → Same a e → member e.seq (numbers_at p l t) ≡ true → Right a l t (block_at (place_number p) e)
right-one a l t p e s m = (p, s.0, s.1, sym (ap (block_at (place_number p)) s.2), m)

right-list : (a : List Entry) (l : List Departure) (t : Dest) (p : Place) (m : List Entry) → All (Same a) m → All (λ e. member e.seq (numbers_at p l t) ≡ true) m → All (Right a l t) (map (block_at (place_number p)) m)
right-list a l t p [] s h = tt
right-list a l t p (e ∷ m) s h = (right-one a l t p e s.0 h.0, right-list a l t p m s.1 h.1)

-- one that left is among those that left so
abbrev Among : List Departure → Departure → Type 0
Among l d = member d.entry.seq (seqs (left_as d.fate l)) ≡ true

among-more : (x : Departure) (l m : List Departure) → All (Among l) m → All (Among (x ∷ l)) m
among-more x l [] h = tt
among-more x l (d ∷ m) h = (yes-member d.entry.seq (left_as d.fate (x ∷ l)) (omega (arith, member-occ d.entry.seq (left_as d.fate l) h.0, left-next d.fate (occ d.entry.seq) x l)), among-more x l m h.1)

all_among : (l : List Departure) → All (Among l) l
all_among [] = tt
all_among (d ∷ l) = (rw (eq-eqb (rank d.fate) (rank d.fate) refl, eq-eqb d.entry.seq d.entry.seq refl) refl, among-more d l l (all_among l))

right-left : (a : List Entry) (l m : List Departure) (t : Dest) → All (Same a) (map (λ d. d.entry) m) → All (Among l) m → All (Right a l t) (map left_block m)
right-left a l [] t s h = tt
right-left a l (d ∷ m) t s h = (right-one a l t (left d.fate) d.entry s.0 h.0, right-left a l m t s.1 h.1)

pub blocks-are-right : BlocksAreRight
blocks-are-right a l t r i b h = all-nth (Right a l t) i (all_blocks l t) b
    (all_join (Right a l t) (held_blocks t) (map left_block l)
    (all_join (Right a l t) (map (block_at 0) t.pending) (map (block_at 2) (held t) ++ map (block_at 1) (taken t.subs)) (at_place waiting)
    (all_join (Right a l t) (map (block_at 2) (held t)) (map (block_at 1) (taken t.subs)) (at_place reserved) (at_place in_flight)))
    (right-left a l l t (same_left a l t r) (all_among l))) h
  where
    at_place : (p : Place) → All (Right a l t) (map (block_at (place_number p)) (entries_at p l t))
    at_place p = right-list a l t p (entries_at p l t) (same_at a l t r p) (mine-occ (λ x. member x (numbers_at p l t) ≡ true) (entries_at p l t) (λ x g. yes-member x (entries_at p l t) g))
