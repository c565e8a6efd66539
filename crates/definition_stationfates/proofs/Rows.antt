-- The rows of dead letters: their numbers, and how many are lost. Assumes nothing.
use Prim.Native.Nat.{ℕ, suc, ◌+◌, ◌-◌, ◌≤◌, ◌<◌, ◌^◌}
use native.Mathlib.Omega.{arith}
use mathlib.Core.Path.{◌≡◌, refl, sym, ◌∙◌, ap, subst⁻¹}
use mathlib.Core.Bool.{false}
use mathlib.Core.List.{List, [], ◌∷◌, map}
use lib.Dec.{ltb, eqb}
use lib.ListN.{length, drop}
use borrow.Author.Tests.{ne_eqb, ltb-true, ltb-false, lt-ltb}
use Rattle.definition.specs.Base.{whether◌then◌else◌, tally, up_from}
use Rattle.definition.specs.Types.{Entry}
use Rattle.definition.specs.Calls.{seqs}
use Rattle.definition.proofs.Tests.{by-if, by-test, if-true, if-false}
use Rattle.definition_station.specs.Types.{Station, took_number, losing_letter, with_seq}
use Rattle.definition_station.specs.Letters.{Numbered, number_letters, storing, running, hops_max}
use Rattle.definition_station.proofs.Places.{Facts, took-facts, losing-facts}
use Rattle.definition_station.proofs.Sound.{number-facts}
use Rattle.definition_stationfates.specs.Books.{Gets}
use Rattle.definition_stationfates.specs.Told.{letter_places, ToldLetter, tell_each, given_number, has_number, is_at, lost_up_to}
use Rattle.definition_stationfates.proofs.Letters.{Went, lost, kept, letter-went, went-facts, kept_low, running-next}

-- ---- rows

module _ {A : Type 0} (f : Entry → A) where
  pub entries-told : (es : List Entry) (ns ps : List ℕ) → map (λ t. f t.letter) (tell_each es ns ps) ≡ map f es
  entries-told [] ns ps = refl
  entries-told (e ∷ es) ns ps = ap (λ (l : List A). f e ∷ l) (entries-told es (drop 1 ns) (drop 1 ps))

pub rows-many : (es : List Entry) (ns ps : List ℕ) → length (tell_each es ns ps) ≡ length es
rows-many [] ns ps = refl
rows-many (e ∷ es) ns ps = ap suc (rows-many es (drop 1 ns) (drop 1 ps))

-- ---- numbers

-- the letters that got a number are the first ones, each with its number
abbrev pub Follows : List Entry → List Entry → Type 0
Follows es [] = Unit {0}
Follows [] (n ∷ ns) = ⊥
Follows (e ∷ es) (n ∷ ns) = (n ≡ with_seq n.seq e) × (1 ≤ n.seq) × Follows es ns

-- none is left
none_left : (es : List Entry) (s : Station) → ltb s.next (2 ^ 63) ≡ false → (number_letters es s).letters ≡ []
unfolding number_letters
none_left [] s h = refl
none_left (e ∷ es) s h = rw h (none_left es (losing_letter s) h)

pub number-follows : (es : List Entry) (s : Station) → 1 ≤ s.next → Follows es (number_letters es s).letters
unfolding number_letters
number-follows [] s h = tt
number-follows (e ∷ es) s h = by-test (ltb s.next (2 ^ 63))
    (λ c. rw c (refl, h, number-follows es (took_number s) (omega (arith, h))))
    (λ c. rw c (subst⁻¹ (Follows (e ∷ es)) (none_left es (losing_letter s) c) tt))

number-next : (es : List Entry) (s : Station) → (number_letters es s).station.next ≡ s.next + length (number_letters es s).letters
unfolding number_letters
number-next [] s = omega arith
number-next (e ∷ es) s = by-if (λ (n : Numbered). n.station.next ≡ s.next + length n.letters) (ltb s.next (2 ^ 63)) _ _
    (λ c. omega (arith, number-next es (took_number s)))
    (λ c. number-next es (losing_letter s))

-- without a number: 0, and so it goes on
no-numbers : (es : List Entry) (n : ℕ) (ps : List ℕ) → 2 ^ 63 ≤ n → map (λ t. t.got) (tell_each es [] ps) ≡ map given_number (up_from n (length es))
no-numbers [] n ps h = refl
no-numbers (e ∷ es) n ps h =
    let z : given_number n ≡ 0 = by-test (ltb n (2 ^ 63)) (λ c. absurd (omega (arith, h, ltb-true n (2 ^ 63) c))) (λ c. rw c) in
    ap (λ (l : List ℕ). 0 ∷ l) (no-numbers es (suc n) (drop 1 ps) (omega (arith, h))) ∙ ap (λ (m : ℕ). m ∷ map given_number (up_from (suc n) (length es))) (sym z)

got-told : (es : List Entry) (s : Station) (ps : List ℕ) → map (λ t. t.got) (tell_each es (seqs (number_letters es s).letters) ps) ≡ map given_number (up_from s.next (length es))
unfolding number_letters
got-told [] s ps = refl
got-told (e ∷ es) s ps = by-test (ltb s.next (2 ^ 63))
    (λ c. rw c (ap (λ (l : List ℕ). s.next ∷ l) (got-told es (took_number s) (drop 1 ps) ∙ ap (λ (n : ℕ). map given_number (up_from n (length es))) (omega arith))))
    (λ c. subst⁻¹ (λ (l : List Entry). map (λ t. t.got) (tell_each (e ∷ es) (seqs l) ps) ≡ map given_number (up_from s.next (length (e ∷ es)))) (none_left (e ∷ es) s c) (no-numbers (e ∷ es) s.next ps (ltb-false s.next (2 ^ 63) c)))

-- so many rows have a number
rows-numbered : (es ns : List Entry) (ps : List ℕ) → Follows es ns → tally has_number (tell_each es (seqs ns) ps) ≡ length ns
rows-numbered [] [] ps f = refl
rows-numbered [] (n ∷ ns) ps f = absurd f
rows-numbered (e ∷ es) [] ps f = omega (arith, rows-numbered es [] (drop 1 ps) tt)
rows-numbered (e ∷ es) (n ∷ ns) ps f = rw (ne_eqb n.seq 0 (λ q. omega (arith, q, f.1))) (omega (arith, rows-numbered es ns (drop 1 ps) f.2))

-- ---- the lost count

up_one : (n m : ℕ) → n < 2 ^ 63 → lost_up_to ((whether ltb (n + 1) (2 ^ 63) then n + 1 else n) + m) ≡ lost_up_to (n + (1 + m))
up_one n m h = by-test (ltb (n + 1) (2 ^ 63))
    (λ c. let q : n + 1 + m ≡ n + (1 + m) = omega arith in rw c (ap lost_up_to q))
    (λ c. let g = ltb-false (n + 1) (2 ^ 63) c in rw c (at-end n m g h))
  where
    at-end : (n m : ℕ) → 2 ^ 63 ≤ n + 1 → n < 2 ^ 63 → lost_up_to (n + m) ≡ lost_up_to (n + (1 + m))
    at-end n m g h = by-if (λ (v : ℕ). v ≡ lost_up_to (n + (1 + m))) (ltb (n + m) (2 ^ 63)) _ _
        (λ c. by-if (λ (v : ℕ). n + m ≡ v) (ltb (n + (1 + m)) (2 ^ 63)) _ _ (λ d. absurd (omega (arith, g, ltb-true (n + (1 + m)) (2 ^ 63) d))) (λ d. omega (arith, g, h, ltb-true (n + m) (2 ^ 63) c)))
        (λ c. by-if (λ (v : ℕ). 2 ^ 63 - 1 ≡ v) (ltb (n + (1 + m)) (2 ^ 63)) _ _ (λ d. absurd (omega (arith, g, ltb-true (n + (1 + m)) (2 ^ 63) d))) (λ d. refl))

up_none : (n : ℕ) → n < 2 ^ 63 → lost_up_to (n + 0) ≡ n
up_none n h = let q : n + 0 ≡ n = omega arith in ap lost_up_to q ∙ if-true n (2 ^ 63 - 1) (lt-ltb n (2 ^ 63) h)

up_up : (n m : ℕ) → lost_up_to (lost_up_to n + m) ≡ lost_up_to (n + m)
up_up n m = by-test (ltb n (2 ^ 63))
    (λ c. rw c)
    (λ c. rw c (by-if (λ (v : ℕ). v ≡ lost_up_to (n + m)) (ltb (2 ^ 63 - 1 + m) (2 ^ 63)) _ _
    (λ d. by-if (λ (v : ℕ). 2 ^ 63 - 1 + m ≡ v) (ltb (n + m) (2 ^ 63)) _ _ (λ b. absurd (omega (arith, ltb-false n (2 ^ 63) c, ltb-true (n + m) (2 ^ 63) b))) (λ b. omega (arith, ltb-true (2 ^ 63 - 1 + m) (2 ^ 63) d)))
    (λ d. by-if (λ (v : ℕ). 2 ^ 63 - 1 ≡ v) (ltb (n + m) (2 ^ 63)) _ _ (λ b. absurd (omega (arith, ltb-false n (2 ^ 63) c, ltb-true (n + m) (2 ^ 63) b))) (λ b. refl))))

abbrev lost_in : List ℕ → ℕ
lost_in ps = tally (λ p. eqb p 8) ps

-- one letter
went-lost : (now : ℕ) (e : Entry) (s : Station) (p : ℕ) (g : List Gets) (u : Station) → Went now e s p g u → Facts s → (m : ℕ) → lost_up_to (u.lost + m) ≡ lost_up_to (s.lost + ((whether eqb p 8 then 1 else 0) + m))
went-lost now e s p g u lost f m = up_one s.lost m f.few
went-lost now e s p g u (kept k x q h) f m =
    let z : ◌≡◌ {A = ℕ} (whether eqb k 8 then 1 else 0) 0 = if-false 1 0 (ne_eqb k 8 (λ d. omega (arith, kept_low k x s f q, d))) in
    let y : (whether eqb k 8 then 1 else 0) + m ≡ m = omega (arith, z) in
    ap (λ (n : ℕ). lost_up_to (s.lost + n)) (sym y)

run-lost : (hops now k : ℕ) (ns : List Entry) (s : Station) → Facts s → (running hops now k ns s).station.lost ≡ lost_up_to (s.lost + lost_in (letter_places hops now k ns s))
unfolding running letter_places
run-lost hops now k [] s f = sym (up_none s.lost f.few)
run-lost hops now k (n ∷ ns) s f =
    let w = letter-went hops now k n s in
    let u : Station = (storing hops now k n s).station in
    run-lost hops now k ns u (went-facts now n s _ _ _ w f) ∙ went-lost now n s _ _ _ w f (lost_in (letter_places hops now k ns u))

-- those that got no number
number-few : (es : List Entry) (s : Station) → length (number_letters es s).letters ≤ length es
unfolding number_letters
number-few [] s = omega arith
number-few (e ∷ es) s = by-if (λ (n : Numbered). length n.letters ≤ suc (length es)) (ltb s.next (2 ^ 63)) _ _ (λ c. omega (arith, number-few es (took_number s))) (λ c. omega (arith, number-few es (losing_letter s)))

number-lost : (es : List Entry) (s : Station) (m : ℕ) → Facts s → m + length (number_letters es s).letters ≡ length es → (number_letters es s).station.lost ≡ lost_up_to (s.lost + m)
unfolding number_letters
number-lost [] s m f = λ h. let q : m ≡ 0 = omega (arith, h) in sym (up_none s.lost f.few) ∙ ap (λ (n : ℕ). lost_up_to (s.lost + n)) (sym q)
number-lost (e ∷ es) s m f = by-test (ltb s.next (2 ^ 63))
    (λ c. rw c (λ h. number-lost es (took_number s) m (took-facts s f (ltb-true s.next (2 ^ 63) c)) (omega (arith, h))))
    (λ c. rw c (λ h.
    let few = number-few es (losing_letter s) in
    let q : 1 + (m - 1) ≡ m = omega (arith, h, few) in
    number-lost es (losing_letter s) (m - 1) (losing-facts s f) (omega (arith, h, few)) ∙ up_one s.lost (m - 1) f.few ∙ ap (λ (n : ℕ). lost_up_to (s.lost + n)) q))

-- the rows that are lost: those, and the letters that no place kept
rows-lost : (es ns : List Entry) (ps : List ℕ) → Follows es ns → length ps ≡ length ns → tally (is_at 8) (tell_each es (seqs ns) ps) + length ns ≡ lost_in ps + length es
rows-lost [] [] [] f h = refl
rows-lost [] [] (p ∷ ps) f h = absurd (omega (arith, h))
rows-lost [] (n ∷ ns) ps f h = absurd f
rows-lost (e ∷ es) [] [] f h = omega (arith, rows-lost es [] [] tt refl)
rows-lost (e ∷ es) [] (p ∷ ps) f h = absurd (omega (arith, h))
rows-lost (e ∷ es) (n ∷ ns) [] f h = absurd (omega (arith, h))
rows-lost (e ∷ es) (n ∷ ns) (p ∷ ps) f h = omega (arith, rows-lost es ns ps f.2 (omega (arith, h)))

places-many : (hops now k : ℕ) (ns : List Entry) (s : Station) → length (letter_places hops now k ns s) ≡ length ns
unfolding letter_places
places-many hops now k [] s = refl
places-many hops now k (n ∷ ns) s = ap suc (places-many hops now k ns (storing hops now k n s).station)

-- ---- the letters of a call, from the station u on which they are numbered

module _ (now k : ℕ) (es : List Entry) (u : Station) where
  abbrev many : Numbered
  many = number_letters es u

  abbrev goes : List ℕ
  goes = letter_places hops_max now k (number_letters es u).letters (number_letters es u).station

  abbrev pub rows : List ToldLetter
  rows = tell_each es (seqs (number_letters es u).letters) (letter_places hops_max now k (number_letters es u).letters (number_letters es u).station)

  abbrev ends : Station
  ends = (running hops_max now k (number_letters es u).letters (number_letters es u).station).station

  pub in_order : map (λ t. t.got) rows ≡ map given_number (up_from u.next (length rows))
  in_order = got-told es u goes ∙ ap (λ (n : ℕ). map given_number (up_from u.next n)) (sym (rows-many es (seqs many.letters) goes))

  pub goes_on : Facts u → ends.next ≡ u.next + tally has_number rows
  goes_on f = omega (arith, running-next hops_max now k many.letters many.station, number-next es u, rows-numbered es many.letters goes (number-follows es u f.low))

  pub loses : Facts u → ends.lost ≡ lost_up_to (u.lost + tally (is_at 8) rows)
  loses f =
      let m : ℕ = length es - length many.letters in
      let few = number-few es u in
      let a = run-lost hops_max now k many.letters many.station (number-facts es u f) in
      let b = number-lost es u m f (omega (arith, few)) in
      let c = rows-lost es many.letters goes (number-follows es u f.low) (places-many hops_max now k many.letters many.station) in
      let d : u.lost + m + lost_in goes ≡ u.lost + tally (is_at 8) rows = omega (arith, few, c) in
      a ∙ ap (λ (n : ℕ). lost_up_to (n + lost_in goes)) b ∙ up_up (u.lost + m) (lost_in goes) ∙ ap lost_up_to d
