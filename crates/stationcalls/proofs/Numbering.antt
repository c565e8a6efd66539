-- Rejected rows become letters and take their numbers, one after another. Assumes nothing.
use mathlib.Core.Path.{◌≡◌, refl, sym, ap, ◌∙◌, subst, subst⁻¹}
use mathlib.Core.Bool.{Bool, true, false, ◌&&◌}
use mathlib.Core.List.{List, [], ◌∷◌, ◌++◌, map, append_assoc, append-nil, map-append}
use mathlib.Core.Option.{Option}
use Prim.Native.Nat.{ℕ, suc, ◌+◌, ◌≤◌, ◌<◌, ◌^◌}
use native.Mathlib.Numerals.{add-one}
use native.Mathlib.Omega.{arith}
use borrow.Author.Tests.{ltb-true, lt-ltb, le-ltb, le-leb}
use lib.Dec.{leb, ltb, eqb}
use lib.IntN.{ℤ, pos, negsuc}
use lib.ListN.{length, take, get_or, set, length-set}
use lib.Seq.{slice, slice-cons, slice_empty, get_or-take, length-take-le, take-suc-set}
use mir.Syntax.{w64}
use mir.Val.{SFits, bool_byte}
use Rattle.words.proofs.Words.{signed-unsigned, flag_small}
use Rattle.entry.specs.Entry.{entry_of}
use Rattle.definition.specs.Base.{all}
use Rattle.definition.specs.Types.{Entry}
use Rattle.definition.specs.Calls.{word, signed_within, entry_ok, clock_ok, enqueuing, arguments_ok}
use Rattle.definition.specs.Words.{entry_in, read, decode}
use Rattle.definition.specs.Layout.{Row}
use Rattle.definition.proofs.Tests.{if-true, if-false, and_both, and_left, and_right}
use Rattle.definition.proofs.Lists.{all-at}
use Rattle.definition.proofs.Thin.{every-all, all-every}
use Rattle.calls.proofs.Decoded.{some-provided}
use Rattle.definition_station.specs.Types.{StationSlot, with_seq}
use Rattle.definition_station.specs.Letters.{Numbered, number_letters}
use Rattle.stationcalls.specs.Run.{one_more_lost, letter_ok, letter_entries}
use Rattle.stationcalls.specs.Numbers.{letter_words, dead_ok, station_of, Numbers, Letters}

-- ---- one letter

within-fits : (half : ℕ) (z : ℤ) → half ≤ 2 ^ 63 → signed_within half z ≡ true → SFits w64 z
within-fits half (pos n) h e = let l : n < 2 ^ 63 = omega (arith, h, ltb-true n half e) in record { sfits = l }
within-fits half (negsuc n) h e = let l : n < 2 ^ 63 = omega (arith, h, ltb-true n half e) in record { sfits = l }

mark-back : (b : Bool) → eqb (bool_byte b) 1 ≡ b
mark-back true = refl
mark-back false = refl

abbrev entry_tests : Entry → List Bool
entry_tests e = leb 1 e.seq ∷ ltb e.seq (2 ^ 63) ∷ signed_within (2 ^ 63) e.expiration ∷ word e.producer ∷ word e.match_word ∷ signed_within (2 ^ 31) e.redelivery ∷ ltb e.size (2 ^ 32) ∷ []

pub letter-entry : (n : ℕ) (e : Entry) → entry_ok e ≡ true → entry_in (letter_words n e) ≡ with_seq n e
letter-entry n e h =
    let f = every-all (entry_tests e) h in
    rw (signed-unsigned e.expiration (within-fits (2 ^ 63) e.expiration (omega arith) f.1.1.0), signed-unsigned e.redelivery (within-fits (2 ^ 31) e.redelivery (omega arith) f.1.1.1.1.1.0), mark-back e.persistent)

seq-ok : (n : ℕ) (e : Entry) → 1 ≤ n → n < 2 ^ 63 → entry_ok e ≡ true → entry_ok (with_seq n e) ≡ true
seq-ok n e l g h = let f = every-all (entry_tests e) h in all-every (entry_tests (with_seq n e)) (le-leb 1 n l, (lt-ltb n (2 ^ 63) g, f.1.1))

pub letter-right : (clock n : ℕ) (e : Entry) → clock_ok clock ≡ true → 1 ≤ n → n < 2 ^ 63 → entry_ok e ≡ true → letter_ok clock (letter_words n e) ≡ true
unfolding decode read arguments_ok
letter-right clock n e c l g h =
    some-provided (leb (bool_byte e.persistent) 1 && true) (enqueuing (entry_in (letter_words n e)) clock)
    ∙ and_both _ _ (and_both _ _ (le-leb (bool_byte e.persistent) 1 (flag_small e.persistent)) refl)
    (and_both _ _ (ap entry_ok (letter-entry n e h) ∙ seq-ok n e l g h) c)

-- ---- one after another

pub record Numbering (dead : List Row) (n next₀ lost₀ : ℕ) (letters : List Row) (many next lost i : ℕ) : Type 0 where
  pub few : i ≤ n
  pub fewer : many ≤ i
  pub long : n ≤ length dead
  pub room : n ≤ length letters
  pub rows_ok : all dead_ok (take n dead) ≡ true
  pub next_low : 1 ≤ next
  pub next-high : next ≤ 2 ^ 63
  pub letters-so-far : (slots : List (Option StationSlot)) → letter_entries (take many letters) ++ (number_letters (map entry_of (slice i n dead)) (station_of slots next lost)).letters ≡ (number_letters (map entry_of (take n dead)) (station_of slots next₀ lost₀)).letters
  pub station-so-far : (slots : List (Option StationSlot)) → (number_letters (map entry_of (slice i n dead)) (station_of slots next lost)).station ≡ (number_letters (map entry_of (take n dead)) (station_of slots next₀ lost₀)).station
  pub letters-ok : (clock : ℕ) → clock_ok clock ≡ true → all (letter_ok clock) (take many letters) ≡ true

all_append : {A : Type 0} (p : A → Bool) (l m : List A) → all p l ≡ true → all p m ≡ true → all p (l ++ m) ≡ true
all_append p [] m h g = g
all_append p (x ∷ l) m h g = and_both (p x) (all p (l ++ m)) (and_left (p x) (all p l) h) (all_append p l m (and_right (p x) (all p l) h) g)

module _ (dead : List Row) (n next₀ lost₀ : ℕ) where
  pub none-numbered : (letters : List Row) → n ≤ length dead → n ≤ length letters → all dead_ok (take n dead) ≡ true → 1 ≤ next₀ → next₀ ≤ 2 ^ 63
      → Numbering dead n next₀ lost₀ letters 0 next₀ lost₀ 0
  none-numbered letters h g k l m = record {
    few = omega (arith);
    fewer = omega (arith);
    long = h;
    room = g;
    rows_ok = k;
    next_low = l;
    next-high = m;
    letters-so-far = λ slots. refl;
    station-so-far = λ slots. refl;
    letters-ok = λ clock c. refl;
  }

  module _ (letters : List Row) (many next lost i : ℕ) (s : Numbering dead n next₀ lost₀ letters many next lost i) where
    module _ (d : Row) (less : i < n) where
      abbrev row : Row
      row = get_or dead i d

      abbrev rest : List Entry
      rest = map entry_of (slice (suc i) n dead)

      cut : map entry_of (slice i n dead) ≡ entry_of row ∷ rest
      cut = ap (map entry_of) (slice-cons i n dead d less s.long)

      row_ok : entry_ok (entry_of row) ≡ true
      row_ok = subst (λ (x : Row). dead_ok x ≡ true) (get_or-take n dead i d less) (all-at dead_ok (take n dead) i d s.rows_ok there)
        where
          there : i < length (take n dead)
          there = subst⁻¹ (λ (m : ℕ). i < m) (length-take-le n dead s.long) less

      -- with a number left
      gives : (slots : List (Option StationSlot)) → next < 9223372036854775808
          → number_letters (map entry_of (slice i n dead)) (station_of slots next lost)
          ≡ record { letters = with_seq next (entry_of row) ∷ (number_letters rest (station_of slots (next + 1) lost)).letters; station = (number_letters rest (station_of slots (next + 1) lost)).station }
      unfolding number_letters
      gives slots h = ap (λ (l : List Entry). number_letters l (station_of slots next lost)) cut ∙ if-true _ _ (lt-ltb next (2 ^ 63) h)

      -- with none
      loses : (slots : List (Option StationSlot)) → 9223372036854775808 ≤ next → number_letters (map entry_of (slice i n dead)) (station_of slots next lost) ≡ number_letters rest (station_of slots next (one_more_lost lost))
      unfolding number_letters
      loses slots h = ap (λ (l : List Entry). number_letters l (station_of slots next lost)) cut ∙ if-false _ _ (le-ltb next (2 ^ 63) h)

      pub one-given : next < 9223372036854775808 → Numbering dead n next₀ lost₀ (set letters many (letter_words next (entry_of row))) (many + 1) (next + 1) lost (i + 1)
      one-given h = subst⁻¹ (λ (m : ℕ). Numbering dead n next₀ lost₀ letters' (many + 1) (next + 1) lost m) (add-one i) (subst⁻¹ (λ (m : ℕ). Numbering dead n next₀ lost₀ letters' m (next + 1) lost (suc i)) (add-one many) record {
        few = less;
        fewer = omega (arith, s.fewer);
        long = s.long;
        room = subst⁻¹ (λ (m : ℕ). n ≤ m) (length-set letters many x) s.room;
        rows_ok = s.rows_ok;
        next_low = omega (arith);
        next-high = omega (arith, h);
        letters-so-far = λ slots.
            ap (λ (l : List Row). letter_entries l ++ (number_letters rest (station_of slots (next + 1) lost)).letters) grown
            ∙ ap (λ (l : List Entry). l ++ (number_letters rest (station_of slots (next + 1) lost)).letters) (map-append entry_in (take many letters) (x ∷ []))
            ∙ append_assoc (letter_entries (take many letters)) (entry_in x ∷ []) (number_letters rest (station_of slots (next + 1) lost)).letters
            ∙ ap (λ (e : Entry). letter_entries (take many letters) ++ e ∷ (number_letters rest (station_of slots (next + 1) lost)).letters) (letter-entry next (entry_of row) row_ok)
            ∙ sym (ap (λ (q : Numbered). letter_entries (take many letters) ++ q.letters) (gives slots h))
            ∙ s.letters-so-far slots;
        station-so-far = λ slots. sym (ap (λ (q : Numbered). q.station) (gives slots h)) ∙ s.station-so-far slots;
        letters-ok = λ clock c. ap (all (letter_ok clock)) grown ∙ all_append (letter_ok clock) (take many letters) (x ∷ []) (s.letters-ok clock c) (and_both _ _ (letter-right clock next (entry_of row) c s.next_low h row_ok) refl);
      })
        where
          x : Row
          x = letter_words next (entry_of row)

          letters' : List Row
          letters' = set letters many x

          place : many < length letters
          place = omega (arith, s.fewer, less, s.room)

          grown : take (suc many) letters' ≡ take many letters ++ (x ∷ [])
          grown = take-suc-set letters many x place

      pub one-lost : (more : ℕ) → more ≡ one_more_lost lost → 9223372036854775808 ≤ next → Numbering dead n next₀ lost₀ letters many next more (i + 1)
      one-lost more e h = subst⁻¹ (λ (m : ℕ). Numbering dead n next₀ lost₀ letters many next more m) (add-one i) (subst⁻¹ (λ (m : ℕ). Numbering dead n next₀ lost₀ letters many next m (suc i)) e record {
        few = less;
        fewer = omega (arith, s.fewer);
        long = s.long;
        room = s.room;
        rows_ok = s.rows_ok;
        next_low = s.next_low;
        next-high = s.next-high;
        letters-so-far = λ slots. sym (ap (λ (q : Numbered). letter_entries (take many letters) ++ q.letters) (loses slots h)) ∙ s.letters-so-far slots;
        station-so-far = λ slots. sym (ap (λ (q : Numbered). q.station) (loses slots h)) ∙ s.station-so-far slots;
        letters-ok = s.letters-ok;
      })

    nothing : n ≤ i → map entry_of (slice i n dead) ≡ []
    nothing h = ap (map entry_of) (ap (λ (m : ℕ). slice m n dead) at-end ∙ slice_empty n dead)
      where
        at-end : i ≡ n
        at-end = omega (arith, h, s.few)

    pub numbered : n ≤ i → (slots : List (Option StationSlot)) → Numbers (number_letters (map entry_of (take n dead)) (station_of slots next₀ lost₀)) slots letters (record { many = many; next = next; lost = lost })
    unfolding number_letters
    numbered h slots = record {
      letters-are = sym (append-nil (letter_entries (take many letters))) ∙ sym (ap (λ (l : List Entry). letter_entries (take many letters) ++ (number_letters l (station_of slots next lost)).letters) (nothing h)) ∙ s.letters-so-far slots;
      station-is = sym (ap (λ (l : List Entry). (number_letters l (station_of slots next lost)).station) (nothing h)) ∙ s.station-so-far slots;
    }

    pub lettered : Letters n letters (record { many = many; next = next; lost = lost })
    lettered = record { few = omega (arith, s.fewer, s.few); within = omega (arith, s.fewer, s.few, s.room); letters-ok = s.letters-ok; next_low = s.next_low; next-high = s.next-high }
