-- Rows: which tests of an entry hold by themselves for words, and the turns of the loops over rows. Assumes nothing.
use mathlib.Core.Path.{◌≡◌, refl, sym, ap, ap₂, ◌∙◌}
use mathlib.Core.Bool.{Bool, true, false, ◌&&◌, and-true, and-false, and_assoc, false≢true}
use mathlib.Core.List.{List, [], ◌∷◌, ◌++◌, map}
use Prim.Native.Nat.{ℕ, suc, ◌+◌, ◌-◌, ◌%◌, ◌≤◌, ◌<◌, ◌^◌}
use native.Mathlib.Nat.{add_assoc, add-zero}
use native.Mathlib.Numerals.{add-one}
use native.Mathlib.Omega.{arith}
use borrow.Author.Tests.{ltb-true, ltb-false, leb-true, lt-ltb, le-leb, lt-leb}
use lib.Dec.{leb, ltb, eqb}
use lib.ListN.{length, get_or, drop}
use lib.Seq.{slice, get_or-drop}
use mir.Syntax.{w64}
use mir.Val.{Val, bool_byte}
use denote.Plain.{UInt}
use denote.Shadow.{shadow}
use denote.Array.{each}
use borrow.Author.Rules.{elem_Fits}
use Rattle.words.specs.Words.{signed, int, is_int}
use Rattle.words.specs.Pick.{whether◌then◌else◌}
use Rattle.words.proofs.Tests.{by-test}
use Rattle.entry.specs.Entry.{entry_of}
use Rattle.definition.specs.Base.{all, tally}
use Rattle.definition.specs.Calls.{signed_within, id_ok}
use Rattle.definition.specs.Words.{at}
use Rattle.definition.specs.Layout.{Row, flag, id_at, is_mark, entry_strict}
use Rattle.definition.proofs.Tests.{and_left, and_right}
use Rattle.distinct.proofs.Laws.{one}
use Rattle.subrows.specs.Subrows.{upward, row_fits, row_after, row_ok, flight_ok, holder_ok, RowForm, flying_ok, sorted_ok}
use Rattle.subrows.proofs.Tests.{swap_inner, part-turn, part_end}

-- ---- ranges

pub signed-within : (w : ℕ) → signed_within (2 ^ 63) (signed w) ≡ true
signed-within w = by-test (ltb w (2 ^ 63)) (λ c. rw c c) (λ c. rw c (lt-ltb (2 ^ 64 - suc w) (2 ^ 63) (omega (arith, ltb-false w (2 ^ 63) c))))

pub int-within : (w : ℕ) → signed_within (2 ^ 31) (int w) ≡ true
int-within w = by-test (ltb (w % 2 ^ 32) (2 ^ 31))
    (λ c. rw c c)
    (λ c. rw c (lt-ltb (2 ^ 32 - suc (w % 2 ^ 32)) (2 ^ 31) (omega (arith, ltb-false (w % 2 ^ 32) (2 ^ 31) c))))

pub id-fits : (w : Row) → at 0 w < 2 ^ 64 → id_ok (id_at w) ≡ true
id-fits w h = rw (lt-ltb (at 0 w) (2 ^ 64) h, signed-within (at 1 w), signed-within (at 2 w))

-- every word of a list is one
abbrev pub Words : List ℕ → Type 0
Words l = (k : ℕ) → at k l < 2 ^ 64

pub words-drop : (n : ℕ) (l : List ℕ) → Words l → Words (drop n l)
words-drop n l h k = rw (get_or-drop n l k 0) (h (n + k))

-- so it is with an array that a function is handed
pub array-words : (w : Row) (vs : List Val) → shadow (each ℕ (UInt w64).own_val w vs) → Words w
array-words w vs s k = (elem_Fits w64 w64 w vs k s tt).fits

pub holder-fits : (w : Row) → Words w → holder_ok w ≡ true
holder-fits w h = id-fits (drop 6 w) (words-drop 6 w h 0)

pub row-tests : (w : Row) → Words w → RowForm w
unfolding entry_of entry_strict
row-tests w h =
    rw (signed-within (at 1 w), lt-ltb (at 3 w) (2 ^ 64) (h 3), lt-ltb (at 4 w) (2 ^ 64) (h 4), int-within (at 5 w))
    (sym (regroup (leb 1 (at 0 w)) (ltb (at 0 w) (2 ^ 63)) (is_mark (at 2 w)) (is_int (at 5 w)) (ltb (at 9 w) (2 ^ 32))))
  where
    regroup : (a b m i z : Bool) → ((a && b) && (m && (i && z))) ≡ ((a && (b && (z && true))) && (m && i))
    regroup false b m i z = refl
    regroup true false m i z = refl
    regroup true true m i true = ap (λ (t : Bool). m && t) (and-true i)
    regroup true true m i false = ap (λ (t : Bool). m && t) (and-false i) ∙ and-false m

seq-above : (w : Row) → row_ok w ≡ true → 0 + 1 ≤ at 0 w
unfolding entry_of
seq-above w e = by-test (leb 1 (at 0 w)) (λ t. leb-true 1 (at 0 w) t) (λ t. absurd (false≢true (rw t at e)))

-- two tests of four rows, test by test or row by row
two-tests : (a b c d e f g h : Bool) → ((a && (b && (c && d))) && (e && (f && (g && h)))) ≡ ((a && e) && ((b && f) && ((c && g) && (d && h))))
two-tests a b c d e f g h =
    swap_inner a (b && (c && d)) e (f && (g && h))
    ∙ ap (λ (t : Bool). (a && e) && t) (swap_inner b (c && d) f (g && h) ∙ ap (λ (t : Bool). (b && f) && t) (swap_inner c d g h))

module _ (last : ℕ) (a b c d : Row) where
  abbrev four : (Row → Bool) → Bool
  four p = p a && (p b && (p c && p d))

  abbrev rise : Bool
  rise = ltb last (at 0 a) && (ltb (at 0 a) (at 0 b) && (ltb (at 0 b) (at 0 c) && ltb (at 0 c) (at 0 d)))

  -- and all four tests
  pub row-by-row : ((rise && four (λ w. is_mark (at 2 w))) && (four (λ w. is_int (at 5 w)) && four (λ w. ltb (at 9 w) (2 ^ 32))))
      ≡ (row_after last a && (row_after (at 0 a) b && (row_after (at 0 b) c && row_after (at 0 c) d)))
  row-by-row =
      ap₂ ◌&&◌
      (two-tests (ltb last (at 0 a)) (ltb (at 0 a) (at 0 b)) (ltb (at 0 b) (at 0 c)) (ltb (at 0 c) (at 0 d)) (is_mark (at 2 a)) (is_mark (at 2 b)) (is_mark (at 2 c)) (is_mark (at 2 d)))
      (two-tests (is_int (at 5 a)) (is_int (at 5 b)) (is_int (at 5 c)) (is_int (at 5 d)) (ltb (at 9 a) (2 ^ 32)) (ltb (at 9 b) (2 ^ 32)) (ltb (at 9 c) (2 ^ 32)) (ltb (at 9 d) (2 ^ 32)))
      ∙ two-tests (half last a) (half (at 0 a) b) (half (at 0 b) c) (half (at 0 c) d) (rest a) (rest b) (rest c) (rest d)
      ∙ ap₂ ◌&&◌ (joined last a) (ap₂ ◌&&◌ (joined (at 0 a) b) (ap₂ ◌&&◌ (joined (at 0 b) c) (joined (at 0 c) d)))
    where
      half : ℕ → Row → Bool
      half n w = ltb n (at 0 w) && is_mark (at 2 w)

      rest : Row → Bool
      rest w = is_int (at 5 w) && ltb (at 9 w) (2 ^ 32)

      joined : (n : ℕ) (w : Row) → (half n w && rest w) ≡ row_after n w
      joined n w = and_assoc (ltb n (at 0 w)) (is_mark (at 2 w)) (rest w)

-- ---- one row more

upward-le : (k : ℕ) (l : List ℕ) (n : ℕ) → upward k (l ++ n ∷ []) ≡ true → k ≤ n
upward-le k [] n e = leb-true k n (and_left (leb k n) true e)
upward-le k (x ∷ l) n e =
    omega (arith, leb-true k x (and_left (leb k x) (upward (suc x) (l ++ n ∷ [])) e), upward-le (suc x) l n (and_right (leb k x) (upward (suc x) (l ++ n ∷ [])) e))

sorted-cons : (least : ℕ) (w : Row) (l : List Row) → sorted_ok least (w ∷ l) ≡ ((row_ok w && leb least (at 0 w)) && sorted_ok (at 0 w + 1) l)
unfolding sorted_ok
sorted-cons least w l =
    rw add-one (swap_inner (row_ok w) (all row_ok l) (leb least (at 0 w)) (upward (suc (at 0 w)) (map (at 0) l)))

-- what is left of rows that rise, after one with the number last: the last of all is in range
abbrev pub climbs : ℕ → List Row → Bool
climbs last l = sorted_ok (last + 1) l && ltb last (2 ^ 63)

pub climb-first : (l : List Row) → climbs 0 l ≡ sorted_ok 0 l
unfolding sorted_ok
climb-first l = ap (λ (t : Bool). sorted_ok (0 + 1) l && t) (lt-ltb 0 (2 ^ 63) (omega arith)) ∙ and-true (sorted_ok (0 + 1) l) ∙ above_zero l
  where
    above_zero : (m : List Row) → sorted_ok (0 + 1) m ≡ sorted_ok 0 m
    above_zero [] = refl
    above_zero (w ∷ m) =
        sorted-cons (0 + 1) w m
        ∙ ap (λ (t : Bool). t && sorted_ok (at 0 w + 1) m) (by-test (row_ok w) (λ t. ap (λ (u : Bool). row_ok w && u) (le-leb (0 + 1) (at 0 w) (seq-above w t) ∙ sym (le-leb 0 (at 0 w) (omega arith)))) (λ t. rw t))
        ∙ sym (sorted-cons 0 w m)

pub climb-cons : (last : ℕ) (w : Row) (l : List Row) → RowForm w → climbs last (w ∷ l) ≡ (row_after last w && climbs (at 0 w) l)
climb-cons last w l f =
    let s : ℕ = at 0 w in
    let r : Bool = sorted_ok (s + 1) l in
    ap (λ (t : Bool). t && ltb last (2 ^ 63)) (sorted-cons (last + 1) w l ∙ ap (λ (t : Bool). (t && leb (last + 1) s) && r) f)
    ∙ by-test (ltb last s)
    (λ t.
    let h : last < s = ltb-true last s t in
    ap₂ (λ (x y : Bool). ((((x && ltb s (2 ^ 63)) && row_fits w) && y) && r) && ltb last (2 ^ 63)) (le-leb 1 s (omega arith)) (le-leb (last + 1) s (omega arith))
    ∙ mix (row_fits w) r (ltb s (2 ^ 63)) (ltb last (2 ^ 63)) (λ u. lt-ltb last (2 ^ 63) (omega (arith, ltb-true s (2 ^ 63) u)))
    ∙ sym (ap (λ (x : Bool). (x && row_fits w) && (r && ltb s (2 ^ 63))) t))
    (λ t.
    let h : s ≤ last = ltb-false last s t in
    ap (λ (y : Bool). ((((leb 1 s && ltb s (2 ^ 63)) && row_fits w) && y) && r) && ltb last (2 ^ 63)) (lt-leb (last + 1) s (omega arith))
    ∙ ap (λ (y : Bool). (y && r) && ltb last (2 ^ 63)) (and-false ((leb 1 s && ltb s (2 ^ 63)) && row_fits w))
    ∙ sym (ap (λ (x : Bool). (x && row_fits w) && (r && ltb s (2 ^ 63))) t))
  where
    mix : (e r b c : Bool) → (b ≡ true → c ≡ true) → ((((b && e) && true) && r) && c) ≡ (e && (r && b))
    mix true true true c g = g refl
    mix true false true c g = refl
    mix false r true c g = refl
    mix true true false c g = refl
    mix true false false c g = refl
    mix false r false c g = refl

flying-cons : (least count next freed : ℕ) (w : Row) (l : List Row)
    → flying_ok least count next freed (w ∷ l) ≡ ((flight_ok w && leb least (at 6 w)) && flying_ok (at 6 w + 1) (count + bool_byte (flag (at 7 w))) next freed l)
unfolding flying_ok
flying-cons least count next freed w l =
    let t : ℕ = tally (λ v. flag (at 7 v)) l in
    let u : Bool = upward (suc (at 6 w)) (map (at 6) l ++ next ∷ []) in
    let e : (whether flag (at 7 w) then 1 else 0) ≡ bool_byte (flag (at 7 w)) = sym (one (flag (at 7 w))) in
    let f : count + ((whether flag (at 7 w) then 1 else 0) + t) ≡ (count + bool_byte (flag (at 7 w))) + t = rw e (sym (add_assoc count (bool_byte (flag (at 7 w))) t)) in
    rw (add-one, f) (three (flight_ok w) (all flight_ok l) (leb least (at 6 w)) u (eqb freed ((count + bool_byte (flag (at 7 w))) + t)))
  where
    three : (a b c d f : Bool) → ((a && b) && ((c && d) && f)) ≡ ((a && c) && (b && (d && f)))
    three true true true d f = refl
    three true false true d f = refl
    three true true false d f = refl
    three true false false d f = refl
    three false b c d f = refl

flying-le : (least count next freed : ℕ) (l : List Row) → flying_ok least count next freed l ≡ true → least ≤ next
unfolding flying_ok
flying-le least count next freed l t =
    upward-le least (map (at 6) l) next
    (and_left (upward least (map (at 6) l ++ next ∷ [])) (eqb freed (count + tally (λ w. flag (at 7 w)) l))
    (and_right (all flight_ok l) (upward least (map (at 6) l ++ next ∷ []) && eqb freed (count + tally (λ w. flag (at 7 w)) l)) t))

-- ---- the loops

module _ (rows : List Row) (i to : ℕ) (k : to ≤ length rows) (total : Bool) where
  module _ (last : ℕ) (e : climbs last (slice i to rows) ≡ total) where
    climb-turn : i < to → RowForm (get_or rows i []) → (row_after last (get_or rows i []) && climbs (at 0 (get_or rows i [])) (slice (i + 1) to rows)) ≡ total
    climb-turn h f = sym (ap (climbs last) (part-turn rows i to [] h k) ∙ climb-cons last (get_or rows i []) (slice (i + 1) to rows) f) ∙ e

    pub climb-stop : i < to → RowForm (get_or rows i []) → row_after last (get_or rows i []) ≡ false → false ≡ total
    climb-stop h f q = sym (ap (λ (t : Bool). t && climbs (at 0 (get_or rows i [])) (slice (i + 1) to rows)) q) ∙ climb-turn h f

    pub climb-next : i < to → RowForm (get_or rows i []) → row_after last (get_or rows i []) ≡ true → climbs (at 0 (get_or rows i [])) (slice (i + 1) to rows) ≡ total
    climb-next h f q = sym (ap (λ (t : Bool). t && climbs (at 0 (get_or rows i [])) (slice (i + 1) to rows)) q) ∙ climb-turn h f

    pub climb-end : i ≡ to → ltb last (2 ^ 63) ≡ total
    unfolding sorted_ok
    climb-end q = sym (ap (climbs last) (part_end rows i to q)) ∙ e

  module _ (least count next freed : ℕ) (e : flying_ok least count next freed (slice i to rows) ≡ total) where
    flying-turn : i < to
        → ((flight_ok (get_or rows i []) && leb least (at 6 (get_or rows i [])))
        && flying_ok (at 6 (get_or rows i []) + 1) (count + bool_byte (flag (at 7 (get_or rows i [])))) next freed (slice (i + 1) to rows)) ≡ total
    flying-turn h = sym (ap (flying_ok least count next freed) (part-turn rows i to [] h k) ∙ flying-cons least count next freed (get_or rows i []) (slice (i + 1) to rows)) ∙ e

    pub flying-bad : i < to → flight_ok (get_or rows i []) ≡ false → false ≡ total
    flying-bad h q = rw q at (flying-turn h)

    pub flying-low : i < to → at 6 (get_or rows i []) < least → false ≡ total
    flying-low h q = rw (lt-leb least (at 6 (get_or rows i [])) q, and-false (flight_ok (get_or rows i []))) at (flying-turn h)

    pub flying-high : i < to → next ≤ at 6 (get_or rows i []) → false ≡ total
    flying-high h q = by-test total
        (λ t.
        let d : ℕ = at 6 (get_or rows i []) in
        let c : ℕ = count + bool_byte (flag (at 7 (get_or rows i []))) in
        let rest : flying_ok (d + 1) c next freed (slice (i + 1) to rows) ≡ true = and_right (flight_ok (get_or rows i []) && leb least d) (flying_ok (d + 1) c next freed (slice (i + 1) to rows)) (flying-turn h ∙ t) in
        absurd (omega (arith, flying-le (d + 1) c next freed (slice (i + 1) to rows) rest)))
        (λ t. sym t)

    pub flying-next : i < to → flight_ok (get_or rows i []) ≡ true → least ≤ at 6 (get_or rows i [])
        → flying_ok (at 6 (get_or rows i []) + 1) (count + bool_byte (flag (at 7 (get_or rows i [])))) next freed (slice (i + 1) to rows) ≡ total
    flying-next h q b = rw (q, le-leb least (at 6 (get_or rows i [])) b) at (flying-turn h)

    pub flying-end : i ≡ to → least ≤ next → eqb freed count ≡ total
    unfolding flying_ok
    flying-end q b =
        sym (ap (flying_ok least count next freed) (part_end rows i to q)
        ∙ ap₂ (λ (s : Bool) (n : ℕ). (s && true) && eqb freed n) (le-leb least next b) (add-zero count)) ∙ e

-- four rows a turn
module _ (rows : List Row) (i to : ℕ) (k : to ≤ length rows) (total : Bool) (last : ℕ) (e : climbs last (slice i to rows) ≡ total) (h : i + 4 ≤ to)
    (f : RowForm (get_or rows i []) × (RowForm (get_or rows (i + 1) []) × (RowForm (get_or rows (i + 2) []) × RowForm (get_or rows (i + 3) [])))) where
  abbrev four_follow : Bool
  four_follow =
      row_after last (get_or rows i [])
      && (row_after (at 0 (get_or rows i [])) (get_or rows (i + 1) [])
      && (row_after (at 0 (get_or rows (i + 1) [])) (get_or rows (i + 2) []) && row_after (at 0 (get_or rows (i + 2) [])) (get_or rows (i + 3) [])))

  four-turn : (four_follow && climbs (at 0 (get_or rows (i + 3) [])) (slice (i + 4) to rows)) ≡ total
  four-turn =
      sym (step i (i + 1) last refl (omega arith) f.0
      ∙ ap (λ (t : Bool). row_after last (get_or rows i []) && t) (step (i + 1) (i + 2) (at 0 (get_or rows i [])) (omega arith) (omega arith) f.1.0
      ∙ ap (λ (t : Bool). row_after (at 0 (get_or rows i [])) (get_or rows (i + 1) []) && t) (step (i + 2) (i + 3) (at 0 (get_or rows (i + 1) [])) (omega arith) (omega arith) f.1.1.0
      ∙ ap (λ (t : Bool). row_after (at 0 (get_or rows (i + 1) [])) (get_or rows (i + 2) []) && t) (step (i + 3) (i + 4) (at 0 (get_or rows (i + 2) [])) (omega arith) (omega arith) f.1.1.1)))
      ∙ group (row_after last (get_or rows i [])) (row_after (at 0 (get_or rows i [])) (get_or rows (i + 1) [])) (row_after (at 0 (get_or rows (i + 1) [])) (get_or rows (i + 2) []))
      (row_after (at 0 (get_or rows (i + 2) [])) (get_or rows (i + 3) [])) (climbs (at 0 (get_or rows (i + 3) [])) (slice (i + 4) to rows)))
      ∙ e
    where
      step : (j m l : ℕ) → j + 1 ≡ m → j < to → RowForm (get_or rows j []) → climbs l (slice j to rows) ≡ (row_after l (get_or rows j []) && climbs (at 0 (get_or rows j [])) (slice m to rows))
      step j m l q b g =
          ap (climbs l) (part-turn rows j to [] b k) ∙ climb-cons l (get_or rows j []) (slice (j + 1) to rows) g
          ∙ ap (λ (n : ℕ). row_after l (get_or rows j []) && climbs (at 0 (get_or rows j [])) (slice n to rows)) q

      group : (a b c d r : Bool) → (a && (b && (c && (d && r)))) ≡ ((a && (b && (c && d))) && r)
      group true true true d r = refl
      group true true false d r = refl
      group true false c d r = refl
      group false b c d r = refl

  pub four-stop : four_follow ≡ false → false ≡ total
  four-stop q = sym (ap (λ (t : Bool). t && climbs (at 0 (get_or rows (i + 3) [])) (slice (i + 4) to rows)) q) ∙ four-turn

  pub four-next : four_follow ≡ true → climbs (at 0 (get_or rows (i + 3) [])) (slice (i + 4) to rows) ≡ total
  four-next q = sym (ap (λ (t : Bool). t && climbs (at 0 (get_or rows (i + 3) [])) (slice (i + 4) to rows)) q) ∙ four-turn
