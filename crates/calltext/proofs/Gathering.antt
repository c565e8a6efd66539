-- The words of a line, one by one. Assumes nothing.
use Rattle.std.proofs.Common.{Option, Some, None}
use Rattle.std.specs.Prelude.{Ok, Err}
use Prim.Native.Nat.{ℕ, ◌+◌, ◌-◌, ◌*◌, ◌≤◌, ◌<◌, ◌^◌}
use native.Mathlib.Omega.{arith}
use mathlib.Core.Path.{◌≡◌, refl, ap}
use mathlib.Core.Bool.{true, false}
use mathlib.Core.List.{List, [], ◌∷◌}
use borrow.Author.Tests.{eq-eqb, ne_eqb, le-leb, lt-leb, lt-ltb, le-ltb, ltb-true}
use lib.Dec.{ltb}
use lib.ListN.{length, take, drop, set, replicate, length-drop}
use lib.Seq.{take_all}
use Rattle.words.proofs.Tests.{by-test}
use Rattle.textwords.specs.declared.Stop.TheVariants.{Remark}
use Rattle.textwords.specs.Text.{run, plain, words_of}
use Rattle.textwords.specs.Numbers.{number_of}
use Rattle.calltext.specs.declared.Fault.TheVariants.{UnknownCall, NotANumber, TooManyArguments, NotADestination, NoName}
use Rattle.calltext.specs.Names.{name_place}
use Rattle.calltext.specs.Lines.{call_of, gather_call, at_sign, small_number, destination_of, named_call, call_for, call_in, line_call}

module _ (n : ℕ) (nine : List ℕ) where
  pub gathered : gather_call n nine [] ≡ Ok (Some (call_of nine))
  unfolding gather_call
  gathered = refl

  module _ (w : List ℕ) (ws : List (List ℕ)) where
    pub too_many : n ≡ 9 → gather_call n nine (w ∷ ws) ≡ Err TooManyArguments
    unfolding gather_call
    too_many e = rw (eq-eqb n 9 e)

    pub no_number : (n ≡ 9 → ⊥) → number_of w ≡ None → gather_call n nine (w ∷ ws) ≡ Err NotANumber
    unfolding gather_call
    no_number h e = rw (ne_eqb n 9 h, e)

    pub one_number : (n ≡ 9 → ⊥) → (v : ℕ) → number_of w ≡ Some v → gather_call n nine (w ∷ ws) ≡ gather_call (n + 1) (set nine n v) ws
    unfolding gather_call
    one_number h v e = rw (ne_eqb n 9 h, e)

module _ (d place : ℕ) (ws : List (List ℕ)) where
  pub by_code : place < 17 → named_call d place ws ≡ gather_call 1 (set (replicate 9 0) 0 (place + 256 * d)) ws
  unfolding named_call
  by_code h = rw (le-leb place 16 (omega arith))

  pub by-raw : place ≡ 17 → named_call d place ws ≡ gather_call 0 (replicate 9 0) ws
  unfolding named_call
  by-raw e = rw (lt-leb place 16 (omega arith), eq-eqb place 17 e)

  pub unknown : 17 < place → named_call d place ws ≡ Err UnknownCall
  unfolding named_call
  unknown h = let n : place ≡ 17 → ⊥ = λ e. omega arith in rw (lt-leb place 16 (omega arith), ne_eqb place 17 n)

-- ---- a destination

pub small : (v : ℕ) → v < 2 ^ 56 → small_number (Some v) ≡ Some v
unfolding small_number
small v h = rw (lt-ltb v (2 ^ 56) h)

pub large : (v : ℕ) → 2 ^ 56 ≤ v → small_number (Some v) ≡ None
unfolding small_number
large v h = rw (le-ltb v (2 ^ 56) h)

pub none-small : small_number None ≡ None
unfolding small_number
none-small = refl

-- a number that is one leaves room for the code
small-value : (n : Option ℕ) (v : ℕ) → small_number n ≡ Some v → v < 2 ^ 56
unfolding small_number
small-value None v e = let z : ◌≡◌ {A = ℕ} 0 1 = cc in absurd (omega arith)
small-value (Some u) v e = by-test (ltb u (2 ^ 56))
    (λ t. let f : Some u ≡ Some v = rw t at e in let g : u ≡ v = cc in omega (arith, ltb-true u (2 ^ 56) t))
    (λ t. let f : None ≡ Some v = rw t at e in let z : ◌≡◌ {A = ℕ} 0 1 = cc in absurd (omega arith))

pub destination-low : (w : List ℕ) (v : ℕ) → destination_of w ≡ Some v → v < 2 ^ 56
unfolding destination_of
destination-low w v e = small-value (number_of (drop 1 w)) v e

pub number-after : (w : List ℕ) → small_number (number_of (drop 1 w)) ≡ destination_of w
unfolding destination_of
number-after w = refl

pub after-sign : (w : List ℕ) → take (length w - 1) (drop 1 w) ≡ drop 1 w
after-sign w = take_all (length w - 1) (drop 1 w) (omega (arith, length-drop 1 w))

pub no_bytes : (w : List ℕ) → length w ≡ 0 → (None ≡ destination_of w) × (false ≡ at_sign w)
unfolding destination_of small_number number_of
no_bytes [] h = (refl, refl)
no_bytes (b ∷ w) h = absurd (omega arith)

module _ (d : ℕ) where
  pub for-none : call_for d [] ≡ Err NoName
  unfolding call_for
  for-none = refl

  module _ (w : List ℕ) (ws : List (List ℕ)) where
    pub for-raw : name_place w ≡ 17 → call_for d (w ∷ ws) ≡ Err NoName
    unfolding call_for
    for-raw e = rw (eq-eqb (name_place w) 17 e)

    pub for-name : (name_place w ≡ 17 → ⊥) → call_for d (w ∷ ws) ≡ named_call d (name_place w) ws
    unfolding call_for
    for-name n = rw (ne_eqb (name_place w) 17 n)

pub no_call : call_in [] ≡ Ok None
unfolding call_in
no_call = refl

module _ (w : List ℕ) (ws : List (List ℕ)) where
  pub one-call : at_sign w ≡ false → call_in (w ∷ ws) ≡ named_call 0 (name_place w) ws
  unfolding call_in
  one-call t = rw t

  pub placed-call : at_sign w ≡ true → (d : ℕ) → destination_of w ≡ Some d → call_in (w ∷ ws) ≡ call_for d ws
  unfolding call_in
  placed-call t d e = rw (t, e)

  pub no-destination : at_sign w ≡ true → destination_of w ≡ None → call_in (w ∷ ws) ≡ Err NotADestination
  unfolding call_in
  no-destination t e = rw (t, e)

-- the part of a line before its remark
pub remark-part : (l : List ℕ) (e : ℕ) → e ≡ 0 + run Remark (drop 0 l) → take (e - 0) (drop 0 l) ≡ plain l
unfolding plain
remark-part l e h = let k : e - 0 ≡ run Remark l = omega arith in rw k

pub parsed-part : (l : List ℕ) (e : ℕ) → e ≡ 0 + run Remark (drop 0 l) → call_in (words_of (take (e - 0) (drop 0 l))) ≡ line_call l
unfolding line_call
parsed-part l e h = ap (λ (t : List ℕ). call_in (words_of t)) (remark-part l e h)
