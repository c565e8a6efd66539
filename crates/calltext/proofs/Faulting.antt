-- The word at fault of a line, and where it stands. Assumes nothing.
use Rattle.std.proofs.Common.{Option, Some, None, is_some}
use Prim.Native.Nat.{ℕ, zero, suc, ◌+◌, ◌-◌, ◌≤◌, ◌<◌}
use native.Mathlib.Omega.{arith}
use mathlib.Core.Path.{◌≡◌, refl, ap, sym, ◌∙◌}
use mathlib.Core.Bool.{true, false}
use mathlib.Core.List.{List, [], ◌∷◌}
use borrow.Author.Tests.{eq-eqb, ne_eqb, le-leb, lt-leb}
use lib.ListN.{length, take, drop, length-drop}
use lib.Seq.{take-take, length-take-le}
use Rattle.textwords.specs.declared.Stop.TheVariants.{Blank, Word, Remark}
use Rattle.textwords.specs.Text.{run, words_of}
use Rattle.textwords.specs.Numbers.{number_of}
use Rattle.textwords.proofs.Words.{run-within, to_word, at-word, word-within, passed, no_words}
use Rattle.calltext.specs.declared.Part.{Part}
use Rattle.calltext.specs.Names.{name_place}
use Rattle.calltext.specs.Lines.{at_sign, destination_of}
use Rattle.calltext.specs.Faults.{is_number, fault_among, fault_named, fault_after, fault_in, fault_word, FaultAt, WordAt}
use Rattle.calltext.proofs.Gathering.{remark-part}

pub number-some : (n : Option ℕ) → is_some n ≡ is_number n
number-some None = refl
number-some (Some v) = refl

-- ---- which word

module _ (n : ℕ) where
  pub among_none : fault_among n [] ≡ []
  unfolding fault_among
  among_none = refl

  module _ (w : List ℕ) (ws : List (List ℕ)) where
    pub among-many : 8 < n → fault_among n (w ∷ ws) ≡ w
    unfolding fault_among
    among-many h = rw (le-leb 9 n (omega arith))

    pub among-here : n ≤ 8 → is_number (number_of w) ≡ false → fault_among n (w ∷ ws) ≡ w
    unfolding fault_among
    among-here h e = rw (lt-leb 9 n (omega arith), e)

    pub among_later : n ≤ 8 → is_number (number_of w) ≡ true → fault_among n (w ∷ ws) ≡ fault_among (n + 1) ws
    unfolding fault_among
    among_later h e = rw (lt-leb 9 n (omega arith), e)

pub in-none : fault_in [] ≡ []
unfolding fault_in
in-none = refl

module _ (w : List ℕ) (ws : List (List ℕ)) where
  pub in-name : 17 < name_place w → fault_named w ws ≡ w
  unfolding fault_named
  in-name h = let n : name_place w ≡ 17 → ⊥ = λ e. omega arith in rw (lt-leb (name_place w) 16 (omega arith), ne_eqb (name_place w) 17 n)

  pub in-raw : name_place w ≡ 17 → fault_named w ws ≡ fault_among 0 ws
  unfolding fault_named
  in-raw e = rw (lt-leb (name_place w) 16 (omega arith), eq-eqb (name_place w) 17 e)

  pub in_code : name_place w ≤ 16 → fault_named w ws ≡ fault_among 1 ws
  unfolding fault_named
  in_code h = rw (le-leb (name_place w) 16 h)

  pub in-plain : at_sign w ≡ false → fault_in (w ∷ ws) ≡ fault_named w ws
  unfolding fault_in
  in-plain t = rw t

  pub in-destination : at_sign w ≡ true → is_number (destination_of w) ≡ false → fault_in (w ∷ ws) ≡ w
  unfolding fault_in
  in-destination t e = rw (t, e)

  pub in-placed : at_sign w ≡ true → is_number (destination_of w) ≡ true → fault_in (w ∷ ws) ≡ fault_after w ws
  unfolding fault_in
  in-placed t e = rw (t, e)

-- after a destination's number
module _ (d : List ℕ) where
  pub after_none : fault_after d [] ≡ d
  unfolding fault_after
  after_none = refl

  module _ (w : List ℕ) (ws : List (List ℕ)) where
    pub after-raw : name_place w ≡ 17 → fault_after d (w ∷ ws) ≡ d
    unfolding fault_after
    after-raw e = rw (eq-eqb (name_place w) 17 e)

    pub after-name : (name_place w ≡ 17 → ⊥) → fault_after d (w ∷ ws) ≡ fault_named w ws
    unfolding fault_after
    after-name n = rw (ne_eqb (name_place w) 17 n)

-- ---- where it stands

pub stands : {t w : List ℕ} (from to : ℕ) → from ≤ to → to ≤ length t → take (to - from) (drop from t) ≡ w → FaultAt w t (record { from = from; to = to })
stands from to h k e = record { order = h; within = k; bytes = e }

pub stands-not : (t : List ℕ) (at : ℕ) → at ≤ length t → FaultAt [] t (record { from = at; to = at })
stands-not t at h = let z : at - at ≡ 0 = omega arith in record { order = omega arith; within = h; bytes = rw z }

pub also : {t v w : List ℕ} {r : Part} → FaultAt v t r → v ≡ w → FaultAt w t r
also f e = record { order = f.order; within = f.within; bytes = f.bytes ∙ e }

-- where two scans find the next word
pub word-at : (t : List ℕ) (from at to : ℕ) → from ≤ length t → at ≡ from + run Word (drop from t) → to ≡ at + run Blank (drop at t) → WordAt from t (record { from = at; to = to })
word-at t from at to h e f =
    let k : at ≤ length t = word-within t from at h e in
    let w : words_of (drop from t) ≡ words_of (drop at t) = to_word t from at h e in
    record {
      order = omega arith;
      within = omega (arith, run-within Blank (drop at t), length-drop at t);
      none = λ z. w ∙ no_words t at (omega arith);
      some = λ n. w ∙ (passed t at to (omega arith) (at-word t from at h e) f).words;
    }

-- a part of a list's first places is one of the list
part-within : (f k e : ℕ) (l : List ℕ) → f + k ≤ e → take k (drop f (take e l)) ≡ take k (drop f l)
part-within zero k e l h = take-take k e l (omega arith)
part-within (suc f) k zero l h = absurd (omega arith)
part-within (suc f) k (suc e) [] h = refl
part-within (suc f) k (suc e) (x ∷ xs) h = part-within f k e xs (omega arith)

-- in the part of a line before its remark, so in the line
pub in-line : (l : List ℕ) (e : ℕ) (r : Part) → e ≡ 0 + run Remark (drop 0 l) → FaultAt (fault_in (words_of (take (e - 0) (drop 0 l)))) (take (e - 0) (drop 0 l)) r → FaultAt (fault_word l) l r
unfolding fault_word
in-line l e r h f =
    let z : e - 0 ≡ e = omega arith in
    let k : e ≤ length l = omega (arith, run-within Remark l) in
    let b : r.to ≤ e = omega (arith, rw z at f.within, length-take-le e l k) in
    let n = r.to - r.from in
    let same : take n (drop r.from (take e l)) ≡ take n (drop r.from l) = part-within r.from n e l (omega (arith, f.order)) in
    record {
      order = f.order;
      within = omega arith;
      bytes = sym same ∙ rw z at f.bytes ∙ ap (λ (t : List ℕ). fault_in (words_of t)) (rw z at (remark-part l e h));
    }
