-- Parts of a line put one after the other. Assumes nothing.
use Prim.Native.Nat.{ℕ, suc, ◌+◌, ◌≤◌}
use native.Mathlib.Nat.{add-zero, add-suc, suc-add, add_assoc}
use native.Mathlib.Omega.{arith}
use mathlib.Core.Path.{◌≡◌, refl, sym, ap, ◌∙◌}
use mathlib.Core.Bool.{true, false}
use mathlib.Core.List.{List, [], ◌∷◌, ◌++◌, append_assoc}
use borrow.Author.Tests.{leb-true, le-leb}
use lib.ListN.{length, take, drop, set, length-append, take-append-drop}
use lib.Seq.{sets, sets-eq, length-sets}
use borrow.Rule.Slice.PartMut.{put_mid}
use Rattle.std.proofs.lemmas.List.{drop-drop}
use Rattle.words.proofs.Tests.{by-test}
use Rattle.callfile.specs.Placed.{Puts, PutLine, line_room, line_placed, place_after}

sets-append : (p q l : List ℕ) (i : ℕ) → sets l i (p ++ q) ≡ sets (sets l i p) (i + length p) q
sets-append [] q l i = ap (λ (k : ℕ). sets l k q) (sym (add-zero i))
sets-append (a ∷ p) q l i =
    let e : suc i + length p ≡ i + suc (length p) = suc-add i (length p) ∙ sym (add-suc i (length p)) in
    sets-append p q (set l i a) (suc i) ∙ ap (λ (k : ℕ). sets (sets (set l i a) (suc i) p) k q) e

pub then : {p q : List ℕ} {at m r : ℕ} {l l₁ l₂ : List ℕ} → Puts p at l m l₁ → Puts q m l₁ r l₂ → Puts (p ++ q) at l r l₂
then {p} {q} {at} {m} {r} {l} {l₁} {l₂} x y = record {
  text = y.text ∙ (λ i. sets (x.text i) (x.next i) q) ∙ sym (sets-append p q l at);
  next = y.next ∙ ap (λ (k : ℕ). k + length q) x.next ∙ add_assoc at (length p) (length q) ∙ ap (λ (k : ℕ). at + k) (sym (length-append p q));
  same = y.same ∙ x.same;
}

-- a part copied into its place
pub copied : (part now out : List ℕ) (at k : ℕ) → now ≡ part → k ≡ length part → at + length part ≤ length out → Puts part at out (at + length part) (put_mid at k out now)
copied part now out at k same e h =
    let t : put_mid at k out now ≡ sets out at part =
    ap (λ (l : List ℕ). take at out ++ (l ++ drop k (drop at out))) same
    ∙ ap (λ (l : List ℕ). take at out ++ (part ++ l)) (drop-drop k at out ∙ ap (λ (n : ℕ). drop (at + n) out) e)
    ∙ sym (sets-eq part out at h ∙ append_assoc (take at out) part (drop (at + length part) out)) in
    record { text = t; next = refl; same = ap length t ∙ length-sets out at part }

-- no part
pub none-put : (at : ℕ) (l : List ℕ) → Puts [] at l at l
none-put at l = record { text = refl; next = sym (add-zero at); same = refl }

pub nothing : (at : ℕ) (l : List ℕ) → Puts [] at l at l × (at ≤ at + 128)
nothing at l = (none-put at l, omega arith)

-- ---- a whole line

module _ {most : ℕ} where
  pub whole-line : {line l l' : List ℕ} {at r : ℕ} → line_room most at l ≡ true → Puts line at l r l' × (r ≤ at + most) → PutLine most line at l r l'
  unfolding line_placed place_after
  whole-line {line} {l} {l'} {at} {r} t p =
      let k : at + length line ≤ length l = omega (arith, p.0.next, p.1, leb-true (at + most) (length l) t) in
      record { text = rw t (p.0.text ∙ sets-eq line l at k ∙ append_assoc (take at l) line (drop (at + length line) l)); next = rw t p.0.next }

  pub no_room : (line l : List ℕ) (at : ℕ) → line_room most at l ≡ false → PutLine most line at l at l
  unfolding line_placed place_after
  no_room line l at t = record { text = rw t; next = rw t }

  -- one that had room was put
  pub line-puts : {line l l' : List ℕ} {at r : ℕ} → at + most ≤ length l → length line ≤ most → PutLine most line at l r l' → Puts line at l r l'
  unfolding line_placed place_after
  line-puts {line} {l} {l'} {at} {r} h k p =
      let t : line_room most at l ≡ true = le-leb (at + most) (length l) h in
      let n : at + length line ≤ length l = omega arith in
      let e : l' ≡ sets l at line = rw t at p.text ∙ sym (sets-eq line l at n ∙ append_assoc (take at l) line (drop (at + length line) l)) in
      record { text = e; next = rw t at p.next; same = ap length e ∙ length-sets l at line }

  -- no line
  pub blank : (at : ℕ) (l : List ℕ) → PutLine most [] at l at l
  unfolding line_placed place_after
  blank at l = by-test (line_room most at l)
      (λ t. record { text = rw t (sym (ap (λ (k : ℕ). take at l ++ drop k l) (add-zero at) ∙ take-append-drop at l)); next = rw t (sym (add-zero at)) })
      (λ t. no_room [] l at t)
