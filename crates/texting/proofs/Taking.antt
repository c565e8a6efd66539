-- The lines of a text one by one, and what is done with each. Assumes nothing.
use Rattle.std.specs.Prelude.{Option, is_some, true, false}
use Prim.Native.Nat.{ℕ, suc, ◌+◌, ◌-◌, ◌≤◌, ◌<◌}
use native.Mathlib.Omega.{arith}
use mathlib.Core.Path.{◌≡◌, refl, ap, sym, ◌∙◌}
use mathlib.Core.List.{List, [], ◌∷◌}
use borrow.Author.Tests.{eq-eqb, ne_eqb, le-leb, lt-leb}
use lib.Dec.{eqb, leb}
use lib.ListN.{length, replicate, take, drop, length-drop, drop_of_length-le}
use lib.Seq.{length-take-le, drop-drop}
use Rattle.words.proofs.Tests.{by-test}
use Rattle.stats.specs.Counted.{more}
use Rattle.textwords.specs.declared.Stop.TheVariants.{LineEnd}
use Rattle.textwords.specs.Text.{onto, run}
use Rattle.textwords.proofs.Words.{run-within}
use Rattle.callblocks.specs.Packed.{sealed}
use Rattle.calltext.specs.declared.Fault.{Fault}
use Rattle.calltext.specs.Lines.{Parsed, line_call}
use Rattle.texting.specs.declared.Filled.{Filled}
use Rattle.texting.specs.Lines.{lines_of, line_fault, is_bad}
use Rattle.texting.specs.Parts.{after_line, Filling, filling, with_parsed, count_parsed, fill_from, begun, ended, sealing, Fills, bad_at, bad_nowhere, first_bad}

-- ---- lines

-- the first line, and the others
pub first : (l : List ℕ) → 0 < length l → lines_of l ≡ take (run LineEnd l) l ∷ lines_of (drop (suc (run LineEnd l)) l)
unfolding lines_of run
first [] h = absurd (omega arith)
first (b ∷ []) h = by-test (eqb b 10) (λ t. rw t) (λ t. rw t)
first (b ∷ x ∷ bs) h = by-test (eqb b 10) (λ t. rw t) (λ t. rw t (ap (onto b) (first (x ∷ bs) (omega arith))))

-- a line that a scan ended
pub record Taken (t : List ℕ) (at e : ℕ) : Type 0 where
  pub more : at ≤ e
  pub within : e ≤ length t
  pub lines : lines_of (drop at t) ≡ take (e - at) (drop at t) ∷ lines_of (drop (e + 1) t)
  pub next : after_line at (take (e - at) (drop at t)) ≡ e + 1

pub taken : (t : List ℕ) (at e : ℕ) → at < length t → e ≡ at + run LineEnd (drop at t) → Taken t at e
taken t at e h s =
    let r = run LineEnd (drop at t) in
    let d : e - at ≡ r = omega arith in
    let w : r ≤ length (drop at t) = run-within LineEnd (drop at t) in
    let n : at + suc r ≡ e + 1 = omega arith in
    let f : drop (suc r) (drop at t) ≡ drop (e + 1) t = drop-drop (suc r) at t ∙ ap (λ (m : ℕ). drop m t) n in
    let k : length (take r (drop at t)) ≡ r = length-take-le r (drop at t) w in
    record {
      more = omega arith;
      within = omega (arith, length-drop at t);
      lines = rw (d, sym f) (first (drop at t) (omega (arith, length-drop at t)));
      next = rw (d, k) n;
    }

pub lines_end : (t : List ℕ) (at : ℕ) → length t ≤ at → lines_of (drop at t) ≡ []
unfolding lines_of
lines_end t at h = rw (drop_of_length-le t h)

-- ---- into a block

module _ (k : ℕ) (block : List ℕ) where
  pub begun-empty : k ≡ 0 → replicate (length block) 0 ≡ begun k block
  begun-empty e = rw (eq-eqb k 0 e)

  pub begun-open : (k ≡ 0 → ⊥) → block ≡ begun k block
  begun-open e = rw (ne_eqb k 0 e)

  pub ended-full : k ≡ 7 → sealed 7 block ≡ ended k block
  ended-full e = rw (eq-eqb k 7 e)

  pub ended-open : (k ≡ 7 → ⊥) → block ≡ ended k block
  ended-open e = rw (ne_eqb k 7 e)

module _ (block : List ℕ) (k at : ℕ) where
  pub fill_none : fill_from block k at [] ≡ filling block k at []
  unfolding fill_from
  fill_none = refl

  module _ (l : List ℕ) (ls : List (List ℕ)) where
    pub fill-full : 6 < k → fill_from block k at (l ∷ ls) ≡ filling block k at (l ∷ ls)
    unfolding fill_from
    fill-full h = rw (le-leb 7 k (omega arith))

    pub fill-line : k ≤ 6 → fill_from block k at (l ∷ ls) ≡ fill_from (with_parsed k (line_call l) block) (count_parsed k (line_call l)) (after_line at l) ls
    unfolding fill_from
    fill-line h = rw (lt-leb 7 k (omega arith))

-- at a place in a text
module _ (block : List ℕ) (k at : ℕ) (t : List ℕ) where
  pub fill-stopped : at < length t → 6 < k → filling block k at (lines_of (drop at t)) ≡ fill_from block k at (lines_of (drop at t))
  fill-stopped h g = let w = taken t at (at + run LineEnd (drop at t)) h refl in rw w.lines (sym (fill-full block k at _ _ g))

  pub fill-passed :
      {e k' : ℕ} {p : Parsed} {block' : List ℕ}
      → Taken t at e
      → k ≤ 6
      → p ≡ line_call (take (e - at) (drop at t))
      → k' ≡ count_parsed k p
      → block' ≡ with_parsed k p block
      → fill_from block' k' (e + 1) (lines_of (drop (e + 1) t)) ≡ fill_from block k at (lines_of (drop at t))
  fill-passed {e} {k'} {p} {block'} w h q x y =
      let l = take (e - at) (drop at t) in
      let ls = lines_of (drop (e + 1) t) in
      let b : block' ≡ with_parsed k (line_call l) block = y ∙ ap (λ (q : Parsed). with_parsed k q block) q in
      let m : k' ≡ count_parsed k (line_call l) = x ∙ ap (count_parsed k) q in
      rw w.lines ((λ i. fill_from (b i) (m i) (sym w.next i) ls) ∙ sym (fill-line block k at l ls h))

-- an answer and a block that are a filling's
pub fills : {block : List ℕ} {k at : ℕ} {ls : List (List ℕ)} {f : Filling} → filling block k at ls ≡ f → Fills f (record { count = k; at = at }) block
fills e = record { count = ap (λ (f : Filling). f.count) e; at = ap (λ (f : Filling). f.at) e; block = ap (λ (f : Filling). f.block) e }

-- sealed where it is full
pub sealed-fills : {f : Filling} {r : Filled} {block block' : List ℕ} → Fills f r block → block' ≡ ended r.count block → Fills (sealing f) r block'
sealed-fills x e = record { count = x.count; at = x.at; block = e ∙ (λ i. ended (x.count i) (x.block i)) }

-- ---- bad lines

module _ (n at : ℕ) where
  pub bad-none : first_bad n at [] ≡ bad_nowhere n at
  unfolding first_bad
  bad-none = refl

  module _ (l : List ℕ) (ls : List (List ℕ)) where
    pub bad-here : is_bad l ≡ true → first_bad n at (l ∷ ls) ≡ bad_at (line_fault l) n at l
    unfolding first_bad
    bad-here e = rw e

    pub bad-later : is_bad l ≡ false → first_bad n at (l ∷ ls) ≡ first_bad (more n) (after_line at l) ls
    unfolding first_bad
    bad-later e = rw e

module _ (n at : ℕ) (t : List ℕ) {e : ℕ} (w : Taken t at e) where
  pub bad-found : (f : Option Fault) → f ≡ line_fault (take (e - at) (drop at t)) → is_some f ≡ true → record { fault = f; line = n; from = at; to = e; at = e + 1 } ≡ first_bad n at (lines_of (drop at t))
  bad-found f h b =
      let l = take (e - at) (drop at t) in
      let end : at + length l ≡ e = omega (arith, w.next) in
      let g : record { fault = f; line = n; from = at; to = e; at = e + 1 } ≡ bad_at (line_fault l) n at l =
      λ i. record { fault = h i; line = n; from = at; to = sym end i; at = sym w.next i } in
      rw w.lines (g ∙ sym (bad-here n at l (lines_of (drop (e + 1) t)) (sym (ap is_some h) ∙ b)))

  pub bad-passed : (f : Option Fault) → f ≡ line_fault (take (e - at) (drop at t)) → is_some f ≡ false → first_bad (more n) (e + 1) (lines_of (drop (e + 1) t)) ≡ first_bad n at (lines_of (drop at t))
  bad-passed f h b =
      let l = take (e - at) (drop at t) in
      let ls = lines_of (drop (e + 1) t) in
      rw w.lines (ap (λ (m : ℕ). first_bad (more n) m ls) (sym w.next) ∙ sym (bad-later n at l ls (sym (ap is_some h) ∙ b)))

-- ---- each call takes at least a line

bad-forward : (n at : ℕ) (ls : List (List ℕ)) → at ≤ (first_bad n at ls).at
unfolding first_bad
bad-forward n at [] = omega arith
bad-forward n at (l ∷ ls) = by-test (is_bad l) (λ t. rw t (omega arith)) (λ t. rw t (omega (arith, bad-forward (more n) (after_line at l) ls)))

bad-over : (n at : ℕ) (l : List ℕ) (ls : List (List ℕ)) → at < (first_bad n at (l ∷ ls)).at
unfolding first_bad
bad-over n at l ls = by-test (is_bad l) (λ t. rw t (omega arith)) (λ t. rw t (omega (arith, bad-forward (more n) (after_line at l) ls)))

pub bad-farther : (n at : ℕ) (t : List ℕ) → at < length t → at < (first_bad n at (lines_of (drop at t))).at
bad-farther n at t h = let w = taken t at (at + run LineEnd (drop at t)) h refl in rw w.lines (bad-over n at _ _)

fill-forward : (block : List ℕ) (k at : ℕ) (ls : List (List ℕ)) → at ≤ (fill_from block k at ls).at
unfolding fill_from
fill-forward block k at [] = omega arith
fill-forward block k at (l ∷ ls) = by-test (leb 7 k) (λ t. rw t (omega arith)) (λ t. rw t (omega (arith, fill-forward (with_parsed k (line_call l) block) (count_parsed k (line_call l)) (after_line at l) ls)))

fill-over : (block : List ℕ) (k at : ℕ) (l : List ℕ) (ls : List (List ℕ)) → k ≤ 6 → at < (fill_from block k at (l ∷ ls)).at
fill-over block k at l ls h = rw (fill-line block k at l ls h) (omega (arith, fill-forward (with_parsed k (line_call l) block) (count_parsed k (line_call l)) (after_line at l) ls))

pub fill-farther : (block : List ℕ) (k at : ℕ) (t : List ℕ) → k ≤ 6 → at < length t → at < (fill_from block k at (lines_of (drop at t))).at
fill-farther block k at t g h = let w = taken t at (at + run LineEnd (drop at t)) h refl in rw w.lines (fill-over block k at _ _ g)
