-- The blocks that leave, one after another. Assumes nothing.
use mathlib.Core.Path.{◌≡◌, refl, sym, ap, ap₂, ◌∙◌}
use mathlib.Core.Bool.{true, false, not}
use mathlib.Core.List.{List, [], ◌∷◌, ◌++◌, append-nil, map, map-append}
use Prim.Native.Nat.{ℕ, ◌+◌, ◌≤◌, ◌<◌, min}
use native.Mathlib.Numerals.{add-one}
use native.Mathlib.Omega.{arith}
use borrow.Author.Tests.{eq-eqb, ne_eqb, le-leb, lt-leb}
use lib.Dec.{eqb}
use lib.ListN.{length, take, get_or, set, length-append, length-take, take-append-drop}
use lib.Seq.{sets, slice, take-take}
use mir.Val.{bool_byte}
use Rattle.definition.specs.Base.{keep, member}
use Rattle.definition.specs.Words.{at}
use Rattle.definition.proofs.Tests.{if-true, if-false}
use Rattle.definition.proofs.Reorder.{keep-yes, keep-no, keep_append}
use Rattle.consumers.proofs.Lists.{first_ended}
use Rattle.subrows.proofs.Tests.{part-turn, part_end}
use Rattle.fates.specs.Blocks.{Block, block_of, went_as, comes}
use Rattle.report.specs.Report.{gone_from, leavers_of, leavers_put, all_leavers}
use Rattle.report.proofs.Filling.{sets-append, mark-word}

-- one put, of those that are left to put
pub put_one : (x y : Block) (r out g : List Block) (k : ℕ) → x ≡ y → sets out k (y ∷ r) ≡ g → sets (set out k x) (k + 1) r ≡ g
put_one x y r out g k e h = ap₂ (λ (z : Block) (a : ℕ). sets (set out k z) a r) e (add-one k) ∙ h

module _ (code : ℕ) (ws : List ℕ) (now : List Block) where
  one-stays : (b : Block) (l : List Block) → member (at 0 b) (map (at 0) now) ≡ true → leavers_of code ws now (b ∷ l) ≡ leavers_of code ws now l
  unfolding leavers_of
  one-stays b l e = ap (map (went_as code ws)) (keep-no (gone_from now) b l (ap not e))

  one-goes : (b : Block) (l : List Block) → member (at 0 b) (map (at 0) now) ≡ false → leavers_of code ws now (b ∷ l) ≡ went_as code ws b ∷ leavers_of code ws now l
  unfolding leavers_of
  one-goes b l e = ap (map (went_as code ws)) (keep-yes (gone_from now) b l (ap not e))

  none-goes : leavers_of code ws now [] ≡ []
  unfolding leavers_of
  none-goes = refl

  -- ---- a list, from block i on
  module _ (bs : List Block) (i n : ℕ) (b : n ≤ length bs) where
    pub stays : i < n → member (at 0 (get_or bs i [])) (map (at 0) now) ≡ true → leavers_of code ws now (slice i n bs) ≡ leavers_of code ws now (slice (i + 1) n bs)
    stays h e = ap (leavers_of code ws now) (part-turn bs i n [] h b) ∙ one-stays (get_or bs i []) (slice (i + 1) n bs) e

    pub goes : i < n → member (at 0 (get_or bs i [])) (map (at 0) now) ≡ false → leavers_of code ws now (slice i n bs) ≡ went_as code ws (get_or bs i []) ∷ leavers_of code ws now (slice (i + 1) n bs)
    goes h e = ap (leavers_of code ws now) (part-turn bs i n [] h b) ∙ one-goes (get_or bs i []) (slice (i + 1) n bs) e

    pub gone-through : i ≡ n → leavers_of code ws now (slice i n bs) ≡ []
    gone-through q = ap (leavers_of code ws now) (part_end bs i n q) ∙ none-goes

  -- ---- what an enqueue brings
  pub new_none : (code ≡ 1 → ⊥) → leavers_of code ws now (comes code ws) ≡ []
  new_none h = ap (leavers_of code ws now) (if-false _ [] (ne_eqb code 1 h)) ∙ none-goes

  new-one : code ≡ 1 → comes code ws ≡ block_of (at 0 ws) 0 (eqb (at 2 ws) 1) ∷ []
  new-one h = if-true _ [] (eq-eqb code 1 h)

  pub new-stays : code ≡ 1 → member (at 0 ws) (map (at 0) now) ≡ true → leavers_of code ws now (comes code ws) ≡ []
  new-stays h e = ap (leavers_of code ws now) (new-one h) ∙ one-stays (block_of (at 0 ws) 0 (eqb (at 2 ws) 1)) [] e ∙ none-goes

  pub new-goes : code ≡ 1 → member (at 0 ws) (map (at 0) now) ≡ false → (x : Block) → x ≡ went_as code ws (at 0 ws ∷ 0 ∷ bool_byte (eqb (at 2 ws) 1) ∷ []) → leavers_of code ws now (comes code ws) ≡ x ∷ []
  new-goes h e x q =
      ap (leavers_of code ws now) (new-one h)
      ∙ one-goes (block_of (at 0 ws) 0 (eqb (at 2 ws) 1)) [] e
      ∙ ap (λ (l : List Block). went_as code ws (block_of (at 0 ws) 0 (eqb (at 2 ws) 1)) ∷ l) none-goes
      ∙ ap (λ (y : Block). y ∷ []) (ap (λ (k : ℕ). went_as code ws (at 0 ws ∷ 0 ∷ k ∷ [])) (sym (mark-word (eqb (at 2 ws) 1))) ∙ sym q)

  -- ---- both
  module _ (bs : List Block) where
    pub opens-none : code ≡ 0 → all_leavers code ws now bs ≡ []
    unfolding all_leavers
    opens-none h = if-true [] _ (eq-eqb code 0 h)

    pub leaves-both : (code ≡ 0 → ⊥) → all_leavers code ws now bs ≡ leavers_of code ws now bs ++ leavers_of code ws now (comes code ws)
    unfolding all_leavers leavers_of
    leaves-both h =
        if-false [] _ (ne_eqb code 0 h)
        ∙ ap (map (went_as code ws)) (keep_append (gone_from now) bs (comes code ws))
        ∙ map-append (went_as code ws) (keep (gone_from now) bs) (keep (gone_from now) (comes code ws))

    module _ (o : code ≡ 0 → ⊥) (k r : ℕ) (p : k ≡ length (leavers_of code ws now bs)) (q : r ≡ k + length (leavers_of code ws now (comes code ws))) where
      pub both-many : r ≡ length (all_leavers code ws now bs)
      both-many = q ∙ ap (λ (x : ℕ). x + length (leavers_of code ws now (comes code ws))) p ∙ sym (ap length (leaves-both o) ∙ length-append (leavers_of code ws now bs) (leavers_of code ws now (comes code ws)))

      pub both-put : (out next last : List Block) → next ≡ sets out 0 (leavers_of code ws now bs) → last ≡ sets next k (leavers_of code ws now (comes code ws)) → last ≡ sets out 0 (all_leavers code ws now bs)
      both-put out next last e f =
          let z : k ≡ 0 + length (leavers_of code ws now bs) = omega (arith, p) in
          f ∙ ap₂ (λ (l : List Block) (j : ℕ). sets l j (leavers_of code ws now (comes code ws))) e z
          ∙ sym (ap (sets out 0) (leaves-both o) ∙ sets-append (leavers_of code ws now bs) (leavers_of code ws now (comes code ws)) out 0)

-- ---- with a place for each, or without

-- the first n are those that there are
first-there : (n : ℕ) (l : List Block) → take (min n (length l)) l ≡ take n l
first-there n l =
    let m = min n (length l) in
    sym (sym (take-append-drop m (take n l)) ∙ ap₂ (λ (x y : List Block). x ++ y) (take-take m n l (omega arith)) (first_ended m n l (omega arith)) ∙ append-nil (take m l))

module _ (code : ℕ) (ws : List ℕ) (now bs : List Block) (start room : ℕ) where
  pub without-room : room < start + length bs → leavers_put code ws now bs start room ≡ []
  unfolding leavers_put
  without-room h = if-false _ [] (lt-leb (start + length bs) room h)

  pub with-room : start + length bs ≤ room → leavers_put code ws now bs start room ≡ leavers_of code ws now bs
  unfolding leavers_put
  with-room h = if-true _ [] (le-leb (start + length bs) room h)

module _ (code : ℕ) (ws : List ℕ) (bs held left : List Block) (n m start : ℕ) where
  abbrev put : List Block
  put = leavers_put code ws (take m held) (take n bs) start (length left)

  abbrev Placed : ℕ → List Block → Type 0
  Placed r left' = (r ≡ start + length put) × ((r ≤ start + n) × (left' ≡ sets left start put))

  pub none-placed : length left < start + min n (length bs) → Placed start left
  none-placed h =
      let e = without-room code ws (take m held) (take n bs) start (length left) (omega (arith, h, length-take n bs)) in
      (omega (arith, ap length e), (omega arith, sym (ap (sets left start) e)))

  module _ (to among : ℕ) (p : to ≡ min n (length bs)) (q : among ≡ min m (length held)) where
    abbrev those : List Block
    those = leavers_of code ws (take among held) (take to bs)

    pub some-placed : start + to ≤ length left → (r : ℕ) (left' : List Block) → r ≡ start + length those → r ≤ start + to → left' ≡ sets left start those → Placed r left'
    some-placed h r left' c f l =
        let e : those ≡ put = ap₂ (leavers_of code ws) (ap (λ (k : ℕ). take k held) q ∙ first-there m held) (ap (λ (k : ℕ). take k bs) p ∙ first-there n bs)
        ∙ sym (with-room code ws (take m held) (take n bs) start (length left) (omega (arith, h, p, length-take n bs))) in
        (c ∙ ap (λ (v : List Block). start + length v) e, (omega (arith, f, p), l ∙ ap (sets left start) e))
