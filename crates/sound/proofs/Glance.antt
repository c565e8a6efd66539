-- Numbers whose remainders are marked in a table, each once: they are different. Assumes nothing.
use mathlib.Core.Path.{◌≡◌, refl, sym, ap, ◌∙◌}
use mathlib.Core.Bool.{Bool, true, false, not, ◌&&◌, ◌||◌, true≢false}
use mathlib.Core.List.{List, [], ◌∷◌, ◌++◌, append_assoc, append-nil}
use Prim.Native.Nat.{ℕ, ◌+◌, ◌%◌, ◌≤◌, ◌<◌}
use native.Mathlib.Omega.{arith}
use borrow.Author.Tests.{eqb-true}
use lib.Dec.{eqb}
use lib.ListN.{length, take, drop, get_or, set}
use lib.Seq.{slice, get_or-set_same}
use Rattle.words.proofs.Tests.{by-test}
use Rattle.definition.specs.Base.{all, member, distinct, ascending}
use Rattle.definition.specs.Words.{at}
use Rattle.definition.specs.Layout.{Row}
use Rattle.definition.proofs.Tests.{and_left, and_right, and_both}
use Rattle.definition.proofs.Lists.{all-joined}
use Rattle.distinct.proofs.Laws.{apart, distinct_snoc, mark-kept}
use Rattle.subrows.specs.Subrows.{seqs_at}
use Rattle.sound.specs.Sound.{slots_marked, marked_apart, Met}
use Rattle.sound.proofs.Rising.{waiting-apart}
use Rattle.sound.proofs.Gathered.{words-more}

module _ (slots : List Bool) (w : List ℕ) where
  -- a number whose remainder is not marked was not met
  new-number : (x : ℕ) (l : List ℕ) → all (slots_marked slots w) l ≡ true → get_or slots (x % 256) false ≡ false → member x l ≡ false
  new-number x [] e f = refl
  new-number x (y ∷ l) e f = by-test (eqb x y)
      (λ t.
      let m = and_left (get_or slots (y % 256) false) (not (member y w)) (and_left (slots_marked slots w y) (all (slots_marked slots w) l) e) in
      absurd (true≢false (sym m ∙ sym (ap (λ (z : ℕ). get_or slots (z % 256) false) (eqb-true x y t)) ∙ f)))
      (λ t. ap (λ (b : Bool). b || member x l) t ∙ new-number x l (and_right (slots_marked slots w y) (all (slots_marked slots w) l) e) f)

  still_marked : (j : ℕ) (l : List ℕ) → all (slots_marked slots w) l ≡ true → all (slots_marked (set slots j true) w) l ≡ true
  still_marked j [] e = refl
  still_marked j (y ∷ l) e =
      let m = and_left (slots_marked slots w y) (all (slots_marked slots w) l) e in
      and_both (slots_marked (set slots j true) w y) (all (slots_marked (set slots j true) w) l)
      (and_both (get_or (set slots j true) (y % 256) false) (not (member y w)) (mark-kept slots j (y % 256) (and_left (get_or slots (y % 256) false) (not (member y w)) m)) (and_right (get_or slots (y % 256) false) (not (member y w)) m))
      (still_marked j l (and_right (slots_marked slots w y) (all (slots_marked slots w) l) e))

  one_more : (x : ℕ) (l : List ℕ) → x % 256 < length slots → marked_apart slots w l ≡ true → get_or slots (x % 256) false ≡ false → member x w ≡ false
      → marked_apart (set slots (x % 256) true) w (l ++ x ∷ []) ≡ true
  one_more x l h e f m =
      let s : List Bool = set slots (x % 256) true in
      let each = and_left (all (slots_marked slots w) l) (distinct l) e in
      let here : slots_marked s w x ≡ true = and_both (get_or s (x % 256) false) (not (member x w)) (get_or-set_same slots (x % 256) true false h) (ap not m) in
      and_both (all (slots_marked s w) (l ++ x ∷ [])) (distinct (l ++ x ∷ []))
      (all-joined (slots_marked s w) l (x ∷ []) ∙ and_both (all (slots_marked s w) l) (slots_marked s w x && true) (still_marked (x % 256) l each) (and_both (slots_marked s w x) true here refl))
      (distinct_snoc l x ∙ and_both (distinct l) (not (member x l)) (and_right (all (slots_marked slots w) l) (distinct l) e) (ap not (new-number x l each f)))

  others_apart : (l : List ℕ) → all (slots_marked slots w) l ≡ true → apart l w ≡ true
  others_apart [] e = refl
  others_apart (y ∷ l) e =
      and_both (not (member y w)) (apart l w) (and_right (get_or slots (y % 256) false) (not (member y w)) (and_left (slots_marked slots w y) (all (slots_marked slots w) l) e))
      (others_apart l (and_right (slots_marked slots w y) (all (slots_marked slots w) l) e))

-- ---- the rows passed

pub met-none : (slots : List Bool) (w : List ℕ) → Met slots slots w []
met-none slots w l e = ap (marked_apart slots w) (append-nil l) ∙ e

pub met-more : (was slots : List Bool) (w : List ℕ) (rows : List Row) (from i : ℕ) → from + i < length rows → 256 ≤ length slots
    → Met was slots w (seqs_at (take i (drop from rows))) → let x = at 0 (get_or rows (from + i) []) in get_or slots (x % 256) false ≡ false → member x w ≡ false
    → Met was (set slots (x % 256) true) w (seqs_at (take (i + 1) (drop from rows)))
met-more was slots w rows from i h k g f m l e =
    let x : ℕ = at 0 (get_or rows (from + i) []) in
    let new : List ℕ = seqs_at (take i (drop from rows)) in
    ap (λ (n : List ℕ). marked_apart (set slots (x % 256) true) w (l ++ n)) (words-more 0 rows from i h)
    ∙ ap (marked_apart (set slots (x % 256) true) w) (sym (append_assoc l new (x ∷ [])))
    ∙ one_more slots w x (l ++ new) (omega arith) (g l e) f m

-- all of a queue's, with those that wait
pub marked-queue : (slots : List Bool) (rows : List Row) (f n : ℕ) (l : List ℕ) → f ≤ length rows → ascending (seqs_at (slice f (f + n) rows)) ≡ true
    → marked_apart slots (seqs_at (slice f (f + n) rows)) l ≡ true → distinct (seqs_at (take n (drop f rows)) ++ l) ≡ true
marked-queue slots rows f n l b a e =
    let w : List ℕ = seqs_at (slice f (f + n) rows) in
    waiting-apart rows f n l b a
    ∙ and_both (distinct l) (apart l w) (and_right (all (slots_marked slots w) l) (distinct l) e) (others_apart slots w l (and_left (all (slots_marked slots w) l) (distinct l) e))
