-- The words of a text, one after the other. Assumes nothing.
use Prim.Native.Nat.{ℕ, suc, ◌+◌, ◌-◌, ◌≤◌, ◌<◌}
use native.Mathlib.Omega.{arith}
use mathlib.Core.Path.{◌≡◌, refl, ap, sym, ◌∙◌}
use mathlib.Core.List.{List, [], ◌∷◌}
use lib.ListN.{length, take, drop, length-drop, drop_of_length-le}
use lib.Seq.{length-take-le, drop-drop}
use Rattle.words.proofs.Tests.{by-test}
use Rattle.textwords.specs.declared.Stop.{Stop}
use Rattle.textwords.specs.declared.Stop.TheVariants.{Blank, Word}
use Rattle.textwords.specs.Text.{blank, stops, run, pieces, full, words_of}

-- a scan ends where it would stop at once
pub run-stopped : (s : Stop) (l : List ℕ) → run s (drop (run s l) l) ≡ 0
unfolding run
run-stopped s [] = refl
run-stopped s (b ∷ bs) = by-test (stops s b) (λ t. rw (t, t)) (λ t. rw t (run-stopped s bs))

pub run-within : (s : Stop) (l : List ℕ) → run s l ≤ length l
unfolding run
run-within s [] = omega arith
run-within s (b ∷ bs) = by-test (stops s b) (λ t. rw t (omega arith)) (λ t. rw t (omega (arith, run-within s bs)))

-- before a word, blanks
pub skip : (l : List ℕ) → words_of l ≡ words_of (drop (run Word l) l)
unfolding words_of pieces full run
skip [] = refl
skip (b ∷ bs) = by-test (blank b) (λ t. rw t (skip bs)) (λ t. rw (t, t))

later : List (List ℕ) → List (List ℕ)
later [] = []
later (w ∷ ws) = ws

-- the first piece, and the others
first : (l : List ℕ) → pieces l ≡ take (run Blank l) l ∷ later (pieces (drop (run Blank l) l))
unfolding pieces run later
first [] = refl
first (b ∷ bs) = by-test (blank b) (λ t. rw (t, t)) (λ t. rw (t, first bs))

full-cons : (w : List ℕ) (ws : List (List ℕ)) → 0 < length w → full (w ∷ ws) ≡ w ∷ full ws
unfolding full
full-cons [] ws h = absurd (omega arith)
full-cons (b ∷ w) ws h = refl

full-none : (ws : List (List ℕ)) → full ([] ∷ ws) ≡ full ws
unfolding full
full-none ws = refl

-- where a word would end at once, the first piece is empty
ends : (l : List ℕ) → run Blank l ≡ 0 → pieces l ≡ [] ∷ later (pieces l)
ends l e = first l ∙ ap (λ (n : ℕ). take n l ∷ later (pieces (drop n l))) e

-- a word, and those after it
pub next : (l : List ℕ) → 0 < run Blank l → words_of l ≡ take (run Blank l) l ∷ words_of (drop (run Blank l) l)
unfolding words_of
next l h =
    let r = run Blank l in
    let k : length (take r l) ≡ r = length-take-le r l (run-within Blank l) in
    let e : pieces (drop r l) ≡ [] ∷ later (pieces (drop r l)) = ends (drop r l) (run-stopped Blank l) in
    let f : full (pieces (drop r l)) ≡ full (later (pieces (drop r l))) = ap full e ∙ full-none (later (pieces (drop r l))) in
    ap full (first l) ∙ full-cons (take r l) (later (pieces (drop r l))) (omega arith) ∙ ap (λ (ws : List (List ℕ)). take r l ∷ ws) (sym f)

starts : (l : List ℕ) → 0 < length l → run Word l ≡ 0 → 0 < run Blank l
unfolding run
starts [] h e = absurd (omega arith)
starts (b ∷ bs) h e = by-test (blank b) (λ t. absurd (let z : suc (run Word bs) ≡ 0 = rw t at e in omega arith)) (λ t. rw t (omega arith))

-- ---- by places in a text

module _ (t : List ℕ) (from at : ℕ) (low : from ≤ length t) (e : at ≡ from + run Word (drop from t)) where
  there : drop (run Word (drop from t)) (drop from t) ≡ drop at t
  there = drop-drop (run Word (drop from t)) from t ∙ ap (λ (n : ℕ). drop n t) (sym e)

  -- a scan to the next word passes none
  pub to_word : words_of (drop from t) ≡ words_of (drop at t)
  to_word = skip (drop from t) ∙ ap words_of there

  pub at-word : run Word (drop at t) ≡ 0
  at-word = ap (run Word) (sym there) ∙ run-stopped Word (drop from t)

  pub word-within : at ≤ length t
  word-within = omega (arith, run-within Word (drop from t), length-drop from t)

-- a scan over a word
pub record Passed (t : List ℕ) (at to : ℕ) : Type 0 where
  pub more : at < to
  pub within : to ≤ length t
  pub words : words_of (drop at t) ≡ take (to - at) (drop at t) ∷ words_of (drop to t)

pub passed : (t : List ℕ) (at to : ℕ) → at < length t → run Word (drop at t) ≡ 0 → to ≡ at + run Blank (drop at t) → Passed t at to
passed t at to h w e =
    let r = run Blank (drop at t) in
    let p : 0 < r = starts (drop at t) (omega (arith, length-drop at t)) w in
    let d : to - at ≡ r = omega arith in
    let f : drop r (drop at t) ≡ drop to t = drop-drop r at t ∙ ap (λ (n : ℕ). drop n t) (sym e) in
    record {
      more = omega arith;
      within = omega (arith, run-within Blank (drop at t), length-drop at t);
      words = rw (d, sym f) (next (drop at t) p);
    }

pub no_words : (t : List ℕ) (at : ℕ) → length t ≤ at → words_of (drop at t) ≡ []
unfolding words_of pieces full
no_words t at h = rw (drop_of_length-le t h)
