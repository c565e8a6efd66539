-- The words of a text that is made of words with a space between them. Assumes nothing.
use Prim.Native.Nat.{ℕ, suc, ◌+◌, ◌<◌}
use native.Mathlib.Nat.{add-zero}
use native.Mathlib.Omega.{arith}
use mathlib.Core.Path.{◌≡◌, refl, ap, sym, ◌∙◌}
use mathlib.Core.Bool.{Bool, true, false, not, ◌&&◌, and-eq-true_iff}
use mathlib.Core.List.{List, [], ◌∷◌, ◌++◌, append-nil, append_assoc}
use borrow.Author.Tests.{not-true}
use lib.Dec.{eqb}
use lib.ListN.{length, take, drop, length-append}
use lib.Seq.{take-length, take-append_seam, drop-append_seam}
use Rattle.textwords.specs.declared.Stop.{Stop}
use Rattle.textwords.specs.declared.Stop.TheVariants.{Blank, Remark, LineEnd}
use Rattle.textwords.specs.Text.{blank, stops, run, pieces, full, words_of, plain}
use Rattle.textwords.proofs.Words.{next}

-- a byte of a word: it neither parts words nor begins a remark nor ends a line
abbrev pub solid_byte : ℕ → Bool
solid_byte b = not (blank b) && (not (eqb b 35) && not (eqb b 10))

unfoldable pub solid : List ℕ → Bool
solid [] = true
solid (b ∷ bs) = solid_byte b && solid bs

abbrev pub Solid : List ℕ → Type 0
Solid w = (0 < length w) × (solid w ≡ true)

abbrev pub Solids : List (List ℕ) → Type 0
Solids [] = Unit {0}
Solids (w ∷ ws) = Solid w × Solids ws

-- each after a space
unfoldable pub spaced : List (List ℕ) → List ℕ
spaced [] = []
spaced (w ∷ ws) = 32 ∷ (w ++ spaced ws)

pub spaced-append : (a b : List (List ℕ)) → spaced (a ++ b) ≡ spaced a ++ spaced b
unfolding spaced
spaced-append [] b = refl
spaced-append (w ∷ a) b = ap (λ (l : List ℕ). 32 ∷ l) (ap (λ (l : List ℕ). w ++ l) (spaced-append a b) ∙ sym (append_assoc w (spaced a) (spaced b)))

-- ---- words

run-spaced : (ws : List (List ℕ)) → run Blank (spaced ws) ≡ 0
unfolding run spaced
run-spaced [] = refl
run-spaced (w ∷ ws) = refl

run-word : (w : List ℕ) (ws : List (List ℕ)) → solid w ≡ true → run Blank (w ++ spaced ws) ≡ length w
unfolding run solid
run-word [] ws h = run-spaced ws
run-word (b ∷ w) ws h =
    let p = (and-eq-true_iff (solid_byte b) (solid w)).0 h in
    let q = (and-eq-true_iff (not (blank b)) (not (eqb b 35) && not (eqb b 10))).0 p.0 in
    rw (not-true (blank b) q.0) (ap suc (run-word w ws p.1))

skip-space : (l : List ℕ) → words_of (32 ∷ l) ≡ words_of l
unfolding words_of pieces full
skip-space l = refl

no_words : words_of [] ≡ []
unfolding words_of pieces full
no_words = refl

one_word : (w : List ℕ) (ws : List (List ℕ)) → Solid w → words_of (w ++ spaced ws) ≡ w ∷ words_of (spaced ws)
one_word w ws h =
    let e : run Blank (w ++ spaced ws) ≡ length w = run-word w ws h.1 in
    let p : words_of (w ++ spaced ws) ≡ take (length w) (w ++ spaced ws) ∷ words_of (drop (length w) (w ++ spaced ws)) = rw e at (next (w ++ spaced ws) (rw e h.0)) in
    p ∙ (λ i. take-append_seam w (spaced ws) i ∷ words_of (drop-append_seam w (spaced ws) i))

all_words : (ws : List (List ℕ)) → Solids ws → words_of (spaced ws) ≡ ws
unfolding spaced
all_words [] s = no_words
all_words (w ∷ ws) s = skip-space (w ++ spaced ws) ∙ one_word w ws s.0 ∙ ap (λ (l : List (List ℕ)). w ∷ l) (all_words ws s.1)

pub words-spaced : (w : List ℕ) (ws : List (List ℕ)) → Solid w → Solids ws → words_of (w ++ spaced ws) ≡ w ∷ ws
words-spaced w ws h s = one_word w ws h ∙ ap (λ (l : List (List ℕ)). w ∷ l) (all_words ws s)

-- ---- remarks and ends of lines

not-remark : (b : ℕ) → solid_byte b ≡ true → stops Remark b ≡ false
not-remark b h = not-true (eqb b 35) ((and-eq-true_iff (not (eqb b 35)) (not (eqb b 10))).0 ((and-eq-true_iff (not (blank b)) (not (eqb b 35) && not (eqb b 10))).0 h).1).0

not_end : (b : ℕ) → solid_byte b ≡ true → stops LineEnd b ≡ false
not_end b h = not-true (eqb b 10) ((and-eq-true_iff (not (eqb b 35)) (not (eqb b 10))).0 ((and-eq-true_iff (not (blank b)) (not (eqb b 35) && not (eqb b 10))).0 h).1).1

-- a scan that stops neither in a word nor at a space
module _ (s : Stop) (go : (b : ℕ) → solid_byte b ≡ true → stops s b ≡ false) (space : stops s 32 ≡ false) where
  run_on : (w l : List ℕ) → solid w ≡ true → run s (w ++ l) ≡ length w + run s l
  unfolding run solid
  run_on [] l h = omega arith
  run_on (b ∷ w) l h =
      let p = (and-eq-true_iff (solid_byte b) (solid w)).0 h in
      rw (go b p.0) (omega (arith, run_on w l p.1))

  run-over : (ws : List (List ℕ)) (l : List ℕ) → Solids ws → run s (spaced ws ++ l) ≡ length (spaced ws) + run s l
  unfolding run spaced
  run-over [] l d = omega arith
  run-over (w ∷ ws) l d = rw (space, append_assoc w (spaced ws) l) (omega (arith, run_on w (spaced ws ++ l) d.0.1, run-over ws l d.1, length-append w (spaced ws)))

  run-text : (w : List ℕ) (ws : List (List ℕ)) (l : List ℕ) → Solid w → Solids ws → run s ((w ++ spaced ws) ++ l) ≡ length (w ++ spaced ws) + run s l
  run-text w ws l h d = rw (append_assoc w (spaced ws) l) (omega (arith, run_on w (spaced ws ++ l) h.1, run-over ws l d, length-append w (spaced ws)))

-- no remark in it
pub plain-spaced : (w : List ℕ) (ws : List (List ℕ)) → Solid w → Solids ws → plain (w ++ spaced ws) ≡ w ++ spaced ws
unfolding plain run
plain-spaced w ws h d =
    let t = w ++ spaced ws in
    let p : run Remark t ≡ length t + 0 = rw (append-nil t) at (run-text Remark not-remark refl w ws [] h d) in
    let e : run Remark t ≡ length t = omega arith in
    rw e (take-length t)

-- and no end of a line before the one after it
pub line-ends : (w : List ℕ) (ws : List (List ℕ)) (l : List ℕ) → Solid w → Solids ws → run LineEnd ((w ++ spaced ws) ++ (10 ∷ l)) ≡ length (w ++ spaced ws)
unfolding run
line-ends w ws l h d = run-text LineEnd not_end refl w ws (10 ∷ l) h d ∙ add-zero (length (w ++ spaced ws))
