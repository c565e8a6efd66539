-- A refusal that is the first place's number is exact. Assumes nothing.
use Prim.Native.Nat.{ℕ, ◌≤◌}
use native.Mathlib.Omega.{arith}
use mathlib.Core.Path.{◌≡◌, refl, sym, ◌∙◌, ap}
use mathlib.Core.Bool.{true, not, true≢false}
use mathlib.Core.List.{List, [], ◌∷◌, ◌++◌}
use lib.Dec.{leb}
use borrow.Author.Tests.{leb-true}
use Rattle.words.specs.Pick.{whether◌then◌else◌, all}
use Rattle.words.specs.Places.{CheckPlace, passes, Comes, Exact}
use Rattle.words.proofs.Tests.{if-true, if-false, by-test, and_left, and_right, and_both}

-- ---- the first place that refuses

abbrev pub first_of : List CheckPlace → ℕ
first_of [] = 0
first_of (p ∷ ps) = whether p.test then p.number else first_of ps

comes : (ps : List CheckPlace) (n : ℕ) → 1 ≤ n → first_of ps ≡ n → Comes n ps
comes [] n h e = absurd (omega (arith, h, e))
comes (p ∷ ps) n h e = by-test p.test
    (λ c. record { before = []; here = p; after = ps; split = refl; passed = refl; refuses = c; numbered = sym (if-true p.number (first_of ps) c) ∙ e })
    (λ c.
    let r = comes ps n h (sym (if-false p.number (first_of ps) c) ∙ e) in
    record { before = p ∷ r.before; here = r.here; after = r.after; split = ap (λ (l : List CheckPlace). p ∷ l) r.split; passed = and_both _ _ (ap not c) r.passed; refuses = r.refuses; numbered = r.numbered })

first_of-is : (before after : List CheckPlace) (here : CheckPlace) → all passes before ≡ true → here.test ≡ true → first_of (before ++ here ∷ after) ≡ here.number
first_of-is [] after here h c = if-true here.number (first_of after) c
first_of-is (p ∷ before) after here h c = by-test p.test
    (λ d. absurd (true≢false (sym (and_left _ _ h) ∙ ap not d)))
    (λ d. if-false p.number (first_of (before ++ here ∷ after)) d ∙ first_of-is before after here (and_right (passes p) _ h) c)

all_pass : (ps : List CheckPlace) → all (λ p. leb 1 p.number) ps ≡ true → first_of ps ≡ 0 → all passes ps ≡ true
all_pass [] h e = refl
all_pass (p ∷ ps) h e = by-test p.test
    (λ c. absurd (omega (arith, leb-true 1 p.number (and_left _ _ h), sym (if-true p.number (first_of ps) c) ∙ e)))
    (λ c. and_both _ _ (ap not c) (all_pass ps (and_right (leb 1 p.number) _ h) (sym (if-false p.number (first_of ps) c) ∙ e)))

none-refuses : (ps : List CheckPlace) → all passes ps ≡ true → first_of ps ≡ 0
none-refuses [] h = refl
none-refuses (p ∷ ps) h = by-test p.test
    (λ d. absurd (true≢false (sym (and_left _ _ h) ∙ ap not d)))
    (λ d. if-false p.number (first_of ps) d ∙ none-refuses ps (and_right (passes p) _ h))

-- a refusal that is the first place's number is exact
pub exact : (refusal : ℕ) (ps : List CheckPlace) → all (λ p. leb 1 p.number) ps ≡ true → refusal ≡ first_of ps → Exact refusal ps
exact refusal ps h e = record {
  number = λ n m. (λ q. comes ps n m (sym e ∙ q), λ r. e ∙ ap first_of r.split ∙ first_of-is r.before r.after r.here r.passed r.refuses ∙ r.numbered);
  accepted = (λ q. all_pass ps h (sym e ∙ q), λ q. e ∙ none-refuses ps q);
}
