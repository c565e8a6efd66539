-- Laws of what a program is asked for, and of what a file looks like. Assumes nothing.
use Prim.Native.Nat.{ℕ, ◌-◌, ◌≤◌}
use native.Mathlib.Omega.{arith}
use Rattle.std.specs.List.{list_all}
use Rattle.words.specs.Pick.{whether◌then◌else◌}
use mathlib.Core.Path.{◌≡◌, refl, sym, ap, ◌∙◌}
use mathlib.Core.Bool.{Bool, true, false, ◌&&◌}
use mathlib.Core.List.{List, [], ◌∷◌}
use borrow.Author.Tests.{eq-eqb, ne_eqb}
use lib.ListN.{length, get_or, take, drop}
use lib.Seq.{take_all}
use Rattle.textwords.specs.Text.{same_text, has_mark}
use Rattle.callfile.specs.Blocks.{calls_in}
use Rattle.callfile.specs.declared.Reading.{Reading}
use Rattle.program.specs.declared.Asks.TheVariants.{File, Help, Wrong}
use Rattle.program.specs.declared.Looks.{Looks}
use Rattle.program.specs.declared.Looks.TheVariants.{Calls, Marked, Text, Other}
use Rattle.program.specs.Asked.{help_word, word_asks, is_text_byte, are_text, part_like, looks_like, are_calls, read_of, is_puzzling}

-- ---- a word

module _ (w : List ℕ) where
  pub asks-help : same_text w help_word ≡ true → Help ≡ word_asks w
  unfolding word_asks
  asks-help t = rw t

  module _ (t : same_text w help_word ≡ false) where
    pub asks_nothing : length w ≡ 0 → Wrong ≡ word_asks w
    unfolding word_asks
    asks_nothing e = rw (t, eq-eqb (length w) 0 e)

    pub asks-option : (length w ≡ 0 → ⊥) → get_or w 0 0 ≡ 45 → Wrong ≡ word_asks w
    unfolding word_asks
    asks-option n e = rw (t, ne_eqb (length w) 0 n, eq-eqb (get_or w 0 0) 45 e)

    pub asks-file : (length w ≡ 0 → ⊥) → (get_or w 0 0 ≡ 45 → ⊥) → File ≡ word_asks w
    unfolding word_asks
    asks-file n m = rw (t, ne_eqb (length w) 0 n, ne_eqb (get_or w 0 0) 45 m)

-- ---- a text

whether-and : (b r : Bool) → (b && r) ≡ (whether b then r else false)
whether-and true r = refl
whether-and false r = refl

pub all-text : (l : List ℕ) → list_all is_text_byte l ≡ are_text l
unfolding are_text
all-text [] = refl
all-text (b ∷ bs) = ap (λ (r : Bool). is_text_byte b && r) (all-text bs) ∙ whether-and (is_text_byte b) (are_text bs)

module _ (l : List ℕ) where
  pub like-marked : has_mark l ≡ true → Marked ≡ part_like l
  unfolding part_like
  like-marked t = rw t

  pub like-text : has_mark l ≡ false → are_text l ≡ true → Text ≡ part_like l
  unfolding part_like
  like-text t u = rw (t, u)

  pub like-other : has_mark l ≡ false → are_text l ≡ false → Other ≡ part_like l
  unfolding part_like
  like-other t u = rw (t, u)

module _ (l : List ℕ) (n : ℕ) where
  pub like-calls : (calls_in l n ≡ 0 → ⊥) → Calls ≡ looks_like l n
  unfolding looks_like
  like-calls h = rw (ne_eqb (calls_in l n) 0 h)

  pub like-part : calls_in l n ≡ 0 → part_like (take (n - 0) (drop 0 l)) ≡ looks_like l n
  unfolding looks_like
  like-part e = let z : n - 0 ≡ n = omega arith in rw (eq-eqb (calls_in l n) 0 e, z)

  pub like-all : calls_in l n ≡ 0 → length l ≤ n → part_like l ≡ looks_like l n
  unfolding looks_like
  like-all e h = rw (eq-eqb (calls_in l n) 0 e, take_all n l h)

-- ---- an input of which not one call was read

module _ (places : ℕ) (at : Reading) where
  pub reads_all : (at.number ≡ 0 → ⊥) → places ≡ read_of places at
  reads_all h = rw (ne_eqb at.number 0 h)

  pub reads-some : at.number ≡ 0 → at.have ≡ read_of places at
  reads-some h = rw (eq-eqb at.number 0 h)

no-calls : (kind : Looks) → (kind ≡ Calls → ⊥) → are_calls kind ≡ false
no-calls Calls h = absurd (h refl)
no-calls Marked h = refl
no-calls Text h = refl
no-calls Other h = refl

module _ (block : List ℕ) (at : Reading) where
  pub calls-were-read : (at.index ≡ 0 → ⊥) → false ≡ is_puzzling block at
  unfolding is_puzzling
  calls-were-read h = rw (ne_eqb at.index 0 h)

  module _ (first : at.index ≡ 0) (n : ℕ) (read : n ≡ read_of (length block) at) where
    pub nothing-was-read : n ≡ 0 → false ≡ is_puzzling block at
    unfolding is_puzzling
    nothing-was-read z = rw (eq-eqb at.index 0 first, eq-eqb (read_of (length block) at) 0 (sym read ∙ z))

    module _ (some : n ≡ 0 → ⊥) where
      pub calls-come : looks_like block n ≡ Calls → false ≡ is_puzzling block at
      unfolding is_puzzling
      calls-come z = rw (eq-eqb at.index 0 first, ne_eqb (read_of (length block) at) 0 (λ h. some (read ∙ h)), ap (looks_like block) (sym read) ∙ z)

      pub puzzles : (looks_like block n ≡ Calls → ⊥) → true ≡ is_puzzling block at
      unfolding is_puzzling
      puzzles h = rw (eq-eqb at.index 0 first, ne_eqb (read_of (length block) at) 0 (λ z. some (read ∙ z)), no-calls (looks_like block (read_of (length block) at)) (λ z. h (ap (looks_like block) read ∙ z)))
