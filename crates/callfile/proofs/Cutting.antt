-- A file cut anywhere: what is begun and what is to come make the same blocks. Assumes nothing.
use Prim.Native.Nat.{ℕ, zero, suc, ◌+◌, ◌-◌, ◌≤◌, ◌<◌, min}
use native.Mathlib.Omega.{arith}
use mathlib.Core.Path.{◌≡◌, refl, sym, ap, ap₂, ◌∙◌}
use mathlib.Core.Bool.{Bool, true, false}
use mathlib.Core.List.{List, [], ◌∷◌, ◌++◌, append_assoc, append-nil}
use borrow.Author.Tests.{ltb-true, ltb-false, eqb-true, eqb-false}
use lib.Dec.{ltb, eqb}
use lib.ListN.{length, take, drop, length-append, length-take, length-drop, drop_of_length-le}
use lib.Seq.{take_all, take_at, drop_at}
use Rattle.words.specs.Pick.{whether◌then◌else◌}
use Rattle.words.proofs.Tests.{by-test}
use Rattle.callfile.specs.Cutting.{cut_at_most, cut_blocks, Did, Work, silent, printed_before, along_blocks, Stage, StepTaken, beginning, lacked, with_bytes, take_piece, end_of_file, along_rest, along_pieces, inARow, CutAnywhere}

-- ---- blocks

cut-none : (n : ℕ) → cut_at_most n [] ≡ []
unfolding cut_at_most
cut-none zero = refl
cut-none (suc n) = refl

cut-enough : (n m : ℕ) (l : List ℕ) → length l ≤ n → length l ≤ m → cut_at_most n l ≡ cut_at_most m l
unfolding cut_at_most
cut-enough zero m [] h k = sym (cut-none m)
cut-enough zero m (b ∷ bs) h k = absurd (omega arith)
cut-enough (suc n) m [] h k = sym (cut-none m)
cut-enough (suc n) zero (b ∷ bs) h k = absurd (omega arith)
cut-enough (suc n) (suc m) (b ∷ bs) h k = ap (λ (x : List (List ℕ)). take 512 (b ∷ bs) ∷ x) (cut-enough n m (drop 512 (b ∷ bs)) (omega (arith, length-drop 512 (b ∷ bs))) (omega (arith, length-drop 512 (b ∷ bs))))

pub cut-whole : (b l : List ℕ) → length b ≡ 512 → cut_blocks (b ++ l) ≡ b ∷ cut_blocks l
unfolding cut_blocks cut_at_most
cut-whole [] l h = absurd (omega arith)
cut-whole (a ∷ b) l h =
    ap₂ (λ (x : List ℕ) (y : List (List ℕ)). x ∷ y) (take_at (a ∷ b) l 512 h)
    (ap (λ (x : List ℕ). cut_at_most (length (b ++ l)) x) (drop_at (a ∷ b) l 512 h) ∙ cut-enough (length (b ++ l)) (length l) l (omega (arith, length-append b l)) (omega arith))

pub cut-last : (b : List ℕ) → 0 < length b → length b < 512 → cut_blocks b ≡ b ∷ []
unfolding cut_blocks cut_at_most
cut-last [] h k = absurd (omega arith)
cut-last (a ∷ b) h k =
    ap₂ (λ (x : List ℕ) (y : List (List ℕ)). x ∷ y) (take_all 512 (a ∷ b) (omega arith))
    (ap (λ (x : List ℕ). cut_at_most (length b) x) (drop_of_length-le (a ∷ b) {i = 512} (omega arith)) ∙ cut-none (length b))

none-cut : (b : List ℕ) → length b ≡ 0 → cut_blocks b ≡ []
unfolding cut_blocks cut_at_most
none-cut [] h = refl
none-cut (a ∷ b) h = absurd (omega arith)

-- ---- what is to come, from a stage on

-- the last block, and nothing after it
only : {S : Type 0} (d : Did S) → printed_before d.text (whether d.goes_on then silent true d.state else silent false d.state) ≡ d
only {S = S} d = by_flag d.text d.state d.goes_on
  where
    by_flag : (text : List ℕ) (s : S) (goes_on : Bool) → printed_before text (whether goes_on then silent true s else silent false s) ≡ record { text = text; goes_on = goes_on; state = s }
    by_flag text s true = λ j. record { text = append-nil text j; goes_on = true; state = s }
    by_flag text s false = λ j. record { text = append-nil text j; goes_on = false; state = s }

drop-taken : (n : ℕ) (l : List ℕ) → take n l ++ drop (length (take n l)) l ≡ l
drop-taken zero l = refl
drop-taken (suc n) [] = refl
drop-taken (suc n) (a ∷ l) = ap (λ (x : List ℕ). a ∷ x) (drop-taken n l)

module _ {S : Type 0} (work : Work S) where
  -- what a program does with these bytes to come
  unfoldable pub from_stage : Stage S → List ℕ → Did S
  from_stage g later = whether g.goes_on then along_blocks work (cut_blocks (g.begun ++ later)) g.number g.state else silent false g.state

  abbrev pub small : Stage S → Type 0
  small g = length g.begun < 512

  abbrev p : List ℕ → Stage S → StepTaken S
  p rest g = take_piece work rest g

  -- a step takes bytes from what is to come, and does the first block of it
  abbrev Steps : List ℕ → List ℕ → Stage S → Type 0
  Steps rest later g = from_stage g (rest ++ later) ≡ printed_before (p rest g).text (from_stage (p rest g).stage (drop (p rest g).used rest ++ later))

  module _ (begun : List ℕ) (number : ℕ) (s : S) where
    abbrev staged : Bool → Stage S
    staged goes_on = record { begun = begun; number = number; goes_on = goes_on; state = s }

    module _ (rest : List ℕ) (h : length begun < 512) where
      abbrev t : List ℕ
      t = lacked begun rest

      t-length : length t ≡ min (512 - length begun) (length rest)
      t-length = length-take (512 - length begun) rest

      block-length : length (begun ++ t) ≡ length begun + length t
      block-length = length-append begun t

      same_bytes : (later : List ℕ) → begun ++ (rest ++ later) ≡ (begun ++ t) ++ (drop (length t) rest ++ later)
      same_bytes later =
          ap (λ (x : List ℕ). begun ++ (x ++ later)) (sym (drop-taken (512 - length begun) rest))
          ∙ ap (λ (x : List ℕ). begun ++ x) (append_assoc t (drop (length t) rest) later)
          ∙ sym (append_assoc begun t (drop (length t) rest ++ later))

      steps : (later : List ℕ) (goes_on : Bool) → Steps rest later (staged goes_on)
      unfolding from_stage take_piece with_bytes along_blocks
      steps later true = by-test (ltb (length (begun ++ t)) 512)
          (λ e. rw e (ap (λ (x : List ℕ). along_blocks work (cut_blocks x) number s) (same_bytes later)))
          (λ e. let w : length (begun ++ t) ≡ 512 = omega (arith, ltb-false (length (begun ++ t)) 512 e, t-length, block-length) in
          rw e (ap (λ (x : List ℕ). along_blocks work (cut_blocks x) number s) (same_bytes later)
          ∙ ap (λ (x : List (List ℕ)). along_blocks work x number s) (cut-whole (begun ++ t) (drop (length t) rest ++ later) w)))
      steps later false = refl

      stays-small : (goes_on : Bool) → small (p rest (staged goes_on)).stage
      unfolding take_piece with_bytes
      stays-small true = by-test (ltb (length (begun ++ t)) 512)
          (λ e. rw e (ltb-true (length (begun ++ t)) 512 e))
          (λ e. rw e (omega arith))
      stays-small false = h

      uses : (goes_on : Bool) → 0 < length rest → 0 < (p rest (staged goes_on)).used
      unfolding take_piece with_bytes
      uses true k = by-test (ltb (length (begun ++ t)) 512)
          (λ e. rw e (omega (arith, t-length)))
          (λ e. rw e (omega (arith, t-length)))
      uses false k = k

    ends : (goes_on : Bool) → length begun < 512 → from_stage (staged goes_on) [] ≡ end_of_file work (staged goes_on)
    unfolding from_stage end_of_file along_blocks
    ends false h = refl
    ends true h = rw append-nil (by-test (eqb (length begun) 0)
        (λ e. rw e (ap (λ (x : List (List ℕ)). along_blocks work x number s) (none-cut begun (eqb-true (length begun) 0 e))))
        (λ e. rw e (ap (λ (x : List (List ℕ)). along_blocks work x number s) (cut-last begun (omega (arith, eqb-false (length begun) 0 e)) h) ∙ only (work begun number s))))

  module _ (g : Stage S) (h : small g) where
    pub one-step : (rest later : List ℕ) → Steps rest later g
    one-step rest later = steps g.begun g.number g.state rest h later g.goes_on

    pub step_small : (rest : List ℕ) → small (p rest g).stage
    step_small rest = stays-small g.begun g.number g.state rest h g.goes_on

    pub step-uses : (rest : List ℕ) → 0 < length rest → 0 < (p rest g).used
    step-uses rest k = uses g.begun g.number g.state rest h g.goes_on k

    pub at-end : from_stage g [] ≡ end_of_file work g
    at-end = ends g.begun g.number g.state g.goes_on h

  -- ---- all pieces

  along-rest : (n : ℕ) (rest later : List ℕ) (after : Stage S → Did S) → ((g : Stage S) → small g → from_stage g later ≡ after g) → (g : Stage S) → small g → length rest ≤ n
      → from_stage g (rest ++ later) ≡ along_rest work n rest after g
  unfolding along_rest
  along-rest zero [] later after f g h k = f g h
  along-rest zero (b ∷ bs) later after f g h k = absurd (omega arith)
  along-rest (suc n) [] later after f g h k = f g h
  along-rest (suc n) (b ∷ bs) later after f g h k =
      one-step g h (b ∷ bs) later
      ∙ ap (printed_before (p (b ∷ bs) g).text) (along-rest n (drop (p (b ∷ bs) g).used (b ∷ bs)) later after f (p (b ∷ bs) g).stage (step_small g h (b ∷ bs))
      (omega (arith, step-uses g h (b ∷ bs) (omega arith), length-drop (p (b ∷ bs) g).used (b ∷ bs))))

  along-pieces : (pieces : List (List ℕ)) (g : Stage S) → small g → from_stage g (inARow pieces) ≡ along_pieces work pieces g
  unfolding along_pieces
  along-pieces [] g h = at-end g h
  along-pieces (q ∷ pieces) g h = along-rest (length q) q (inARow pieces) (along_pieces work pieces) (along-pieces pieces) g h (omega arith)

  pub cut-anywhere : CutAnywhere work
  unfolding from_stage CutAnywhere
  cut-anywhere pieces s = sym (along-pieces pieces (beginning s) (omega arith))
