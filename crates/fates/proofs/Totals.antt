-- How many blocks there are: at most 512, as many as entries in each place, and one for each accepted number. Assumes nothing.
use Prim.Native.Nat.{ℕ, ◌+◌, ◌≤◌}
use native.Mathlib.Omega.{arith}
use mathlib.Core.Path.{◌≡◌, refl, sym, ◌∙◌}
use mathlib.Core.Bool.{Bool, true, not, ◌||◌}
use mathlib.Core.List.{List, [], ◌∷◌, ◌++◌, map}
use lib.Dec.{eqb}
use lib.ListN.{length, length-append, length-map}
use borrow.Author.Tests.{eqb-true, eqb-false, eq-eqb, ne_eqb}
use Rattle.definition.specs.Base.{whether◌then◌else◌, keep, tally}
use Rattle.definition.specs.Types.{Entry, Dest}
use Rattle.definition.specs.Calls.{taken, held, sound}
use Rattle.definition.specs.Queries.{is_queue}
use Rattle.definition.specs.Words.{at}
use Rattle.definition.proofs.Tests.{by-test, by-if}
use Rattle.definition.proofs.Lists.{keep-length}
use Rattle.definition.proofs.Thin.{tally-append}
use Rattle.definition.proofs.Sums.{sum, one, occ, sum_one}
use Rattle.definition.proofs.Whole.{sums-taken, fine}
use Rattle.definition.proofs.Reach.{counts-rows}
use Rattle.fates.proofs.Measures.{occ-steady}
use Rattle.fates.proofs.Run.{kept}
use Rattle.fates.proofs.Claims.{there}
use Rattle.fates.specs.Fates.{Fate, rank, same_fate, Departure}
use Rattle.fates.specs.Account.{waiting, in_flight, reserved, left, left_as}
use Rattle.fates.specs.Blocks.{Block, block_at, held_blocks, account_of, comes, went_as, is_gone, left_blocks}
use Rattle.fates.specs.Books.{left_block, all_blocks, BlocksAreFew, TotalsAreTheParts, OneBlockEach}

-- ---- parts of the blocks

in_parts : (q : Block → Bool) (l : List Departure) (t : Dest) → tally q (all_blocks l t) ≡ tally q (map (block_at 0) t.pending) + (tally q (map (block_at 2) (held t)) + (tally q (map (block_at 1) (taken t.subs)) + tally q (map left_block l)))
in_parts q l t = omega (
  arith,
  tally-append q (held_blocks t) (map left_block l),
  tally-append q (map (block_at 0) t.pending) (map (block_at 2) (held t) ++ map (block_at 1) (taken t.subs)),
  tally-append q (map (block_at 2) (held t)) (map (block_at 1) (taken t.subs)),
)

-- ---- by place

abbrev says : ℕ → Block → Bool
says n b = eqb (at 1 b) n

held-says : (n p : ℕ) (l : List Entry) → tally (says n) (map (block_at p) l) ≡ (whether eqb p n then length l else 0)
held-says n p [] = by-test (eqb p n) (λ c. rw c) (λ c. rw c)
held-says n p (e ∷ l) = by-test (eqb p n) (λ c. let k = held-says n p l in rw c (omega (arith, rw c at k))) (λ c. let k = held-says n p l in rw c (omega (arith, rw c at k)))

same_rank : (f g : Fate) → eqb (3 + rank g) (3 + rank f) ≡ same_fate f g
same_rank f g = by-test (same_fate f g)
    (λ c. eq-eqb (3 + rank g) (3 + rank f) (omega (arith, eqb-true (rank f) (rank g) c)) ∙ sym c)
    (λ c. ne_eqb (3 + rank g) (3 + rank f) (λ h. eqb-false (rank f) (rank g) c (omega (arith, h))) ∙ sym c)

left-says : (f : Fate) (l : List Departure) → tally (says (3 + rank f)) (map left_block l) ≡ length (left_as f l)
left-says f [] = refl
left-says f (d ∷ l) = by-test (same_fate f d.fate)
    (λ c. rw (same_rank f d.fate, c) (omega (arith, left-says f l)))
    (λ c. rw (same_rank f d.fate, c) (omega (arith, left-says f l)))

left_not : (n : ℕ) (l : List Departure) → n ≤ 2 → tally (says n) (map left_block l) ≡ 0
left_not n [] h = refl
left_not n (d ∷ l) h = rw (ne_eqb (3 + rank d.fate) n (λ e. omega (arith, e, h))) (omega (arith, left_not n l h))

held-not : (f : Fate) (p : ℕ) (l : List Entry) → p ≤ 2 → tally (says (3 + rank f)) (map (block_at p) l) ≡ 0
held-not f p [] h = refl
held-not f p (e ∷ l) h = rw (ne_eqb p (3 + rank f) (λ e. omega (arith, e, h))) (omega (arith, held-not f p l h))

pub totals-are-the-parts : TotalsAreTheParts
totals-are-the-parts l t waiting = omega (arith, in_parts (says 0) l t, held-says 0 0 t.pending, held-says 0 2 (held t), held-says 0 1 (taken t.subs), left_not 0 l (omega arith))
totals-are-the-parts l t in_flight = omega (arith, in_parts (says 1) l t, held-says 1 0 t.pending, held-says 1 2 (held t), held-says 1 1 (taken t.subs), left_not 1 l (omega arith))
totals-are-the-parts l t reserved = omega (arith, in_parts (says 2) l t, held-says 2 0 t.pending, held-says 2 2 (held t), held-says 2 1 (taken t.subs), left_not 2 l (omega arith))
totals-are-the-parts l t (left f) = omega (arith, in_parts (says (3 + rank f)) l t, held-not f 0 t.pending (omega arith), held-not f 2 (held t) (omega arith), held-not f 1 (taken t.subs) (omega arith), left-says f l)

-- ---- by number

numbered : (s p : ℕ) (l : List Entry) → tally (λ b. eqb s (at 0 b)) (map (block_at p) l) ≡ sum (occ s) l
unfolding occ
numbered s p [] = refl
numbered s p (e ∷ l) = omega (arith, numbered s p l)

left-numbered : (s : ℕ) (l : List Departure) → tally (λ b. eqb s (at 0 b)) (map left_block l) ≡ sum (occ s) (map (λ d. d.entry) l)
unfolding occ
left-numbered s [] = refl
left-numbered s (d ∷ l) = omega (arith, left-numbered s l)

pub one-block-each : OneBlockEach
one-block-each a l t r s = let k = kept a l t r in
    omega (arith, in_parts (λ b. eqb s (at 0 b)) l t, numbered s 0 t.pending, numbered s 2 (held t), numbered s 1 (taken t.subs), left-numbered s l, sums-taken (occ s) t.subs, k.sums (occ s) (occ-steady s), there s a (k.once s))

-- ---- in all

comes-one : (code : ℕ) (ws : List ℕ) → length (comes code ws) ≤ 1
comes-one code ws = by-if (λ (l : List Block). length l ≤ 1) (eqb code 1) _ [] (λ c. omega arith) (λ c. omega arith)

left-few : (code : ℕ) (ws : List ℕ) (u : Dest) (bs : List Block) → length (left_blocks code ws u bs) ≤ length bs + 1
unfolding left_blocks
left-few code ws u bs = by-if (λ (l : List Block). length l ≤ length bs + 1) (eqb code 0 || not (is_queue u.kind)) [] _ (λ c. omega arith)
    (λ c. omega (arith, length-map (keep (is_gone u) (bs ++ comes code ws)) (went_as code ws), keep-length (is_gone u) (bs ++ comes code ws), length-append bs (comes code ws), comes-one code ws))

held-few : (t : Dest) → sound t ≡ true → length (held_blocks t) ≤ 512
held-few t s = omega (
  arith,
  length-append (map (block_at 0) t.pending) (map (block_at 2) (held t) ++ map (block_at 1) (taken t.subs)),
  length-append (map (block_at 2) (held t)) (map (block_at 1) (taken t.subs)),
  length-map t.pending (block_at 0),
  length-map (held t) (block_at 2),
  length-map (taken t.subs) (block_at 1),
  sum_one t.pending,
  sum_one (held t),
  sum_one (taken t.subs),
  sums-taken one t.subs,
  counts-rows one t.subs,
  (fine t s).rows,
)

kept-few : (t : Dest) → sound t ≡ true → length (account_of t) ≤ 512
unfolding account_of
kept-few t s = by-if (λ (l : List Block). length l ≤ 512) (is_queue t.kind) (held_blocks t) [] (λ c. held-few t s) (λ c. omega arith)

pub blocks-are-few : BlocksAreFew
blocks-are-few t s = (kept-few t s, λ code ws u. omega (arith, left-few code ws u (account_of t), kept-few t s))
