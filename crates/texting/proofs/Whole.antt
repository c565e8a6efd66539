-- What the library does call by call gives the call file and the messages of the whole text. Assumes nothing.
use Rattle.std.specs.Prelude.{Some, None, Ok, Err}
use Prim.Native.Nat.{ℕ, ◌+◌, ◌-◌, ◌≤◌, ◌<◌}
use native.Mathlib.Omega.{arith}
use mathlib.Core.Path.{◌≡◌, refl, ap, sym, ◌∙◌}
use mathlib.Core.Bool.{false}
use mathlib.Core.List.{List, [], ◌∷◌, ◌++◌, append-nil}
use borrow.Author.Tests.{leb-true, ltb-true, ltb-false}
use lib.Dec.{eqb, leb, ltb}
use lib.ListN.{length, take, drop, length-append}
use Rattle.words.proofs.Tests.{by-test}
use Rattle.stats.specs.Counted.{more}
use Rattle.calls.specs.declared.Call.{Call}
use Rattle.callblocks.specs.Packed.{sealed}
use Rattle.textwords.specs.declared.Stop.TheVariants.{LineEnd}
use Rattle.textwords.specs.Text.{onto, run}
use Rattle.calltext.specs.Lines.{Parsed, line_call}
use Rattle.texting.specs.Lines.{lines_of, is_bad, call_onto, line_calls, message, messages}
use Rattle.texting.specs.Parts.{after_line, with_parsed, count_parsed, fill_from, first_bad, said, next_line}
use Rattle.texting.specs.Whole.{empty, blocks}
use Rattle.texting.proofs.Taking.{first, taken, lines_end}

-- ---- parts of a text

onto-more : (x : ℕ) (ls ms : List (List ℕ)) → 0 < length ls → onto x (ls ++ ms) ≡ onto x ls ++ ms
onto-more x [] ms h = absurd (omega arith)
onto-more x (l ∷ ls) ms h = refl

lines-some : (l : List ℕ) → 0 < length l → 0 < length (lines_of l)
lines-some l h = rw (first l h) (omega arith)

-- a part that ends with a line has the text's first lines
pub lines-parts : (a b : List ℕ) → lines_of ((a ++ (10 ∷ [])) ++ b) ≡ lines_of (a ++ (10 ∷ [])) ++ lines_of b
unfolding lines_of
lines-parts [] b = refl
lines-parts (x ∷ a) b = by-test (eqb x 10)
    (λ t. rw t (ap (λ (ls : List (List ℕ)). [] ∷ ls) (lines-parts a b)))
    (λ t. rw t (ap (onto x) (lines-parts a b) ∙ onto-more x (lines_of (a ++ (10 ∷ []))) (lines_of b) (lines-some (a ++ (10 ∷ [])) (omega (arith, length-append a (10 ∷ []))))))

-- the lines after the first one stand after it
lines-tail : (t : List ℕ) (at : ℕ) (l : List ℕ) (ls : List (List ℕ)) → (l ∷ ls) ≡ lines_of (drop at t) → ls ≡ lines_of (drop (after_line at l) t)
lines-tail t at l ls e = by-test (ltb at (length t))
    (λ h.
    let to = at + run LineEnd (drop at t) in
    let w = taken t at to (ltb-true at (length t) h) refl in
    let m = take (to - at) (drop at t) in
    let p : (l ∷ ls) ≡ m ∷ lines_of (drop (to + 1) t) = e ∙ w.lines in
    let a : l ≡ m = cc in
    let b : ls ≡ lines_of (drop (to + 1) t) = cc in
    b ∙ ap (λ (n : ℕ). lines_of (drop n t)) (sym (ap (after_line at) a ∙ w.next)))
    (λ h.
    let p : (l ∷ ls) ≡ [] = e ∙ lines_end t at (ltb-false at (length t) h) in
    let z : ◌≡◌ {A = ℕ} 0 1 = cc in
    absurd (omega arith))

-- the first line stands at its place
line-there : (t : List ℕ) (at : ℕ) (l : List ℕ) (ls : List (List ℕ)) → (l ∷ ls) ≡ lines_of (drop at t) → l ≡ take ((at + length l) - at) (drop at t)
line-there t at l ls e = by-test (ltb at (length t))
    (λ h.
    let to = at + run LineEnd (drop at t) in
    let w = taken t at to (ltb-true at (length t) h) refl in
    let m = take (to - at) (drop at t) in
    let p : (l ∷ ls) ≡ m ∷ lines_of (drop (to + 1) t) = e ∙ w.lines in
    let a : l ≡ m = cc in
    let n : to - at ≡ (at + length l) - at = omega (arith, w.next, ap length a) in
    a ∙ ap (λ (k : ℕ). take k (drop at t)) n)
    (λ h.
    let p : (l ∷ ls) ≡ [] = e ∙ lines_end t at (ltb-false at (length t) h) in
    let z : ◌≡◌ {A = ℕ} 0 1 = cc in
    absurd (omega arith))

-- ---- blocks

-- a block that has seven calls is written, and the next call begins an empty one
pub full-file : (block : List ℕ) (cs : List Call) → blocks block 7 cs ≡ sealed 7 block ++ blocks empty 0 cs
unfolding blocks
full-file block [] = sym (append-nil (sealed 7 block))
full-file block (c ∷ cs) = refl

-- a line's call, if it is one, goes into the block
call-step : (p : Parsed) (block : List ℕ) (k : ℕ) (cs : List Call) → leb 7 k ≡ false → blocks block k (call_onto p cs) ≡ blocks (with_parsed k p block) (count_parsed k p) cs
unfolding blocks
call-step (Ok (Some c)) block k cs t = rw t
call-step (Ok None) block k cs t = refl
call-step (Err f) block k cs t = refl

-- filling a block leaves the file that comes out, also with more lines behind those of the text
fill-lines : (ls ms : List (List ℕ)) (block : List ℕ) (k at : ℕ) → blocks block k (line_calls (ls ++ ms)) ≡ blocks (fill_from block k at ls).block (fill_from block k at ls).count (line_calls ((fill_from block k at ls).rest ++ ms))
unfolding fill_from blocks line_calls
fill-lines [] ms block k at = refl
fill-lines (l ∷ ls) ms block k at = by-test (leb 7 k) (λ t. rw t) (λ t. rw t (call-step (line_call l) block k (line_calls (ls ++ ms)) t ∙ fill-lines ls ms _ _ (after_line at l)))

-- the lines that are left stand where the filling ended
fill-rest : (ls : List (List ℕ)) (block : List ℕ) (k at : ℕ) (t : List ℕ) → ls ≡ lines_of (drop at t) → (fill_from block k at ls).rest ≡ lines_of (drop (fill_from block k at ls).at t)
unfolding fill_from
fill-rest [] block k at t e = e
fill-rest (l ∷ ls) block k at t e = by-test (leb 7 k) (λ h. rw h e) (λ h. rw h (fill-rest ls (with_parsed k (line_call l) block) (count_parsed k (line_call l)) (after_line at l) t (lines-tail t at l ls e)))

-- `fill`, as a step of the whole file
pub fill-file : (t : List ℕ) (ms : List (List ℕ)) (block : List ℕ) (k at : ℕ) → let f = fill_from block k at (lines_of (drop at t)) in blocks block k (line_calls (lines_of (drop at t) ++ ms)) ≡ blocks f.block f.count (line_calls (lines_of (drop f.at t) ++ ms))
fill-file t ms block k at =
    let f = fill_from block k at (lines_of (drop at t)) in
    fill-lines (lines_of (drop at t)) ms block k at ∙ ap (λ (ls : List (List ℕ)). blocks f.block f.count (line_calls (ls ++ ms))) (fill-rest (lines_of (drop at t)) block k at t refl)

-- it stops before the block is full only where the text ends
pub fill-open : (ls : List (List ℕ)) (block : List ℕ) (k at : ℕ) → (fill_from block k at ls).count ≤ 6 → (fill_from block k at ls).rest ≡ []
unfolding fill_from
fill-open [] block k at h = refl
fill-open (l ∷ ls) block k at h = by-test (leb 7 k)
    (λ t. let g : k ≤ 6 = rw t at h in absurd (omega (arith, leb-true 7 k t)))
    (λ t. rw t (fill-open ls (with_parsed k (line_call l) block) (count_parsed k (line_call l)) (after_line at l) (rw t at h)))

-- ---- messages

bad-lines : (ls ms : List (List ℕ)) (n at : ℕ) (t : List ℕ) → ls ≡ lines_of (drop at t) → messages n (ls ++ ms) ≡ said t (first_bad n at ls) ++ messages (next_line (first_bad n at ls)) (lines_of (drop (first_bad n at ls).at t) ++ ms)
unfolding messages first_bad
bad-lines [] ms n at t e = ap (λ (ls : List (List ℕ)). messages n (ls ++ ms)) e
bad-lines (l ∷ ls) ms n at t e =
    let r = lines-tail t at l ls e in
    by-test (is_bad l)
    (λ b.
    rw (b, b) (λ i. message n (line-there t at l ls e i) ++ messages (more n) (r i ++ ms)))
    (λ b. rw b (bad-lines ls ms (more n) (after_line at l) t r))

-- `first_bad`, as a step of the whole messages
pub bad-messages : (t : List ℕ) (ms : List (List ℕ)) (n at : ℕ) → let b = first_bad n at (lines_of (drop at t)) in messages n (lines_of (drop at t) ++ ms) ≡ said t b ++ messages (next_line b) (lines_of (drop b.at t) ++ ms)
bad-messages t ms n at = bad-lines (lines_of (drop at t)) ms n at t refl
