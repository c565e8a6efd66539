-- What specs/Claims.antt claims of a verdict. Assumes nothing.
use Rattle.std.specs.Prelude.{Some, None, Ok, Err, is_some}
use Prim.Native.Nat.{ℕ, ◌≤◌}
use native.Mathlib.Omega.{arith}
use mathlib.Core.Path.{◌≡◌, refl, ap, sym, ◌∙◌}
use mathlib.Core.Bool.{true, true≢false}
use mathlib.Core.List.{List, [], ◌∷◌, ◌++◌}
use borrow.Author.Tests.{le-leb, ltb-false}
use lib.Dec.{ltb}
use lib.ListN.{length, length-append}
use Rattle.words.proofs.Tests.{by-test}
use Rattle.stats.specs.Counted.{more}
use Rattle.layouts.specs.declared.Checked.{Checked}
use Rattle.layouts.specs.Layouts.{first, last, selector, cover_count, row_in_range, all_in_range, table_in_range, lowest_overlap, checked}
use Rattle.layouts.proofs.Answers.{Case, out, bare, twice, once, case-of}
use Rattle.layouts.proofs.Theorems.{overlap-is-lowest}
use Rattle.texting.specs.Lines.{lines_of}
use Rattle.layouttext.specs.Rows.{ParsedRow, on_line, line_row, row_fault, line_kind, row_reading, read_from}
use Rattle.layouttext.specs.Verdict.{found, reading_of, verdict_of}
use Rattle.layouttext.specs.Claims.{RowsInRange, FaultFirst, Said, fine, gapped, doubled, VerdictRight}
use Rattle.layouttext.proofs.Lines.{row-taken}
use Rattle.layouttext.proofs.Covers.{two}

-- ---- rows in range

-- a row with which nothing is wrong is in range
pub right-in-range : (row : List ℕ) → row_fault row ≡ None → row_in_range row ≡ true
unfolding row_fault row_in_range
right-in-range row e = by-test (ltb 65535 (first row))
    (λ t. absurd (true≢false (let z = rw t at e in ap is_some z)))
    (λ t. by-test (ltb 65535 (last row))
    (λ u. absurd (true≢false (let z = rw (t, u) at e in ap is_some z)))
    (λ u. by-test (ltb 63 (selector row))
    (λ v. absurd (true≢false (let z = rw (t, u, v) at e in ap is_some z)))
    (λ v. by-test (ltb (last row) (first row))
    (λ w. absurd (true≢false (let z = rw (t, u, v, w) at e in ap is_some z)))
    (λ w. rw (le-leb (first row) 65535 (ltb-false 65535 (first row) t), le-leb (last row) 65535 (ltb-false 65535 (last row) u), le-leb (selector row) 63 (ltb-false 63 (selector row) v), le-leb (first row) (last row) (ltb-false (last row) (first row) w))))))

all_more : (t : List (List ℕ)) (row : List ℕ) → all_in_range t ≡ true → row_in_range row ≡ true → all_in_range (t ++ (row ∷ [])) ≡ true
all_more [] row e f = rw f
all_more (r ∷ t) row e f = by-test (row_in_range r)
    (λ b. rw b (all_more t row (rw b at e) f))
    (λ b. absurd (true≢false (sym (rw b at e))))

record Few (t : List (List ℕ)) : Type 0 where
  few : length t ≤ 64
  ranged : all_in_range t ≡ true

-- by what the next line is
few-next :
    (l : List ℕ) (ls rows : List (List ℕ)) (lines : List ℕ) (n : ℕ)
    → Few rows
    → ((r : List (List ℕ)) (m : List ℕ) (k : ℕ) → Few r → Few (read_from r m k ls).rows)
    → (v : ParsedRow)
    → line_kind (length rows) (line_row l) ≡ v
    → Few (on_line v (λ row. read_from (rows ++ (row ∷ [])) (lines ++ (n ∷ [])) (more n) ls) (read_from rows lines (more n) ls) (λ x. row_reading rows lines (Some x) n)).rows
few-next l ls rows lines n f later (Ok (Some row)) q =
    let h = row-taken (length rows) (line_row l) q in
    let g : Few (rows ++ (row ∷ [])) = record { few = omega (arith, h.0, length-append rows (row ∷ [])); ranged = all_more rows row f.ranged (right-in-range row h.1) } in
    later (rows ++ (row ∷ [])) (lines ++ (n ∷ [])) (more n) g
few-next l ls rows lines n f later (Ok None) q = later rows lines (more n) f
few-next l ls rows lines n f later (Err x) q = f

read-few : (ls : List (List ℕ)) (rows : List (List ℕ)) (lines : List ℕ) (n : ℕ) → Few rows → Few (read_from rows lines n ls).rows
unfolding read_from
read-few [] rows lines n f = f
read-few (l ∷ ls) rows lines n f = few-next l ls rows lines n f (λ r m k g. read-few ls r m k g) (line_kind (length rows) (line_row l)) refl

pub rows-in-range : RowsInRange
unfolding table_in_range
rows-in-range text =
    let f = read-few (lines_of text) [] [] 1 (record { few = omega arith; ranged = refl }) in
    rw (le-leb (length (reading_of text).rows) 64 f.few, f.ranged)

-- ---- the verdict

pub fault-first : FaultFirst
unfolding verdict_of
fault-first text f h = rw h

said-by : {rows : List (List ℕ)} (lines : List ℕ) {c : Checked} → Case rows c → c ≡ checked rows → table_in_range rows ≡ true → Said rows lines c (found rows lines c)
said-by lines (out e) q h = absurd (true≢false (sym h ∙ e))
said-by lines (bare e g) q h = gapped _
said-by {rows} lines (twice e g k) q h =
    let l = lowest_overlap rows in
    let w = (overlap-is-lowest rows (ap (λ (c : Checked). c.refusal) (sym q))).two in
    let u = ap (λ (c : Checked). cover_count rows c.answer) q in
    doubled l (two l rows (omega (arith, w, u)))
said-by lines (once e g k) q h = fine

pub verdict-right : VerdictRight
unfolding verdict_of
verdict-right text z =
    let r = reading_of text in
    rw z (said-by r.lines (case-of r.rows) refl (rows-in-range text))
