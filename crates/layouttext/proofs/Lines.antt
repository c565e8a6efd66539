-- The words of a line, and the lines of a text, one by one. Assumes nothing.
use Rattle.std.proofs.Common.{Option, Some, None}
use Rattle.std.specs.Prelude.{Ok, Err}
use Prim.Native.Nat.{ℕ, ◌+◌, ◌-◌, ◌≤◌, ◌<◌}
use native.Mathlib.Omega.{arith}
use mathlib.Core.Path.{◌≡◌, refl, ap, sym, ◌∙◌}
use mathlib.Core.Bool.{true, false, true≢false}
use mathlib.Core.List.{List, [], ◌∷◌, ◌++◌}
use borrow.Author.Tests.{eq-eqb, ne_eqb, lt-ltb, le-ltb, ltb-true, ltb-false}
use lib.Dec.{ltb}
use lib.ListN.{length, take, drop, set, replicate, length-set}
use lib.Seq.{length-take-le}
use Rattle.words.proofs.Tests.{by-test}
use Rattle.words.proofs.Lists.{set_next}
use Rattle.stats.specs.Counted.{more}
use Rattle.textwords.specs.declared.Stop.TheVariants.{Remark}
use Rattle.textwords.specs.Text.{run, words_of}
use Rattle.textwords.specs.Numbers.{number_of}
use Rattle.calltext.proofs.Gathering.{remark-part}
use Rattle.texting.specs.Lines.{lines_of}
use Rattle.texting.proofs.Taking.{Taken, lines_end}
use Rattle.layouttext.specs.declared.Fault.{Fault}
use Rattle.layouttext.specs.declared.Fault.TheVariants.{NotARow, ManyRows}
use Rattle.layouttext.specs.Rows.{ParsedRow, on_line, judged_row, gather_row, line_row, row_fault, line_kind, Reading, row_reading, read_from, Reads, RowKept}

-- ---- words

module _ (n : ℕ) (row : List ℕ) where
  pub words_row : n ≡ 3 → gather_row n row [] ≡ Ok (Some row)
  unfolding gather_row
  words_row e = rw (eq-eqb n 3 e)

  pub words-none : (n ≡ 3 → ⊥) → n ≡ 0 → gather_row n row [] ≡ Ok None
  unfolding gather_row
  words-none h e = rw (ne_eqb n 3 h, eq-eqb n 0 e)

  pub words-few : (n ≡ 3 → ⊥) → (n ≡ 0 → ⊥) → gather_row n row [] ≡ Err NotARow
  unfolding gather_row
  words-few h e = rw (ne_eqb n 3 h, ne_eqb n 0 e)

  module _ (w : List ℕ) (ws : List (List ℕ)) where
    pub too_many : n ≡ 3 → gather_row n row (w ∷ ws) ≡ Err NotARow
    unfolding gather_row
    too_many e = rw (eq-eqb n 3 e)

    pub no_number : (n ≡ 3 → ⊥) → number_of w ≡ None → gather_row n row (w ∷ ws) ≡ Err NotARow
    unfolding gather_row
    no_number h e = rw (ne_eqb n 3 h, e)

    pub one_number : (n ≡ 3 → ⊥) → (v : ℕ) → number_of w ≡ Some v → gather_row n row (w ∷ ws) ≡ gather_row (n + 1) (set row n v) ws
    unfolding gather_row
    one_number h v e = rw (ne_eqb n 3 h, e)

pub parsed-part : (l : List ℕ) (e : ℕ) → e ≡ 0 + run Remark (drop 0 l) → gather_row 0 (replicate 3 0) (words_of (take (e - 0) (drop 0 l))) ≡ line_row l
unfolding line_row
parsed-part l e h = ap (λ (t : List ℕ). gather_row 0 (replicate 3 0) (words_of t)) (remark-part l e h)

-- ---- kinds

module _ (count : ℕ) (row : List ℕ) where
  pub kind-many : 63 < count → line_kind count (Ok (Some row)) ≡ Err ManyRows
  unfolding line_kind
  kind-many k = rw (lt-ltb 63 count k)

  pub kind_row : count ≤ 63 → line_kind count (Ok (Some row)) ≡ judged_row row (row_fault row)
  unfolding line_kind
  kind_row k = rw (le-ltb 63 count k)

is-row : (p : ParsedRow) {row : List ℕ} → p ≡ Ok (Some row) → on_line p (λ r. true) false (λ g. false) ≡ true
is-row p e = ap (λ (q : ParsedRow). on_line q (λ r. true) false (λ g. false)) e

judged-right : {r row : List ℕ} (o : Option Fault) → judged_row r o ≡ Ok (Some row) → (o ≡ None) × (r ≡ row)
judged-right {r} None e = (refl, ap (λ (q : ParsedRow). on_line q (λ x. x) [] (λ g. [])) e)
judged-right (Some f) e = absurd (true≢false (sym (is-row (Err f) e)))

-- a row that is taken is one of 64, and nothing is wrong with it
pub row-taken : (count : ℕ) (p : ParsedRow) {row : List ℕ} → line_kind count p ≡ Ok (Some row) → (count < 64) × (row_fault row ≡ None)
unfolding line_kind
row-taken count (Ok (Some r)) {row} e = by-test (ltb 63 count)
    (λ u. absurd (true≢false (sym (is-row (Err ManyRows) (sym (kind-many count r (ltb-true 63 count u)) ∙ e)))))
    (λ u.
    let k = ltb-false 63 count u in
    let j = judged-right (row_fault r) (sym (kind_row count r k) ∙ e) in
    (omega arith, ap row_fault (sym j.1) ∙ j.0))
row-taken count (Ok None) e = absurd (true≢false (sym (is-row (Ok None) e)))
row-taken count (Err f) e = absurd (true≢false (sym (is-row (Err f) e)))

-- ---- lines

module _ (rows : List (List ℕ)) (lines : List ℕ) (n : ℕ) where
  pub read_none : read_from rows lines n [] ≡ row_reading rows lines None n
  unfolding read_from
  read_none = refl

  module _ (l : List ℕ) (ls : List (List ℕ)) where
    pub read-fault : (f : Fault) → line_kind (length rows) (line_row l) ≡ Err f → read_from rows lines n (l ∷ ls) ≡ row_reading rows lines (Some f) n
    unfolding read_from
    read-fault f q = rw q

    pub read-row : (row : List ℕ) → line_kind (length rows) (line_row l) ≡ Ok (Some row) → read_from rows lines n (l ∷ ls) ≡ read_from (rows ++ (row ∷ [])) (lines ++ (n ∷ [])) (more n) ls
    unfolding read_from
    read-row row q = rw q

    pub read-empty : line_kind (length rows) (line_row l) ≡ Ok None → read_from rows lines n (l ∷ ls) ≡ read_from rows lines (more n) ls
    unfolding read_from
    read-empty q = rw q

-- ---- at a place in a text, with the rows so far at the front of the buffers

module _ (rows : List (List ℕ)) (lines : List ℕ) (count n at : ℕ) (t : List ℕ) where
  pub state : Reading
  state = read_from (take count rows) (take count lines) n (lines_of (drop at t))

  pub state-none : length t ≤ at → state ≡ row_reading (take count rows) (take count lines) None n
  unfolding state
  state-none h = ap (read_from (take count rows) (take count lines) n) (lines_end t at h) ∙ read_none (take count rows) (take count lines) n

-- before the first line
pub state-start : (rows : List (List ℕ)) (lines t : List ℕ) → state rows lines 0 1 0 t ≡ read_from [] [] 1 (lines_of t)
unfolding state
state-start rows lines t = refl

-- what a buffer has after a line was kept
module _ {count n r : ℕ} {rows rows' : List (List ℕ)} {lines lines' : List ℕ} where
  pub kept-lengths : (p : ParsedRow) → RowKept count n p rows lines r rows' lines' → (length rows' ≡ length rows) × (length lines' ≡ length lines)
  kept-lengths (Ok (Some row)) k = (ap length k.rows ∙ length-set rows count row, ap length k.lines ∙ length-set lines count n)
  kept-lengths (Ok None) k = (ap length k.rows, ap length k.lines)
  kept-lengths (Err f) k = (ap length k.rows, ap length k.lines)

  pub kept-few : (p : ParsedRow) → RowKept count n p rows lines r rows' lines' → count ≤ 64 → ((row : List ℕ) → p ≡ Ok (Some row) → count < 64) → r ≤ 64
  kept-few (Ok (Some row)) k h f = let g = f row refl in omega (arith, k.next)
  kept-few (Ok None) k h f = omega (arith, k.next)
  kept-few (Err x) k h f = omega (arith, k.next)

module _ (rows : List (List ℕ)) (lines : List ℕ) (count n at : ℕ) (t : List ℕ) (low : count ≤ 64) (long : 64 ≤ length rows) (wide : 64 ≤ length lines) where
  -- what the next line is
  kind-here :
      (e : ℕ) {p v : ParsedRow}
      → p ≡ line_row (take (e - at) (drop at t))
      → v ≡ line_kind count p
      → line_kind (length (take count rows)) (line_row (take (e - at) (drop at t))) ≡ v
  kind-here e q k = let c = length-take-le count rows (omega arith) in sym (k ∙ (λ i. line_kind (sym c i) (q i)))

  pub state-fault :
      {e : ℕ} {p : ParsedRow}
      → Taken t at e
      → p ≡ line_row (take (e - at) (drop at t))
      → (f : Fault)
      → Err f ≡ line_kind count p
      → state rows lines count n at t ≡ row_reading (take count rows) (take count lines) (Some f) n
  unfolding state
  state-fault {e} w q f k =
      let l = take (e - at) (drop at t) in
      rw w.lines (read-fault (take count rows) (take count lines) n l (lines_of (drop (e + 1) t)) f (kind-here e q k))

  pub state-passed :
      {e r m : ℕ} {p : ParsedRow} {rows' : List (List ℕ)} {lines' : List ℕ}
      → Taken t at e
      → m ≡ more n
      → p ≡ line_row (take (e - at) (drop at t))
      → (o : Option (List ℕ))
      → Ok o ≡ line_kind count p
      → RowKept count n (Ok o) rows lines r rows' lines'
      → state rows' lines' r m (e + 1) t ≡ state rows lines count n at t
  unfolding state
  state-passed {e} {r} {m} {p} {rows'} {lines'} w y q (Some row) k x =
      let l = take (e - at) (drop at t) in
      let ls = lines_of (drop (e + 1) t) in
      let f : count < 64 = (row-taken count p (sym k)).0 in
      let xs : take r rows' ≡ take count rows ++ (row ∷ []) = (λ i. take (x.next i) (x.rows i)) ∙ set_next rows count row (omega arith) in
      let ys : take r lines' ≡ take count lines ++ (n ∷ []) = (λ i. take (x.next i) (x.lines i)) ∙ set_next lines count n (omega arith) in
      (λ i. read_from (xs i) (ys i) (y i) ls) ∙ sym (read-row (take count rows) (take count lines) n l ls row (kind-here e q k)) ∙ ap (read_from (take count rows) (take count lines) n) (sym w.lines)
  state-passed {e} {r} {m} {p} {rows'} {lines'} w y q None k x =
      let l = take (e - at) (drop at t) in
      let ls = lines_of (drop (e + 1) t) in
      (λ i. read_from (take (x.next i) (x.rows i)) (take (x.next i) (x.lines i)) (y i) ls) ∙ sym (read-empty (take count rows) (take count lines) n l ls (kind-here e q k)) ∙ ap (read_from (take count rows) (take count lines) n) (sym w.lines)

-- an answer and buffers that are a reading's
pub reads : {rows : List (List ℕ)} {lines : List ℕ} {fault : Option Fault} {n count : ℕ} {x : Reading} → count ≤ 64 → row_reading (take count rows) (take count lines) fault n ≡ x → Reads x (record { fault = fault; line = n; count = count }) rows lines
reads h e = record {
  fault = ap (λ (x : Reading). x.fault) e;
  line = ap (λ (x : Reading). x.line) e;
  rows = ap (λ (x : Reading). x.rows) e;
  lines = ap (λ (x : Reading). x.lines) e;
  few = h;
}
