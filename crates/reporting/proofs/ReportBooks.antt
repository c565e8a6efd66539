-- What a report keeps along the calls of a file are the books of the account. Assumes nothing.
use Prim.Native.Nat.{ℕ}
use native.Mathlib.Omega.{arith}
use mathlib.Core.Path.{◌≡◌, refl, sym, ap, ap₂, ◌∙◌, subst, subst⁻¹}
use mathlib.Core.Bool.{Bool, true, false, not, ◌&&◌, ◌||◌, and-true, and-false, or-true}
use mathlib.Core.List.{List, [], ◌∷◌, ◌++◌, map, map-append, append_assoc, append-nil}
use borrow.Author.Tests.{eqb-false}
use lib.Dec.{eqb}
use lib.ListN.{length, take, drop}
use lib.Seq.{take-append_seam}
use Rattle.stats.specs.Counted.{more}
use Rattle.definition.specs.Base.{whether◌then◌else◌, tally}
use Rattle.definition.specs.Types.{Dest}
use Rattle.definition.specs.Calls.{short, Result}
use Rattle.definition.specs.Words.{at, step}
use Rattle.definition.specs.Orders.{Lent, result}
use Rattle.definition.proofs.Tests.{by-test, if-true, if-false}
use Rattle.definition.proofs.Thin.{tally-append}
use Rattle.definition.proofs.Refusals.{step-refuses}
use Rattle.fates.specs.Blocks.{Block, account_of, left_blocks}
use Rattle.fates.specs.Books.{Books, booked, books_next, along}
use Rattle.fates.proofs.Books.{from-the-open}
use Rattle.calls.specs.declared.Call.{Call}
use Rattle.callfile.specs.Blocks.{calls_in}
use Rattle.callfile.specs.Cutting.{cut_blocks, Did, silent, along_blocks}
use Rattle.report.specs.Report.{is_at_place, holds_now, leaves_now}
use Rattle.reportlines.specs.declared.Gone.{Gone}
use Rattle.reportlines.specs.ReportLines.{none_gone, more_at, one_gone, all_gone, gone_after}
use Rattle.running.specs.Running.{LentState, accepted, step_on, Run, Doing, block_calls, each_call, each_of_block}
use Rattle.running.specs.Files.{RunState, after_run, work_block, run_lengths, zero_state}
use Rattle.reporting.specs.Reporting.{Noting, noted, report_call}
use Rattle.reporting.specs.ReportFiles.{zero_noting}
use Rattle.reporting.specs.ReportBooks.{lent_call, up_to, gone_to, Keeps, zero_books, read_calls, file_calls, kept_at_end, CallsKeepBooks, FileKeepsBooks, FileKeepsAccount}

-- ---- counts

one_up : (place : ℕ) (l : List Block) (b : Block) → more_at (at 1 b) place (up_to place l) ≡ up_to place (l ++ b ∷ [])
one_up place l b =
    let t = tally-append (is_at_place place) l (b ∷ []) in
    by-test (eqb (at 1 b) place)
    (λ e. let k : tally (is_at_place place) (b ∷ []) ≡ 1 = rw e in if-true _ _ e ∙ (omega (arith, t, k)))
    (λ e. let k : tally (is_at_place place) (b ∷ []) ≡ 0 = rw e in if-false _ _ e ∙ (omega (arith, t, k)))

one-gone : (l : List Block) (b : Block) → one_gone (at 1 b) (gone_to l) ≡ gone_to (l ++ b ∷ [])
unfolding one_gone
one-gone l b = λ j. record { dequeued = one_up 3 l b j; expired = one_up 4 l b j; discarded = one_up 5 l b j; dead_lettered = one_up 6 l b j; cleared = one_up 7 l b j }

all-gone : (bs l : List Block) → all_gone bs (gone_to l) ≡ gone_to (l ++ bs)
unfolding all_gone
all-gone [] l = ap gone_to (sym (append-nil l))
all-gone (b ∷ bs) l = ap (all_gone bs) (one-gone l b) ∙ all-gone bs (l ++ b ∷ []) ∙ ap gone_to (append_assoc l (b ∷ []) bs)

none_more : (g : Gone) → gone_after false [] g ≡ g
unfolding all_gone
none_more g = refl

none-gone : none_gone ≡ gone_to []
none-gone = refl

pub counted : (anew : Bool) (bs l : List Block) (g : Gone) → g ≡ gone_to l → gone_after anew bs g ≡ gone_to ((whether anew then [] else l) ++ bs)
counted true bs l g e = ap (all_gone bs) none-gone ∙ all-gone bs []
counted false bs l g e = ap (all_gone bs) e ∙ all-gone bs l

-- ---- a call

step-formed : (c : Call) (s : LentState) → s.formed ≡ true → step_on run_lengths c s ≡ step run_lengths c.code c.words s.dest
unfolding step_on
step-formed c s h = if-false _ _ (ap (λ (f : Bool). not (short run_lengths) && (not (eqb c.code 0) && not f)) h ∙ ap (λ (x : Bool). not (short run_lengths) && x) (and-false (not (eqb c.code 0))) ∙ and-false (not (short run_lengths)))

module _ (c : Call) (s : Noting) (b : Books) (h : s.lent.formed ≡ true) (k : Keeps s b) where
  abbrev r : Result
  r = step_on run_lengths c s.lent

  abbrev u : Result
  u = result (lent_call c) b.dest

  same : r ≡ u
  same = step-formed c s.lent h ∙ ap (step run_lengths c.code c.words) k.dest

  left_so : leaves_now r c s.kept.count s.held ≡ left_blocks c.code c.words u.dest b.held
  left_so = ap₂ (λ (t : Dest) (bs : List Block). left_blocks c.code c.words t bs) (ap (λ (x : Result). x.dest) same) k.held

  abbrev books : Books
  books = booked (lent_call c) u.dest b

  made : accepted r ≡ true → Keeps (noted c r s) books
  unfolding noted
  made e = record {
    dest = ap (λ (x : Result). x.dest) same;
    held = ap₂ (λ (m : ℕ) (bs : List Block). take m bs) (if-true _ _ e) (if-true _ _ e) ∙ take-append_seam (holds_now r) (drop (length (holds_now r)) s.held) ∙ ap (λ (x : Result). account_of x.dest) same;
    gone = ap₂ (λ (x : Bool) (bs : List Block). gone_after (eqb c.code 0 && x) bs s.kept.gone) e (if-true _ _ e ∙ left_so)
        ∙ counted (eqb c.code 0 && true) (left_blocks c.code c.words u.dest b.held) b.left s.kept.gone k.gone
        ∙ ap (λ (x : Bool). gone_to ((whether x then [] else b.left) ++ left_blocks c.code c.words u.dest b.held)) (and-true (eqb c.code 0));
  }

  not_made : accepted r ≡ false → Keeps (noted c r s) b
  unfolding noted
  not_made e = record {
    dest = ap (λ (x : Result). x.dest) same ∙ (step-refuses run_lengths c.code c.words b.dest).dest (λ z. eqb-false r.refusal 0 e (ap (λ (x : Result). x.refusal) same ∙ z));
    held = ap₂ (λ (m : ℕ) (bs : List Block). take m bs) (if-false _ _ e) (if-false _ _ e) ∙ k.held;
    gone = ap₂ (λ (x : Bool) (bs : List Block). gone_after (eqb c.code 0 && x) bs s.kept.gone) e (if-false _ _ e)
        ∙ ap (λ (x : Bool). gone_after x [] s.kept.gone) (and-false (eqb c.code 0)) ∙ none_more s.kept.gone ∙ k.gone;
  }

  next-keeps : Keeps (noted c r s) (books_next (lent_call c) b)
  next-keeps = by-test (accepted r)
      (λ e. subst (Keeps (noted c r s)) (sym (if-true _ _ (sym (ap (λ (x : Result). eqb x.refusal 0) same) ∙ e))) (made e))
      (λ e. subst (Keeps (noted c r s)) (sym (if-false _ _ (sym (ap (λ (x : Result). eqb x.refusal 0) same) ∙ e))) (not_made e))

  next-formed : (noted c r s).lent.formed ≡ true
  unfolding noted
  next-formed = ap (λ (x : Bool). accepted r || x) h ∙ or-true (accepted r)

-- ---- calls, one after another

pub calls-keep-books : CallsKeepBooks
unfolding each_call report_call
calls-keep-books [] index s b h k = k
calls-keep-books (c ∷ cs) index s b h k = calls-keep-books cs (more index) (noted c (step_on run_lengths c s.lent) s) (books_next (lent_call c) b) (next-formed c s b h k) (next-keeps c s b h k)

-- ---- blocks, of any program: they are the calls of the file

calls-bad : (x : List ℕ) (bs : List (List ℕ)) → eqb (calls_in x (length x)) 0 ≡ true → read_calls (x ∷ bs) ≡ []
unfolding read_calls
calls-bad x bs e = if-true _ _ e

calls-good : (x : List ℕ) (bs : List (List ℕ)) → eqb (calls_in x (length x)) 0 ≡ false → read_calls (x ∷ bs) ≡ block_calls 0 (calls_in x (length x)) x ++ read_calls bs
unfolding read_calls
calls-good x bs e = if-false _ _ e

module _ {S : Type 0} (one : Doing S) where
  abbrev lent_after : List Call → ℕ → S → S
  lent_after calls index s = (each_call one calls index s).lent

  each_goes : (calls : List Call) (index : ℕ) (s : S) → (each_call one calls index s).goes_on ≡ true
  unfolding each_call
  each_goes [] index s = refl
  each_goes (c ∷ cs) index s = each_goes cs (more index) (one index c s).lent

  pub each-joined : (l m : List Call) (index : ℕ) (s : S) → lent_after (l ++ m) index s ≡ lent_after m (each_call one l index s).index (lent_after l index s)
  unfolding each_call
  each-joined [] m index s = refl
  each-joined (c ∷ l) m index s = each-joined l m (more index) (one index c s).lent

  -- what is left after a block that did this, and the blocks after it
  abbrev after : List (List ℕ) → ℕ → Run S → S
  after bs number y = (whether y.goes_on then along_blocks (work_block one) bs (more number) (after_run y) else silent false (after_run y)).state.lent

  one-after : (x : List ℕ) (bs : List (List ℕ)) (number : ℕ) (s : RunState S) → (along_blocks (work_block one) (x ∷ bs) number s).state.lent ≡ after bs number (each_of_block one x s.index number s.lent)
  unfolding along_blocks work_block
  one-after x bs number s = refl

  pub blocks-are-calls : (bs : List (List ℕ)) (number : ℕ) (s : RunState S) → (along_blocks (work_block one) bs number s).state.lent ≡ lent_after (read_calls bs) s.index s.lent
  unfolding along_blocks read_calls each_of_block each_call
  blocks-are-calls [] number s = refl
  blocks-are-calls (x ∷ bs) number s = by-test (eqb (calls_in x (length x)) 0)
      (λ e. one-after x bs number s ∙ ap (after bs number) (if-true _ _ e) ∙ ap (λ (l : List Call). lent_after l s.index s.lent) (sym (calls-bad x bs e)))
      (λ e. let cs = block_calls 0 (calls_in x (length x)) x in
      let q = each_call one cs s.index s.lent in
      one-after x bs number s ∙ ap (after bs number) (if-false _ _ e) ∙ ap (λ (d : Did (RunState S)). d.state.lent) (if-true _ _ (each_goes cs s.index s.lent))
      ∙ blocks-are-calls bs (more number) (after_run q) ∙ sym (each-joined cs (read_calls bs) s.index s.lent) ∙ ap (λ (l : List Call). lent_after l s.index s.lent) (sym (calls-good x bs e)))

-- ---- a file

zero-keeps : Keeps zero_noting zero_books
unfolding zero_noting zero_state
zero-keeps = record { dest = refl; held = refl; gone = refl }

zero-formed : zero_noting.lent.formed ≡ true
unfolding zero_noting zero_state
zero-formed = refl

pub file-keeps-books : FileKeepsBooks
file-keeps-books bytes = subst⁻¹ (λ (m : Noting). Keeps m (along (map lent_call (file_calls bytes)) zero_books)) (blocks-are-calls (report_call run_lengths) (cut_blocks bytes) 0 (record { index = 0; lent = zero_noting }))
    (calls-keep-books (file_calls bytes) 0 zero_noting zero_books zero-formed zero-keeps)

pub file-keeps-account : FileKeepsAccount
file-keeps-account bytes before after c e z h q f =
    let p = from-the-open (map lent_call before) (map lent_call after) (lent_call c) zero_books z h q f in
    (subst (Keeps (kept_at_end bytes)) (ap (λ (l : List Call). along (map lent_call l) zero_books) e ∙ ap (λ (l : List Lent). along l zero_books) (map-append lent_call before (c ∷ after)) ∙ p.0) (file-keeps-books bytes), p.1)
