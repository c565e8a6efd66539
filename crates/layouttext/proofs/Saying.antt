-- What is said, part by part. Assumes nothing.
use Rattle.std.proofs.Common.{Some, None}
use Prim.Native.Nat.{ℕ, ◌-◌}
use native.Mathlib.Omega.{arith}
use mathlib.Core.Path.{◌≡◌, ap, sym, ◌∙◌}
use mathlib.Core.List.{List, [], ◌++◌}
use borrow.Author.Tests.{eq-eqb, ne_eqb}
use lib.ListN.{length, get_or, take, drop}
use Rattle.callfile.specs.Placed.{Puts}
use Rattle.layouts.specs.declared.Checked.{Checked}
use Rattle.layouts.specs.Layouts.{checked}
use Rattle.layouttext.specs.declared.Fault.{Fault}
use Rattle.layouttext.specs.declared.Fault.TheVariants.{NotARow, FirstOut, LastOut, SelectorOut, FirstAbove, ManyRows}
use Rattle.layouttext.specs.declared.Read.{Read}
use Rattle.layouttext.specs.Rows.{Reading, Reads}
use Rattle.layouttext.specs.Verdict.{overlapping, found, judged}
use Rattle.layouttext.proofs.Covers.{Found}
use Rattle.layouttext.specs.Messages.{not_row, first_out, last_out, selector_out, first_above, many_rows, row_complaint, fault_text, gap_text, both_text, rows_text, accepted_text, verdict_text}

module _ {f : Fault} where
  pub says_row : f ≡ NotARow → not_row ≡ row_complaint f
  unfolding row_complaint
  says_row e = rw e

  pub says_first : f ≡ FirstOut → first_out ≡ row_complaint f
  unfolding row_complaint
  says_first e = rw e

  pub says_last : f ≡ LastOut → last_out ≡ row_complaint f
  unfolding row_complaint
  says_last e = rw e

  pub says_selector : f ≡ SelectorOut → selector_out ≡ row_complaint f
  unfolding row_complaint
  says_selector e = rw e

  pub says_above : f ≡ FirstAbove → first_above ≡ row_complaint f
  unfolding row_complaint
  says_above e = rw e

  pub says_many : f ≡ ManyRows → many_rows ≡ row_complaint f
  unfolding row_complaint
  says_many e = rw e

-- two rows by their places
pub overlap-text :
    {l i j at r : ℕ} {rows : List (List ℕ)} (lines : List ℕ) {out out' : List ℕ}
    → Found l rows i j
    → Puts (both_text l (get_or lines i 0) (get_or lines j 0) ++ rows_text (get_or rows i []) (get_or rows j [])) at out r out'
    → Puts (verdict_text (overlapping rows lines l)) at out r out'
unfolding verdict_text
overlap-text lines z p = rw (z.at, z.next) at p

-- what the check answers
module _ (rows : List (List ℕ)) (lines : List ℕ) {r c : Checked} (e : r ≡ c) where
  same : {n : ℕ} → r.refusal ≡ n → c.refusal ≡ n
  same q = ap (λ (x : Checked). x.refusal) (sym e) ∙ q

  pub found-gap : r.refusal ≡ 12 → gap_text r.answer ≡ verdict_text (found rows lines c)
  unfolding verdict_text
  found-gap q = rw (eq-eqb c.refusal 12 (same q)) (ap (λ (x : Checked). gap_text x.answer) e)

  pub found-overlap : r.refusal ≡ 13 → overlapping rows lines r.answer ≡ found rows lines c
  found-overlap q = rw (same q) (ap (λ (x : Checked). overlapping rows lines x.answer) e)

  pub found-accepted : (r.refusal ≡ 12 → ⊥) → (r.refusal ≡ 13 → ⊥) → accepted_text (length rows) ≡ verdict_text (found rows lines c)
  unfolding verdict_text
  found-accepted a b =
      let f = ap (λ (x : Checked). x.refusal) e in
      rw (ne_eqb c.refusal 12 (λ z. a (f ∙ z)), ne_eqb c.refusal 13 (λ z. b (f ∙ z)))

-- what a reading left, and what is said of it
module _ {x : Reading} {r : Read} {rows : List (List ℕ)} {lines : List ℕ} (k : Reads x r rows lines) where
  pub judged-fault : (f : Fault) → r.fault ≡ Some f → fault_text r.line f ≡ verdict_text (judged x)
  unfolding verdict_text
  judged-fault f h = rw (sym k.fault ∙ h) (ap (λ (n : ℕ). fault_text n f) k.line)

  pub judged-found : r.fault ≡ None → found (take (r.count - 0) (drop 0 rows)) (take (r.count - 0) (drop 0 lines)) (checked (take (r.count - 0) (drop 0 rows))) ≡ judged x
  judged-found h =
      let z : r.count - 0 ≡ r.count = omega arith in
      let a : take (r.count - 0) rows ≡ x.rows = ap (λ (n : ℕ). take n rows) z ∙ k.rows in
      let b : take (r.count - 0) lines ≡ x.lines = ap (λ (n : ℕ). take n lines) z ∙ k.lines in
      rw (sym k.fault ∙ h) (λ i. found (a i) (b i) (checked (a i)))
