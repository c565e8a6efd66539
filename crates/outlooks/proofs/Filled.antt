-- The list that the writer leaves: the lines of a plan given one by one are those of the answer, and its numbers are the answer's. Assumes nothing.
use mathlib.Core.Path.{◌≡◌, refl, sym, ◌∙◌, ap}
use mathlib.Core.List.{List, [], ◌∷◌, ◌++◌, map, map-append}
use Prim.Native.Nat.{ℕ, zero, suc, ◌≤◌}
use native.Mathlib.Omega.{arith}
use lib.ListN.{length, take, drop, get_or, length-map, get_or-eq_default}
use lib.Seq.{take-suc, length-take-le}
use Rattle.definition.specs.Layout.{Row}
use Rattle.queries.specs.declared.PageLine.{PageLine}
use Rattle.queries.specs.Pages as Pages
use Rattle.queries.specs.Pages.{page_line, written}
use Rattle.queries.proofs.Filled.{given, filled}
use Rattle.outlook.specs.Outlook.{Outlook}
use Rattle.outlooks.specs.declared.OutlookPlan.{OutlookPlan}
use Rattle.outlooks.specs.declared.Outlooked.{Outlooked}
use Rattle.outlooks.specs.Plans.{outlook_line_at, plan_line, OutlookPlanned, as_outlooked}

-- what the writer answers
abbrev pub answered : OutlookPlan → Outlooked
answered p = record { refusal = p.refusal; sure = p.sure; perhaps = p.perhaps; alive = p.alive; next = p.next; count = p.count }

-- a row's line as `line_at` has it
pub line-there : (rows : List Row) (p : OutlookPlan) (i : ℕ) → Pages.page_line_at rows (get_or p.places i 0) 0 ≡ plan_line rows p i
unfolding Pages.page_line_at plan_line
line-there rows p i = ap (λ (k : ℕ). page_line (outlook_line_at rows k)) (omega arith)

pub line-past : (rows : List Row) (p : OutlookPlan) (i : ℕ) → length p.places ≤ i → Pages.page_line_at rows 0 0 ≡ plan_line rows p i
line-past rows p i h = ap (λ (k : ℕ). Pages.page_line_at rows k 0) (sym (get_or-eq_default p.places 0 {n = i} h)) ∙ line-there rows p i

module _ (rows : List Row) (p : OutlookPlan) where
  given_is : (n : ℕ) → n ≤ length p.places → given (plan_line rows p) n ≡ map page_line (map (outlook_line_at rows) (take n p.places))
  unfolding given plan_line
  given_is zero h = refl
  given_is (suc n) h =
      let ps : List ℕ = take n p.places in
      let k : ℕ = get_or p.places n 0 in
      ap (λ (l : List PageLine). l ++ (plan_line rows p n ∷ [])) (given_is n (omega arith))
      ∙ sym (ap (λ (l : List ℕ). map page_line (map (outlook_line_at rows) l)) (take-suc p.places n 0 (omega arith))
      ∙ ap (map page_line) (map-append (outlook_line_at rows) ps (k ∷ []))
      ∙ map-append page_line (map (outlook_line_at rows) ps) (outlook_line_at rows k ∷ []))

  module _ (o : Outlook) (room : ℕ) (h : OutlookPlanned o rows room p) where
    many : p.count ≡ length o.lines
    many = sym (ap length h.lines ∙ length-map (take p.count p.places) (outlook_line_at rows) ∙ length-take-le p.count p.places h.in-places)

    pub answer-is : answered p ≡ as_outlooked o
    answer-is = λ j. record { refusal = h.refusal j; sure = h.sure j; perhaps = h.perhaps j; alive = h.alive j; next = h.next j; count = many j }

    pub filled-plan : (ys : List PageLine) → filled (plan_line rows p) ys p.count ≡ written o.lines ys
    filled-plan ys =
        ap (λ (l : List PageLine). l ++ drop p.count ys) (given_is p.count h.in-places ∙ ap (map page_line) (sym h.lines))
        ∙ ap (λ (k : ℕ). map page_line o.lines ++ drop k ys) many
