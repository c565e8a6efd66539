use Rattle.std.proofs.Common.{Option, Ok}
use mathlib.Core.Path.{ap, sym, ◌∙◌}
use mathlib.Core.List.{List}
use Prim.Native.Nat.{ℕ}
use Rattle.std.proofs.lemmas.Result.{err_from_is_err_and}
use Rattle.layouttext.specs.Rows.{judged_row, line_kind}
use Rattle.layouttext.proofs.Lines.{kind-many, kind_row}
use Rattle.layouttext.proofs.line_kind.Goals as goal

pub returns-in_err-row : goal.returns-in_err-row
unfolding line_kind
returns-in_err-row c =
    let q = err_from_is_err_and c.from_residual.result c.from_residual.ensures.1 in
    rw (q.1, q.2) (sym (ap (line_kind c.args.count) c.in_err-row.was))

pub returns-in_default : goal.returns-in_default
unfolding line_kind
returns-in_default c =
    let a = c.args in
    sym (ap (line_kind a.count) (c.in_ok-row.was ∙ ap (λ (o : Option (List ℕ)). Ok o) c.in_default.is))

pub returns-then-count-gt63 : goal.returns-then-count-gt63
returns-then-count-gt63 c =
    let a = c.args in
    sym (ap (line_kind a.count) (c.in_ok-row.was ∙ ap (λ (o : Option (List ℕ)). Ok o) c.in-Some.is) ∙ kind-many a.count c.in-Some.row c.if-count-gt63.true)

pub returns-in-Some-row_fault : goal.returns-in-Some-row_fault
returns-in-Some-row_fault c =
    let a = c.args in
    let row = c.in-Some.row in
    sym (ap (line_kind a.count) (c.in_ok-row.was ∙ ap (λ (o : Option (List ℕ)). Ok o) c.in-Some.is) ∙ kind_row a.count row c.if-count-gt63.false ∙ ap (judged_row row) (sym c.row_fault.ensures ∙ c.in-Some-row_fault.is))

pub returns-in-None : goal.returns-in-None
returns-in-None c =
    let a = c.args in
    let row = c.in-Some.row in
    sym (ap (line_kind a.count) (c.in_ok-row.was ∙ ap (λ (o : Option (List ℕ)). Ok o) c.in-Some.is) ∙ kind_row a.count row c.if-count-gt63.false ∙ ap (judged_row row) (sym c.row_fault.ensures ∙ c.in-None.is))
