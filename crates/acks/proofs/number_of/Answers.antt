use Rattle.std.proofs.Common.{rules, arith, ◌<◌, length, sym, ap, ◌∙◌}
use Rattle.table.proofs.Search.{find_at}
use Rattle.acks.specs.Acks.{maybe_number}
use Rattle.acks.specs.Rules.{number_in, rows_in}
use Rattle.acks.proofs.Flying.{number-at, number-none}
use Rattle.acks.proofs.number_of.Goals as goal

pub returns-in_err-i : goal.returns-in_err-i
returns-in_err-i c =
    let a = c.args in
    ap maybe_number c.from_residual-in_err-i.ensures ∙ sym (ap (λ o. number_in (rows_in a.from a.to a.rows.now) (maybe_number o)) c.in_ok-seq.was ∙ number-none a.from a.to _ a.rows.now (sym c.find_seq.ensures ∙ c.in_err-i.was))

pub offset_bounds-rows-i : goal.offset_bounds-rows-i
offset_bounds-rows-i c =
    let a = c.args in
    let w = find_at a.from a.to _ c.in_ok-i.i a.rows.now (sym c.find_seq.ensures ∙ c.in_ok-i.was) in
    let h : c.in_ok-i.i < length a.rows.now = omega arith in
    search rules

pub bounds-rows-i : goal.bounds-rows-i
bounds-rows-i c =
    let a = c.args in
    let w = find_at a.from a.to _ c.in_ok-i.i a.rows.now (sym c.find_seq.ensures ∙ c.in_ok-i.was) in
    omega arith

pub returns : goal.returns
returns c =
    let a = c.args in
    sym (ap (λ o. number_in (rows_in a.from a.to a.rows.now) (maybe_number o)) c.in_ok-seq.was ∙ number-at a.from a.to _ a.rows.now _ (sym c.find_seq.ensures ∙ c.in_ok-i.was))
