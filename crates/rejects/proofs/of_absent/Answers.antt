use mathlib.Core.Path.{sym, ap, ap₂, ◌∙◌}
use mathlib.Core.List.{List, map}
use Prim.Native.Nat.{ℕ}
use lib.Seq.{slice}
use Rattle.definition.specs.Layout.{Row, held_at}
use Rattle.acks.specs.Acks.{maybe_number, ack_of}
use Rattle.rejects.proofs.Copying.{copied-same, copied-nothing}
use Rattle.rejects.proofs.Rows.{none_last, absent-rejects}
use Rattle.rejects.proofs.of_absent.Goals as goal

pub returns-in_default : goal.returns-in_default
returns-in_default c =
    let a = c.args in
    λ t e. copied-nothing a.out.now (none_last a.id (ack_of a.a) t (ap maybe_number c.in_default.is))

pub returns : goal.returns
returns c =
    let a = c.args in
    let from = c.first_reserved-from in
    let to = c.first_waiting-to in
    let l : List Row = slice from.result to.result a.rows.now in
    λ t e. copied-same (absent-rejects a.id (ack_of a.a) t l (e ∙ ap₂ (λ (x y : ℕ). map held_at (slice x y a.rows.now)) (sym from.ensures) (sym to.ensures)) c.in-Some.last (ap maybe_number c.in-Some.is) c.of-rule.result c.of-rule.ensures c.numbers-p.result c.numbers-p.ensures) c.copy.ensures
