use mathlib.Core.Path.{sym, ◌∙◌}
use native.Mathlib.Omega.{arith}
use Rattle.acks.specs.Acks.{ack_of}
use Rattle.rejects.proofs.Copying.{copied-same}
use Rattle.rejects.proofs.Rows.{absent-is, reserved-rows}
use Rattle.rejects.proofs.of_ack.Goals as goal

pub of_present-requires : goal.of_present-requires
of_present-requires c =
    let p = c.requires in
    (p.0, p.1, sym c.position.ensures ∙ c.in-Some.is)

pub of_absent-requires : goal.of_absent-requires
of_absent-requires c =
    let p = c.requires in
    (omega (arith, p.0.used, p.0.rows_long), omega (arith, p.0.used, p.1))

pub returns-in-None : goal.returns-in-None
returns-in-None c =
    let a = c.args in
    let p = c.requires in
    copied-same (absent-is a.subs.now a.rows.now a.d p.0 a.id (ack_of a.a) (sym c.position.ensures ∙ c.in-None.is))
    (c.of_absent.ensures _ (reserved-rows a.subs.now a.rows.now a.d p.0 a.id (ack_of a.a)))
