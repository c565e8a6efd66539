use mathlib.Core.Path.{sym, ◌∙◌}
use Rattle.calltext.proofs.Gathering.{by_code, by-raw, unknown}
use native.Mathlib.Omega.{arith}
use Rattle.calltext.proofs.named_from.Goals as goal

pub returns-then-place-lt-RAW : goal.returns-then-place-lt-RAW
returns-then-place-lt-RAW c = let a = c.args in c.gather_from.ensures ∙ sym (by_code a.d a.place _ c.if-place-lt-RAW.true)

pub returns-then-place-eq-RAW : goal.returns-then-place-eq-RAW
returns-then-place-eq-RAW c = let a = c.args in c.gather_from-then-place-eq-RAW.ensures ∙ sym (by-raw a.d a.place _ c.if-place-eq-RAW.true)

pub returns : goal.returns
returns c = let a = c.args in sym (unknown a.d a.place _ (omega arith))
