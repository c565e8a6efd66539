use mathlib.Core.Path.{sym, ◌∙◌}
use Rattle.calltext.proofs.Faulting.{in-name, in-raw, in_code, also}
use native.Mathlib.Omega.{arith}
use Rattle.calltext.proofs.fault_named.Goals as goal

pub returns-then-place-gt-RAW : goal.returns-then-place-gt-RAW
returns-then-place-gt-RAW c = let p = c.requires in record { order = p.0; within = p.1; bytes = sym (in-name _ _ (omega (arith, p.2))) }

pub returns-then-place-eq-RAW : goal.returns-then-place-eq-RAW
returns-then-place-eq-RAW c = also c.fault_from.ensures (sym (in-raw _ _ (sym c.requires.2 ∙ c.if-place-eq-RAW.true)))

pub returns : goal.returns
returns c = also c.fault_from-2.ensures (sym (in_code _ _ (omega (arith, c.requires.2))))
