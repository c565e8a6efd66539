use Rattle.std.specs.Prelude.{Option, unwrap_or}
use Rattle.std.specs.Result.{result_err}
use mathlib.Core.Path.{ap, ◌∙◌}
use Rattle.callfile.proofs.Parts.{then}
use Rattle.calltext.specs.declared.Fault.{Fault}
use Rattle.calltext.specs.declared.Fault.TheVariants.{NoName}
use Rattle.texting.specs.Lines.{complaint, shown_word}
use native.Mathlib.Omega.{arith}
use Rattle.texting.proofs.put_fault.Goals as goal

pub returns : goal.returns
returns c =
    let f = c.fault_of-f.ensures in
    let k = ap complaint (c.unwrap_or-fault.ensures ∙ ap (λ (o : Option Fault). unwrap_or o NoName) (c.err.ensures.value ∙ ap result_err c.parse.ensures)) in
    let p = c.put_complaint-a.ensures in
    let q = c.put_shown.ensures in
    (then (rw k at p.0) (rw (ap shown_word f.bytes) at q.0), omega (arith, p.1, q.1))
