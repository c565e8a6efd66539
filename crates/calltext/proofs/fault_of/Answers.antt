use Rattle.textwords.specs.declared.Stop.TheVariants.{Remark}
use Rattle.textwords.proofs.Words.{run-within}
use Rattle.calltext.proofs.Faulting.{in-line}
use native.Mathlib.Omega.{arith}
use Rattle.calltext.proofs.fault_of.Goals as goal

pub slice_bounds-fault_in-end : goal.slice_bounds-fault_in-end
slice_bounds-fault_in-end c =
    let l = c.args.text.now in omega (arith, c.scan-e.ensures, run-within Remark l)

pub returns : goal.returns
returns c =
    in-line c.args.text.now c.scan-e.result c.fault_in.result c.scan-e.ensures c.fault_in.ensures
