use mathlib.Core.Path.{ap}
use Rattle.texting.specs.declared.Bad.{Bad}
use Rattle.texting.proofs.Taking.{bad-farther}
use native.Mathlib.Omega.{arith}
use Rattle.textcalls.proofs.check.Goals as goal

pub loop-from-smaller : goal.loop-from-smaller
loop-from-smaller c =
    let g = c.loop-from in
    let t = c.args.part.now in
    omega (arith, ap (λ (b : Bad). b.at) c.first_bad-b.ensures, bad-farther g.next.line g.from t c.loop-from-test.true)
