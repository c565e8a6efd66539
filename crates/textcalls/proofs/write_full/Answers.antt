use Rattle.texting.specs.Parts.{begun}
use Rattle.texting.proofs.Taking.{fill-farther}
use native.Mathlib.Omega.{arith}
use Rattle.textcalls.proofs.write_full.Goals as goal

pub loop-from-smaller : goal.loop-from-smaller
loop-from-smaller c =
    let g = c.loop-from in
    let t = c.args.part.now in
    omega (arith, c.fill-f.ensures.at, fill-farther (begun g.next.k g.block) g.next.k g.from t g.invariant.0 c.loop-from-test.true)
