use mathlib.Core.Path.{◌≡◌, sym, ap, ◌∙◌}
use Prim.Native.Nat.{ℕ}
use lib.Seq.{slice}
use Rattle.definition.specs.Base.{all}
use Rattle.acks.specs.Parts.{full_row}
use Rattle.acks.proofs.Telling.{full-none, full-turn}
use native.Mathlib.Omega.{arith}
use borrow.Author.Rules.{rules}
use Rattle.engine.proofs.acking.full_rows.Goals as goal

pub loop-i-init : goal.loop-i-init
loop-i-init c = record { within = search rules; end = search rules; room = search rules; done = full-none c.args.from c.args.rows.now }

pub loop-i-preserved : goal.loop-i-preserved
loop-i-preserved c =
    let a = c.args in
    let l = c.loop-i in
    let less = c.loop-i-test.true in
    record { within = search rules; end = search rules; room = search rules; done = full-turn a.from l.i a.rows.now l.invariant.within (omega arith) c.sized.ensures l.invariant.done }

pub returns : goal.returns
returns c =
    let a = c.args in
    let l = c.loop-i in
    let e : l.i ≡ a.to = omega (arith, c.loop-i-test.false) in
    ap (λ (n : ℕ). all full_row (slice a.from n a.rows.now)) (sym e) ∙ l.invariant.done
