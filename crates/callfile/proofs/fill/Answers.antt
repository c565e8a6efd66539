use Prim.Native.Nat.{ℕ, ◌+◌, ◌-◌}
use mathlib.Core.Path.{ap, ◌∙◌}
use lib.ListN.{take, drop}
use Rattle.callfile.proofs.Filling.{none_filled, copied-filled}
use native.Mathlib.Omega.{arith}
use Rattle.callfile.proofs.fill.Goals as goal

pub returns-then-block-have : goal.returns-then-block-have
returns-then-block-have c =
    let a = c.args in
    none_filled a.have a.from a.piece.now a.block.now (omega arith)

pub returns : goal.returns
returns c =
    let a = c.args in
    copied-filled a.have a.from c.min-n.result (a.have + c.min-n.result - a.have) a.piece.now a.block.now c.copy_from_slice.new.self c.min-n.ensures (omega arith) (omega arith)
    (c.copy_from_slice.ensures.after ∙ ap (λ (k : ℕ). take k (drop a.from a.piece.now)) (omega arith))
