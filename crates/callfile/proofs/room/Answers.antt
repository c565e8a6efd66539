use Prim.Native.Nat.{◌+◌}
use mathlib.Core.Path.{sym, ◌∙◌}
use native.Mathlib.Omega.{arith}
use borrow.Author.Tests.{lt-leb}
use Rattle.words.proofs.Tests.{leb-less}
use Rattle.callfile.proofs.room.Goals as goal

pub returns-then-most-len : goal.returns-then-most-len
returns-then-most-len c = let a = c.args in leb-less a.at a.len a.most c.if-most-len.true

pub returns-else-most-len : goal.returns-else-most-len
returns-else-most-len c = let a = c.args in lt-leb a.most a.len c.if-most-len.false ∙ sym (lt-leb (a.at + a.most) a.len (omega arith))
