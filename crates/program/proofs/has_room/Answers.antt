use Prim.Native.Nat.{◌+◌}
use mathlib.Core.Path.{sym}
use borrow.Author.Tests.{le-leb, lt-leb}
use native.Mathlib.Omega.{arith}
use Rattle.program.proofs.has_room.Goals as goal

pub returns-then-len-name : goal.returns-then-len-name
returns-then-len-name c = let a = c.args in sym (lt-leb (a.name + 2 + a.text) a.len (omega arith))

pub returns-then-len-name-lt2 : goal.returns-then-len-name-lt2
returns-then-len-name-lt2 c = let a = c.args in sym (lt-leb (a.name + 2 + a.text) a.len (omega arith))

pub returns-then-len-name-2 : goal.returns-then-len-name-2
returns-then-len-name-2 c = let a = c.args in sym (lt-leb (a.name + 2 + a.text) a.len (omega arith))

pub returns : goal.returns
returns c = let a = c.args in sym (le-leb (a.name + 2 + a.text) a.len (omega arith))
