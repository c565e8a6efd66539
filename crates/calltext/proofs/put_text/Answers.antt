use Prim.Native.Nat.{◌+◌}
use lib.ListN.{length}
use borrow.Author.Tests.{le-leb, lt-leb}
use Rattle.callfile.proofs.Parts.{whole-line, no_room}
use native.Mathlib.Omega.{arith}
use Rattle.calltext.proofs.put_text.Goals as goal

pub returns-then-out-lt512 : goal.returns-then-out-lt512
returns-then-out-lt512 c = let a = c.args in no_room _ a.out.now a.at (lt-leb (a.at + 512) (length a.out.now) (omega arith))

pub returns-then-out-at : goal.returns-then-out-at
returns-then-out-at c = let a = c.args in no_room _ a.out.now a.at (lt-leb (a.at + 512) (length a.out.now) (omega arith))

pub returns : goal.returns
returns c = let a = c.args in whole-line (le-leb (a.at + 512) (length a.out.now) (omega arith)) c.text_line.ensures
