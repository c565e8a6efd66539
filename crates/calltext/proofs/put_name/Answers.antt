use Rattle.std.proofs.Common.{arith}
use Rattle.callfile.proofs.Parts.{line-puts}
use Rattle.calltext.proofs.put_name.Goals as goal

pub returns : goal.returns
returns c = let p = line-puts (omega arith) (omega arith) c.put_all.ensures in (rw c.name_of.ensures.0 at p, omega (arith, p.next))
