use Rattle.texting.proofs.Taking.{sealed-fills}
use Rattle.texting.proofs.fill.Goals as goal

pub returns : goal.returns
returns c = sealed-fills (rw c.begin.ensures at c.take_lines-f.ensures) c.end.ensures
