use mathlib.Core.Path.{sym}
use mathlib.Core.Bool.{and_assoc, and-true}
use Rattle.definition.specs.Words.{at}
use Rattle.calls.proofs.Ranges.{share-range}
use Rattle.calls.proofs.Call.opens.Goals as goal

pub returns : goal.returns
returns c = rw (c.unused.ensures, sym (share-range (at 5 c.args.self.words))) (simp (and_assoc, and-true))
