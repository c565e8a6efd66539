use Rattle.leafcases.proofs.cases.Run.new.Goals as goal

pub returns : goal.returns
returns c = rw (c.new.ensures, c.new-2.ensures)
