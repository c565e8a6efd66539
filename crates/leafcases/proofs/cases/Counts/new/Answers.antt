use Rattle.leafcases.proofs.cases.Counts.new.Goals as goal

pub returns : goal.returns
returns c = rw c.new-none.ensures
