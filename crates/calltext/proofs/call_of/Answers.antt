use Rattle.calltext.proofs.call_of.Goals as goal

pub returns : goal.returns
returns c = c.new.ensures
