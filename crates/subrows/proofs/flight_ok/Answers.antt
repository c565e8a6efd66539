use Rattle.subrows.proofs.flight_ok.Goals as goal

pub returns : goal.returns
returns c = rw c.entry_ok.ensures.value
