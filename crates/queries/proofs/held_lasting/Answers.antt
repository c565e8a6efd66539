use Rattle.queries.proofs.held_lasting.Goals as goal

pub returns : goal.returns
returns c =
    rw c.if-snapshot.false c.lasting.ensures
