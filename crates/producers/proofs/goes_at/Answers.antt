use Rattle.producers.proofs.Words.{first_word}
use Rattle.producers.proofs.goes_at.Goals as goal

pub returns-then-whole : goal.returns-then-whole
returns-then-whole c = rw c.if-whole.true c.same_at.ensures

pub returns : goal.returns
returns c =
    let a = c.args in
    rw (c.if-whole.false, first_word a.at a.head.now)
