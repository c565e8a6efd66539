use mathlib.Core.Path.{ap}
use Rattle.layouttext.specs.Verdict.{verdict_of}
use Rattle.layouttext.specs.Messages.{verdict_text}
use Rattle.layouttext.proofs.Saying.{judged-fault, judged-found}
use Rattle.layouttext.proofs.put_verdict.Goals as goal

pub returns-in-Some : goal.returns-in-Some
unfolding verdict_of
returns-in-Some c =
    let p = c.put_fault.ensures in
    (rw (judged-fault c.read_rows-r.ensures c.in-Some.fault c.in-Some.is) at p.0, p.1)

pub returns : goal.returns
unfolding verdict_of
returns c =
    let p = c.put_found.ensures in
    (rw (ap verdict_text (judged-found c.read_rows-r.ensures c.in_default.is)) at p.0, p.1)
