use mathlib.Core.Path.{ap}
use Rattle.leafcases.specs.Compare.{audit_compared, replayed, duplicate_same, value_word}
use Rattle.audit.specs.Audit.{RingLeft}
use Rattle.leafcases.proofs.cases.audit_compared.Goals as goal

pub returns : goal.returns
unfolding audit_compared
returns c =
    let v = c.args.v in
    rw c.duplicate_same.ensures
    (ap (λ (l : RingLeft). replayed l.checked.audit (duplicate_same l.checked (value_word v 1)) l.words) c.check_and_record-c.ensures.exact)
