use mathlib.Core.Path.{sym}
use Rattle.model.proofs.Ids.{same-id-words}
use Rattle.subrows.proofs.same_id.Goals as goal

pub returns : goal.returns
returns c =
    let a = c.args in
    let f = c.ranges in
    sym (same-id-words a.conn a.session a.value a.conn2 a.session2 a.value2 f.session.fits f.value.fits f.session2.fits f.value2.fits)
