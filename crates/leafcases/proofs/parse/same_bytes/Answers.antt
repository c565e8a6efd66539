use Rattle.std.proofs.lemmas.Bool.Decides.{Decides-eqb}
use Rattle.std.proofs.lemmas.Slice.Eq.{slice_eq-Decides}
use Rattle.leafcases.proofs.Text.{is_same}
use Rattle.leafcases.proofs.parse.same_bytes.Goals as goal

pub returns : goal.returns
returns c =
    let a = c.args in
    let d = slice_eq-Decides Decides-eqb a.a.now a.b.now c.eq.result c.eq.ensures in
    is_same c.eq.result a.a.now a.b.now d.0 d.1
