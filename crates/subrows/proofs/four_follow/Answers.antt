use Rattle.subrows.proofs.Rows.{array-words, row-tests, row-by-row}
use Rattle.subrows.proofs.four_follow.Goals as goal

pub returns : goal.returns
returns c =
    let a = c.args in
    let g = c.well_formed in record { value = rw (c.is_int.ensures, c.is_int-2.ensures, c.is_int-3.ensures, c.is_int-4.ensures) (row-by-row a.last a.a a.b a.c a.d); row_form = (row-tests a.a (array-words a.a _ g.0.1.1), (row-tests a.b (array-words a.b _ g.1.0.1.1), (row-tests a.c (array-words a.c _ g.1.1.0.1.1), row-tests a.d (array-words a.d _ g.1.1.1.0.1.1)))) }
