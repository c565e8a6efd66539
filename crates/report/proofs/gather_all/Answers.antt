use native.Mathlib.Omega.{arith}
use Rattle.report.proofs.Accounting.{all-many, all-put}
use Rattle.report.proofs.gather_all.Goals as goal

pub returns : goal.returns
returns c =
    let t = c.gather_taken in
    let r = c.first_reserved-before in
    let w = c.first_waiting-first in
    let a = c.args in
    let h = c.requires.held_numbers in record { value = all-many a.d a.subs.now a.rows.now h w.result r.result w.ensures r.ensures t.result t.ensures.value; upper_bound = omega (arith, t.ensures.upper_bound, h.used, h.few); out_after = all-put a.d a.subs.now a.rows.now h w.result r.result w.ensures r.ensures a.out.now _ _ _ c.gather.ensures c.gather-2.ensures t.ensures.out_after }
