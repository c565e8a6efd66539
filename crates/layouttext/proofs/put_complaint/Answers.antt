use Rattle.callfile.proofs.Parts.{line-puts}
use Rattle.layouttext.proofs.Saying.{says_row, says_first, says_last, says_selector, says_above, says_many}
use native.Mathlib.Omega.{arith}
use Rattle.layouttext.proofs.put_complaint.Goals as goal

pub returns-in-NotARow : goal.returns-in-NotARow
returns-in-NotARow c =
    let p = line-puts (omega arith) (omega arith) c.put_all.ensures in
    (rw (says_row c.in-NotARow.is) at p, omega (arith, p.next))

pub returns-in-FirstOut : goal.returns-in-FirstOut
returns-in-FirstOut c =
    let p = line-puts (omega arith) (omega arith) c.put_all-in-FirstOut.ensures in
    (rw (says_first c.in-FirstOut.is) at p, omega (arith, p.next))

pub returns-in-LastOut : goal.returns-in-LastOut
returns-in-LastOut c =
    let p = line-puts (omega arith) (omega arith) c.put_all-in-LastOut.ensures in
    (rw (says_last c.in-LastOut.is) at p, omega (arith, p.next))

pub returns-in-SelectorOut : goal.returns-in-SelectorOut
returns-in-SelectorOut c =
    let p = line-puts (omega arith) (omega arith) c.put_all-in-SelectorOut.ensures in
    (rw (says_selector c.in-SelectorOut.is) at p, omega (arith, p.next))

pub returns-in-FirstAbove : goal.returns-in-FirstAbove
returns-in-FirstAbove c =
    let p = line-puts (omega arith) (omega arith) c.put_all-in-FirstAbove.ensures in
    (rw (says_above c.in-FirstAbove.is) at p, omega (arith, p.next))

pub returns-in-ManyRows : goal.returns-in-ManyRows
returns-in-ManyRows c =
    let p = line-puts (omega arith) (omega arith) c.put_all-in-ManyRows.ensures in
    (rw (says_many c.in-ManyRows.is) at p, omega (arith, p.next))
