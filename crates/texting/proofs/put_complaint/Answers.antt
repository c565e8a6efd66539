use Rattle.callfile.proofs.Parts.{line-puts}
use Rattle.texting.proofs.Showing.{says_unknown, says_number, says_many, says_destination, says_name}
use native.Mathlib.Omega.{arith}
use Rattle.texting.proofs.put_complaint.Goals as goal

pub returns-in-UnknownCall : goal.returns-in-UnknownCall
returns-in-UnknownCall c =
    let p = line-puts (omega arith) (omega arith) c.put_all.ensures in
    (rw (says_unknown c.in-UnknownCall.is) at p, omega (arith, p.next))

pub returns-in-NotANumber : goal.returns-in-NotANumber
returns-in-NotANumber c =
    let p = line-puts (omega arith) (omega arith) c.put_all-in-NotANumber.ensures in
    (rw (says_number c.in-NotANumber.is) at p, omega (arith, p.next))

pub returns-in-TooManyArguments : goal.returns-in-TooManyArguments
returns-in-TooManyArguments c =
    let p = line-puts (omega arith) (omega arith) c.put_all-in-TooManyArguments.ensures in
    (rw (says_many c.in-TooManyArguments.is) at p, omega (arith, p.next))

pub returns-in-NotADestination : goal.returns-in-NotADestination
returns-in-NotADestination c =
    let p = line-puts (omega arith) (omega arith) c.put_all-in-NotADestination.ensures in
    (rw (says_destination c.in-NotADestination.is) at p, omega (arith, p.next))

pub returns-in-NoName : goal.returns-in-NoName
returns-in-NoName c =
    let p = line-puts (omega arith) (omega arith) c.put_all-in-NoName.ensures in
    (rw (says_name c.in-NoName.is) at p, omega (arith, p.next))
