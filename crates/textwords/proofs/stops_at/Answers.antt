use mathlib.Core.Path.{ap}
use mathlib.Core.Bool.{not}
use Rattle.textwords.proofs.stops_at.Goals as goal

pub returns-in-Blank : goal.returns-in-Blank
returns-in-Blank c = rw c.in-Blank.is c.is_blank.ensures

pub returns-in-Word : goal.returns-in-Word
returns-in-Word c = rw c.in-Word.is (ap not c.is_blank-in-Word.ensures)

pub returns-in-Remark : goal.returns-in-Remark
returns-in-Remark c = rw c.in-Remark.is

pub returns-in-LineEnd : goal.returns-in-LineEnd
returns-in-LineEnd c = rw c.in-LineEnd.is
