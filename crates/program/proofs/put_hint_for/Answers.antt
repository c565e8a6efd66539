use borrow.Author.Tests.{le-leb, lt-leb}
use Rattle.callfile.proofs.Parts.{whole-line, no_room}
use Rattle.program.proofs.put_hint_for.Goals as goal

pub returns-then-out-lt160 : goal.returns-then-out-lt160
returns-then-out-lt160 c = no_room _ c.args.out.now 0 (lt-leb 160 _ c.if-out-lt160.true)

pub returns : goal.returns
returns c = whole-line (le-leb 160 _ c.if-out-lt160.false) c.hint_text.ensures
