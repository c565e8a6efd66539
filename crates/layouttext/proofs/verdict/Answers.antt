use borrow.Author.Tests.{le-leb, lt-leb}
use Rattle.callfile.proofs.Parts.{whole-line, no_room}
use Rattle.layouttext.proofs.verdict.Goals as goal

pub returns-then-out-lt-ROOM : goal.returns-then-out-lt-ROOM
returns-then-out-lt-ROOM c = no_room _ c.args.out.now 0 (lt-leb 512 _ c.if-out-lt-ROOM.true)

pub returns : goal.returns
returns c = whole-line (le-leb 512 _ c.if-out-lt-ROOM.false) c.put_verdict.ensures
