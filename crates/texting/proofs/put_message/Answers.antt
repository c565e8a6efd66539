use borrow.Author.Tests.{le-leb, lt-leb}
use Rattle.callfile.proofs.Parts.{whole-line, no_room}
use Rattle.texting.proofs.put_message.Goals as goal

pub returns-then-out-lt-MESSAGE : goal.returns-then-out-lt-MESSAGE
returns-then-out-lt-MESSAGE c = no_room _ c.args.out.now 0 (lt-leb 192 _ c.if-out-lt-MESSAGE.true)

pub returns : goal.returns
returns c = whole-line (le-leb 192 _ c.if-out-lt-MESSAGE.false) c.message_text.ensures
