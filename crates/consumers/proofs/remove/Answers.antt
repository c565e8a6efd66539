use Rattle.std.proofs.Common.{◌∙◌, length}
use borrow.Author.Tests.{lt-ltb, le-ltb, le-leb, lt-leb}
use Rattle.consumers.specs.Table.{sub_removed}
use Rattle.consumers.proofs.Lists.{copied-out}
use Rattle.consumers.proofs.remove.Goals as goal
use Rattle.consumers.proofs.remove.Goals.{else-n-subs-via-then-n-subs+else-at-n, else-n-subs-via-else-n-subs}

pub returns-then-at-n : goal.returns-then-at-n
unfolding sub_removed
returns-then-at-n c = let a = c.args in
    rw (le-leb a.n (length a.subs.now) c.if-n-subs.true, lt-ltb a.at a.n c.if-at-n.true) (c.copy_within.ensures.after ∙ copied-out a.at a.n a.subs.now c.if-at-n.true c.if-n-subs.true)

pub returns-else-n-subs : goal.returns-else-n-subs
unfolding sub_removed
returns-else-n-subs c = let a = c.args in
    elim c.else-n-subs.branch [
      | else-n-subs-via-then-n-subs+else-at-n w ↦ rw (le-leb a.n (length a.subs.now) w.if-n-subs.true, le-ltb a.at a.n w.if-at-n.false)
      | else-n-subs-via-else-n-subs w ↦ rw (lt-leb a.n (length a.subs.now) w.if-n-subs.false)
    ]
