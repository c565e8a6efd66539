use borrow.Author.Tests.{le-leb, lt-leb}
use Rattle.consumers.specs.Consumers.{sent_of}
use Rattle.consumers.proofs.Sub.sent.Goals as goal
use Rattle.consumers.proofs.Sub.sent.Goals.{then-self-gt-RISING_MOST-via-then-self-gt-RISING_MOST, then-self-gt-RISING_MOST-via-else-self-gt-RISING_MOST+then-self-gt-RISING_MOST-2}

pub returns-then-self-gt-RISING_MOST : goal.returns-then-self-gt-RISING_MOST
unfolding sent_of
returns-then-self-gt-RISING_MOST c =
    elim c.then-self-gt-RISING_MOST.branch [
      | then-self-gt-RISING_MOST-via-then-self-gt-RISING_MOST w ↦ rw (lt-leb _ _ w.if-self-gt-RISING_MOST.true)
      | then-self-gt-RISING_MOST-via-else-self-gt-RISING_MOST+then-self-gt-RISING_MOST-2 w ↦ rw (le-leb _ _ w.if-self-gt-RISING_MOST.false, lt-leb _ _ w.if-self-gt-RISING_MOST-2.true)
    ]

pub returns : goal.returns
unfolding sent_of
returns c = rw (le-leb _ _ c.if-self-gt-RISING_MOST.false, le-leb _ _ c.if-self-gt-RISING_MOST-2.false)
