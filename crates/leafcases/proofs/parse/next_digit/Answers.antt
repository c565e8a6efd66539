use borrow.Author.Tests.{lt-ltb, le-ltb}
use Rattle.leafcases.specs.Parse.{next_digit}
use Rattle.leafcases.proofs.parse.next_digit.Goals as goal
use Rattle.leafcases.proofs.parse.next_digit.Goals.{then-byte-lt48-via-then-byte-lt48, then-byte-lt48-via-else-byte-lt48+then-byte-gt57, then-byte-lt48-via-else-byte-lt48+else-byte-gt57+then-before-gt-FULL}

pub returns-then-byte-lt48 : goal.returns-then-byte-lt48
unfolding next_digit
returns-then-byte-lt48 c =
    elim c.then-byte-lt48.branch [
      | then-byte-lt48-via-then-byte-lt48 w ↦ simp (lt-ltb _ _ w.if-byte-lt48.true)
      | then-byte-lt48-via-else-byte-lt48+then-byte-gt57 w ↦ simp (le-ltb _ _ w.if-byte-lt48.false, lt-ltb _ _ w.if-byte-gt57.true)
      | then-byte-lt48-via-else-byte-lt48+else-byte-gt57+then-before-gt-FULL w ↦
          simp (le-ltb _ _ w.if-byte-lt48.false, le-ltb _ _ w.if-byte-gt57.false, lt-ltb _ _ w.if-before-gt-FULL.true)
    ]

pub returns : goal.returns
unfolding next_digit
returns c =
    simp (le-ltb _ _ c.if-byte-lt48.false, le-ltb _ _ c.if-byte-gt57.false, le-ltb _ _ c.if-before-gt-FULL.false, c.wide.ensures.0)
