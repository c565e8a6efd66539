use mathlib.Core.Path.{sym}
use borrow.Author.Tests.{lt-ltb, le-ltb}
use lib.Seq.{length-take-le}
use Rattle.leafcases.specs.Parse.{line_in}
use Rattle.leafcases.proofs.parse.line_of.Goals as goal
use Rattle.leafcases.proofs.parse.line_of.Goals.{then-cut-via-then-cut, then-cut-via-else-cut+then-buffer-n}

pub returns-then-cut : goal.returns-then-cut
unfolding line_in
returns-then-cut c =
    elim c.then-cut.branch [
      | then-cut-via-then-cut w ↦ rw (w.if-cut.true, c.bad_line.ensures)
      | then-cut-via-else-cut+then-buffer-n w ↦ rw (w.if-cut.false, lt-ltb _ _ w.if-buffer-n.true, c.bad_line.ensures)
    ]

pub slice_bounds-parsed-end : goal.slice_bounds-parsed-end
slice_bounds-parsed-end c = let a = c.args in sym (length-take-le a.n a.buffer.now c.if-buffer-n.false)

pub returns : goal.returns
unfolding line_in
returns c = rw (c.if-cut.false, le-ltb _ _ c.if-buffer-n.false) c.parsed.ensures
