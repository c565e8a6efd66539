use borrow.Author.Tests.{lt-ltb, le-ltb}
use Rattle.layouttext.specs.Rows.{row_fault}
use Rattle.layouts.specs.Layouts.{first, last, selector}
use Rattle.layouttext.proofs.row_fault.Goals as goal

pub returns-then-row-gt65535 : goal.returns-then-row-gt65535
unfolding row_fault
returns-then-row-gt65535 c = let row = c.args.row in rw (lt-ltb 65535 (first row) c.if-row-gt65535.true)

pub returns-then-row-gt65535-2 : goal.returns-then-row-gt65535-2
unfolding row_fault
returns-then-row-gt65535-2 c = let row = c.args.row in rw (le-ltb 65535 (first row) c.if-row-gt65535.false, lt-ltb 65535 (last row) c.if-row-gt65535-2.true)

pub returns-then-row-gt63 : goal.returns-then-row-gt63
unfolding row_fault
returns-then-row-gt63 c = let row = c.args.row in rw (le-ltb 65535 (first row) c.if-row-gt65535.false, le-ltb 65535 (last row) c.if-row-gt65535-2.false, lt-ltb 63 (selector row) c.if-row-gt63.true)

pub returns-then-row : goal.returns-then-row
unfolding row_fault
returns-then-row c = let row = c.args.row in rw (le-ltb 65535 (first row) c.if-row-gt65535.false, le-ltb 65535 (last row) c.if-row-gt65535-2.false, le-ltb 63 (selector row) c.if-row-gt63.false, lt-ltb (last row) (first row) c.if-row.true)

pub returns : goal.returns
unfolding row_fault
returns c = let row = c.args.row in rw (le-ltb 65535 (first row) c.if-row-gt65535.false, le-ltb 65535 (last row) c.if-row-gt65535-2.false, le-ltb 63 (selector row) c.if-row-gt63.false, le-ltb (last row) (first row) c.if-row.false)
