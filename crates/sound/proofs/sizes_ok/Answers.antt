use mathlib.Core.Path.{sym, ap, ◌∙◌}
use lib.Seq.{take-length}
use Rattle.copies.specs.Copies.{shared_by}
use borrow.Author.Tests.{not-true}
use Rattle.sound.proofs.sizes_ok.Goals as goal

pub returns-then-not-shared : goal.returns-then-not-shared
returns-then-not-shared c =
    let g = c.shared in
    sym (c.requires.rows_value (ap (shared_by c.args.on_queue) (sym (take-length c.args.subs.now)) ∙ sym g.ensures ∙ not-true g.result c.if-not-shared.true-raw))
