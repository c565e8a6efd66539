use mathlib.Core.Path.{◌≡◌, sym, ap}
use lib.ListN.{length, set}
use Rattle.definition.specs.Layout.{Row}
use Rattle.consumers.specs.Table.{cleared_row}
use Rattle.consumers.proofs.Words.{sixteen-words}
use borrow.Author.Rules.{rules}
use Rattle.consumers.proofs.emptied.Goals as goal

pub returns : goal.returns
unfolding cleared_row
returns c = let h : length c.args.w ≡ 16 = search rules in
    ap (λ (w : Row). set (set (set w 13 0) 14 0) 15 0) (sym (sixteen-words c.args.w h))
