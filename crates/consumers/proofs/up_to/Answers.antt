use mathlib.Core.Path.{◌≡◌, sym, ap₂}
use Prim.Native.Nat.{ℕ}
use lib.ListN.{length, set}
use Rattle.definition.specs.Layout.{Row}
use Rattle.consumers.proofs.Words.{sixteen-words}
use borrow.Author.Rules.{rules}
use Rattle.consumers.proofs.up_to.Goals as goal

pub returns : goal.returns
returns c = let h : length c.args.w ≡ 16 = search rules in
    ap₂ (λ (w : Row) (k : ℕ). set w 9 k) (sym (sixteen-words c.args.w h)) c.min.ensures
