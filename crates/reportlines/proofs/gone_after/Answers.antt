use Rattle.std.proofs.Common.{rules, tests, ◌∙◌, ◌≡◌, ap, take}
use Rattle.std.proofs.lemmas.Iterator.{YieldsList-from_slice, YieldsList-from_take}
use Rattle.std.proofs.lemmas.Iterator.Consumers.{fold_from_yields_List}
use Rattle.definition.specs.Words.{at}
use Rattle.words.specs.Pick.{whether◌then◌else◌}
use Rattle.reportlines.specs.declared.Gone.{Gone}
use Rattle.reportlines.specs.ReportLines.{none_gone, one_gone, all_gone}
use Rattle.reportlines.proofs.Blocks.{fold-gone}
use Rattle.reportlines.proofs.gone_after.Goals as goal
use Rattle.reportlines.proofs.gone_after.Goals.{then-anew, else-anew}

pub returns : goal.returns
returns c =
    let a = c.args in
    let s : c.if-anew.start ≡ (whether a.anew then none_gone else a.g) = elim c.if-anew.branch [ then-anew w ↦ rw w.if-anew.true w.start-is | else-anew w ↦ rw w.if-anew.false w.start-is ] in
    fold_from_yields_List _ (λ h b. one_gone (at 1 b) h) c.if-anew.start c.fold.result c.fold.ensures.ran (YieldsList-from_take a.n (YieldsList-from_slice a.left.now cc) cc) (λ h x b q k. search (rules, tests))
    ∙ fold-gone (take a.n a.left.now) c.if-anew.start ∙ ap (λ (g : Gone). all_gone (take a.n a.left.now) g) s
