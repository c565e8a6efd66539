use Rattle.std.proofs.Common.{rules, refl, ◌∙◌, ◌+◌, min, take}
use Rattle.std.proofs.lemmas.Iterator.{YieldsList-from_slice, YieldsList-from_take}
use Rattle.std.proofs.lemmas.Iterator.Consumers.{fold_from_yields_List}
use Rattle.consumers.specs.Table.{kept_by, kept_rows}
use Rattle.consumers.proofs.Table.{fold-capped}
use Rattle.consumers.proofs.held_rows.Goals as goal

pub returns : goal.returns
unfolding kept_rows
returns c = fold_from_yields_List _ (λ a w. min 513 (a + min 513 (kept_by c.args.queue w))) 0 c.fold.result c.fold.ensures.ran (YieldsList-from_take c.args.n (YieldsList-from_slice c.args.subs.now cc) cc) (λ a x b q k. search rules) ∙ fold-capped (kept_by c.args.queue) (kept_rows c.args.queue) refl (λ w ws. refl) (take c.args.n c.args.subs.now)
