use mathlib.Core.Path.{◌≡◌, refl, ◌∙◌}
use mathlib.Core.List.{[]}
use lib.ListN.{get_or, get_or-eq_default}
use Rattle.consumers.specs.Consumers.{row_sub}
use Rattle.consumers.proofs.load.Goals as goal

pub returns-else-i-subs : goal.returns-else-i-subs
unfolding row_sub
returns-else-i-subs c = let a = c.args in
    let e : get_or a.subs.now a.i [] ≡ [] = get_or-eq_default a.subs.now [] {n = a.i} c.if-i-subs.false in
    c.sub_of-else-i-subs.ensures ∙ rw e refl
