use Rattle.std.proofs.Common.{rules, tests, ◌∙◌, Bool}
use borrow.Author.Tests.{lt-leb}
use Rattle.std.proofs.lemmas.Iterator.{YieldsList-from_slice, YieldsList-from_take}
use Rattle.std.proofs.lemmas.Iterator.Search.{any_from_yields_List}
use Rattle.definition.specs.Layout.{Row}
use Rattle.consumers.specs.Consumers.{row_sub}
use Rattle.dispatch.specs.Dispatch.{browses}
use Rattle.dispatch.proofs.Guard.{one-short, one-any}
use Rattle.dispatch.proofs.any_browser.Goals as goal

abbrev shows : Row → Bool
shows w = (row_sub w).browser

pub returns-then-n-subs : goal.returns-then-n-subs
unfolding browses row_sub
returns-then-n-subs c =
    let a = c.args in
    any_from_yields_List shows _ _ c.any.result c.any.ensures.ran (YieldsList-from_take a.n (YieldsList-from_slice a.subs.now cc) cc) (λ x b q k. search (rules, tests)) ∙ one-any shows a.n a.subs.now c.if-n-subs.true

pub returns-else-n-subs : goal.returns-else-n-subs
unfolding browses
returns-else-n-subs c = let a = c.args in lt-leb _ _ c.if-n-subs.false ∙ one-short shows a.n a.subs.now c.if-n-subs.false
