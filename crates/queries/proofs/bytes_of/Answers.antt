use mathlib.Core.Path.{sym, ◌∙◌}
use borrow.Author.Tests.{not-true}
use lib.ListN.{take}
use Rattle.queries.proofs.Bytes.{bytes-lone}
use Rattle.queries.proofs.bytes_of.Goals as goal

pub each-requires : goal.each-requires
each-requires c = record { n_in_bounds = c.requires.used_in_bounds; n_bound = c.requires.used_bound; small = c.requires.small }

pub returns-then-not-shared : goal.returns-then-not-shared
returns-then-not-shared c =
    let a = c.args in
    let g = c.shared in
    c.each.ensures ∙ bytes-lone (take a.used a.rows.now) (c.requires.rows_value (sym g.ensures ∙ not-true g.result c.if-not-shared.true-raw))

pub once-requires : goal.once-requires
once-requires c = record { n_in_bounds = c.requires.used_in_bounds; n_bound = c.requires.used_bound; small = c.requires.small }
