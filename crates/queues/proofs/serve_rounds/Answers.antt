use mathlib.Core.Path.{◌≡◌, refl, sym, ◌∙◌}
use mathlib.Core.Bool.{true, false}
use borrow.Author.Tests.{not-true, not-false}
use lib.ListN.{length}
use Rattle.queues.specs.Scan.{scans}
use Rattle.queues.proofs.Guard.{scans-facts}
use Rattle.queues.proofs.serve_rounds.Goals as goal

pub returns-then-not-can_scan : goal.returns-then-not-can_scan
returns-then-not-can_scan c =
    let a = c.args in
    let no : scans a.by a.subs.now a.d (length a.rows.now) (length a.events.now) ≡ false = sym c.can_scan.ensures ∙ not-true _ c.if-not-can_scan.true-raw in
    rw no (record { same_head = refl; same-subs = refl; same_rows = refl; same-events = refl })

pub rounds-requires : goal.rounds-requires
rounds-requires c =
    let a = c.args in
    let yes : scans a.by a.subs.now a.d (length a.rows.now) (length a.events.now) ≡ true = sym c.can_scan.ensures ∙ not-false _ c.if-not-can_scan.false-raw in
    let f = scans-facts a.by a.subs.now a.d (length a.rows.now) (length a.events.now) yes in
    (f.0, f.1)

pub returns : goal.returns
returns c =
    let a = c.args in
    let yes : scans a.by a.subs.now a.d (length a.rows.now) (length a.events.now) ≡ true = sym c.can_scan.ensures ∙ not-false _ c.if-not-can_scan.false-raw in
    let r = c.rounds.ensures in
    rw yes (r.leaves, r.onward)
