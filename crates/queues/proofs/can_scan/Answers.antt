use mathlib.Core.Path.{◌≡◌, refl, sym, ◌∙◌}
use mathlib.Core.Bool.{true, and-true}
use Prim.Native.Nat.{◌^◌}
use borrow.Author.Tests.{not-true, not-false, le-leb, lt-leb}
use lib.Dec.{leb}
use lib.ListN.{length}
use Rattle.queues.specs.Scan.{scan_tables, scan_counters, rows_fit}
use Rattle.queues.proofs.Guard.{scans-by, tables-long}
use Rattle.queues.proofs.can_scan.Goals as goal

pub returns-then-by-gt-CLOCK_MOST : goal.returns-then-by-gt-CLOCK_MOST
returns-then-by-gt-CLOCK_MOST c =
    let a = c.args in
    sym (scans-by a.by a.subs.now a.d a.rows a.events (lt-leb _ _ c.if-by-gt-CLOCK_MOST.true) refl refl refl refl)

pub returns-then-not-d : goal.returns-then-not-d
returns-then-not-d c =
    let a = c.args in
    let clock : leb a.by (2 ^ 62) ≡ true = le-leb _ _ c.if-by-gt-CLOCK_MOST.false in
    sym (scans-by a.by a.subs.now a.d a.rows a.events clock (not-true _ c.if-not-d.true) refl refl refl)

pub returns-then-not-scan_tables : goal.returns-then-not-scan_tables
returns-then-not-scan_tables c =
    let a = c.args in
    let clock : leb a.by (2 ^ 62) ≡ true = le-leb _ _ c.if-by-gt-CLOCK_MOST.false in
    let queue : a.d.queue ≡ true = not-false _ c.if-not-d.false in
    sym (scans-by a.by a.subs.now a.d a.rows a.events clock queue (sym c.scan_tables.ensures ∙ not-true _ c.if-not-scan_tables.true-raw) refl refl)

pub returns-then-not-scan_counters : goal.returns-then-not-scan_counters
returns-then-not-scan_counters c =
    let a = c.args in
    let clock : leb a.by (2 ^ 62) ≡ true = le-leb _ _ c.if-by-gt-CLOCK_MOST.false in
    let queue : a.d.queue ≡ true = not-false _ c.if-not-d.false in
    let tables : scan_tables a.d (length a.subs.now) a.rows a.events ≡ true = sym c.scan_tables.ensures ∙ not-false _ c.if-not-scan_tables.false-raw in
    sym (scans-by a.by a.subs.now a.d a.rows a.events clock queue tables (sym c.scan_counters.ensures ∙ not-true _ c.if-not-scan_counters.true-raw) refl)

pub returns-then-not-rows_fit : goal.returns-then-not-rows_fit
returns-then-not-rows_fit c =
    let a = c.args in
    let clock : leb a.by (2 ^ 62) ≡ true = le-leb _ _ c.if-by-gt-CLOCK_MOST.false in
    let queue : a.d.queue ≡ true = not-false _ c.if-not-d.false in
    let tables : scan_tables a.d (length a.subs.now) a.rows a.events ≡ true = sym c.scan_tables.ensures ∙ not-false _ c.if-not-scan_tables.false-raw in
    let counters : scan_counters a.d.stats ≡ true = sym c.scan_counters.ensures ∙ not-false _ c.if-not-scan_counters.false-raw in
    sym (scans-by a.by a.subs.now a.d a.rows a.events clock queue tables counters (sym c.rows_fit.ensures ∙ not-true _ c.if-not-rows_fit.true-raw))

pub next_fit-requires : goal.next_fit-requires
next_fit-requires c =
    let a = c.args in
    let tables : scan_tables a.d (length a.subs.now) a.rows a.events ≡ true = sym c.scan_tables.ensures ∙ not-false _ c.if-not-scan_tables.false-raw in
    tables-long a.by a.subs.now a.d a.rows a.events tables

pub returns : goal.returns
returns c =
    let a = c.args in
    let clock : leb a.by (2 ^ 62) ≡ true = le-leb _ _ c.if-by-gt-CLOCK_MOST.false in
    let queue : a.d.queue ≡ true = not-false _ c.if-not-d.false in
    let tables : scan_tables a.d (length a.subs.now) a.rows a.events ≡ true = sym c.scan_tables.ensures ∙ not-false _ c.if-not-scan_tables.false-raw in
    let counters : scan_counters a.d.stats ≡ true = sym c.scan_counters.ensures ∙ not-false _ c.if-not-scan_counters.false-raw in
    let rows : rows_fit a.subs.now a.d ≡ true = sym c.rows_fit.ensures ∙ not-false _ c.if-not-rows_fit.false-raw in
    c.next_fit.ensures ∙ sym (scans-by a.by a.subs.now a.d a.rows a.events clock queue tables counters rows ∙ and-true _)
