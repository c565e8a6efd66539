use Prim.Native.Nat.{◌-◌}
use mathlib.Core.Path.{◌≡◌, refl, sym, ap, ap₂, ◌∙◌}
use mathlib.Core.Bool.{Bool, true, false, ◌&&◌}
use borrow.Author.Tests.{not-true, not-false}
use lib.ListN.{length, take, drop, length-take, length-drop}
use Rattle.definition.specs.Layout.{lengths_of, lent}
use Rattle.running.proofs.Blocks.{left-none}
use Rattle.running.proofs.Steps.{fits-block, unfilled-block, text-room, not-read, few, reads-part, reads_whole}
use Rattle.reporting.specs.Reporting.{report_call, noting_by}
use Rattle.reporting.specs.ReportFiles.{roomy_lists}
use Rattle.reporting.proofs.Hearing.{is-roomy, long-list, few-held, hears}
use native.Mathlib.Omega.{arith}
use Rattle.reporting.proofs.report_piece.Goals as goal

pub returns-then-not-roomy : goal.returns-then-not-roomy
returns-then-not-roomy c =
    let a = c.args in
    let e : roomy_lists a.at a.block.now a.out.now a.held.now a.kept ≡ false = sym c.roomy.ensures ∙ not-true _ c.if-not-roomy.true-raw in
    hears a.at a.piece.now a.from (lent a.head.now a.subs.now a.rows.now) (lent a.head.now a.subs.now a.rows.now) a.events.now a.events.now a.held.now a.held.now a.kept a.kept a.block.now a.block.now a.out.now a.out.now _ (not-read (report_call (lengths_of (lent a.head.now a.subs.now a.rows.now) (length a.events.now))) a.at a.piece.now a.from (noting_by (lent a.head.now a.subs.now a.rows.now) a.events.now a.held.now a.kept) a.block.now a.out.now (roomy_lists a.at a.block.now a.out.now a.held.now a.kept && a.at.goes_on) (ap (λ (t : Bool). t && a.at.goes_on) e) c.unread-took.ensures) refl (left-none (lent a.head.now a.subs.now a.rows.now) a.events.now) (λ few. few) refl

pub returns-then-not-at : goal.returns-then-not-at
returns-then-not-at c =
    let a = c.args in
    let e : roomy_lists a.at a.block.now a.out.now a.held.now a.kept ≡ true = sym c.roomy.ensures ∙ not-false _ c.if-not-roomy.false-raw in
    hears a.at a.piece.now a.from (lent a.head.now a.subs.now a.rows.now) (lent a.head.now a.subs.now a.rows.now) a.events.now a.events.now a.held.now a.held.now a.kept a.kept a.block.now a.block.now a.out.now a.out.now _ (not-read (report_call (lengths_of (lent a.head.now a.subs.now a.rows.now) (length a.events.now))) a.at a.piece.now a.from (noting_by (lent a.head.now a.subs.now a.rows.now) a.events.now a.held.now a.kept) a.block.now a.out.now (roomy_lists a.at a.block.now a.out.now a.held.now a.kept && a.at.goes_on) (ap (λ (t : Bool). t && a.at.goes_on) e ∙ not-true _ c.if-not-at.true) c.unread-took-then-not-at.ensures) refl (left-none (lent a.head.now a.subs.now a.rows.now) a.events.now) (λ few. few) refl

pub overflow_add-have : goal.overflow_add-have
overflow_add-have c =
    let a = c.args in
    let f = c.fill-n in
    let e : roomy_lists a.at a.block.now a.out.now a.held.now a.kept ≡ true = sym c.roomy.ensures ∙ not-false _ c.if-not-roomy.false-raw in
    omega (arith, few (report_call (lengths_of (lent a.head.now a.subs.now a.rows.now) (length a.events.now))) a.at a.piece.now a.from (noting_by (lent a.head.now a.subs.now a.rows.now) a.events.now a.held.now a.kept) a.block.now a.out.now (fits-block 949760 a.at a.block.now a.out.now (is-roomy a.at a.block.now a.out.now a.held.now a.kept e)) (unfilled-block 949760 a.at a.block.now a.out.now (is-roomy a.at a.block.now a.out.now a.held.now a.kept e)) f.result f.new.block f.ensures)

pub overflow_add-next : goal.overflow_add-next
overflow_add-next c =
    let a = c.args in
    let f = c.fill-n in
    let e : f.result ≡ length (take (length a.block.now - a.at.have) (drop a.from a.piece.now)) = f.ensures.count in
    omega (arith, c.well_formed.1.1.1.1.1.1.1.1.0, e, length-take (length a.block.now - a.at.have) (drop a.from a.piece.now), length-drop a.from a.piece.now)

pub returns-then-have-lt-BLOCK : goal.returns-then-have-lt-BLOCK
returns-then-have-lt-BLOCK c =
    let a = c.args in
    let f = c.fill-n in
    let e : roomy_lists a.at a.block.now a.out.now a.held.now a.kept ≡ true = sym c.roomy.ensures ∙ not-false _ c.if-not-roomy.false-raw in
    hears a.at a.piece.now a.from (lent a.head.now a.subs.now a.rows.now) (lent a.head.now a.subs.now a.rows.now) a.events.now a.events.now a.held.now a.held.now a.kept a.kept a.block.now f.new.block a.out.now a.out.now _ (reads-part (report_call (lengths_of (lent a.head.now a.subs.now a.rows.now) (length a.events.now))) a.at a.piece.now a.from (noting_by (lent a.head.now a.subs.now a.rows.now) a.events.now a.held.now a.kept) a.block.now a.out.now (fits-block 949760 a.at a.block.now a.out.now (is-roomy a.at a.block.now a.out.now a.held.now a.kept e)) (unfilled-block 949760 a.at a.block.now a.out.now (is-roomy a.at a.block.now a.out.now a.held.now a.kept e)) f.result f.new.block f.ensures (roomy_lists a.at a.block.now a.out.now a.held.now a.kept && a.at.goes_on) (ap₂ (λ (x y : Bool). x && y) e (not-false _ c.if-not-at.false)) c.if-have-lt-BLOCK.true c.begun-took.ensures) refl (left-none (lent a.head.now a.subs.now a.rows.now) a.events.now) (λ few. few) refl

pub report_block-told-requires : goal.report_block-told-requires
report_block-told-requires c =
    let a = c.args in
    let e : roomy_lists a.at a.block.now a.out.now a.held.now a.kept ≡ true = sym c.roomy.ensures ∙ not-false _ c.if-not-roomy.false-raw in
    (text-room 949760 a.at a.block.now a.out.now (is-roomy a.at a.block.now a.out.now a.held.now a.kept e), long-list a.at a.block.now a.out.now a.held.now a.kept e, few-held a.at a.block.now a.out.now a.held.now a.kept e)

pub returns : goal.returns
returns c =
    let a = c.args in
    let f = c.fill-n in
    let k = c.report_block-told in
    let e : roomy_lists a.at a.block.now a.out.now a.held.now a.kept ≡ true = sym c.roomy.ensures ∙ not-false _ c.if-not-roomy.false-raw in
    hears a.at a.piece.now a.from (lent a.head.now a.subs.now a.rows.now) (lent k.new.head k.new.subs k.new.rows) a.events.now k.new.events a.held.now k.new.held a.kept k.result.kept a.block.now f.new.block a.out.now k.new.out _ (reads_whole (report_call (lengths_of (lent a.head.now a.subs.now a.rows.now) (length a.events.now))) a.at a.piece.now a.from (noting_by (lent a.head.now a.subs.now a.rows.now) a.events.now a.held.now a.kept) a.block.now a.out.now (fits-block 949760 a.at a.block.now a.out.now (is-roomy a.at a.block.now a.out.now a.held.now a.kept e)) (unfilled-block 949760 a.at a.block.now a.out.now (is-roomy a.at a.block.now a.out.now a.held.now a.kept e)) f.result f.new.block f.ensures (roomy_lists a.at a.block.now a.out.now a.held.now a.kept && a.at.goes_on) (ap₂ (λ (x y : Bool). x && y) e (not-false _ c.if-not-at.false)) c.if-have-lt-BLOCK.false k.new.out k.result.ran k.ensures.printed _ c.more_of.ensures) k.ensures.shows k.ensures.left (λ _. k.ensures.few) k.ensures.same
