use mathlib.Core.Path.{refl, sym, ap, ◌∙◌}
use Prim.Native.Nat.{◌≤◌, ◌^◌}
use native.Mathlib.Omega.{arith}
use borrow.Author.Tests.{not-true, not-false, le-leb, lt-leb}
use lib.Dec.{leb}
use lib.ListN.{length}
use Rattle.definition.specs.Destination.{sweep_expired}
use Rattle.definition.proofs.Tests.{and_both}
use Rattle.table.proofs.Lists.{and-on, and-off}
use Rattle.state.proofs.Fitting.{fits-facts}
use Rattle.expiry.specs.Expiry.{sweep_out, sweep_finished}
use Rattle.expiry.proofs.Cleared.{refused}
use Rattle.expiry.proofs.Ended.{waiting-fine, able-at, sweep-from}
use Rattle.expiry.proofs.sweep.Goals as goal

pub returns-then-not-fits : goal.returns-then-not-fits
returns-then-not-fits c =
    let a = c.args in
    let p = refused _ (and-off _ _ (sym c.fits.ensures ∙ not-true _ c.if-not-fits.true-raw)) _ (sweep_out a.clock a.most) (sweep_expired a.clock a.most) a.d a.subs.now a.rows.now a.events.now _ refl in record { leaves_if = p.0; sweep_answers = p.1 }

pub returns-then-clock-gt-CLOCK_MOST : goal.returns-then-clock-gt-CLOCK_MOST
returns-then-clock-gt-CLOCK_MOST c =
    let a = c.args in
    let t = sym c.fits.ensures ∙ not-false _ c.if-not-fits.false-raw in
    let no = lt-leb a.clock (2 ^ 62) (omega (arith, c.if-clock-gt-CLOCK_MOST.true)) in
    let p = refused _ (and-on _ _ t ∙ and-off _ (leb a.most 512) no) _ (sweep_out a.clock a.most) (sweep_expired a.clock a.most) a.d a.subs.now a.rows.now a.events.now _ refl in record { leaves_if = p.0; sweep_answers = p.1 }

pub returns-then-most-gt-ROWS : goal.returns-then-most-gt-ROWS
returns-then-most-gt-ROWS c =
    let a = c.args in
    let t = sym c.fits.ensures ∙ not-false _ c.if-not-fits.false-raw in
    let clock = le-leb a.clock (2 ^ 62) (omega (arith, c.if-clock-gt-CLOCK_MOST.false)) in
    let no = lt-leb a.most 512 (omega (arith, c.if-most-gt-ROWS.true)) in
    let p = refused _ (and-on _ _ t ∙ and-on _ (leb a.most 512) clock ∙ no) _ (sweep_out a.clock a.most) (sweep_expired a.clock a.most) a.d a.subs.now a.rows.now a.events.now _ refl in record { leaves_if = p.0; sweep_answers = p.1 }

pub sweep_list-w-requires : goal.sweep_list-w-requires
sweep_list-w-requires c =
    let a = c.args in
    let t = sym c.fits.ensures ∙ not-false _ c.if-not-fits.false-raw in
    let f = fits-facts a.subs.now a.d (length a.rows.now) (length a.events.now) t in
    let clock : a.clock ≤ 2 ^ 62 = omega (arith, c.if-clock-gt-CLOCK_MOST.false) in
    let few : a.most ≤ 512 = omega (arith, c.if-most-gt-ROWS.false) in
    waiting-fine a.most a.clock _ a.d c.due-by.ensures a.subs.now a.rows.now a.events.now f clock few c.first_waiting.result c.first_waiting.ensures

pub sweep_subs-r-requires : goal.sweep_subs-r-requires
sweep_subs-r-requires c =
    let a = c.args in
    let t = sym c.fits.ensures ∙ not-false _ c.if-not-fits.false-raw in
    let f = fits-facts a.subs.now a.d (length a.rows.now) (length a.events.now) t in
    let clock : a.clock ≤ 2 ^ 62 = omega (arith, c.if-clock-gt-CLOCK_MOST.false) in
    let few : a.most ≤ 512 = omega (arith, c.if-most-gt-ROWS.false) in
    let w = c.sweep_list-w in
    able-at a.most a.clock _ a.d c.due-by.ensures a.subs.now a.rows.now a.events.now f clock few c.first_waiting.result c.first_waiting.ensures w.result _ w.auto.rows w.ensures.rows_after w.ensures.shorter w.ensures.rows_unchanged w.ensures.stays_strict _ c.shorter-left.ensures

pub returns : goal.returns
returns c =
    let a = c.args in
    let t = sym c.fits.ensures ∙ not-false _ c.if-not-fits.false-raw in
    let f = fits-facts a.subs.now a.d (length a.rows.now) (length a.events.now) t in
    let clock : a.clock ≤ 2 ^ 62 = omega (arith, c.if-clock-gt-CLOCK_MOST.false) in
    let few : a.most ≤ 512 = omega (arith, c.if-most-gt-ROWS.false) in
    let w = c.sweep_list-w in
    let r = c.sweep_subs-r in
    let l = c.shorter-left.ensures in
    let sure = and_both _ _ t (and_both _ _ (le-leb a.clock (2 ^ 62) clock) (le-leb a.most 512 few)) in
    let e = c.finished.ensures ∙ ap (sweep_finished r.result.gone a.clock) c.shorter.ensures in
    let p = sweep-from a.most a.clock _ a.d c.due-by.ensures a.subs.now a.rows.now a.events.now f clock few c.first_waiting.result c.first_waiting.ensures w.result _ w.auto.rows w.ensures.rows_after w.ensures.shorter w.ensures.rows_unchanged w.ensures.stays_strict _ l r.result _ _ r.ensures _ sure _ e in record { leaves_if = p.0; sweep_answers = p.1 }
