use mathlib.Core.Path.{◌≡◌, ap, ◌∙◌}
use Prim.Native.Nat.{ℕ}
use native.Mathlib.Omega.{arith}
use lib.ListN.{length, take}
use lib.Seq.{slice}
use Rattle.definition.specs.Layout.{sub_rows}
use Rattle.state.specs.Fits.{Fits}
use Rattle.state.proofs.Fitting.{fits-facts}
use Rattle.engine.specs.Storing.{holds}
use Rattle.engine.specs.Arrivals.{rows_in_order}
use Rattle.engine.proofs.storing.is_held.Goals as goal
use Rattle.engine.proofs.storing.is_held.Goals.{Start}

facts : (c : Start) → Fits c.args.subs.now c.args.d (length c.args.rows.now) 545
facts c = fits-facts c.args.subs.now c.args.d (length c.args.rows.now) 545 c.requires.fit

pub is_queued-requires : goal.is_queued-requires
is_queued-requires c =
    let f = facts (goal.at.is_queued-requires c).Start in
    let e = c.first_waiting.ensures in (
      omega (arith, e),
      omega (arith, f.used, f.rows_long),
      ap (λ (n : ℕ). rows_in_order (slice n c.args.d.used c.args.rows.now)) e ∙ c.requires.order.waiting,
    )

pub returns-then-d : goal.returns-then-d
returns-then-d c = c.is_queued.ensures

pub is_fanned_out-requires : goal.is_fanned_out-requires
is_fanned_out-requires c =
    let f = facts (goal.at.is_fanned_out-requires c).Start in
    record {
      few = f.consumers;
      subs-long = omega (arith, f.consumers, f.subs-long);
      used = omega (arith, f.rows-used, f.used);
      rows_long = omega (arith, f.rows-used, f.used, f.rows_long);
      held = c.requires.order.held c.if-d.false;
    }

pub returns : goal.returns
returns c =
    let a = c.args in
    let e : sub_rows (take a.d.consumers a.subs.now) ≡ a.d.used = omega (arith, (facts (goal.at.returns c).Start).rows-used, c.requires.own c.if-d.false) in
    c.is_fanned_out.ensures ∙ ap (λ (n : ℕ). holds a.seq (take n a.rows.now)) e
