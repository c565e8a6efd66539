use mathlib.Core.Path.{refl, sym, ap, ◌∙◌}
use mathlib.Core.Bool.{Bool}
use native.Mathlib.Omega.{arith}
use Rattle.expiry.specs.Sweep.{sweep_listed, swept_unless}
use Rattle.expiry.proofs.sweep_held.Goals as goal

pub returns-then-snapshot : goal.returns-then-snapshot
returns-then-snapshot c =
    let a = c.args in
    let f = c.requires in record { rows_after = sym (ap (λ (b : Bool). swept_unless b a.most a.by (sweep_listed a.from a.start a.rows.now)) c.if-snapshot.true); shorter = record { length = omega arith; tail = refl; gone = f.gone }; rows_unchanged = refl; stays_strict = λ h. h }

pub returns : goal.returns
returns c =
    let l = c.sweep_list in
    let a = c.args in
    record {
      rows_after = l.ensures.rows_after ∙ sym (ap (λ (b : Bool). swept_unless b a.most a.by (sweep_listed a.from a.start a.rows.now)) c.if-snapshot.false);
      shorter = l.ensures.shorter;
      rows_unchanged = l.ensures.rows_unchanged;
      stays_strict = l.ensures.stays_strict;
    }
