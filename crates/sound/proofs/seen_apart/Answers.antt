use mathlib.Core.Path.{◌≡◌, refl, sym, ap, ◌∙◌}
use mathlib.Core.Bool.{false, false≢true}
use mathlib.Core.List.{List, [], ◌++◌}
use Prim.Native.Nat.{ℕ, ◌+◌}
use borrow.Author.Tests.{not-false}
use lib.ListN.{take, drop, get_or, length-replicate}
use lib.Seq.{slice}
use Rattle.definition.specs.Types.{queue}
use Rattle.definition.specs.Calls.{seqs, taken}
use Rattle.definition.specs.Layout.{subs_at}
use Rattle.subrows.specs.Subrows.{seqs_at, reserved_at}
use Rattle.sound.specs.Sound.{marked_apart}
use Rattle.subrows.proofs.Subs.{rows-item, sorted_rises}
use Rattle.sound.proofs.Gathered.{taken_more, taken-all, taken-small}
use Rattle.sound.proofs.Glance.{marked-queue}
use native.Mathlib.Omega.{arith}
use borrow.Author.Rules.{rules}
use Rattle.sound.proofs.seen_apart.Goals as goal

pub marks-requires : goal.marks-requires
marks-requires c =
    let a = c.args in
    let f : ℕ = a.others + a.reserved in
    let up = sorted_rises (slice f (f + a.waiting) a.rows.now) c.requires.rows_value in record { n_in_bounds = search rules; do_bound = search rules; first_le_end = search rules; end_in_bounds = search rules; rows_value = up }

pub returns-then-not-marks : goal.returns-then-not-marks
returns-then-not-marks c = λ t. absurd (false≢true t)

pub loop-w-init : goal.loop-w-init
loop-w-init c =
    let a = c.args in
    let g = c.marks in
    (search rules, g.auto.slots ∙ length-replicate 256 false, (seqs_at (reserved_at a.others a.reserved a.rows.now), (refl, g.ensures (not-false g.result c.if-not-marks.false-raw) [] refl)))

pub marks-requires-in-loop-w : goal.marks-requires-in-loop-w
marks-requires-in-loop-w c =
    let a = c.args in
    let us = a.subs.now in
    let h = c.loop-w-test.true in
    let f : ℕ = a.others + a.reserved in
    let up = sorted_rises (slice f (f + a.waiting) a.rows.now) c.requires.rows_value in
    let v = c.loop-w.invariant in record { n_in_bounds = omega (arith, h, v.0, c.requires.others_value, c.requires.waiting_in_bounds, rows-item us c.loop-w.w-index h, c.taken_of-k.ensures, taken-small (get_or us c.loop-w.w-index [])); do_bound = omega (arith, v.1); first_le_end = omega arith; end_in_bounds = omega (arith, c.requires.waiting_in_bounds); rows_value = up }

pub returns-then-not-marks-2 : goal.returns-then-not-marks-2
returns-then-not-marks-2 c = λ t. absurd (false≢true t)

pub overflow_add-base : goal.overflow_add-base
overflow_add-base c =
    let a = c.args in
    let us = a.subs.now in
    let h = c.loop-w-test.true in
    omega (arith, h, c.loop-w.invariant.0, c.requires.others_value, c.requires.waiting_bound, rows-item us c.loop-w.w-index h)

pub overflow_add-base-in-loop-w : goal.overflow_add-base-in-loop-w
overflow_add-base-in-loop-w c =
    let a = c.args in
    let us = a.subs.now in
    let h = c.loop-w-test.true in
    omega (arith, h, c.loop-w.invariant.0, c.requires.others_value, c.requires.waiting_bound, rows-item us c.loop-w.w-index h)

pub loop-w-preserved : goal.loop-w-preserved
loop-w-preserved c =
    let a = c.args in
    let us = a.subs.now in
    let h = c.loop-w-test.true in
    let v = c.loop-w.invariant in
    let g = c.marks-in-loop-w in
    let k = c.taken_of-k in
    let rows = a.rows.now in
    let met = v.2.0 in
    let total : List ℕ = seqs_at (reserved_at a.others a.reserved rows) ++ seqs (taken (subs_at queue us rows)) in (
      omega (arith, v.0, rows-item us c.loop-w.w-index h),
      g.auto.slots ∙ v.1,
      (
        met ++ seqs_at (take k.result (drop c.loop-w.base rows)),
        (
          taken_more us c.loop-w.w-index rows c.loop-w.base met total v.2.1.0 k.result h k.ensures,
          g.ensures (not-false g.result c.if-not-marks-2.false-raw) met v.2.1.1,
        ),
      ),
    )

pub returns : goal.returns
returns c =
    let a = c.args in
    let us = a.subs.now in
    let rows = a.rows.now in
    let f : ℕ = a.others + a.reserved in
    let up = sorted_rises (slice f (f + a.waiting) a.rows.now) c.requires.rows_value in
    let v = c.loop-w.invariant in
    let met = v.2.0 in
    let total : List ℕ = seqs_at (reserved_at a.others a.reserved rows) ++ seqs (taken (subs_at queue us rows)) in
    let e : met ≡ total = taken-all us c.loop-w.w-index rows c.loop-w.base met total v.2.1.0 c.loop-w-test.false in
    λ t. marked-queue c.loop-w.slots rows f a.waiting total (omega (arith, c.requires.waiting_in_bounds)) up (sym (ap (marked_apart c.loop-w.slots (seqs_at (slice f (f + a.waiting) rows))) e) ∙ v.2.1.1)
