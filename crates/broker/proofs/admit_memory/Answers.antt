use mathlib.Core.Path.{sym, ap, ◌∙◌}
use Rattle.std.proofs.Common.{Ok}
use Rattle.broker.specs.declared.Admission.{Admission}
use borrow.Author.Tests.{lt-ltb, le-ltb, eq-eqb, ne_eqb}
use Rattle.broker.specs.Broker.{admit_memory}
use Rattle.broker.proofs.admit_memory.Goals as goal
use Rattle.broker.proofs.admit_memory.Goals.{then-limit-gt-MEMORY_MOST-via-then-limit-gt-MEMORY_MOST, then-limit-gt-MEMORY_MOST-via-else-limit-gt-MEMORY_MOST+then-used-gt-MEMORY_MOST, then-limit-gt-MEMORY_MOST-via-else-limit-gt-MEMORY_MOST+else-used-gt-MEMORY_MOST+then-size-gt-MEMORY_MOST, else-limited-via-then-limited+else-not-below_nine_tenths, else-limited-via-else-limited}

pub returns-then-limit-gt-MEMORY_MOST : goal.returns-then-limit-gt-MEMORY_MOST
unfolding admit_memory
returns-then-limit-gt-MEMORY_MOST c =
    elim c.then-limit-gt-MEMORY_MOST.branch [
      | then-limit-gt-MEMORY_MOST-via-then-limit-gt-MEMORY_MOST w ↦ simp (lt-ltb _ _ w.if-limit-gt-MEMORY_MOST.true)
      | then-limit-gt-MEMORY_MOST-via-else-limit-gt-MEMORY_MOST+then-used-gt-MEMORY_MOST w ↦
          simp (le-ltb _ _ w.if-limit-gt-MEMORY_MOST.false, lt-ltb _ _ w.if-used-gt-MEMORY_MOST.true)
      | then-limit-gt-MEMORY_MOST-via-else-limit-gt-MEMORY_MOST+else-used-gt-MEMORY_MOST+then-size-gt-MEMORY_MOST w ↦
          simp (le-ltb _ _ w.if-limit-gt-MEMORY_MOST.false, le-ltb _ _ w.if-used-gt-MEMORY_MOST.false, lt-ltb _ _ w.if-size-gt-MEMORY_MOST.true)
    ]

pub returns-then-limit-eq0 : goal.returns-then-limit-eq0
unfolding admit_memory
returns-then-limit-eq0 c =
    simp (le-ltb _ _ c.if-limit-gt-MEMORY_MOST.false, le-ltb _ _ c.if-used-gt-MEMORY_MOST.false, le-ltb _ _ c.if-size-gt-MEMORY_MOST.false, eq-eqb _ _ c.if-limit-eq0.true)

pub returns-then-not-below_nine_tenths : goal.returns-then-not-below_nine_tenths
unfolding admit_memory
returns-then-not-below_nine_tenths c =
    let e = sym c.below_nine_tenths.ensures ∙ c.if-not-below_nine_tenths.true in
    simp (
      le-ltb _ _ c.if-limit-gt-MEMORY_MOST.false,
      le-ltb _ _ c.if-used-gt-MEMORY_MOST.false,
      le-ltb _ _ c.if-size-gt-MEMORY_MOST.false,
      ne_eqb _ _ c.if-limit-eq0.false,
      c.if-limited.true,
      e,
    )

pub returns : goal.returns
unfolding admit_memory
returns c =
    let e = le-ltb _ _ c.if-limit-gt-MEMORY_MOST.false in
    let n = ne_eqb _ _ c.if-limit-eq0.false in
    ap (λ (a : Admission). Ok a) c.room_for.ensures ∙
    (elim c.else-limited.branch [
      | else-limited-via-then-limited+else-not-below_nine_tenths w ↦
          let h = sym w.below_nine_tenths.ensures ∙ w.if-not-below_nine_tenths.false in
          simp (e, le-ltb _ _ c.if-used-gt-MEMORY_MOST.false, le-ltb _ _ c.if-size-gt-MEMORY_MOST.false, n, w.if-limited.true, h)
      | else-limited-via-else-limited w ↦ simp (e, le-ltb _ _ c.if-used-gt-MEMORY_MOST.false, le-ltb _ _ c.if-size-gt-MEMORY_MOST.false, n, w.if-limited.false)
    ])
