use mathlib.Core.Path.{sym, ◌∙◌}
use mir.Syntax.{w64}
use mir.ValLaws.{to_z-of_z}
use Rattle.broker.specs.Broker.{times_and_settings_ok}
use Rattle.broker.proofs.Range.{true-false}
use Rattle.broker.proofs.in_range.Goals as goal
use Rattle.broker.proofs.in_range.Goals.{then-times_in_range, else-times_in_range}

pub returns-then-settings_in_range : goal.returns-then-settings_in_range
unfolding times_and_settings_ok
returns-then-settings_in_range c = elim c.if-times_in_range.branch [
  | then-times_in_range w ↦
      let e = sym c.times_in_range.ensures ∙ w.if-times_in_range.true in
      let f = sym w.settings_in_range.ensures ∙ sym w.value-is ∙ c.if-settings_in_range.true in
      simp (e, f) (rw (to_z-of_z w64 c.args.now c.ranges.now) at c.within.ensures)
  | else-times_in_range w ↦ true-false (sym c.if-settings_in_range.true ∙ w.value-is ∙ w.if-times_in_range.false)
]

pub returns-else-settings_in_range : goal.returns-else-settings_in_range
unfolding times_and_settings_ok
returns-else-settings_in_range c = elim c.if-times_in_range.branch [
  | then-times_in_range w ↦
      let e = sym c.times_in_range.ensures ∙ w.if-times_in_range.true in
      let f = sym w.settings_in_range.ensures ∙ sym w.value-is ∙ c.if-settings_in_range.false in
      simp (e, f) c.if-settings_in_range.false
  | else-times_in_range w ↦ simp (sym c.times_in_range.ensures ∙ w.if-times_in_range.false) c.if-settings_in_range.false
]
