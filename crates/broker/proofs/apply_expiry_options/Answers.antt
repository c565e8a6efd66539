use mathlib.Core.Path.{◌≡◌, sym, ◌∙◌}
use mathlib.Core.Bool.{true}
use borrow.Author.Rules.{rules}
use mir.Syntax.{w64}
use mir.Val.{SFits, to_z, of_z}
use mir.ValLaws.{to_z-of_z}
use Rattle.broker.specs.Broker.{times_and_settings_ok, from_zero_to, time_most, rebased, base_of, expiry_steps, apply_expiry_options}
use Rattle.broker.proofs.Range.{ranges, base-within}
use Rattle.broker.proofs.apply_expiry_options.Goals as goal
use Rattle.broker.proofs.apply_expiry_options.Goals.{After-base_of-base}

in_range : (c : After-base_of-base) → times_and_settings_ok c.args.o c.args.t c.args.now ≡ true
in_range c =
    rw (to_z-of_z w64 c.args.now c.ranges.now) at
    (sym c.in_range.ensures ∙ c.if-not-in_range.false)

based : (c : After-base_of-base) → let a = c.args in
    (c.rebased-a.result ≡ rebased a.o a.t a.now) × (c.base_of-base.result ≡ base_of a.o (rebased a.o a.t a.now) a.now)
based c =
    let z = to_z-of_z w64 c.args.now c.ranges.now in
    let a = rw z at c.rebased-a.ensures in
    (a, rw (z, a) at c.base_of-base.ensures)

base-in_range : (c : After-base_of-base) → from_zero_to (to_z w64 (of_z w64 c.base_of-base.result)) time_most ≡ true
base-in_range c =
    let a = c.args in
    let h : SFits w64 c.base_of-base.result = search rules in
    rw (to_z-of_z w64 c.base_of-base.result h, (based c).1) (base-within a.o a.t a.now (ranges a.o a.t a.now (in_range c)))

pub returns-then-not-in_range : goal.returns-then-not-in_range
unfolding apply_expiry_options
returns-then-not-in_range c =
    let e = rw (to_z-of_z w64 c.args.now c.ranges.now) at c.in_range.ensures in
    rw (sym e ∙ c.if-not-in_range.true)

pub rebased-a-requires : goal.rebased-a-requires
rebased-a-requires c = sym c.in_range.ensures ∙ c.if-not-in_range.false

pub defaulted-b-requires : goal.defaulted-b-requires
defaulted-b-requires c =
    let a = c.args in
    (base-in_range (goal.at.defaulted-b-requires c).After-base_of-base, (ranges a.o a.t a.now (in_range (goal.at.defaulted-b-requires c).After-base_of-base)).default)

pub capped-c-requires : goal.capped-c-requires
capped-c-requires c =
    let a = c.args in
    (base-in_range (goal.at.capped-c-requires c).After-base_of-base, (ranges a.o a.t a.now (in_range (goal.at.capped-c-requires c).After-base_of-base)).ceiling)

pub returns : goal.returns
unfolding apply_expiry_options expiry_steps
returns c =
    let z = to_z-of_z w64 c.args.now c.ranges.now in
    let h : SFits w64 c.base_of-base.result = search rules in
    let y = to_z-of_z w64 c.base_of-base.result h in
    let b = rw (z, y, (based (goal.at.returns c).After-base_of-base).0, (based (goal.at.returns c).After-base_of-base).1) at c.defaulted-b.ensures in
    let e = rw (y, b, (based (goal.at.returns c).After-base_of-base).1) at c.capped-c.ensures in
    rw (rw z at c.expired.ensures, e, in_range (goal.at.returns c).After-base_of-base)
