use mathlib.Core.Path.{sym, ap, ◌∙◌}
use Prim.Native.Nat.{ℕ, ◌-◌}
use native.Mathlib.Omega.{arith}
use lib.Dec.{eqb}
use Rattle.pulls.proofs.Tested.{short-subs, short-rows, no_room, many-consumers, many-used, many-others, by-base}
use Rattle.pulls.proofs.stands.Goals as goal

pub returns-then-subs-lt-CONSUMERS : goal.returns-then-subs-lt-CONSUMERS
returns-then-subs-lt-CONSUMERS c =
    let a = c.args in
    sym (short-subs a.subs.now a.d a.rows a.events c.if-subs-lt-CONSUMERS.true)

pub returns-then-rows-lt-ROWS : goal.returns-then-rows-lt-ROWS
returns-then-rows-lt-ROWS c =
    let a = c.args in
    sym (short-rows a.subs.now a.d a.rows a.events c.if-subs-lt-CONSUMERS.false c.if-rows-lt-ROWS.true)

pub returns-then-events-d : goal.returns-then-events-d
returns-then-events-d c =
    let a = c.args in
    sym (no_room a.subs.now a.d a.rows a.events c.if-subs-lt-CONSUMERS.false c.if-rows-lt-ROWS.false c.if-events-d.true)

pub returns-then-d-gt-CONSUMERS : goal.returns-then-d-gt-CONSUMERS
returns-then-d-gt-CONSUMERS c =
    let a = c.args in
    sym (many-consumers a.subs.now a.d a.rows a.events c.if-subs-lt-CONSUMERS.false c.if-rows-lt-ROWS.false c.if-events-d.false c.if-d-gt-CONSUMERS.true)

pub returns-then-d-gt-ROWS : goal.returns-then-d-gt-ROWS
returns-then-d-gt-ROWS c =
    let a = c.args in
    sym (many-used a.subs.now a.d a.rows a.events c.if-subs-lt-CONSUMERS.false c.if-rows-lt-ROWS.false c.if-events-d.false c.if-d-gt-CONSUMERS.false c.if-d-gt-ROWS.true)

pub returns-then-d : goal.returns-then-d
returns-then-d c =
    let a = c.args in
    sym (many-others a.subs.now a.d a.rows a.events c.if-subs-lt-CONSUMERS.false c.if-rows-lt-ROWS.false c.if-events-d.false c.if-d-gt-CONSUMERS.false c.if-d-gt-ROWS.false (omega (arith, c.if-d.true)))

pub returns-then-d-2 : goal.returns-then-d-2
returns-then-d-2 c =
    let a = c.args in
    sym (many-others a.subs.now a.d a.rows a.events c.if-subs-lt-CONSUMERS.false c.if-rows-lt-ROWS.false c.if-events-d.false c.if-d-gt-CONSUMERS.false c.if-d-gt-ROWS.false (omega (arith, c.if-d-2.true, c.if-d.false)))

pub returns : goal.returns
returns c =
    let a = c.args in
    let s = c.if-subs-lt-CONSUMERS.false in
    ap (λ (n : ℕ). eqb n (a.d.used - a.d.reserved - a.d.waiting)) c.base_of.ensures ∙ sym (by-base a.subs.now a.d a.rows a.events s c.if-rows-lt-ROWS.false c.if-events-d.false c.if-d-gt-CONSUMERS.false c.if-d-gt-ROWS.false (omega (arith, c.if-d-2.false, c.if-d.false)))
