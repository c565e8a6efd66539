use Prim.Native.Nat.{◌/◌, ◌^◌}
use borrow.Author.Tests.{lt-ltb, le-ltb}
use lib.Bits.{and_mask}
use Rattle.entry.specs.Entry.{selects}
use Rattle.entry.proofs.selects.Goals as goal

pub returns-then-selector-lt-NO_SELECTOR : goal.returns-then-selector-lt-NO_SELECTOR
unfolding selects
returns-then-selector-lt-NO_SELECTOR c =
    let a = c.args in
    rw (and_mask (a.match_word / 2 ^ a.selector) 1, lt-ltb a.selector 64 c.if-selector-lt-NO_SELECTOR.true)

pub returns-else-selector-lt-NO_SELECTOR : goal.returns-else-selector-lt-NO_SELECTOR
unfolding selects
returns-else-selector-lt-NO_SELECTOR c = rw (le-ltb c.args.selector 64 c.if-selector-lt-NO_SELECTOR.false)
