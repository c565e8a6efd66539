use Prim.Native.Nat.{◌+◌, ◌<◌}
use lib.ListN.{length}
use borrow.Author.Tests.{le-leb, lt-leb}
use Rattle.callfile.proofs.Parts.{whole-line, no_room}
use native.Mathlib.Omega.{arith}
use Rattle.reportlines.proofs.put_name.Goals as goal
use Rattle.reportlines.proofs.put_name.Goals.{then-out-lt14-via-then-out-lt14, then-out-lt14-via-else-out-lt14+then-out-at}

pub returns-then-out-lt14 : goal.returns-then-out-lt14
returns-then-out-lt14 c =
    let a = c.args in
    let few : length a.out.now < a.at + 14 = elim c.then-out-lt14.branch [ then-out-lt14-via-then-out-lt14 w ↦ omega arith | then-out-lt14-via-else-out-lt14+then-out-at w ↦ omega arith ] in
    no_room _ _ _ (lt-leb (a.at + 14) (length a.out.now) few)

pub put_place-requires : goal.put_place-requires
put_place-requires c = omega (arith, c.if-out-at.false, c.if-out-lt14.false)

pub returns : goal.returns
returns c =
    let a = c.args in
    whole-line (le-leb (a.at + 14) (length a.out.now) (omega (arith, c.if-out-at.false, c.if-out-lt14.false))) c.put_place.ensures
