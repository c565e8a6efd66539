use Prim.Native.Nat.{ℕ, ◌+◌}
use native.Mathlib.Nat.{zero-add}
use mathlib.Core.Path.{ap, sym, ◌∙◌}
use borrow.Author.Tests.{leb-true, not-true, not-false}
use lib.Dec.{leb}
use lib.ListN.{length}
use Rattle.callfile.proofs.Parts.{whole-line, no_room}
use native.Mathlib.Omega.{arith}
use Rattle.program.proofs.put_headed.Goals as goal

pub returns-then-not-has_room : goal.returns-then-not-has_room
returns-then-not-has_room c =
    let a = c.args in
    let m = length a.name.now + 2 + length a.text.now in
    let t = ap (λ (k : ℕ). leb k (length a.out.now)) (zero-add m) ∙ sym c.has_room.ensures ∙ not-true _ c.if-not-has_room.true-raw in
    no_room _ a.out.now 0 t

pub headed_text-requires : goal.headed_text-requires
headed_text-requires c = leb-true _ _ (sym c.has_room.ensures ∙ not-false _ c.if-not-has_room.false-raw)

pub returns : goal.returns
returns c =
    let a = c.args in
    let m = length a.name.now + 2 + length a.text.now in
    let t = ap (λ (k : ℕ). leb k (length a.out.now)) (zero-add m) ∙ sym c.has_room.ensures ∙ not-false _ c.if-not-has_room.false-raw in
    let p = c.headed_text.ensures in
    whole-line t (p.0, omega (arith, p.1))
