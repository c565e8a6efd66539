use mathlib.Core.Path.{◌≡◌, sym, ◌∙◌}
use mathlib.Core.Bool.{true}
use native.Mathlib.Omega.{arith}
use borrow.Author.Tests.{not-true, not-false}
use Rattle.audit.specs.Audit.{ring_sound}
use lib.Seq.{length-take-le}
use Rattle.audit.proofs.Ring.{seen-any, refusal-short, refusal-ring, refusal-none, refused-kept, seen-kept, new-kept, seen-order, count_most, place-below}
use Rattle.audit.proofs.check_and_record.Goals as goal
use Rattle.audit.proofs.check_and_record.Goals.{Else-not-sound}

ok : (c : Else-not-sound) → ring_sound c.args.a ≡ true
ok c = sym c.sound.ensures ∙ not-false _ c.if-not-sound.false-raw

pub returns-then-window-lt-WINDOW : goal.returns-then-window-lt-WINDOW
returns-then-window-lt-WINDOW c =
    let a = c.args in
    refused-kept a.number a.a a.window.now 1 (refusal-short a.a a.window.now c.if-window-lt-WINDOW.true) (omega arith)

pub returns-then-not-sound : goal.returns-then-not-sound
returns-then-not-sound c =
    let a = c.args in
    let o = sym c.sound.ensures ∙ not-true _ c.if-not-sound.true-raw in
    refused-kept a.number a.a a.window.now 2 (refusal-ring a.a a.window.now c.if-window-lt-WINDOW.false o) (omega arith)

pub slice_bounds-contains-end : goal.slice_bounds-contains-end
slice_bounds-contains-end c =
    let n = count_most c.args.a (ok (goal.at.slice_bounds-contains-end c).Else-not-sound) in
    omega arith

pub slice_bounds-contains-end-2 : goal.slice_bounds-contains-end-2
slice_bounds-contains-end-2 c =
    let n = count_most c.args.a (ok (goal.at.slice_bounds-contains-end-2 c).Else-not-sound) in
    sym (length-take-le _ _ (omega arith))

pub returns-then-contains : goal.returns-then-contains
returns-then-contains c =
    let a = c.args in
    seen-kept a.number a.a a.window.now (refusal-none a.a a.window.now c.if-window-lt-WINDOW.false (ok (goal.at.returns-then-contains c).Else-not-sound))
    (seen-order a.a (ok (goal.at.returns-then-contains c).Else-not-sound) a.number a.window.now ∙ (seen-any a.number _ ∙ (sym c.contains.ensures.value ∙ c.if-contains.true)))

pub offset_bounds-window-place : goal.offset_bounds-window-place
offset_bounds-window-place c = let p = place-below c.args.a (ok (goal.at.offset_bounds-window-place c).Else-not-sound) in omega (arith, c.place.ensures)

pub bounds-window-place : goal.bounds-window-place
bounds-window-place c = let p = place-below c.args.a (ok (goal.at.bounds-window-place c).Else-not-sound) in omega (arith, c.place.ensures)

pub returns : goal.returns
returns c =
    let a = c.args in
    rw (c.next.ensures, c.place.ensures)
    (new-kept a.number a.a a.window.now c.if-window-lt-WINDOW.false (ok (goal.at.returns c).Else-not-sound)
    (seen-order a.a (ok (goal.at.returns c).Else-not-sound) a.number a.window.now ∙ (seen-any a.number _ ∙ (sym c.contains.ensures.value ∙ c.if-contains.false))))
