use Rattle.stationcalls.specs.Parts.{lent_all}
use mathlib.Core.Path.{◌≡◌, refl, ap, ◌∙◌}
use Prim.Native.Nat.{ℕ}
use borrow.Author.Tests.{not-true, not-false}
use Rattle.stationrun.specs.StationFiles.{slots_bytes}
use Rattle.stationrun.proofs.Ends.{slots_to, next_bytes, tested, no_bytes, all-bytes}
use native.Mathlib.Omega.{arith}
use Rattle.stationrun.proofs.held_bytes.Goals as goal

pub returns-then-not-is_sound : goal.returns-then-not-is_sound
returns-then-not-is_sound c = let a = c.args in
    no_bytes (lent_all a.heads.now a.subs.now a.rows.now a.own.now) a.events.now c.is_sound.ensures (not-true _ c.if-not-is_sound.true-raw)

pub loop-k-init : goal.loop-k-init
loop-k-init c = (refl, omega arith, omega arith)

pub place_bytes-bytes-requires : goal.place_bytes-bytes-requires
place_bytes-bytes-requires c = let a = c.args in
    tested (lent_all a.heads.now a.subs.now a.rows.now a.own.now) a.events.now c.is_sound.ensures (not-false _ c.if-not-is_sound.false-raw) c.loop-k.k c.loop-k-test.true

pub loop-k-preserved : goal.loop-k-preserved
loop-k-preserved c =
    let l = c.loop-k in
    let a = c.args in
    let q = c.place_bytes-bytes.ensures in
    (next_bytes (lent_all a.heads.now a.subs.now a.rows.now a.own.now) l.k l.invariant.0 q.0, omega (arith, l.invariant.1, q.1), omega (arith, c.loop-k-test.true))

pub returns : goal.returns
returns c =
    let l = c.loop-k in
    let a = c.args in
    let b = lent_all a.heads.now a.subs.now a.rows.now a.own.now in
    let e : l.k ≡ 8 = omega (arith, l.invariant.2, c.loop-k-test.false) in
    all-bytes b a.events.now c.is_sound.ensures (not-false _ c.if-not-is_sound.false-raw) (l.invariant.0 ∙ ap (λ (m : ℕ). slots_bytes (slots_to b 0 m)) e)

pub overflow_add-bytes : goal.overflow_add-bytes
overflow_add-bytes c = omega (arith, c.loop-k.invariant.1, c.place_bytes-bytes.ensures.1, c.loop-k-test.true)
