use mathlib.Core.Path.{◌≡◌, ap, ◌∙◌}
use lib.ListN.{length, get_or}
use mir.Val.{bool_byte}
use Rattle.layouts.specs.Layouts.{one}
use Rattle.layouts.specs.Steps.{lane}
use Rattle.layouts.proofs.Rows.{one-most, one_byte}
use Rattle.layouts.proofs.Lanes.{lanes_next, lanes_end}
use native.Mathlib.Omega.{arith}
use Rattle.layouts.proofs.lane_count.Goals as goal

pub overflow_add-count : goal.overflow_add-count
overflow_add-count c =
    let b = c.lane.result in
    omega (arith, c.loop-i.invariant.0, one_byte b, one-most b)

pub loop-i-preserved : goal.loop-i-preserved
loop-i-preserved c =
    let a = c.args in
    let fs = a.firsts.now in
    let es = a.lasts.now in
    let i = c.loop-i.i in
    let h = c.loop-i-test.true in
    let b = c.lane.result in
    let n : length fs ≡ 64 = c.requires.firsts_len in
    let m : length es ≡ 64 = c.requires.lasts_len in
    let e = lanes_next fs es i a.layout (omega arith) (omega arith) in
    let o : bool_byte b ≡ one (lane (get_or fs i 0) (get_or es i 0) a.layout) = one_byte b ∙ ap one c.lane.ensures in
    (omega (arith, c.loop-i.invariant.0, one_byte b, one-most b), omega (arith, c.loop-i.invariant.1))

pub returns : goal.returns
returns c =
    let a = c.args in
    let n : length a.firsts.now ≡ 64 = c.requires.firsts_len in
    let e = lanes_end a.firsts.now a.lasts.now c.loop-i.i a.layout (omega (arith, c.loop-i-test.false)) in
    omega (arith, c.loop-i.invariant.1)
