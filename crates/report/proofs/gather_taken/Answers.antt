use mathlib.Core.Path.{refl, sym, ap, ◌∙◌}
use mathlib.Core.List.{List, [], map}
use Prim.Native.Nat.{◌+◌, ◌≤◌}
use lib.ListN.{length, take, drop, get_or}
use lib.Seq.{sets, slice}
use Rattle.definition.specs.Types.{queue, Entry}
use Rattle.definition.specs.Calls.{taken}
use Rattle.definition.specs.Words.{at}
use Rattle.definition.specs.Layout.{subs_at}
use Rattle.subrows.proofs.Subs.{rows-turn, rows_end}
use Rattle.sound.proofs.Gathered.{taken-small}
use Rattle.fates.specs.Blocks.{block_at}
use Rattle.report.specs.Report.{row_block}
use Rattle.report.proofs.Filling.{put-part, gathered-many, blocks-turn, taken-many, taken-end}
use native.Mathlib.Omega.{arith}
use borrow.Author.Rules.{rules}
use Rattle.report.proofs.gather_taken.Goals as goal

pub loop-i-init : goal.loop-i-init
loop-i-init c = (search rules, search rules, search rules, refl, refl, refl)

pub gather-requires : goal.gather-requires
gather-requires c =
    let a = c.args in
    let subs = a.subs.now in
    let h = c.loop-i-test.true in
    omega (arith, rows-turn subs c.loop-i.i a.n c.requires.n_in_bounds h, c.taken_of-k.ensures, taken-small (get_or subs c.loop-i.i []))

pub overflow_add-end : goal.overflow_add-end
overflow_add-end c =
    let a = c.args in
    let subs = a.subs.now in
    let h = c.loop-i-test.true in
    omega (arith, rows-turn subs c.loop-i.i a.n c.requires.n_in_bounds h, c.taken_of-k.ensures, taken-small (get_or subs c.loop-i.i []))

pub overflow_add-base : goal.overflow_add-base
overflow_add-base c =
    let a = c.args in
    let subs = a.subs.now in
    let h = c.loop-i-test.true in
    omega (arith, rows-turn subs c.loop-i.i a.n c.requires.n_in_bounds h)

pub overflow_add-base-in-loop-i : goal.overflow_add-base-in-loop-i
overflow_add-base-in-loop-i c =
    let a = c.args in
    let subs = a.subs.now in
    let h = c.loop-i-test.true in
    omega (arith, rows-turn subs c.loop-i.i a.n c.requires.n_in_bounds h)

pub loop-i-preserved : goal.loop-i-preserved
loop-i-preserved c =
    let a = c.args in
    let subs = a.subs.now in
    let h = c.loop-i-test.true in
    let g = c.gather in
    let k = c.taken_of-k in
    let w = get_or subs c.loop-i.i [] in
    let t = rows-turn subs c.loop-i.i a.n c.requires.n_in_bounds h in
    let f : c.loop-i.base + k.result ≤ length a.rows.now = omega (arith, t, k.ensures, taken-small w) in
    let r = taken (subs_at queue (slice (c.loop-i.i + 1) a.n subs) (drop (c.loop-i.base + (at 14 w + at 15 w)) a.rows.now)) in (
      search rules,
      omega (arith, t),
      omega (arith, k.ensures, taken-small w),
      g.auto.out ∙ c.loop-i.invariant.3,
      omega (arith, c.loop-i.invariant.4, taken-many subs c.loop-i.i a.n c.requires.n_in_bounds a.rows.now c.loop-i.base h k.result k.ensures f),
      put-part (map (row_block 1) (take k.result (drop c.loop-i.base a.rows.now))) (map (block_at 1) r) c.loop-i.out g.new.out _ c.loop-i.end k.result (c.loop-i.end + k.result) g.ensures refl (sym (gathered-many 1 a.rows.now c.loop-i.base k.result f))
          (sym (ap (sets c.loop-i.out c.loop-i.end) (blocks-turn subs c.loop-i.i a.n c.requires.n_in_bounds a.rows.now c.loop-i.base h k.result k.ensures)) ∙ c.loop-i.invariant.5),
    )

pub returns : goal.returns
returns c =
    let a = c.args in
    let subs = a.subs.now in
    let e = taken-end subs c.loop-i.i a.n c.requires.n_in_bounds a.rows.now c.loop-i.base (omega arith) in record { value = omega (arith, c.loop-i.invariant.4, ap length e); upper_bound = omega (arith, rows_end subs c.loop-i.i a.n c.requires.n_in_bounds (omega arith)); out_after = sym (ap (λ (x : List Entry). sets c.loop-i.out c.loop-i.end (map (block_at 1) x)) e) ∙ c.loop-i.invariant.5 }
