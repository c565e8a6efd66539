use mathlib.Core.Path.{◌≡◌, refl, sym, ap, ◌∙◌}
use mathlib.Core.Bool.{true, false, false≢true}
use mathlib.Core.List.{List, [], ◌++◌}
use Prim.Native.Nat.{ℕ, ◌+◌, ◌%◌, ◌≤◌}
use lib.ListN.{take, drop, get_or, length-set}
use lib.Seq.{slice}
use Rattle.definition.specs.Base.{member}
use Rattle.definition.specs.Words.{at}
use Rattle.subrows.specs.Subrows.{seqs_at}
use Rattle.sound.specs.Sound.{marked_apart}
use Rattle.sound.proofs.Rising.{resumed}
use Rattle.sound.proofs.Glance.{met-none, met-more}
use native.Mathlib.Omega.{arith}
use borrow.Author.Rules.{rules}
use Rattle.sound.proofs.marks.Goals as goal

pub least_of-low-requires : goal.least_of-low-requires
least_of-low-requires c =
    record { from_le_to = search rules; to_in_bounds = search rules; rows_value = c.requires.rows_value }

pub loop-i-init : goal.loop-i-init
loop-i-init c =
    let a = c.args in
    (search rules, search rules, (λ y t. refl), c.requires.rows_value, refl, met-none a.slots.now (seqs_at (slice a.first a.end a.rows.now)))

pub returns-then-slots-slot : goal.returns-then-slots-slot
returns-then-slots-slot c = λ t. absurd (false≢true t)

pub not_below-at-requires : goal.not_below-at-requires
not_below-at-requires c =
    let a = c.args in
    let rows = a.rows.now in
    let v = c.loop-i.invariant in
    let x : ℕ = at 0 (get_or rows (a.from + c.loop-i.i) []) in
    let g = c.resume-start in
    let r = resumed rows a.first a.end c.loop-i.at g.result x c.loop-i.last g.ensures.0 g.ensures.1 c.requires.first_le_end v.1 c.requires.rows_value v.2 v.3 in record { from_le_to = r.0; to_in_bounds = c.requires.end_in_bounds; rows_value = r.2 }

pub returns-then-stands : goal.returns-then-stands
returns-then-stands c = λ t. absurd (false≢true t)

pub loop-i-preserved : goal.loop-i-preserved
loop-i-preserved c =
    let a = c.args in
    let rows = a.rows.now in
    let v = c.loop-i.invariant in
    let x : ℕ = at 0 (get_or rows (a.from + c.loop-i.i) []) in
    let g = c.resume-start in
    let r = resumed rows a.first a.end c.loop-i.at g.result x c.loop-i.last g.ensures.0 g.ensures.1 c.requires.first_le_end v.1 c.requires.rows_value v.2 v.3 in
    let w : List ℕ = seqs_at (slice a.first a.end rows) in
    let e = c.not_below-at.ensures in
    let here : x ≤ x = omega arith in
    let m : member x w ≡ false = r.1 x here ∙ e.same_from x here ∙ e.rows_value_3 ∙ sym c.stands.ensures ∙ c.if-stands.false in
    let t = c.loop-i-test.true in
    (omega (arith, t), e.upper_bound, (λ y u. r.1 y u ∙ e.same_from y u), e.rows_value_2, length-set c.loop-i.slots (x % 256) true ∙ v.4, met-more a.slots.now c.loop-i.slots w rows a.from c.loop-i.i (omega (arith, t, c.requires.n_in_bounds)) (omega (arith, v.4, c.requires.do_bound)) v.5 c.if-slots-slot.false m)

pub loop-i-preserved-then-seq-low : goal.loop-i-preserved-then-seq-low
loop-i-preserved-then-seq-low c =
    let a = c.args in
    let rows = a.rows.now in
    let v = c.loop-i.invariant in
    let x : ℕ = at 0 (get_or rows (a.from + c.loop-i.i) []) in
    let w : List ℕ = seqs_at (slice a.first a.end rows) in
    let m : member x w ≡ false = c.least_of-low.ensures x c.if-seq-low.true in
    (search rules, v.1, v.2, v.3, length-set c.loop-i.slots (x % 256) true ∙ v.4, met-more a.slots.now c.loop-i.slots w rows a.from c.loop-i.i (omega arith) (omega arith) v.5 c.if-slots-slot.false m)

pub returns : goal.returns
returns c =
    let a = c.args in
    let rows = a.rows.now in
    let q : c.loop-i.i ≡ a.n = omega arith in
    λ t l e. sym (ap (λ (j : ℕ). marked_apart c.loop-i.slots (seqs_at (slice a.first a.end rows)) (l ++ seqs_at (take j (drop a.from rows)))) q) ∙ c.loop-i.invariant.5 l e
