use mathlib.Core.Path.{refl, ap, ◌∙◌}
use mathlib.Core.Bool.{not}
use mathlib.Core.List.{List}
use Prim.Native.Nat.{◌+◌, ◌≤◌}
use borrow.Author.Tests.{not-true, not-false, eq-eqb, ne_eqb}
use lib.ListN.{length, take, drop, length-drop}
use Rattle.definition.specs.Base.{distinct, ascending}
use Rattle.definition.specs.Words.{at}
use Rattle.definition.specs.Layout.{Row, flag}
use Rattle.subrows.specs.Subrows.{seqs_at}
use Rattle.subrows.proofs.Tests.{part_of, part_end}
use Rattle.sound.proofs.Rising.{topic-rises, asked-topic, asked-browser, not-asked}
use native.Mathlib.Omega.{arith}
use borrow.Author.Rules.{rules}
use Rattle.sound.proofs.sub_apart.Goals as goal

pub rows_apart-requires : goal.rows_apart-requires
rows_apart-requires c =
    let a = c.args in
    let w = a.w in
    let l : List Row = drop a.base a.rows.now in
    let b : at 14 w ≤ length l = simp length-drop (omega arith) in record { n_in_bounds = search rules; n_bound = search rules; k_le_n = search rules; rows_value = ap (λ (m : List Row). ascending (seqs_at m)) (part_of l (at 14 w) (at 15 w) b) ∙ topic-rises a.on_queue (seqs_at (take (at 15 w) (drop (at 14 w) l))) (not-true a.on_queue c.if-not-on_queue.true-raw) c.requires.rows_value }

pub returns-then-not-on_queue : goal.returns-then-not-on_queue
returns-then-not-on_queue c =
    let a = c.args in
    c.rows_apart.ensures ∙ asked-topic a.on_queue (flag (at 6 a.w)) (distinct (seqs_at (take (at 14 a.w + at 15 a.w) (drop a.base a.rows.now)))) (not-true a.on_queue c.if-not-on_queue.true-raw)

pub rows_apart-requires-then-w-ne0 : goal.rows_apart-requires-then-w-ne0
rows_apart-requires-then-w-ne0 c =
    let a = c.args in
    let k = at 14 a.w + at 15 a.w in record { n_in_bounds = search rules; n_bound = search rules; k_le_n = search rules; rows_value = ap (λ (m : List Row). ascending (seqs_at m)) (part_end (drop a.base a.rows.now) k k refl) }

pub returns-then-w-ne0 : goal.returns-then-w-ne0
returns-then-w-ne0 c =
    let a = c.args in
    c.rows_apart-then-w-ne0.ensures ∙ asked-browser a.on_queue (flag (at 6 a.w)) (distinct (seqs_at (take (at 14 a.w + at 15 a.w) (drop a.base a.rows.now)))) (not-false a.on_queue c.if-not-on_queue.false-raw) (ap not (ne_eqb (at 6 a.w) 0 c.if-w-ne0.true))

pub returns : goal.returns
returns c =
    let a = c.args in
    not-asked a.on_queue (flag (at 6 a.w)) (distinct (seqs_at (take (at 14 a.w + at 15 a.w) (drop a.base a.rows.now)))) (not-false a.on_queue c.if-not-on_queue.false-raw) (ap not (eq-eqb (at 6 a.w) 0 c.if-w-ne0.false))
