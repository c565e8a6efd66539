use Prim.Native.Nat.{ℕ, ◌+◌, ◌≤◌}
use mathlib.Core.Path.{subst⁻¹}
use mathlib.Core.List.{List}
use Rattle.callfile.specs.Placed.{Puts}
use Rattle.stationlines.specs.StationLines.{numbered_line}
use Rattle.callfile.proofs.Parts.{nothing}
use Rattle.reportlines.proofs.Blocks.{refused_none, joined, other_none, topic-none, enqueued}
use Rattle.stationreportlines.proofs.brought_line.Goals as goal

pub returns-then-refusal-ne0 : goal.returns-then-refusal-ne0
unfolding numbered_line
returns-then-refusal-ne0 c =
    let a = c.args in
    let e = refused_none a.refusal a.code a.words a.queue c.if-refusal-ne0.true in
    subst⁻¹ (λ (t : List ℕ). Puts (numbered_line a.d t) a.at a.out.now a.at a.out.now × (a.at ≤ a.at + 128)) e (nothing a.at a.out.now)

pub returns-in-2 : goal.returns-in-2
returns-in-2 c =
    let a = c.args in
    let e = joined a.refusal a.code a.words a.queue c.if-refusal-ne0.false c.in-2.is in
    (subst⁻¹ (λ (t : List ℕ). Puts (numbered_line a.d t) a.at a.out.now c.join_line.result c.join_line.new.out) e c.join_line.ensures.0, c.join_line.ensures.1)

pub returns-in-1 : goal.returns-in-1
returns-in-1 c =
    let a = c.args in
    let e = enqueued a.refusal a.code a.words a.queue c.if-refusal-ne0.false c.in-1.is c.if-queue.true in
    (subst⁻¹ (λ (t : List ℕ). Puts (numbered_line a.d t) a.at a.out.now c.enqueue_line.result c.enqueue_line.new.out) e c.enqueue_line.ensures.0, c.enqueue_line.ensures.1)

pub returns-in_default : goal.returns-in_default
unfolding numbered_line
returns-in_default c =
    let a = c.args in
    let e = topic-none a.refusal a.code a.words a.queue c.if-refusal-ne0.false c.in-1.is c.if-queue.false in
    subst⁻¹ (λ (t : List ℕ). Puts (numbered_line a.d t) a.at a.out.now a.at a.out.now × (a.at ≤ a.at + 128)) e (nothing a.at a.out.now)

pub returns-in_default-2 : goal.returns-in_default-2
unfolding numbered_line
returns-in_default-2 c =
    let a = c.args in
    let n = c.in_default.in_default-own.rest in
    let e = other_none a.refusal a.code a.words a.queue c.if-refusal-ne0.false n.0.1 n.1 in
    subst⁻¹ (λ (t : List ℕ). Puts (numbered_line a.d t) a.at a.out.now a.at a.out.now × (a.at ≤ a.at + 128)) e (nothing a.at a.out.now)
