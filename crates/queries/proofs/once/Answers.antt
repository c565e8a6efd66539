use Rattle.std.proofs.Common.{◌≡◌, ◌∙◌, ◌-◌, ◌+◌, ◌%◌, ◌≤◌, ℕ, sym, ap, arith, get_or, [], subst, map}
use Rattle.std.proofs.Math.Seq.{slice}
use lib.ListN.{length-replicate, length-set, set}
use Rattle.definition.specs.Base.{whether◌then◌else◌, member}
use Rattle.definition.specs.Words.{at}
use Rattle.copies.specs.Copies.{Slot}
use Rattle.copies.proofs.Laws.{Slots, slots_at, slots-none, slots-more, after}
use Rattle.queries.specs.Bytes.{bytes_at}
use Rattle.queries.proofs.Bytes.{bytes-none, bytes-more, added-small}
use Rattle.queries.proofs.once.Goals as goal
use Rattle.queries.proofs.once.Goals.{After-added-sum}

pub loop-i-init : goal.loop-i-init
loop-i-init c = (bytes-none c.args.n c.args.rows.now, omega arith, length-replicate {A = ℕ} 1024 0, slots-none 1024 c.args.n c.args.rows.now)

-- what is added, by the rows after it
met : (c : After-added-sum) → let a = c.args in let l = c.loop-i in let w = get_or a.rows.now (l.i - 1) [] in c.added-sum.result ≡ (whether member (at 0 w) (map (at 0) (slice l.i a.n a.rows.now)) then 0 else at 9 w)
met c =
    let a = c.args in
    let l = c.loop-i in
    let w = get_or a.rows.now (l.i - 1) [] in
    c.added-sum.ensures ∙ ap (λ (j : ℕ). whether member (at 0 w) (map (at 0) (slice j a.n a.rows.now)) then 0 else at 9 w) (after a.rows.now l.i a.n c.requires.n_in_bounds c.loop-i-test.true l.auto.i)

small : (c : After-added-sum) → c.added-sum.result ≤ 4294967295
small c = added-small c.args.rows.now c.loop-i.i c.args.n c.requires.n_in_bounds c.loop-i-test.true c.loop-i.auto.i c.requires.small c.added-sum.result (met c)

pub added-sum-requires : goal.added-sum-requires
added-sum-requires c =
    let a = c.args in
    let rows = a.rows.now in
    let l = c.loop-i in
    let x = at 0 (get_or rows (l.i - 1) []) in
    let e = sym (after rows l.i a.n c.requires.n_in_bounds c.loop-i-test.true l.auto.i) in record {
      from_le_to = omega (arith, c.loop-i-test.true, l.auto.i);
      to_in_bounds = c.requires.n_in_bounds;
      slot = subst (λ (j : ℕ). Slot x (get_or l.slots (x % 1024) 0) j a.n rows) e (slots_at 1024 l.slots l.i a.n rows l.invariant.3 x);
    }

pub overflow_add-sum : goal.overflow_add-sum
overflow_add-sum c = omega (arith, small c, c.loop-i.invariant.1)

pub loop-i-preserved : goal.loop-i-preserved
loop-i-preserved c =
    let a = c.args in
    let rows = a.rows.now in
    let l = c.loop-i in
    let h = c.loop-i-test.true in
    let w = get_or rows (l.i - 1) [] in
    let e = sym (after rows l.i a.n c.requires.n_in_bounds h l.auto.i) in
    (bytes-more rows l.i a.n c.requires.n_in_bounds h l.auto.i l.sum c.added-sum.result l.invariant.0 (met c), omega (arith, small c, l.invariant.1, h, l.auto.i), length-set l.slots (at 0 w % 1024) (l.i - 1 + 1) ∙ l.invariant.2, subst (λ (j : ℕ). Slots 1024 (set l.slots (at 0 w % 1024) j) (l.i - 1) a.n rows) e (slots-more rows l.i a.n c.requires.n_in_bounds h l.auto.i 1024 (λ x. omega arith) l.slots l.invariant.2 l.invariant.3))

pub returns : goal.returns
returns c =
    let e : c.loop-i.i ≡ 0 = omega (arith, c.loop-i-test.false) in
    c.loop-i.invariant.0 ∙ ap (λ (j : ℕ). bytes_at (slice j c.args.n c.args.rows.now)) e
