use mathlib.Core.Path.{◌≡◌, sym, ap, ◌∙◌}
use mathlib.Core.Bool.{Bool, true}
use Prim.Native.Nat.{ℕ, ◌+◌, ◌≤◌}
use borrow.Author.Tests.{not-true, not-false}
use lib.Dec.{eqb}
use lib.ListN.{length}
use lib.Seq.{slice, length-take-le}
use Rattle.definition.specs.Base.{every}
use Rattle.definition.specs.Calls.{bound}
use Rattle.definition.specs.Words.{at}
use Rattle.definition.specs.Layout.{Buffers, used_subs, used_rows, sub_rows, lent}
use Rattle.definition.proofs.Thin.{every-all}
use Rattle.heads.proofs.Head.{head-counts}
use Rattle.subrows.specs.Subrows.{sorted_ok}
use Rattle.subrows.proofs.Tests.{part_of}
use Rattle.subrows.proofs.Looked.{counted-exact}
use Rattle.sound.specs.Sound.{numbers_ok, shares_at}
use Rattle.sound.proofs.Rising.{held-rise}
use Rattle.sound.proofs.Lone.{lone-at}
use Rattle.sound.proofs.Tables.{kind_in, tests, numbers, rest-unfit, rest-fit, rest-stop, rest-last}
use native.Mathlib.Omega.{arith}
use Rattle.sound.proofs.rest_ok.Goals as goal
use Rattle.sound.proofs.rest_ok.Goals.{Else-not-look}

abbrev given : (c : Else-not-look) → Buffers
given c = let a = c.args in lent a.head.now a.subs.now a.rows.now

known : (c : Else-not-look) → let b = given c in
    (at 12 b.head ≤ length b.subs) × (used_rows b ≤ 512) × (every (tests b) ≡ true) × (c.test_all-look.result.others ≡ sub_rows (used_subs b))
known c =
    let b = given c in
    let t = c.test_all-look in
    let f = rest-fit b (sym t.ensures.ok_value ∙ not-false t.result.ok c.if-not-look.false) in
    let n : at 12 b.head ≤ length b.subs = omega (arith, (head-counts b.head c.requires.head_value.0).0, c.requires.do_bound) in
    (n, f.0, f.1, t.ensures.others_value ∙ counted-exact (at 12 b.head) b.subs n (omega (arith, f.0)))

tested : (c : Else-not-look) (r : Bool) → let b = given c in
    r ≡ numbers_ok (kind_in b) c.test_all-look.result.others (at 15 b.head) (at 16 b.head) (used_subs b) b.rows → r ≡ numbers b
tested c r e =
    let b = given c in
    e ∙ ap (λ (m : ℕ). numbers_ok (kind_in b) m (at 15 b.head) (at 16 b.head) (used_subs b) b.rows) (known c).3

pub overflow_mul-most : goal.overflow_mul-most
overflow_mul-most c =
    omega (arith, (head-counts c.args.head.now c.requires.head_value.0).2)

pub overflow_add-most : goal.overflow_add-most
overflow_add-most c =
    omega (arith, (head-counts c.args.head.now c.requires.head_value.0).2)

pub returns-then-not-look : goal.returns-then-not-look
returns-then-not-look c =
    let h = c.args.head.now in
    let b = lent h c.args.subs.now c.args.rows.now in
    let t = c.test_all-look in
    rest-unfit b (omega (arith, (head-counts h c.requires.head_value.0).0)) c.requires.in_bounds_2 (sym t.ensures.ok_value ∙ not-true t.result.ok c.if-not-look.true)

pub slice_bounds-subs-end : goal.slice_bounds-subs-end
slice_bounds-subs-end c = sym (length-take-le (at 12 c.args.head.now) c.args.subs.now (omega (arith, (head-counts c.args.head.now c.requires.head_value.0).0, c.requires.do_bound)))

pub numbers_ok-requires : goal.numbers_ok-requires
numbers_ok-requires c =
    let b = given (goal.at.numbers_ok-requires c).Else-not-look in
    let h = b.head in
    let t = c.test_all-look in
    let k = known (goal.at.numbers_ok-requires c).Else-not-look in
    let e = k.3 in
    let p = every-all (tests b) k.2 in
    let q = eqb (at 0 h) 0 in record {
      others_value = e;
      waiting_in_bounds = omega (arith, e, k.1, c.requires.in_bounds_2);
      waiting_bound = omega (arith, e, k.1);
      rows_value = ap (λ (m : ℕ). sorted_ok 0 (slice (m + at 15 h) (m + at 15 h + at 16 h) b.rows)) e
          ∙ ap (sorted_ok 0) (part_of b.rows (sub_rows (used_subs b) + at 15 h) (at 16 h) (omega (arith, k.1, c.requires.in_bounds_2)))
          ∙ p.1.1.1.0;
      rows_value_2 = held-rise q (bound (at 3 h)) (used_subs b) b.rows p.0;
      lone_agree = λ f g n. lone-at (bound (at 3 h)) (at 15 h) (at 16 h) (used_subs b) b.rows t.result.others e q f p.0 g n;
    }

pub returns-then-not-numbers_ok : goal.returns-then-not-numbers_ok
returns-then-not-numbers_ok c =
    let k = known (goal.at.returns-then-not-numbers_ok c).Else-not-look in
    rest-stop (given (goal.at.returns-then-not-numbers_ok c).Else-not-look) k.1 c.requires.head_value.1 k.2 (sym (tested (goal.at.returns-then-not-numbers_ok c).Else-not-look c.numbers_ok.result c.numbers_ok.ensures) ∙ not-true c.numbers_ok.result c.if-not-numbers_ok.true-raw)

pub overflow_add-rest : goal.overflow_add-rest
overflow_add-rest c = let k = known (goal.at.overflow_add-rest c).Else-not-look in omega (arith, k.1)

pub shares_ok-requires : goal.shares_ok-requires
shares_ok-requires c =
    let k = known (goal.at.shares_ok-requires c).Else-not-look in record { others_value = k.3; rest_in_bounds = omega (arith, k.3, k.1, c.requires.in_bounds_2); rest_bound = omega (arith, k.3, k.1) }

pub returns : goal.returns
returns c =
    let b = given (goal.at.returns c).Else-not-look in
    let h = b.head in
    let k = known (goal.at.returns c).Else-not-look in
    c.shares_ok.ensures
    ∙ ap (λ (m : ℕ). shares_at (at 8346 h) (eqb (at 0 h) 0) m (at 15 h + at 16 h) (used_subs b) b.rows) k.3
    ∙ rest-last b k.1 c.requires.head_value.1 k.2 (sym (tested (goal.at.returns c).Else-not-look c.numbers_ok.result c.numbers_ok.ensures) ∙ not-false c.numbers_ok.result c.if-not-numbers_ok.false-raw)
