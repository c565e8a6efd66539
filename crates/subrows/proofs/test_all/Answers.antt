use mathlib.Core.Path.{◌≡◌, ap, ◌∙◌}
use Prim.Native.Nat.{ℕ, ◌+◌}
use lib.ListN.{take}
use Rattle.definition.specs.Base.{every}
use Rattle.definition.specs.Words.{kind_by}
use Rattle.definition.specs.Layout.{sub_rows}
use Rattle.subrows.specs.Subrows.{row_tests}
use Rattle.subrows.proofs.Looked.{count-over, count_small, count-exact, counted-all, counted_none, look-short, look-over, look-past, look-all}
use native.Mathlib.Omega.{arith}
use Rattle.subrows.proofs.test_all.Goals as goal
use Rattle.subrows.proofs.test_all.Goals.{Else-used-gt-ROWS}

exact : (c : Else-used-gt-ROWS) → let a = c.args in c.sub_rows-others.result ≡ sub_rows (take a.n a.subs.now)
exact c =
    let a = c.args in
    let o = c.sub_rows-others in
    o.ensures ∙ count-exact (sub_rows (take a.n a.subs.now)) (omega (arith, o.ensures, c.if-used-gt-ROWS.false))

pub returns-then-subs-n : goal.returns-then-subs-n
returns-then-subs-n c =
    let a = c.args in record { others_value = counted_none a.n a.subs.now (omega arith); ok_value = look-short a.on_queue a.most a.n a.reserved a.waiting a.subs.now a.rows.now (omega arith) }

pub returns-then-reserved-gt-ROWS : goal.returns-then-reserved-gt-ROWS
returns-then-reserved-gt-ROWS c =
    let a = c.args in record { others_value = c.sub_rows-others.ensures ∙ counted-all a.n a.subs.now (omega arith); ok_value = look-over a.on_queue a.most a.n a.reserved a.waiting a.subs.now a.rows.now (omega arith) (omega arith) }

pub returns-then-waiting-gt-ROWS : goal.returns-then-waiting-gt-ROWS
returns-then-waiting-gt-ROWS c =
    let a = c.args in record { others_value = c.sub_rows-others.ensures ∙ counted-all a.n a.subs.now (omega arith); ok_value = look-over a.on_queue a.most a.n a.reserved a.waiting a.subs.now a.rows.now (omega arith) (omega arith) }

pub overflow_add-used-2 : goal.overflow_add-used-2
overflow_add-used-2 c =
    let o = c.sub_rows-others in
    let a = c.args in
    omega (arith, o.ensures, count_small (sub_rows (take a.n a.subs.now)))

pub returns-then-used-gt-ROWS : goal.returns-then-used-gt-ROWS
returns-then-used-gt-ROWS c =
    let a = c.args in
    let o = c.sub_rows-others in record {
      others_value = o.ensures ∙ counted-all a.n a.subs.now (omega arith);
      ok_value = look-over a.on_queue a.most a.n a.reserved a.waiting a.subs.now a.rows.now (omega arith)
          (count-over (sub_rows (take a.n a.subs.now)) (a.reserved + a.waiting) (omega (arith, o.ensures, c.if-used-gt-ROWS.true)));
    }

pub returns-then-rows-used : goal.returns-then-rows-used
returns-then-rows-used c =
    let a = c.args in
    let o = c.sub_rows-others in
    let e = exact (goal.at.returns-then-rows-used c).Else-used-gt-ROWS in record { others_value = o.ensures ∙ counted-all a.n a.subs.now (omega arith); ok_value = look-past a.on_queue a.most a.n a.reserved a.waiting a.subs.now a.rows.now (omega arith) (omega (arith, e, c.if-used-gt-ROWS.false)) (omega (arith, e, c.if-rows-used.true)) }

pub rows_ok-ok-requires : goal.rows_ok-ok-requires
rows_ok-ok-requires c =
    let e = exact (goal.at.rows_ok-ok-requires c).Else-used-gt-ROWS in record { others_value = e; waiting_in_bounds = (omega arith, omega arith) }

pub returns : goal.returns
returns c =
    let a = c.args in
    let o = c.sub_rows-others in
    let e = exact (goal.at.returns c).Else-used-gt-ROWS in record {
      others_value = o.ensures ∙ counted-all a.n a.subs.now (omega arith);
      ok_value = c.rows_ok-ok.ensures
          ∙ ap (λ (k : ℕ). every (row_tests (kind_by a.on_queue) a.most k a.reserved a.waiting (take a.n a.subs.now) a.rows.now)) e
          ∙ look-all a.on_queue a.most a.n a.reserved a.waiting a.subs.now a.rows.now (omega arith) (omega (arith, e, c.if-used-gt-ROWS.false)) (omega (arith, e, c.if-rows-used.false));
    }
