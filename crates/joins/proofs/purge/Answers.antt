use Rattle.std.proofs.Common.{arith, ◌≡◌, ap, ◌∙◌, true, Bool, not, List, ◌++◌, length, take, drop, ℕ, ◌-◌, ◌<◌, ◌≤◌, ◌^◌}
use Rattle.std.proofs.Math.Seq.{slice, slice_empty}
use borrow.Author.Tests.{le-leb}
use lib.Dec.{leb}
use mir.Syntax.{w64}
use mir.ValLaws.{to_z_pos}
use Rattle.entry.specs.Entry.{entry_of, expired, expired_row}
use Rattle.definition.specs.Base.{keep, tally}
use Rattle.definition.specs.Layout.{Row}
use Rattle.definition.proofs.Tests.{if-true, and_both}
use Rattle.table.specs.Table.{segment_of, compacted, rows_removed, removed_rows, remove_rows}
use Rattle.joins.specs.Joins.{gone_at}
use Rattle.joins.proofs.purge.Goals as goal

same-test : (by : ℕ) → by ≤ 2 ^ 62 → expired_row by ≡ gone_at by
same-test by h = let low : by < 2 ^ 63 = omega arith in λ j w. expired (to_z_pos w64 by low j) (entry_of w)

within : (from to : ℕ) (rs : List Row) → from ≤ to → to ≤ length rs → segment_of from to to (length rs) ≡ true
within from to rs h b = and_both _ _ (and_both (leb from to) (leb to to) (le-leb from to h) (le-leb to to (omega arith))) (le-leb to (length rs) b)

-- rows that go from the end of those in use
removed-last : (p : Row → Bool) (from to : ℕ) (rs : List Row) → rows_removed p from to to rs ≡ compacted p from to rs
unfolding rows_removed compacted
removed-last p from to rs = ap (λ (x : List Row). take from rs ++ (keep (λ r. not (p r)) (slice from to rs) ++ (x ++ drop (to - tally p (slice from to rs)) rs))) (slice_empty to rs)

pub returns : goal.returns
unfolding removed_rows remove_rows
returns c =
    let a = c.args in
    let h = c.requires in
    let q = c.remove_expired.ensures in
    let e = same-test a.by h.2 in
    let t = within a.from a.to a.rows.now h.0 h.1 in record {
      value = q.value ∙ if-true _ _ t ∙ ap (λ (p : Row → Bool). tally p (slice a.from a.to a.rows.now)) e;
      rows_after = q.rows_after ∙ if-true _ _ t ∙ removed-last (expired_row a.by) a.from a.to a.rows.now ∙ ap (λ (p : Row → Bool). compacted p a.from a.to a.rows.now) e;
    }
