use mathlib.Core.Path.{sym, ap, ◌∙◌}
use Prim.Native.Nat.{ℕ, ◌<◌, ◌^◌}
use native.Mathlib.Omega.{arith}
use lib.IntN.{ℤ, pos}
use Rattle.words.proofs.Words.{signed-pos}
use Rattle.entry.specs.Entry.{expired}
use Rattle.state.specs.declared.Head.{Head}
use Rattle.returns.proofs.Moving.{moves-late, moves-back}
use Rattle.returns.proofs.put_back.Goals as goal

pub returns-then-expired_by : goal.returns-then-expired_by
returns-then-expired_by c =
    let a = c.args in
    let o = c.requires.0 in
    let h : c.due-by.result < 2 ^ 63 = omega (arith, c.requires.1, c.due-by.ensures) in
    let z = ap (λ (n : ℕ). expired (pos n) a.e) (sym c.due-by.ensures) ∙ ap (λ (x : ℤ). expired x a.e) (sym (signed-pos c.due-by.result h)) in record { moves = moves-late a.clock a.from a.e a.d a.subs.now a.rows.now o _ _ (z ∙ sym c.expired_by.ensures ∙ c.if-expired_by.true) c.count_expired.ensures c.close_gap.ensures; reserved_value = ap (λ (x : Head). x.reserved) c.count_expired.ensures }

pub returns : goal.returns
returns c =
    let a = c.args in
    let o = c.requires.0 in
    let h : c.due-by.result < 2 ^ 63 = omega (arith, c.requires.1, c.due-by.ensures) in
    let z = ap (λ (n : ℕ). expired (pos n) a.e) (sym c.due-by.ensures) ∙ ap (λ (x : ℤ). expired x a.e) (sym (signed-pos c.due-by.result h)) in record { moves = moves-back a.clock a.from a.e a.d a.subs.now a.rows.now o _ _ _ (z ∙ sym c.expired_by.ensures ∙ c.if-expired_by.false) c.hold_back.ensures c.put_row.ensures; reserved_value = ap (λ (x : Head). x.reserved) c.put_row.ensures.head }
