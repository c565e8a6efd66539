use mathlib.Core.Path.{◌≡◌, refl, sym, ◌∙◌, ap}
use Prim.Native.Nat.{ℕ, ◌+◌, ◌≤◌}
use native.Mathlib.Omega.{arith}
use mathlib.Core.List.{List, []}
use lib.IntN.{pos}
use lib.ListN.{length, get_or-eq_default}
use mir.Syntax.{w32, w64}
use mir.Val.{SFits}
use mir.ValLaws.{to_z-of_z}
use borrow.Author.Rules.{rules}
use Rattle.entry.specs.Entry.{entry_of}
use Rattle.entry.specs.declared.Entry.{Entry}
use Rattle.definition.specs.Queries.{line_of}
use Rattle.queries.specs.Pages.{row_line, page_line, page_line_at}
use Rattle.queries.proofs.line_at.Goals as goal

past : (rows : List (List ℕ)) (from i : ℕ) → length rows ≤ from + i → page_line (row_line []) ≡ page_line_at rows from i
unfolding page_line_at
past rows from i h = ap (λ (w : List ℕ). page_line (row_line w)) (sym (get_or-eq_default rows [] {n = from + i} h))

nought : page_line (row_line []) ≡ record { seq = 0; expiration = pos 0; redelivery = pos 0 }
unfolding entry_of
nought = refl

pub returns-then-i-rows : goal.returns-then-i-rows
unfolding page_line_at
returns-then-i-rows c = let e = c.entry_of-e.result in
    let f : SFits w64 e.expiration = search rules in
    let g : SFits w32 e.redelivery = search rules in
    rw (to_z-of_z w64 e.expiration f, to_z-of_z w32 e.redelivery g) (ap (λ (e : Entry). page_line (line_of e)) c.entry_of-e.ensures)

pub returns-else-i-rows : goal.returns-else-i-rows
returns-else-i-rows c = let a = c.args in sym nought ∙ past a.rows.now a.from a.i (omega arith)

pub returns-else-from-rows : goal.returns-else-from-rows
returns-else-from-rows c = let a = c.args in sym nought ∙ past a.rows.now a.from a.i (omega arith)
