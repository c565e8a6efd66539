use mathlib.Core.Path.{◌≡◌, sym, ap, ◌∙◌}
use mathlib.Core.Bool.{Bool, not, ◌&&◌}
use mathlib.Core.List.{List, ◌++◌}
use Prim.Native.Nat.{ℕ, ◌+◌}
use borrow.Author.Tests.{not-true, not-false}
use lib.ListN.{take}
use lib.Seq.{slice}
use Rattle.definition.specs.Base.{all, member, distinct}
use Rattle.definition.specs.Types.{queue}
use Rattle.definition.specs.Calls.{seqs, taken}
use Rattle.definition.specs.Layout.{subs_at}
use Rattle.distinct.proofs.Laws.{apart}
use Rattle.subrows.specs.Subrows.{seqs_at, reserved_at, waiting_at}
use Rattle.subrows.proofs.Subs.{sorted_rises}
use Rattle.sound.proofs.Rising.{waiting-apart}
use Rattle.sound.proofs.Tables.{gathered-two}
use native.Mathlib.Omega.{arith}
use borrow.Author.Rules.{rules}
use Rattle.sound.proofs.queue_apart.Goals as goal

pub returns-then-not-distinct : goal.returns-then-not-distinct
returns-then-not-distinct c =
    let a = c.args in
    let g = c.gather in
    let h = c.gather_taken-end in
    let d = c.distinct in
    let rows = a.rows.now in
    let f : ℕ = a.others + a.reserved in
    let kept : List ℕ = seqs_at (reserved_at a.others a.reserved rows) in
    let out : List ℕ = seqs (taken (subs_at queue a.subs.now rows)) in
    let e : take h.result h.new.out ≡ kept ++ out = gathered-two a.out.now g.new.out h.new.out kept out a.reserved h.result g.ensures h.ensures.out_after in
    sym (waiting-apart rows f a.waiting (kept ++ out) (omega arith) (sorted_rises (slice f (f + a.waiting) rows) c.requires.rows_value) ∙ ap (λ (t : Bool). t && apart (kept ++ out) (seqs_at (slice f (f + a.waiting) rows))) (sym (ap distinct e) ∙ sym d.ensures ∙ not-true d.result c.if-not-distinct.true-raw))

pub returns-then-waiting-eq0 : goal.returns-then-waiting-eq0
returns-then-waiting-eq0 c =
    let a = c.args in
    let g = c.gather in
    let h = c.gather_taken-end in
    let d = c.distinct in
    let rows = a.rows.now in
    let f : ℕ = a.others + a.reserved in
    let kept : List ℕ = seqs_at (reserved_at a.others a.reserved rows) in
    let out : List ℕ = seqs (taken (subs_at queue a.subs.now rows)) in
    let e : take h.result h.new.out ≡ kept ++ out = gathered-two a.out.now g.new.out h.new.out kept out a.reserved h.result g.ensures h.ensures.out_after in
    sym (ap (λ (n : ℕ). distinct (seqs_at (waiting_at a.others a.reserved n rows) ++ (kept ++ out))) c.if-waiting-eq0.true ∙ sym (ap distinct e) ∙ sym d.ensures ∙ not-false d.result c.if-not-distinct.false-raw)

pub none_waits-requires : goal.none_waits-requires
none_waits-requires c =
    let a = c.args in
    let g = c.gather in
    let h = c.gather_taken-end in
    let f : ℕ = a.others + a.reserved in record { from_le_to = search rules; to_in_bounds = search rules; rows_value = sorted_rises (slice f (f + a.waiting) a.rows.now) c.requires.rows_value }

pub returns : goal.returns
returns c =
    let a = c.args in
    let g = c.gather in
    let h = c.gather_taken-end in
    let d = c.distinct in
    let rows = a.rows.now in
    let f : ℕ = a.others + a.reserved in
    let kept : List ℕ = seqs_at (reserved_at a.others a.reserved rows) in
    let out : List ℕ = seqs (taken (subs_at queue a.subs.now rows)) in
    let e : take h.result h.new.out ≡ kept ++ out = gathered-two a.out.now g.new.out h.new.out kept out a.reserved h.result g.ensures h.ensures.out_after in
    c.none_waits.ensures ∙ ap (all (λ x. not (member x (seqs_at (slice f (f + a.waiting) rows))))) e ∙ sym (waiting-apart rows f a.waiting (kept ++ out) (omega arith) (sorted_rises (slice f (f + a.waiting) rows) c.requires.rows_value) ∙ ap (λ (t : Bool). t && apart (kept ++ out) (seqs_at (slice f (f + a.waiting) rows))) (sym (ap distinct e) ∙ sym d.ensures ∙ not-false d.result c.if-not-distinct.false-raw))
