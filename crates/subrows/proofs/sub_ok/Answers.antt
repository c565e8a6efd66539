use mathlib.Core.Path.{◌≡◌, sym, ap, ◌∙◌}
use mathlib.Core.Bool.{Bool, true, false}
use Prim.Native.Nat.{◌+◌}
use borrow.Author.Tests.{not-true, not-false}
use lib.Seq.{slice}
use Rattle.definition.specs.Words.{at}
use Rattle.subrows.specs.Subrows.{held_ok}
use Rattle.subrows.proofs.Subs.{placed-words, placed-flying, placed-held}
use Rattle.subrows.proofs.sub_ok.Goals as goal

pub returns-then-not-words_ok : goal.returns-then-not-words_ok
returns-then-not-words_ok c =
    let a = c.args in
    let w = c.words_ok in
    placed-words a.on_queue a.most a.w a.rows.now a.base c.requires w.ensures.w_value (sym w.ensures.value ∙ not-true w.result c.if-not-words_ok.true-raw)

pub returns-then-not-flying_ok : goal.returns-then-not-flying_ok
returns-then-not-flying_ok c =
    let a = c.args in
    let w = c.words_ok in
    let f = c.flying_ok in
    placed-flying a.on_queue a.most a.w a.rows.now a.base c.requires w.ensures.w_value (sym w.ensures.value ∙ not-false w.result c.if-not-words_ok.false-raw) (sym f.ensures ∙ not-true f.result c.if-not-flying_ok.true-raw)

pub returns-then-on_queue : goal.returns-then-on_queue
returns-then-on_queue c =
    let a = c.args in
    let w = c.words_ok in
    let f = c.flying_ok in
    let e : a.on_queue ≡ true = c.if-on_queue.true in
    c.entries_ok.ensures.value ∙ ap (λ (q : Bool). held_ok q (slice (a.base + at 14 a.w) (a.base + at 14 a.w + at 15 a.w) a.rows.now)) (sym e)
    ∙ placed-held a.on_queue a.most a.w a.rows.now a.base c.requires w.ensures.w_value (sym w.ensures.value ∙ not-false w.result c.if-not-words_ok.false-raw) (sym f.ensures ∙ not-false f.result c.if-not-flying_ok.false-raw)

pub returns : goal.returns
returns c =
    let a = c.args in
    let w = c.words_ok in
    let f = c.flying_ok in
    let e : a.on_queue ≡ false = c.if-on_queue.false in
    c.sorted_ok.ensures ∙ ap (λ (q : Bool). held_ok q (slice (a.base + at 14 a.w) (a.base + at 14 a.w + at 15 a.w) a.rows.now)) (sym e)
    ∙ placed-held a.on_queue a.most a.w a.rows.now a.base c.requires w.ensures.w_value (sym w.ensures.value ∙ not-false w.result c.if-not-words_ok.false-raw) (sym f.ensures ∙ not-false f.result c.if-not-flying_ok.false-raw)
