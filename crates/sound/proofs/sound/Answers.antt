use mathlib.Core.Path.{sym, ap, ap₂, ◌∙◌}
use mathlib.Core.Bool.{Bool, ◌&&◌}
use borrow.Author.Tests.{not-true, not-false}
use Rattle.definition.specs.Layout.{sound_buffers, lent}
use Rattle.sound.specs.Sound.{rest_ok}
use Rattle.sound.proofs.Tables.{long-enough, head-false, head-true}
use Rattle.sound.proofs.Meaning.{sound-means}
use Rattle.sound.proofs.sound.Goals as goal

pub returns-then-not-whole : goal.returns-then-not-whole
returns-then-not-whole c =
    let a = c.args in
    let b = lent a.head.now a.subs.now a.rows.now in
    let w = c.whole in
    sym (ap (λ (t : Bool). t && sound_buffers b) (sym w.ensures ∙ not-true w.result c.if-not-whole.true-raw))

pub returns-then-not-sound : goal.returns-then-not-sound
returns-then-not-sound c =
    let a = c.args in
    let h = a.head.now in
    let b = lent h a.subs.now a.rows.now in
    let w = c.whole in
    let t = (sym w.ensures ∙ not-false w.result c.if-not-whole.false-raw) in
    let l = long-enough b t in
    let f = c.sound in
    let m = sound-means h a.subs.now a.rows.now l.1 l.2 (λ k. (c.shared_slice_known-1.given k).fits) in
    sym (ap₂ ◌&&◌ t (m ∙ head-false b l.0 (sym f.ensures ∙ not-true f.result c.if-not-sound.true-raw)))

pub rest_ok-requires : goal.rest_ok-requires
rest_ok-requires c =
    let a = c.args in
    let b = lent a.head.now a.subs.now a.rows.now in
    let w = c.whole in
    let l = long-enough b (sym w.ensures ∙ not-false w.result c.if-not-whole.false-raw) in
    let f = c.sound in record { in_bounds = l.0; do_bound = l.1; in_bounds_2 = l.2; head_value = head-true a.head.now (sym f.ensures ∙ not-false f.result c.if-not-sound.false-raw) }

pub returns : goal.returns
returns c =
    let a = c.args in
    let h = a.head.now in
    let b = lent h a.subs.now a.rows.now in
    let w = c.whole in
    let t = (sym w.ensures ∙ not-false w.result c.if-not-whole.false-raw) in
    let l = long-enough b t in
    let f = c.sound in
    let m = sound-means h a.subs.now a.rows.now l.1 l.2 (λ k. (c.shared_slice_known-1.given k).fits) in
    c.rest_ok.ensures ∙ sym (ap₂ ◌&&◌ t (m ∙ ap (λ (x : Bool). x && rest_ok b) (head-true h (sym f.ensures ∙ not-false f.result c.if-not-sound.false-raw)).0))
