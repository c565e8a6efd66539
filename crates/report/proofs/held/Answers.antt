use mathlib.Core.Path.{sym, ap, ◌∙◌}
use mathlib.Core.Bool.{Bool, not, ◌&&◌}
use native.Mathlib.Omega.{arith}
use borrow.Author.Tests.{not-true, not-false}
use lib.ListN.{length}
use Rattle.definition.specs.Layout.{sound_buffers, lent}
use Rattle.report.proofs.Listing.{list-short, state-short, not_sound, refused-list, sound-list}
use Rattle.report.proofs.held.Goals as goal

pub returns-then-list-lt-HELD_MOST : goal.returns-then-list-lt-HELD_MOST
returns-then-list-lt-HELD_MOST c =
    let a = c.args in
    let b = lent a.head.now a.subs.now a.rows.now in
    let both = refused-list b a.list.now 1 (list-short b (length a.list.now) c.if-list-lt-HELD_MOST.true) (λ z. absurd (omega (arith, z))) in record { value = both.0; list_after = both.1 }

pub returns-then-not-whole : goal.returns-then-not-whole
returns-then-not-whole c =
    let a = c.args in
    let b = lent a.head.now a.subs.now a.rows.now in
    let r = c.if-list-lt-HELD_MOST.false in
    let s = not-false _ (sym c.whole.ensures ∙ not-true _ c.if-not-whole.true-raw) in
    let both = refused-list b a.list.now 1 (state-short b (length a.list.now) r s) (λ z. absurd (omega (arith, z))) in record { value = both.0; list_after = both.1 }

pub returns-then-not-sound : goal.returns-then-not-sound
returns-then-not-sound c =
    let a = c.args in
    let b = lent a.head.now a.subs.now a.rows.now in
    let r = c.if-list-lt-HELD_MOST.false in
    let s = not-true _ (sym c.whole.ensures ∙ not-false _ c.if-not-whole.false-raw) in
    let u = sym (ap (λ (x : Bool). not x && sound_buffers b) s) ∙ sym c.sound.ensures ∙ not-true _ c.if-not-sound.true-raw in
    let both = refused-list b a.list.now 2 (not_sound b (length a.list.now) r s u) (λ z. absurd (omega (arith, z))) in record { value = both.0; list_after = both.1 }

pub returns : goal.returns
returns c =
    let a = c.args in
    let b = lent a.head.now a.subs.now a.rows.now in
    let s = not-true _ (sym c.whole.ensures ∙ not-false _ c.if-not-whole.false-raw) in
    let u = sym (ap (λ (x : Bool). not x && sound_buffers b) s) ∙ sym c.sound.ensures ∙ not-false _ c.if-not-sound.false-raw in
    let l = c.blocks_in-count in
    let both = sound-list b a.list.now c.if-list-lt-HELD_MOST.false s u l.result _ l.ensures.value l.ensures.list_after in record { value = both.0; list_after = both.1 }
