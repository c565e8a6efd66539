use mathlib.Core.Path.{◌≡◌, sym, ap, ◌∙◌}
use mathlib.Core.Bool.{Bool, true, ◌&&◌, ◌||◌}
use Prim.Native.Nat.{ℕ, ◌+◌}
use borrow.Author.Tests.{not-true, not-false}
use lib.Dec.{eqb}
use Rattle.definition.specs.Words.{kind_by}
use Rattle.definition.specs.Layout.{sub_rows}
use Rattle.sound.specs.Sound.{sizes_at, empty_by}
use Rattle.sound.proofs.Tables.{apart_all, numbers-stop, numbers-last, numbers-known, topic-apart, topic-empty}
use native.Mathlib.Omega.{arith}
use Rattle.sound.proofs.numbers_ok.Goals as goal
use Rattle.sound.proofs.numbers_ok.Goals.{Else-not-place-seqs}

known : (c : Else-not-place-seqs) → let a = c.args in
    (empty_by (kind_by a.on_queue) (a.reserved + a.waiting) ≡ true) × (apart_all a.on_queue a.others a.reserved a.waiting a.subs.now a.rows.now ≡ true)
known c =
    let a = c.args in
    let seqs = c.apart-seqs in
    let conj : Bool = (a.on_queue || eqb (a.reserved + a.waiting) 0) && seqs.result in
    numbers-known a.on_queue a.others a.reserved a.waiting a.subs.now a.rows.now seqs.result seqs.ensures (not-false conj c.if-not-place-seqs.false-raw)

pub apart-seqs-requires : goal.apart-seqs-requires
apart-seqs-requires c =
    let p = c.requires in record { others_value = p.others_value; waiting_in_bounds = p.waiting_in_bounds; waiting_bound = p.waiting_bound; rows_value = p.rows_value; rows_value_2 = p.rows_value_2 }

pub returns-then-not-place-seqs : goal.returns-then-not-place-seqs
returns-then-not-place-seqs c =
    let a = c.args in
    let seqs = c.apart-seqs in
    let conj : Bool = (a.on_queue || eqb (a.reserved + a.waiting) 0) && seqs.result in
    numbers-stop a.on_queue a.others a.reserved a.waiting a.subs.now a.rows.now seqs.result seqs.ensures (not-true conj c.if-not-place-seqs.true-raw)

pub alike-requires : goal.alike-requires
alike-requires c =
    let p = c.requires in record { subs_in_bounds = omega (arith, p.others_value, p.waiting_in_bounds); subs_bound = omega (arith, p.others_value, p.waiting_bound) }

pub returns-then-alike : goal.returns-then-alike
returns-then-alike c =
    let a = c.args in
    let us = a.subs.now in
    let rows = a.rows.now in
    let seqs = c.apart-seqs in
    let look = c.alike.ensures c.if-alike.true in
    let k = known (goal.at.returns-then-alike c).Else-not-place-seqs in
    let u : a.others + a.reserved + a.waiting ≡ sub_rows us = omega (arith, topic-empty a.on_queue (a.reserved + a.waiting) look.on-topic k.0, c.requires.others_value) in
    let conj : Bool = (a.on_queue || eqb (a.reserved + a.waiting) 0) && seqs.result in
    numbers-last a.on_queue a.others a.reserved a.waiting us rows seqs.result seqs.ensures (not-false conj c.if-not-place-seqs.false-raw) true
    (sym (ap (λ (m : ℕ). sizes_at m rows) u ∙ look.agree (topic-apart a.others a.reserved a.waiting us rows a.on_queue look.on-topic k.1)))

pub sizes_ok-requires : goal.sizes_ok-requires
sizes_ok-requires c =
    let k = known (goal.at.sizes_ok-requires c).Else-not-place-seqs in record { used_in_bounds = omega arith; used_bound = omega arith; rows_value = c.requires.lone_agree k.0 k.1 }

pub returns : goal.returns
returns c =
    let a = c.args in
    let seqs = c.apart-seqs in
    let conj : Bool = (a.on_queue || eqb (a.reserved + a.waiting) 0) && seqs.result in
    numbers-last a.on_queue a.others a.reserved a.waiting a.subs.now a.rows.now seqs.result seqs.ensures (not-false conj c.if-not-place-seqs.false-raw) c.sizes_ok.result c.sizes_ok.ensures
