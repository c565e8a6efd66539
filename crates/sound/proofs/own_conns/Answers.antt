use mathlib.Core.Path.{sym, ap, ◌∙◌}
use mathlib.Core.Bool.{Bool}
use mathlib.Core.List.{List}
use Prim.Native.Nat.{ℕ, ◌+◌}
use native.Mathlib.Nat.{zero-add}
use borrow.Author.Tests.{not-true, not-false}
use lib.ListN.{take, drop}
use Rattle.definition.specs.Types.{queue}
use Rattle.definition.specs.Calls.{taken}
use Rattle.definition.specs.Layout.{subs_at}
use Rattle.shares.specs.Shares.{conns}
use Rattle.sound.specs.Sound.{conns_at, own_conns}
use Rattle.sound.proofs.Tables.{gathered-two}
use Rattle.sound.proofs.own_conns.Goals as goal

pub returns-then-not-on_queue : goal.returns-then-not-on_queue
returns-then-not-on_queue c =
    let a = c.args in
    let g = c.gather in
    let us = a.subs.now in
    ap (λ (n : ℕ). take n g.new.out) (sym (zero-add (a.others + a.rest))) ∙ g.ensures
    ∙ ap (λ (q : Bool). own_conns q a.others a.rest us a.rows.now) (sym (not-true a.on_queue c.if-not-on_queue.true-raw))

pub returns : goal.returns
returns c =
    let a = c.args in
    let g = c.gather-2 in
    let h = c.taken_conns in
    let us = a.subs.now in
    let rows = a.rows.now in
    let rest : List ℕ = conns_at (take a.rest (drop a.others rows)) in
    let out : List ℕ = conns (taken (subs_at queue us rows)) in
    gathered-two a.out.now g.new.out h.new.out rest out a.rest h.result g.ensures h.ensures
    ∙ ap (λ (q : Bool). own_conns q a.others a.rest us rows) (sym (not-false a.on_queue c.if-not-on_queue.false-raw))
