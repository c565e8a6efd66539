use mathlib.Core.Path.{◌≡◌, sym, ap, ◌∙◌}
use mathlib.Core.Bool.{Bool, false}
use Prim.Native.Nat.{ℕ, ◌+◌, ◌-◌, ◌<◌}
use native.Mathlib.Omega.{arith}
use lib.ListN.{length}
use Rattle.entry.specs.declared.Entry.{Entry}
use Rattle.definition.specs.Types.{letter}
use Rattle.acks.specs.Parts.{dead_head, dead_events}
use Rattle.acks.proofs.Telling.{telling-start, telling-miss, telling-dead, telling-end}
use Rattle.entry.specs.Entry.{entry_of}
use Rattle.definition.specs.Layout.{Row}
use Rattle.reserved.specs.Reserved.{wants_row}
use Rattle.reserved.proofs.Loops.{row_in, row_count}
use Rattle.reserved.proofs.letters.Goals as goal
use Rattle.reserved.proofs.letters.Goals.{then-wanted, else-wanted}

pub loop-row-init : goal.loop-row-init
loop-row-init c =
    let a = c.args in
    let e : a.from + 0 ≡ a.from = omega arith in
    rw e (telling-start false (wants_row a.id a.p) a.rows.now a.from a.to a.before a.events.now c.requires)

pub loop-row-preserved : goal.loop-row-preserved
loop-row-preserved c =
    let a = c.args in
    let l = c.loop-row in
    let q : Row → Bool = wants_row a.id a.p in
    let less : l.row-index < a.to - a.from = omega (arith, row_count a.rows.now a.from a.to c.requires.rows) in
    let at = row_in a.rows.now a.from a.to l.row-index less in
    let i : ℕ = a.from + l.row-index in
    let e : a.from + (l.row-index + 1) ≡ i + 1 = omega arith in
    elim c.if-wanted.branch [
      | then-wanted w ↦
          let is = w.entry_of.ensures ∙ ap entry_of at in
          let t = ap q (sym at) ∙ sym c.wanted.ensures ∙ w.if-wanted.true in
          rw (e, w.d-is, w.events-is)
          (telling-dead false q a.rows.now a.from a.to a.before a.events.now c.requires i l.d l.events l.invariant (omega arith) t _ _
          (w.dead-d.ensures.0 ∙ ap (λ (x : Entry). dead_head x.persistent l.d (length l.events)) is)
          (w.dead-d.ensures.1 ∙ ap (λ (x : Entry). dead_events x.persistent l.d.events (letter x.seq x.redelivery false) l.events) is))
      | else-wanted w ↦
          let t = ap q (sym at) ∙ sym c.wanted.ensures ∙ w.if-wanted.false in
          rw (e, w.d-is, w.events-is)
          (telling-miss false q a.rows.now a.from a.to a.before a.events.now c.requires i l.d l.events l.invariant (omega arith) t)
    ]

pub returns : goal.returns
returns c =
    let a = c.args in
    let l = c.loop-row in
    telling-end false (wants_row a.id a.p) a.rows.now a.from a.to a.before a.events.now c.requires (a.from + l.row-index) l.d l.events l.invariant (omega (arith, row_count a.rows.now a.from a.to c.requires.rows))
