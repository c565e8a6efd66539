use mathlib.Core.Path.{◌≡◌, sym, ap, ◌∙◌}
use Prim.Native.Nat.{ℕ}
use native.Mathlib.Omega.{arith}
use Rattle.model.specs.Refusal.{refusal_number}
use Rattle.state.specs.Answers.{refusal_of}
use Rattle.state.proofs.Told.{numbered}
use Rattle.stationcalls.specs.Parts.{lent_all}
use Rattle.stationcalls.specs.Queried.{own_numbers}
use Rattle.stationcalls.proofs.Queried.{own-there, numbers-refused, numbers-are}
use Rattle.stationcalls.proofs.numbers.Goals as goal

pub returns-in-Err : goal.returns-in-Err
returns-in-Err c =
    let w = c.in-Err in
    let is : refusal_number w.refusal ≡ refusal_of c.checked.result = ap refusal_of (sym w.is) in
    ap (λ (n : ℕ). own_numbers n 0 0) c.from.ensures
    ∙ numbers-refused (lent_all c.args.heads.now c.args.subs.now c.args.rows.now c.args.own.now) (refusal_number w.refusal) (is ∙ c.checked.ensures) (λ z. omega (arith, z, numbered w.refusal))

pub next-requires : goal.next-requires
next-requires c = own-there (lent_all c.args.heads.now c.args.subs.now c.args.rows.now c.args.own.now) (sym c.checked.ensures ∙ ap refusal_of c.in-Ok.is)

pub lost-requires : goal.lost-requires
lost-requires c = own-there (lent_all c.args.heads.now c.args.subs.now c.args.rows.now c.args.own.now) (sym c.checked.ensures ∙ ap refusal_of c.in-Ok.is)

pub returns-in-Ok : goal.returns-in-Ok
returns-in-Ok c = numbers-are (lent_all c.args.heads.now c.args.subs.now c.args.rows.now c.args.own.now) (sym c.checked.ensures ∙ ap refusal_of c.in-Ok.is) c.next.result c.lost.result c.next.ensures c.lost.ensures
