use mathlib.Core.Path.{◌≡◌, ap, ◌∙◌}
use mathlib.Core.List.{List}
use Prim.Native.Nat.{ℕ}
use Rattle.definition.specs.Base.{is_some}
use Rattle.definition.specs.Types.{Entry}
use Rattle.definition.specs.Calls.{enqueuing, arguments_ok}
use Rattle.definition.specs.Words.{at, entry_in, decode}
use Rattle.state.specs.Answers.{told}
use Rattle.engine.proofs.Performed.{performs-as}
use Rattle.calls.specs.declared.Call as Declared
use Rattle.engine.proofs.Handled.{enqueue-decoded, enqueue-clock}
use Rattle.engine.proofs.handling.enqueue.Goals as goal

pub enqueue-requires : goal.enqueue-requires
enqueue-requires c =
    let a = c.args in
    let p = c.requires in
    let q : c.new-c.result.words ≡ a.w = ap (λ (x : Declared.Call). x.words) c.new-c.ensures in
    let e : c.entry_of-e.result ≡ entry_in a.w = c.entry_of-e.ensures.value_2 (ap (λ (l : List ℕ). is_some (decode 1 l)) q ∙ p.1) ∙ ap entry_in q in
    (p.0, enqueue-clock a.w p.1, ap (λ (x : Entry). arguments_ok (enqueuing x (at 6 a.w))) e ∙ (enqueue-decoded a.w p.1).arguments)

pub returns : goal.returns
returns c =
    let a = c.args in
    let p = c.requires in
    let k = c.enqueue in
    let q : c.new-c.result.words ≡ a.w = ap (λ (x : Declared.Call). x.words) c.new-c.ensures in
    let e : c.entry_of-e.result ≡ entry_in a.w = c.entry_of-e.ensures.value_2 (ap (λ (l : List ℕ). is_some (decode 1 l)) q ∙ p.1) ∙ ap entry_in q in
    performs-as (enqueuing (entry_in a.w) (at 6 a.w)) a.d (told a.d k.result) a.subs.now a.rows.now a.events.now k.new.subs k.new.rows k.new.events (decode 1 a.w) (enqueuing c.entry_of-e.result (at 6 a.w))
    (ap (λ (x : Entry). enqueuing x (at 6 a.w)) e) (enqueue-decoded a.w p.1).call k.ensures
