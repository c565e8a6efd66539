use mathlib.Core.Path.{◌≡◌, refl, sym, ap, ◌∙◌}
use native.Mathlib.Omega.{arith}
use lib.IntN.{ℤ}
use mir.Syntax.{w32}
use mir.Val.{SFits}
use mir.ValLaws.{to_z-of_z}
use Rattle.words.specs.Words.{signed}
use Rattle.definition.specs.Destination.{dispatch, set_prefetch}
use Rattle.definition.specs.Calls.{signed_within}
use Rattle.definition.specs.Words.{at}
use Rattle.state.specs.State.{head_view}
use Rattle.state.specs.Leaves.{silent, both}
use Rattle.state.proofs.Leaves.{leaves-when}
use Rattle.state.proofs.Ready.{ready-test, seen}
use Rattle.pulls.specs.Pulls.{prefetched}
use Rattle.engine.proofs.Asks.{prefetch-parts, prefetched-keeps}
use Rattle.engine.proofs.Parts.{sends-as, then-dispatch}
use Rattle.engine.proofs.Worded.{prefetch-clock, prefetch-within, prefetch-int, prefetch-performs}
use Rattle.engine.proofs.requests.set_prefetch.Goals as goal

pub returns : goal.returns
returns c =
    let a = c.args in
    let p = c.requires in
    let w = a.w in
    let k = c.set_prefetch in
    let s = c.dispatch-head in
    let i = c.of_words-id in
    let x = c.int_of-prefetch.result in
    let fits : SFits w32 x = record { sfits = c.int_of-prefetch.type_inv } in
    let e = rw (to_z-of_z w32 x fits) at k.ensures in
    let is : x ≡ signed (at 3 w) = c.int_of-prefetch.ensures ∙ prefetch-int w (c.words_fit.ensures.word 3) p.1 in
    let f = silent (prefetched i.result x) in
    let l = leaves-when _ _ f a.d a.d a.subs.now a.rows.now a.events.now k.new.subs a.rows.now a.events.now (ready-test a.d a.subs.now a.rows.now a.events.now p.0) e in
    let y = then-dispatch a.d a.subs.now a.rows.now a.events.now p.0 (at 4 w) (prefetch-clock w p.1) f a.d k.new.subs a.rows.now a.events.now l.0 (omega (arith, p.0.none-sent, p.0.stands.used))
    1 (omega arith) (prefetched-keeps (at 4 w) i.result x (seen a.d a.subs.now a.rows.now a.events.now p.0) (ap (λ (z : ℤ). signed_within 2147483648 z) is ∙ prefetch-within w p.1)) s.result s.new.subs s.new.rows s.new.events s.ensures in
    prefetch-performs w a.d s.result _ a.subs.now a.rows.now a.events.now s.new.subs s.new.rows s.new.events i.result i.ensures p.1 refl x is
    (sends-as a.d s.result a.subs.now a.rows.now a.events.now s.new.subs s.new.rows s.new.events (both f (dispatch (at 4 w))) (set_prefetch (at 4 w) i.result x)
    (λ ps us. sym (prefetch-parts (at 4 w) i.result x (head_view a.d a.subs.now a.rows.now ps us)))
    (y.0, omega (arith, y.1)))
