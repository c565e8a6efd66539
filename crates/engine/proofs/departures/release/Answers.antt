use mathlib.Core.Path.{◌≡◌, refl, sym, ◌∙◌}
use mathlib.Core.Bool.{false}
use mathlib.Core.List.{List}
use native.Mathlib.Omega.{arith}
use borrow.Author.Tests.{not-true, not-false}
use lib.ListN.{length}
use Rattle.definition.specs.Base.{empty}
use Rattle.definition.specs.Types.{Id, Audit}
use Rattle.definition.specs.Destination.{reserved_of, dispatch}
use Rattle.definition.specs.Calls.{releasing}
use Rattle.state.specs.State.{head_view}
use Rattle.state.specs.Leaves.{silent, both}
use Rattle.state.proofs.Leaves.{leaves-when}
use Rattle.state.proofs.Ready.{seen, ready-test, ready-fits}
use Rattle.reserved.proofs.Loops.{has-reserved-view}
use Rattle.returns.specs.Returns.{freed}
use Rattle.returns.proofs.Answers.{bounds-fit}
use Rattle.engine.proofs.Parts.{then-dispatch}
use Rattle.engine.proofs.Going.{performs-done, own-release, release-none, release-sends, freed-keeps}
use Rattle.engine.proofs.departures.release.Goals as goal

pub returns-then-not-any : goal.returns-then-not-any
returns-then-not-any c =
    let a = c.args in
    let p = c.requires in
    let k = c.release-freed in
    let f = silent (freed a.clock a.id) in
    let y = ready-test a.d a.subs.now a.rows.now a.events.now p.0 in
    let l = leaves-when _ _ f a.d k.result a.subs.now a.rows.now a.events.now k.new.subs k.new.rows a.events.now (bounds-fit a.clock a.subs.now a.d (length a.rows.now) (length a.events.now) y p.1) k.ensures in
    let h = sym c.has_reserved-any.ensures ∙ not-true _ c.if-not-any.true-raw in
    performs-done (releasing a.id a.clock) a.d a.subs.now a.rows.now a.events.now k.new.subs k.new.rows a.events.now (own-release a.clock a.id) 0 f _ k.result refl
    (λ ps us. release-none a.clock a.id (head_view a.d a.subs.now a.rows.now ps us) (not-false (empty (reserved_of a.id (head_view a.d a.subs.now a.rows.now ps us))) (sym (has-reserved-view a.subs.now a.rows.now a.d (length a.events.now) a.id ps us (ready-fits a.d a.subs.now a.rows.now a.events.now p.0)) ∙ h)))
    (l.0, omega (arith, l.1))

pub returns : goal.returns
returns c =
    let a = c.args in
    let p = c.requires in
    let k = c.release-freed in
    let f = silent (freed a.clock a.id) in
    let y = ready-test a.d a.subs.now a.rows.now a.events.now p.0 in
    let l = leaves-when _ _ f a.d k.result a.subs.now a.rows.now a.events.now k.new.subs k.new.rows a.events.now (bounds-fit a.clock a.subs.now a.d (length a.rows.now) (length a.events.now) y p.1) k.ensures in
    let s = c.dispatch-head in
    let h = sym c.has_reserved-any.ensures ∙ not-false _ c.if-not-any.false-raw in
    let some : (ps : List Id) (us : List Audit) → empty (reserved_of a.id (head_view a.d a.subs.now a.rows.now ps us)) ≡ false = λ ps us. not-true (empty (reserved_of a.id (head_view a.d a.subs.now a.rows.now ps us))) (sym (has-reserved-view a.subs.now a.rows.now a.d (length a.events.now) a.id ps us (ready-fits a.d a.subs.now a.rows.now a.events.now p.0)) ∙ h) in
    let q = then-dispatch a.d a.subs.now a.rows.now a.events.now p.0 a.clock p.1 f k.result k.new.subs k.new.rows a.events.now l.0 l.1
    512 (omega arith) (freed-keeps a.clock a.id (seen a.d a.subs.now a.rows.now a.events.now p.0) (some p.0.producers p.0.audits))
    s.result s.new.subs s.new.rows s.new.events s.ensures in
    performs-done (releasing a.id a.clock) a.d a.subs.now a.rows.now a.events.now s.new.subs s.new.rows s.new.events (own-release a.clock a.id) 0 (both f (dispatch a.clock)) _ s.result refl
    (λ ps us. release-sends a.clock a.id (head_view a.d a.subs.now a.rows.now ps us) (some ps us))
    (q.0, omega (arith, q.1))
