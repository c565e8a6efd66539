use mathlib.Core.Path.{◌≡◌, refl, sym, ap, ◌∙◌}
use mathlib.Core.Bool.{true, false}
use mathlib.Core.List.{List}
use Prim.Native.Nat.{ℕ, ◌+◌, ◌*◌}
use borrow.Author.Tests.{not-true, not-false, le-leb, lt-leb}
use lib.ListN.{length, drop}
use mir.Syntax.{w64}
use mir.Val.{SFits}
use Rattle.definition.specs.Destination.{is_producer}
use Rattle.definition.specs.Calls.{adding}
use Rattle.definition.specs.Layout.{ids_at}
use Rattle.state.specs.State.{with_producer_count, not_idle, refused_as, done_as}
use Rattle.producers.specs.Groups.{written_from, id_words}
use Rattle.producers.specs.Producers.{head_fits, added}
use Rattle.producers.proofs.Loops.{some-below, none-below}
use Rattle.producers.proofs.Tables.{counts, producer-first}
use Rattle.producers.proofs.Promises.{carried}
use Rattle.producers.proofs.Adding.{added-unfit, added-there, added_full, added_new}
use native.Mathlib.Omega.{arith}
use borrow.Author.Rules.{rules}
use Rattle.producers.proofs.add_producer.Goals as goal
use Rattle.producers.proofs.add_producer.Goals.{Else-is_some, Else-not-fits, Start}

session-fits : (c : Start) → SFits w64 c.args.id.session
session-fits c = search rules

value-fits : (c : Start) → SFits w64 c.args.id.value
value-fits c = search rules

fit : (c : Else-not-fits) → let a = c.args in head_fits (length a.head.now) a.d ≡ true
fit c = sym c.fits.ensures ∙ not-false _ c.if-not-fits.false-raw

missing : (c : Else-is_some) → let a = c.args in is_producer a.id (ids_at a.d.producers (drop 17 a.head.now)) ≡ false
missing c =
    let a = c.args in
    producer-first a.id a.d.producers (drop 17 a.head.now) ∙ none-below c.find-known.result _ _ c.find-known.ensures (sym c.is_some.ensures ∙ c.if-is_some.false)

pub returns-then-not-fits : goal.returns-then-not-fits
returns-then-not-fits c =
    let a = c.args in
    let h : List ℕ = a.head.now in
    carried (adding a.id) a.d h (added a.id a.d h) _ (refused_as 2 a.d) h h refl refl
    (added-unfit a.id a.d h (sym c.fits.ensures ∙ not-true _ c.if-not-fits.true-raw))

pub find-known-requires : goal.find-known-requires
find-known-requires c =
    let a = c.args in
    let n = counts (length a.head.now) a.d (fit (goal.at.find-known-requires c).Else-not-fits) in
    (search rules, omega arith)

pub returns-then-is_some : goal.returns-then-is_some
returns-then-is_some c =
    let a = c.args in
    let h : List ℕ = a.head.now in
    let t = producer-first a.id a.d.producers (drop 17 h) ∙ some-below c.find-known.result _ _ c.find-known.ensures (sym c.is_some.ensures ∙ c.if-is_some.true) in
    carried (adding a.id) a.d h (added a.id a.d h) _ (done_as 0 (not_idle a.d)) h h (ap (done_as 0) c.not_idle.ensures) refl
    (added-there a.id a.d h (fit (goal.at.returns-then-is_some c).Else-not-fits) t)

pub returns-then-n-ge-PRODUCERS : goal.returns-then-n-ge-PRODUCERS
returns-then-n-ge-PRODUCERS c =
    let a = c.args in
    let h : List ℕ = a.head.now in
    carried (adding a.id) a.d h (added a.id a.d h) _ (refused_as 8 a.d) h h refl refl
    (added_full a.id a.d h (fit (goal.at.returns-then-n-ge-PRODUCERS c).Else-not-fits) (missing (goal.at.returns-then-n-ge-PRODUCERS c).Else-is_some) (le-leb _ _ c.if-n-ge-PRODUCERS.true))

pub put_id-requires : goal.put_id-requires
put_id-requires c =
    let a = c.args in
    let n = counts (length a.head.now) a.d (fit (goal.at.put_id-requires c).Else-not-fits) in
    omega arith

pub returns : goal.returns
returns c =
    let a = c.args in
    let h : List ℕ = a.head.now in
    let s = session-fits (goal.at.returns c).Start in
    let v = value-fits (goal.at.returns c).Start in
    carried (adding a.id) a.d h (added a.id a.d h) _ (done_as 0 (not_idle (with_producer_count (a.d.producers + 1) a.d))) _ (written_from (17 + a.d.producers * 3) (id_words a.id) h)
    (ap (done_as 0) c.not_idle-2.ensures) c.put_id.ensures
    (added_new a.id a.d h (fit (goal.at.returns c).Else-not-fits) s v (missing (goal.at.returns c).Else-is_some) (lt-leb _ _ c.if-n-ge-PRODUCERS.false))
