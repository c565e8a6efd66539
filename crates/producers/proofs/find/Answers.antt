use mathlib.Core.Path.{◌≡◌, sym, ◌∙◌}
use lib.ListN.{length}
use Rattle.producers.specs.Groups.{has_id}
use Rattle.producers.proofs.Loops.{room-start, room_next, room-here, search-start, search-here, search-next, search-none}
use native.Mathlib.Omega.{arith}
use borrow.Author.Rules.{rules}
use Rattle.producers.proofs.find.Goals as goal

pub loop-k-init : goal.loop-k-init
loop-k-init c =
    let a = c.args in
    (search rules, room-start a.n a.width a.at (length a.head.now) c.requires.1, search-start (has_id a.id) a.width a.n a.head.now a.at)

pub same_at-requires : goal.same_at-requires
same_at-requires c =
    let l = c.loop-k in
    let a = c.args in
    omega (arith, room-here a.n l.k a.width l.from (length a.head.now) c.loop-k-test.true l.invariant.1)

pub returns-then-same_at : goal.returns-then-same_at
returns-then-same_at c =
    let l = c.loop-k in
    let a = c.args in
    (c.loop-k-test.true, sym (search-here (has_id a.id) a.width a.n a.head.now l.k l.from c.loop-k-test.true (sym c.same_at.ensures ∙ c.if-same_at.true)) ∙ l.invariant.2)

pub overflow_add-from : goal.overflow_add-from
overflow_add-from c =
    let l = c.loop-k in
    let a = c.args in
    omega (arith, room-here a.n l.k a.width l.from (length a.head.now) c.loop-k-test.true l.invariant.1)

pub loop-k-preserved : goal.loop-k-preserved
loop-k-preserved c =
    let l = c.loop-k in
    let a = c.args in
    let t = c.loop-k-test.true in
    (search rules, room_next a.n l.k a.width l.from (length a.head.now) t l.invariant.1, search-next (has_id a.id) a.width a.n a.head.now l.k l.from t (sym c.same_at.ensures ∙ c.if-same_at.false) ∙ l.invariant.2)

pub returns : goal.returns
returns c =
    let l = c.loop-k in
    let a = c.args in
    let e : a.n ≡ l.k = omega (arith, l.invariant.0) in
    e ∙ sym (search-none (has_id a.id) a.width a.n a.head.now l.k l.from c.loop-k-test.false l.invariant.0) ∙ l.invariant.2
