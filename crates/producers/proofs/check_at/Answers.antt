use mathlib.Core.Path.{refl}
use lib.ListN.{length-set}
use Rattle.producers.proofs.Checking.{refused-at, accepted-at}
use native.Mathlib.Omega.{arith}
use borrow.Author.Rules.{rules}
use Rattle.producers.proofs.check_at.Goals as goal

pub returns-then-r-ne0 : goal.returns-then-r-ne0
returns-then-r-ne0 c =
    let a = c.args in
    refused-at a.k a.number a.d a.head.now (search rules) (search rules) c.check_and_record-r.result c.check_and_record-r.new.window c.check_and_record-r.ensures.exact _ refl c.if-r-ne0.true

pub bounds-head-at-4 : goal.bounds-head-at-4
bounds-head-at-4 c = simp length-set (omega (arith, c.head-1.given.1))

pub returns : goal.returns
returns c =
    let a = c.args in
    accepted-at a.k a.number a.d a.head.now (search rules) (search rules) c.check_and_record-r.result c.check_and_record-r.new.window c.check_and_record-r.ensures.exact _ refl c.if-r-ne0.false
