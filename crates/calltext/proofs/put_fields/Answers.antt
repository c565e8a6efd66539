use mathlib.Core.Path.{◌≡◌}
use lib.ListN.{get_or}
use Rattle.callfile.proofs.Parts.{then, line-puts, none-put}
use Rattle.calltext.specs.Names.{minus_at}
use Rattle.calltext.proofs.Showing.{field-length, no_field, one_field}
use native.Mathlib.Omega.{arith}
use borrow.Author.Rules.{rules}
use Rattle.calltext.proofs.put_fields.Goals as goal

pub loop-k-init : goal.loop-k-init
loop-k-init c = let a = c.args in (search rules, omega arith, omega arith, rw (no_field a.place a.w) (none-put a.at a.out.now))

pub loop-k-preserved : goal.loop-k-preserved
loop-k-preserved c = let a = c.args in let v = c.loop-k.invariant in let m = minus_at a.place c.loop-k.k in let x = get_or a.w c.loop-k.k 0 in let p = line-puts (omega (arith, v.3.same)) (omega (arith, field-length m x)) (rw c.kind_at-minus.ensures at c.put_word-next.ensures) in (v.0, omega arith, omega (arith, p.next, field-length m x), rw (one_field a.place a.w c.loop-k.k) (then v.3 p))

pub returns : goal.returns
returns c = let a = c.args in let v = c.loop-k.invariant in let e : c.loop-k.k ≡ a.n = omega arith in (rw e at v.3, omega arith)
