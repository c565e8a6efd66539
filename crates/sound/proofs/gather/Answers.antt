use mathlib.Core.Path.{◌≡◌, refl, sym, ap, ◌∙◌}
use mathlib.Core.List.{[], append-nil}
use Prim.Native.Nat.{ℕ, ◌+◌}
use native.Mathlib.Nat.{add-zero}
use lib.ListN.{take, get_or, length-set}
use Rattle.definition.specs.Words.{at}
use Rattle.sound.proofs.Gathered.{gather-turn}
use native.Mathlib.Omega.{arith}
use borrow.Author.Rules.{rules}
use Rattle.sound.proofs.gather.Goals as goal

pub loop-i-init : goal.loop-i-init
loop-i-init g c = (search rules, refl, ap (λ (j : ℕ). take j c.args.out.now) (add-zero c.args.start) ∙ sym (append-nil (take c.args.start c.args.out.now)))

pub loop-i-preserved : goal.loop-i-preserved
loop-i-preserved g c =
    let a = c.args in (
      search rules,
      length-set c.loop-i.out (a.start + c.loop-i.i) (at g.row.WORD (get_or a.rows.now (a.from + c.loop-i.i) [])) ∙ c.loop-i.invariant.1,
      gather-turn g.row.WORD a.rows.now a.out.now c.loop-i.out a.from a.start c.loop-i.i (omega arith) (omega arith) c.loop-i.invariant.2,
    )

pub returns : goal.returns
returns g c =
    let e : c.loop-i.i ≡ c.args.n = omega arith in
    rw e at c.loop-i.invariant.2
