use Prim.Native.Nat.{◌-◌, ◌+◌}
use mathlib.Core.Path.{◌≡◌, refl, sym, ◌∙◌}
use Rattle.calltext.proofs.Showing.{shown-kind, shown-word, shown-less, shown-none}
use native.Mathlib.Omega.{arith}
use borrow.Author.Rules.{rules}
use Rattle.calltext.proofs.shown_words.Goals as goal
use Rattle.calltext.proofs.shown_words.Goals.{then-kind_at-ne0-via-then-kind_at-ne0, then-kind_at-ne0-via-else-kind_at-ne0+then-w-k-ne0}

pub loop-k-init : goal.loop-k-init
loop-k-init c = (omega arith, search rules, refl)

pub returns-then-kind_at-ne0 : goal.returns-then-kind_at-ne0
returns-then-kind_at-ne0 c =
    let a = c.args in
    let n = c.loop-k.k in
    let e : n - 1 + 1 ≡ n = omega arith in (
      elim c.then-kind_at-ne0.branch [
        | then-kind_at-ne0-via-then-kind_at-ne0 w ↦ e ∙ sym (shown-kind a.place a.w n (omega arith) (λ z. w.if-kind_at-ne0.true (c.kind_at.ensures ∙ z))) ∙ c.loop-k.invariant.2
        | then-kind_at-ne0-via-else-kind_at-ne0+then-w-k-ne0 w ↦ e ∙ sym (shown-word a.place a.w n (omega arith) (sym c.kind_at.ensures ∙ w.if-kind_at-ne0.false) w.if-w-k-ne0.true) ∙ c.loop-k.invariant.2
      ],
      omega arith,
    )

pub loop-k-preserved : goal.loop-k-preserved
loop-k-preserved c = let a = c.args in (omega arith, c.loop-k.invariant.1, sym (shown-less a.place a.w c.loop-k.k (omega arith) (sym c.kind_at.ensures ∙ c.if-kind_at-ne0.false) c.if-w-k-ne0.false) ∙ c.loop-k.invariant.2)

pub returns : goal.returns
returns c = let a = c.args in let e : c.loop-k.k ≡ 0 = omega arith in (sym e ∙ shown-none a.place a.w c.loop-k.k e ∙ c.loop-k.invariant.2, omega arith)
