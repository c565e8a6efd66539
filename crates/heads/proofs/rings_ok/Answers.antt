use Rattle.std.proofs.Common.{◌≡◌, ℕ, ◌+◌, ◌-◌, ◌*◌, sym, ap, ◌∙◌, arith, drop}
use Rattle.definition.specs.Layout.{rings_formed}
use Rattle.heads.proofs.Head.{rings-stop, rings-next, rings-end}
use Rattle.heads.proofs.rings_ok.Goals as goal

pub returns-then-not-sound : goal.returns-then-not-sound
returns-then-not-sound c =
    let h = c.args.head.now in
    let k = c.loop-k.k in
    rings-stop h (c.args.n - k) (113 + 1029 * k) (rings_formed c.args.n (drop 113 h)) c.loop-k.invariant (omega (arith, c.loop-k-test.true)) (sym c.sound.ensures ∙ c.if-not-sound.true)

pub loop-k-preserved : goal.loop-k-preserved
loop-k-preserved c =
    let h = c.args.head.now in
    let n = c.args.n in
    let k = c.loop-k.k in
    let at_next : 113 + 1029 * (k + 1) ≡ 113 + 1029 * k + 1029 = omega arith in
    let left : n - (k + 1) ≡ n - k - 1 = omega arith in
    ap (λ (m : ℕ). rings_formed m (drop (113 + 1029 * (k + 1)) h)) left
    ∙ ap (λ (j : ℕ). rings_formed (n - k - 1) (drop j h)) at_next
    ∙ rings-next h (n - k) (113 + 1029 * k) (rings_formed n (drop 113 h)) c.loop-k.invariant (omega (arith, c.loop-k-test.true)) (sym c.sound.ensures ∙ c.if-not-sound.false)

pub returns : goal.returns
returns c =
    let h = c.args.head.now in
    rings-end h (c.args.n - c.loop-k.k) (113 + 1029 * c.loop-k.k) (rings_formed c.args.n (drop 113 h)) c.loop-k.invariant (omega (arith, c.loop-k-test.false))
