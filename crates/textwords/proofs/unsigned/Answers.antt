use Rattle.std.proofs.Common.{arith, length, get_or, ◌≡◌, ◌+◌, ◌-◌, ◌*◌, sym, ◌∙◌}
use borrow.Author.Tests.{eqb-true}
use Rattle.textwords.proofs.Values.{no_text, comes_to, too-low, too-high, too_large, one-digit, no_digit}
use Rattle.textwords.proofs.unsigned.Goals as goal

pub returns-then-is_empty : goal.returns-then-is_empty
returns-then-is_empty c = no_text c.args.s.now (eqb-true (length c.args.s.now) 0 (sym c.is_empty.ensures ∙ c.if-is_empty.true))

pub returns-in_default : goal.returns-in_default
returns-in_default c = let l = c.loop-b in comes_to c.args.s.now l.invariant.0 l.invariant.2 (too-low l.n c.args.s.now l.b-index (omega arith) (omega arith))

pub returns-in_default-2 : goal.returns-in_default-2
returns-in_default-2 c = let l = c.loop-b in comes_to c.args.s.now l.invariant.0 l.invariant.2 (too-high l.n c.args.s.now l.b-index (omega arith) (omega arith))

pub returns-in_err-checked_mul : goal.returns-in_err-checked_mul
returns-in_err-checked_mul c = let l = c.loop-b in c.from_residual.ensures ∙ comes_to c.args.s.now l.invariant.0 l.invariant.2 (too_large l.n c.args.s.now l.b-index (omega arith) (omega arith) (omega arith) (omega (arith, c.in_err-checked_mul.ensures)))

pub returns-in_err-n : goal.returns-in_err-n
returns-in_err-n c = let l = c.loop-b in c.from_residual-in_err-n.ensures ∙ comes_to c.args.s.now l.invariant.0 l.invariant.2 (too_large l.n c.args.s.now l.b-index (omega arith) (omega arith) (omega arith) (omega (arith, c.in_err-n.ensures, c.in_ok-checked_mul.ensures, c.from.ensures)))

pub loop-b-preserved : goal.loop-b-preserved
loop-b-preserved c =
    let l = c.loop-b in
    let s = c.args.s.now in
    let e : c.in_ok-n.n ≡ l.n * 10 + (get_or s l.b-index 0 - 48) = omega (arith, c.in_ok-n.ensures, c.in_ok-checked_mul.ensures, c.from.ensures) in
    (l.invariant.0, omega (arith, c.in_ok-n.ensures), rw e (sym (one-digit l.n s l.b-index (omega arith) (omega arith) (omega arith) (omega (arith, c.in_ok-n.ensures))) ∙ l.invariant.2))

pub returns : goal.returns
returns c = let l = c.loop-b in comes_to c.args.s.now l.invariant.0 l.invariant.2 (no_digit l.n c.args.s.now l.b-index (omega arith))
