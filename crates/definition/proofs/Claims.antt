-- The claims of specs/Claims: accepted calls leave a sound state, and no call sends more than 545 events. Assumes nothing.
use Prim.Native.Nat.{ℕ}
use native.Mathlib.Omega.{arith}
use mathlib.Core.Path.{◌≡◌, sym, ◌∙◌, ap, subst⁻¹}
use mathlib.Core.Bool.{true}
use mathlib.Core.Option.{Option, none, some}
use lib.Dec.{eqb}
use borrow.Author.Tests.{eqb-true, eqb-false}
use Rattle.definition.specs.Types.{Dest}
use Rattle.definition.specs.Calls.{Lengths, Call, Result, sound}
use Rattle.definition.specs.Words.{decode, call_step, step}
use Rattle.definition.specs.Orders.{opening}
use Rattle.definition.specs.Claims.{StepLeavesSound, CallLeavesSound, ReachedSound, StepSends, CallSends}
use Rattle.definition.proofs.Tests.{by-test}
use Rattle.definition.proofs.Made.{call-accepted, none-refused, step_call}
use Rattle.definition.proofs.Kept as Kept
use Rattle.definition.proofs.Sends as Sends

pub call-leaves-sound : CallLeavesSound
call-leaves-sound lent c t h = Kept.call-sound lent c t (call-accepted lent c t h)

coded-sound : (lent : Lengths) (t : Dest) (o : Option Call) → (call_step lent t o).refusal ≡ 0 → sound (call_step lent t o).dest ≡ true
unfolding call_step
coded-sound lent t none h = absurd (none-refused lent t h)
coded-sound lent t (some c) h = call-leaves-sound lent c t h

pub step-leaves-sound : StepLeavesSound
step-leaves-sound lent code ws t h = by-test (eqb code 0)
    (λ e. opened (eqb-true code 0 e))
    (λ e. called (step_call lent code ws t (omega (arith, eqb-false code 0 e))))
  where
    opened : code ≡ 0 → sound (step lent code ws t).dest ≡ true
    opened e = subst⁻¹ (λ (k : ℕ). (step lent k ws t).refusal ≡ 0 → sound (step lent k ws t).dest ≡ true) e (λ z. Kept.reached-sound _ _ (opening lent ws t z)) h

    called : step lent code ws t ≡ call_step lent t (decode code ws) → sound (step lent code ws t).dest ≡ true
    called e = subst⁻¹ (λ (r : Result). sound r.dest ≡ true) e (coded-sound lent t (decode code ws) (sym (ap (λ (r : Result). r.refusal) e) ∙ h))

pub reached-sound : ReachedSound
reached-sound = Kept.reached-sound

pub step-sends : StepSends
step-sends = Sends.sends-fit

pub call-sends : CallSends
call-sends = Sends.call-sends
