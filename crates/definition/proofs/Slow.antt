-- The allowance for slow clocks: which entries it spares, and that 0 is none. Assumes nothing.
use Prim.Native.Nat.{ℕ, ◌+◌, ◌-◌, ◌≤◌}
use native.Mathlib.Omega.{arith}
use mathlib.Core.Path.{◌≡◌, refl, sym, ◌∙◌, ap}
use mathlib.Core.Bool.{true, true≢false, ◌&&◌}
use lib.Dec.{ltb}
use lib.IntN.{ℤ, pos, negsuc}
use lib.Signed.{lt_z, le_z}
use borrow.Author.Tests.{leb-true, ltb-true, le-leb, lt-ltb}
use Rattle.definition.specs.Consumer.{expired}
use Rattle.definition.specs.Claims.{ExpiresBy, NoAllowance}
use Rattle.definition.proofs.Tests.{and_left, and_right, and_both}

-- natural subtraction is exact here: only an expiration above 0 expires
spares : (w now : ℕ) (z : ℤ) → (lt_z (pos 0) z && le_z z (pos (now - w))) ≡ true → (x : ℕ) × (z ≡ pos x) × (1 ≤ x) × (x + w ≤ now)
spares w now (pos x) h =
    let low : 1 ≤ x = ltb-true 0 x (and_left (ltb 0 x) _ h) in
    (x, refl, low, omega (arith, low, leb-true x (now - w) (and_right (ltb 0 x) _ h)))
spares w now (negsuc x) h = absurd (true≢false (sym h))

pub expires-by : ExpiresBy
unfolding expired
expires-by now t e = (
  spares t.allowance now e.expiration,
  λ h. ap (λ (z : ℤ). lt_z (pos 0) z && le_z z (pos (now - t.allowance))) h.1 ∙ and_both (ltb 0 h.0) _ (lt-ltb 0 h.0 h.2) (le-leb h.0 (now - t.allowance) (omega (arith, h.3))),
)

pub no-allowance : NoAllowance
no-allowance now t h = omega (arith, h)
