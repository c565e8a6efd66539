-- Laws of times and of their ranges: what is in range, as a natural number, and sums and differences that fit. Assumes nothing.
use mathlib.Core.Path.{◌≡◌, refl, sym, ◌∙◌}
use mathlib.Core.Bool.{Bool, true, false, not, ◌&&◌}
use Prim.Native.Nat.{ℕ, zero, suc, ◌+◌, ◌-◌, ◌≤◌, ◌<◌, ◌^◌}
use native.Mathlib.Omega.{arith}
use borrow.Author.Tests.{ltb-true, ltb-false, leb-true, le-ltb, le-leb, eq-eqb, ne_eqb}
use lib.Dec.{ltb, leb, eqb}
use lib.IntN.{ℤ, pos, negsuc, nat_abs, ◌+ℤ◌, ◌-ℤ◌}
use lib.Signed.{le_z, lt_z}
use mir.Syntax.{w64}
use mir.Val.{SFits, of_z}
use Rattle.words.specs.Pick.{whether◌then◌else◌}
use Rattle.broker.specs.declared.Times.{Times}
use Rattle.broker.specs.declared.ExpiryOptions.{ExpiryOptions}
use Rattle.broker.specs.Broker.{time_most, setting_most, from_zero_to, Positive, times_in_range, settings_in_range, times_and_settings_ok, ttl, rebased, base_of, times}

pub true-false {ℓ} : {A : Type ℓ} → true ≡ false → A
true-false e = absurd (let y : ◌≡◌ {A = ℕ} 0 1 = cc in omega arith)

pub both : (a b : Bool) → (a && b) ≡ true → (a ≡ true) × (b ≡ true)
both true b e = (refl, e)
both false b e = true-false (sym e)

-- a number in a range from 0 is a natural number
pub natural : (x : ℤ) (m : ℕ) → from_zero_to x (pos m) ≡ true → (n : ℕ) × (x ≡ pos n) × n ≤ m
natural (pos n) m e = (n, refl, leb-true n m (both (leb 0 n) (leb n m) e).1)
natural (negsuc n) m e = true-false (sym e)

pub sum_fits : (x y : ℤ) (m k : ℕ) → from_zero_to x (pos m) ≡ true → from_zero_to y (pos k) ≡ true → m + k < 2 ^ 63 → SFits w64 (x +ℤ y)
sum_fits x y m k e f h =
    let p = natural x m e in
    let q = natural y k f in
    rw (p.1, q.1) (record { sfits = omega arith })

-- a positive time as a natural number
pub positive : (x : ℤ) → Positive x → (n : ℕ) × (x ≡ pos n) × (0 < n) × n ≤ 2 ^ 62
positive (pos n) h = (n, refl, ltb-true 0 n h.above, leb-true n (2 ^ 62) h.most)
positive (negsuc n) h = true-false (sym h.above)

-- positive times are in range from 0
pub from_zero : (x : ℤ) → Positive x → from_zero_to x time_most ≡ true
from_zero x h = let p = positive x h in rw (p.1, le-leb 0 p.0 (omega arith), le-leb p.0 (2 ^ 62) p.3) refl

-- the difference of two positive times
unfoldable less : ℕ → ℕ → ℤ
less a b = pos a -ℤ pos b

Right : ℤ → Type 0
Right d = SFits w64 d × (from_zero_to (whether lt_z d (pos 0) then pos 0 else d) (pos (2 ^ 62 - 1)) ≡ true)

below : (a b : ℕ) (t : Bool) → ltb a (suc b) ≡ t → a ≤ 2 ^ 62 → b < 2 ^ 62 → Right (less a (suc b))
unfolding Right less
below a b true e i j = rw e (record { sfits = omega arith }, refl)
below a b false e i j =
    let h = ltb-false a (suc b) e in
    rw (e, le-ltb (a - suc b) 0 (omega arith), le-leb 0 (a - suc b) (omega arith)) (record { sfits = omega arith }, le-leb (a - suc b) (2 ^ 62 - 1) (omega arith))

clamped : (a b : ℕ) → 0 < b → a ≤ 2 ^ 62 → b ≤ 2 ^ 62 → Right (less a b)
clamped a zero h i j = absurd (omega arith)
clamped a (suc b) h i j = below a b _ refl i (omega arith)

differs : (t : Times) → Positive t.expiration → Positive t.timestamp → Right (t.expiration -ℤ t.timestamp)
unfolding less
differs t h i =
    let p = positive t.expiration h in
    let q = positive t.timestamp i in
    rw (p.1, q.1) (clamped p.0 q.0 q.2 p.3 q.3)

pub left-fits : (t : Times) → Positive t.expiration → Positive t.timestamp → SFits w64 (t.expiration -ℤ t.timestamp)
unfolding Right
left-fits t h i = (differs t h i).0

pub ttl-within : (t : Times) → Positive t.expiration → Positive t.timestamp → from_zero_to (ttl t) (pos (2 ^ 62 - 1)) ≡ true
unfolding Right ttl
ttl-within t h i = (differs t h i).1

-- the numbers of an arrival in range
pub record Ranges (cfg : ExpiryOptions) (msg : Times) (now : ℤ) : Type 0 where
  pub expiration : le_z msg.expiration time_most ≡ true
  pub timestamp : le_z msg.timestamp time_most ≡ true
  pub default : from_zero_to cfg.default_ttl setting_most ≡ true
  pub ceiling : from_zero_to cfg.ttl_ceiling setting_most ≡ true
  pub clock : from_zero_to now time_most ≡ true

pub ranges : (cfg : ExpiryOptions) (msg : Times) (now : ℤ) → times_and_settings_ok cfg msg now ≡ true → Ranges cfg msg now
unfolding times_and_settings_ok times_in_range settings_in_range
ranges cfg msg now e =
    let p = both (times_in_range msg && settings_in_range cfg) (from_zero_to now time_most) e in
    let q = both (times_in_range msg) (settings_in_range cfg) p.0 in
    let t = both (le_z msg.expiration time_most) (le_z msg.timestamp time_most) q.0 in
    let s = both (from_zero_to cfg.default_ttl setting_most) (from_zero_to cfg.ttl_ceiling setting_most) q.1 in
    record { expiration = t.0; timestamp = t.1; default = s.0; ceiling = s.1; clock = p.1 }

module _ (cfg : ExpiryOptions) (msg : Times) (now : ℤ) (r : Ranges cfg msg now) where
  stamped : (b : Bool) (x : ℤ) → le_z (whether b then times x now else msg).timestamp time_most ≡ true
  stamped true x = (both (le_z (pos 0) now) (le_z now time_most) r.clock).1
  stamped false x = r.timestamp

  based : (b : Bool) (a : Times) → le_z a.timestamp time_most ≡ true → (t : Bool) → lt_z (pos 0) a.timestamp ≡ t
      → from_zero_to (whether t && b then a.timestamp else now) time_most ≡ true
  based b a h false e = r.clock
  based false a h true e = r.clock
  based true a h true e = from_zero a.timestamp (record { above = e; most = h })

  -- the base is a time of the clock's range
  pub base-within : from_zero_to (base_of cfg (rebased cfg msg now) now) time_most ≡ true
  unfolding base_of rebased
  base-within =
      let a = rebased cfg msg now in
      based (not cfg.use_broker_clock) a (stamped (cfg.use_broker_clock && lt_z (pos 0) msg.expiration && lt_z (pos 0) msg.timestamp) (now +ℤ ttl msg)) _ refl

-- `== 0` on the word of an i64
zero_word : (x : ℤ) → SFits w64 x → eqb (of_z w64 x) 0 ≡ eqb (nat_abs x) 0
zero_word (pos n) f = refl
zero_word (negsuc n) f =
    let h = f.sfits in
    ne_eqb (2 ^ 64 - suc n) 0 (λ e. omega arith) ∙ sym (ne_eqb (suc n) 0 (λ e. omega arith))

pub zero-yes : (x : ℤ) → SFits w64 x → of_z w64 x ≡ 0 → eqb (nat_abs x) 0 ≡ true
zero-yes x f e = sym (zero_word x f) ∙ eq-eqb (of_z w64 x) 0 e

pub zero-no : (x : ℤ) → SFits w64 x → (of_z w64 x ≡ 0 → ⊥) → eqb (nat_abs x) 0 ≡ false
zero-no x f e = sym (zero_word x f) ∙ ne_eqb (of_z w64 x) 0 e
