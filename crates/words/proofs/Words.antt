-- Words and the signed numbers that they hold: round trips, ranges, that equal words hold equal numbers, and the tests
-- of a sign as tests of the word; and a flag as a word. Assumes nothing.
use mathlib.Core.Path.{◌≡◌, refl, sym, ap, ◌∙◌}
use mathlib.Core.Bool.{Bool, true, false, not, ◌&&◌, and-false}
use Prim.Native.Nat.{ℕ, zero, suc, ◌-◌, ◌%◌, ◌≤◌, ◌<◌, ◌^◌}
use native.Mathlib.Omega.{arith}
use borrow.Author.Tests.{ltb-true, ltb-false, leb-true, lt-ltb, le-ltb, le-leb, lt-leb}
use lib.Dec.{ltb, leb, eqb, eqb-suc-zero}
use lib.IntN.{ℤ, pos, negsuc}
use lib.Signed.{lt_z, le_z}
use mir.Syntax.{w32, w64}
use mir.Val.{SFits, bool_byte}
use mir.Facts.{to_z_inj, sfits_to_z, sfits_widen}
use mir.ValLaws.{to_z-of_z, of_z-to_z, to_z_pos, to_z-neg, of_z_fits, Fits-wrap}
use Rattle.words.specs.Words.{signed, unsigned, int, is_int}
use Rattle.words.proofs.Tests.{by-test}

-- ---- i64

pub signed-fits : (w : ℕ) → w < 2 ^ 64 → SFits w64 (signed w)
signed-fits w h = sfits_to_z (record { fits = h })

pub unsigned-fits : (z : ℤ) → SFits w64 z → unsigned z < 2 ^ 64
unsigned-fits z f = (of_z_fits w64 z f).fits

pub unsigned_signed : (w : ℕ) → w < 2 ^ 64 → unsigned (signed w) ≡ w
unsigned_signed w h = of_z-to_z w64 w (record { fits = h })

pub signed-unsigned : (z : ℤ) → SFits w64 z → signed (unsigned z) ≡ z
signed-unsigned z f = to_z-of_z w64 z f

-- equal numbers are held by equal words, and only by those
pub signed-eq : (v w : ℕ) → v < 2 ^ 64 → w < 2 ^ 64 → signed v ≡ signed w → v ≡ w
signed-eq v w h k e = to_z_inj {w = w64} (record { fits = h }) (record { fits = k }) e

pub unsigned-eq : (x y : ℤ) → SFits w64 x → SFits w64 y → unsigned x ≡ unsigned y → x ≡ y
unsigned-eq x y f g e = sym (signed-unsigned x f) ∙ ap signed e ∙ signed-unsigned y g

-- ---- i32

pub int-fits : (w : ℕ) → SFits w32 (int w)
int-fits w = sfits_to_z (Fits-wrap w32 w)

pub int-widens : (z : ℤ) → SFits w32 z → SFits w64 z
int-widens z f = sfits_widen {w = w32} {w' = w64} {z = z} tt f

pub int-unsigned : (z : ℤ) → SFits w32 z → int (unsigned z) ≡ z
int-unsigned (pos n) f =
    let h : n < 2 ^ 31 = f.sfits in
    let e : n % 2 ^ 32 ≡ n = omega arith in
    rw e (to_z_pos w32 n h)
int-unsigned (negsuc n) f =
    let h : n < 2 ^ 31 = f.sfits in
    let e : (2 ^ 64 - suc n) % 2 ^ 32 ≡ 2 ^ 32 - suc n = omega arith in
    rw e (to_z-neg w32 n h)

pub is-int-unsigned : (z : ℤ) → SFits w32 z → is_int (unsigned z) ≡ true
is-int-unsigned (pos n) f = let h : n < 2 ^ 31 = f.sfits in rw (lt-ltb n (2 ^ 31) h)
is-int-unsigned (negsuc n) f =
    let h : n < 2 ^ 31 = f.sfits in
    let k : 2 ^ 31 ≤ 2 ^ 64 - suc n = omega arith in
    let l : 2 ^ 64 - 2 ^ 31 ≤ 2 ^ 64 - suc n = omega arith in
    rw (le-ltb (2 ^ 64 - suc n) (2 ^ 31) k, le-leb (2 ^ 64 - 2 ^ 31) (2 ^ 64 - suc n) l)

-- a word that holds an i32 holds the one in its lower half
pub int-signed : (w : ℕ) → w < 2 ^ 64 → is_int w ≡ true → int w ≡ signed w
int-signed w h t = by-test (ltb w (2 ^ 31))
    (λ c.
    let k : w < 2 ^ 31 = ltb-true w (2 ^ 31) c in
    let l : w < 2 ^ 63 = omega arith in
    let e : w % 2 ^ 32 ≡ w = omega arith in
    rw (e, to_z_pos w32 w k, to_z_pos w64 w l))
    (λ c.
    let k : 2 ^ 64 - 2 ^ 31 ≤ w = leb-true (2 ^ 64 - 2 ^ 31) w (rw c at t) in
    let l : 2 ^ 31 ≤ w % 2 ^ 32 = omega arith in
    let m : 2 ^ 63 ≤ w = omega arith in
    let e : 2 ^ 32 - suc (w % 2 ^ 32) ≡ 2 ^ 64 - suc w = omega arith in
    rw (le-ltb (w % 2 ^ 32) (2 ^ 31) l, le-ltb w (2 ^ 63) m) (ap negsuc e))

pub unsigned-int : (w : ℕ) → w < 2 ^ 64 → is_int w ≡ true → unsigned (int w) ≡ w
unsigned-int w h t = ap unsigned (int-signed w h t) ∙ unsigned_signed w h

-- ---- signs

pub signed-pos : (w : ℕ) → w < 2 ^ 63 → signed w ≡ pos w
signed-pos w h = to_z_pos w64 w h

-- an expiration as a word, at a clock that is not negative
pub expired-word : (now w : ℕ) → now < 2 ^ 63 → (lt_z (pos 0) (signed w) && le_z (signed w) (pos now)) ≡ (ltb 0 w && leb w now)
expired-word now w h = by-test (ltb w (2 ^ 63))
    (λ c. rw c)
    (λ c. rw (c, lt-leb w now (omega (arith, ltb-false w (2 ^ 63) c))) (sym (and-false (ltb 0 w))))

-- ---- flags

pub flag-of-word : (b : Bool) → not (eqb (bool_byte b) 0) ≡ b
flag-of-word true = refl
flag-of-word false = refl

pub word-of-flag : (w : ℕ) → w ≤ 1 → bool_byte (not (eqb w 0)) ≡ w
word-of-flag zero h = refl
word-of-flag (suc n) h = let e : n ≡ 0 = omega arith in rw (eqb-suc-zero n, e)

pub flag_small : (b : Bool) → bool_byte b ≤ 1
flag_small true = omega arith
flag_small false = omega arith
